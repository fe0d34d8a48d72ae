-- What wrong bodies make of worked runs, by computing, and the rule that refuses each.
use Rattle.std.proofs.Common.{◌≡◌, inl, inr, ℕ, Option, Some, None, take, refl, ap, arith}
use Rattle.slnf_base.specs.declared.packets.Proto.TheVariants.{Tcp}
use Rattle.slnf_base.specs.declared.packets.Change.TheVariants.{Keep, Source, Dest}
use Rattle.slnf_base.specs.declared.packets.Verdict.{Verdict}
use Rattle.slnf_base.specs.declared.packets.Verdict.TheVariants.{Emit, Dropped, Lost, Left}
use Rattle.slnf_access.specs.declared.requests.Request.{Request}
use Rattle.slnf_access.specs.declared.requests.Request.TheVariants.{Read, PutIfAbsent, ReplaceIf, DeleteIf}
use Rattle.slnf_access.specs.declared.requests.Reply.TheVariants.{Done}
use Rattle.slnf_access.specs.Map.{key_of}
use Rattle.slnf_keys.specs.Layout.{pair_number, pair_at, pair_of, key_number, single_number}
use Rattle.slnf_keys.specs.declared.keys.ConnKey.{ConnKey}
use Rattle.slnf_keys.specs.Keys.{IsConnKey, flow_key_number, port_key_number, conn_key_number}
use Rattle.slnf_keys.specs.Values.{flow_to_number, flow_to_of, claim_number, claim_of, conn_number, conn_of}
use Rattle.slnf_run.specs.Parts.{Post}
use Rattle.slnf_rows.specs.Rows.{entry, read, put, replace_at, delete_at, found}
use Rattle.slnf_rows.specs.Bodies.{Strays, nat_body, fw_body, emits_own_claim, keeps_its_claim, records_first, tries_one, skips_last_read, sweeps_any_claim, sweeps_any_flow, sweeps_by_a_new_version, writes_over}
use Rattle.slnf_rows.specs.Firewalls.{IsFirewall, two_replaces, key, client, server}
use Rattle.slnf_rows.specs.Nats.{IsPoolTo, race_on_one_flow, full_pool, pool_of_one, sweep, five_key, six_key, tcp_port, five_by, to}
use Rattle.slnf_rows.specs.WrongJournals.{own_claim_is_refused, kept_claim_is_refused, record_first_is_refused, one_candidate_is_refused, skipped_read_is_refused, any_claim_is_refused, any_flow_is_refused, new_version_is_refused, write_over_is_refused, one_port_for_two, any_claim_swept, any_flow_swept, new_version_swept, written_over}
use Rattle.slnf_rows.proofs.RowPlans.{firewall, is_firewall, strayed, nat_strayed}

-- the post of the second lane's instance
abbrev second_post : Post
second_post = record { actor = record { lane = Some 1; quota = None; stop = None }; era = 0; at = 0 }

-- the value of a put or a replace
abbrev value_of : Request → ℕ
value_of (Read at) = 0
value_of (PutIfAbsent at value) = value.0
value_of (ReplaceIf at version value) = value.0
value_of (DeleteIf at version) = 0

-- the port that a verdict sends on from
abbrev port_of : Verdict → ℕ
port_of (Emit (Source pair)) = pair.port
port_of (Emit (Dest pair)) = pair.port
port_of (Emit Keep) = 0
port_of (Dropped reason) = 0
port_of Lost = 0
port_of Left = 0

own_claim_strays : Strays (IsPoolTo 40003) race_on_one_flow (nat_body emits_own_claim) (take 7 race_on_one_flow.journal)
unfolding flow_key_number port_key_number single_number
    key_number pair_number flow_to_number claim_number claim_of pair_at pair_of flow_to_of
own_claim_strays =
    nat_strayed 40003 (omega arith) race_on_one_flow emits_own_claim (take 7 race_on_one_flow.journal) refl
    (0, ((refl, (refl, tt)), refl)) refl
    (λ run. elim (run.done 1 second_post refl) [
      | inl stopped ↦ absurd (cc)
      | inr whole ↦ whole.1.0
    ])

pub own_claim : own_claim_is_refused
unfolding flow_key_number port_key_number single_number
    key_number pair_number flow_to_number claim_number claim_of pair_at pair_of flow_to_of own_claim_strays
own_claim = record {
  strays = own_claim_strays;
  no_box = λ explained.
      let loser = entry 7 1 0 (put five_key (to 40002)) (found (to 40001) 5) in
      let same : 40001 ≡ 40002 = ap port_of (explained.verdicts 6 loser refl).0 in
      omega arith;
}

pub kept_claim : kept_claim_is_refused
unfolding flow_key_number port_key_number single_number
    key_number pair_number flow_to_number claim_number claim_of pair_at pair_of flow_to_of
kept_claim =
    nat_strayed 40003 (omega arith) race_on_one_flow keeps_its_claim (take 7 race_on_one_flow.journal) refl
    (0, ((refl, (refl, tt)), refl)) refl
    (λ run. elim (run.done 1 second_post refl) [
      | inl stopped ↦ absurd (cc)
      | inr whole ↦ whole.1.0
    ])

record_first_strays : Strays (IsPoolTo 40000) full_pool (nat_body records_first) one_port_for_two
unfolding flow_key_number port_key_number single_number
    key_number pair_number flow_to_number claim_number claim_of pair_at pair_of flow_to_of
record_first_strays =
    nat_strayed 40000 (omega arith) full_pool records_first one_port_for_two refl
    (4, ((refl, tt), refl)) refl
    (λ run.
    let same : key_of (put five_key (to 40000)) ≡ key_of (put (tcp_port 40000) (five_by 0)) =
    ap key_of (run.paths 0 0).1.0 in
    omega arith)

pub record_first : record_first_is_refused
unfolding flow_key_number port_key_number single_number
    key_number pair_number flow_to_number claim_number claim_of pair_at pair_of flow_to_of record_first_strays
record_first = record {
  strays = record_first_strays;
  no_box = λ explained.
      let same : 0 ≡ 40000 = ap port_of (explained.verdicts 3 (entry 4 0 1 (put six_key (to 40000)) (Done 4)) refl).0 in
      omega arith;
}

pub one_candidate : one_candidate_is_refused
unfolding flow_key_number port_key_number single_number
    key_number pair_number flow_to_number claim_number claim_of pair_at pair_of flow_to_of
one_candidate =
    nat_strayed 40000 (omega arith) pool_of_one tries_one (take 5 pool_of_one.journal) refl
    (0, ((refl, (refl, tt)), refl)) refl
    (λ run. elim (run.done 1 second_post refl) [
      | inl stopped ↦ absurd (cc)
      | inr whole ↦ whole.1.0
    ])

pub skipped_read : skipped_read_is_refused
unfolding flow_key_number port_key_number single_number
    key_number pair_number flow_to_number claim_number claim_of pair_at pair_of flow_to_of
skipped_read =
    nat_strayed 40000 (omega arith) pool_of_one skips_last_read (take 5 pool_of_one.journal) refl
    (0, ((refl, (refl, tt)), refl)) refl
    (λ run. elim (run.done 1 second_post refl) [
      | inl stopped ↦ absurd (cc)
      | inr whole ↦ whole.1.0
    ])

pub any_claim : any_claim_is_refused
unfolding flow_key_number port_key_number single_number
    key_number pair_number flow_to_number claim_number claim_of pair_at pair_of flow_to_of
any_claim =
    nat_strayed 40001 (omega arith) sweep sweeps_any_claim any_claim_swept refl
    (2, ((refl, tt), (4, ((refl, (refl, tt)), refl)))) refl
    (λ run. (run.paths 2 0).1.0)

pub any_flow : any_flow_is_refused
unfolding flow_key_number port_key_number single_number
    key_number pair_number flow_to_number claim_number claim_of pair_at pair_of flow_to_of
any_flow =
    nat_strayed 40001 (omega arith) sweep sweeps_any_flow any_flow_swept refl
    (2, ((refl, tt), (1, ((refl, (refl, tt)), refl)))) refl
    (λ run.
    let asked : delete_at (tcp_port 40001) 2 ≡ read five_key = (run.paths 2 1).1.0 in
    cc)

pub new_version : new_version_is_refused
unfolding flow_key_number port_key_number single_number
    key_number pair_number flow_to_number claim_number claim_of pair_at pair_of flow_to_of
new_version =
    nat_strayed 40001 (omega arith) sweep sweeps_by_a_new_version new_version_swept refl
    (2, ((refl, tt), (3, ((refl, (refl, tt)), refl)))) refl
    (λ run.
    let asked : read (tcp_port 40001) ≡ delete_at (tcp_port 40001) 2 = (run.paths 2 1).1.1.0 in
    cc)

write_over_strays : Strays IsFirewall two_replaces (fw_body writes_over) written_over
unfolding conn_key_number single_number key_number pair_number conn_number conn_of pair_of pair_at
write_over_strays =
    strayed IsFirewall two_replaces (fw_body writes_over) written_over firewall is_firewall refl
    (0, ((refl, (refl, tt)), refl)) refl
    (λ run.
    let same : value_of (replace_at key 9 5) ≡ value_of (replace_at key 9 6) = ap value_of (run.paths 1 1).1.1.0 in
    omega arith)

abbrev connection : ConnKey
connection = record { proto = Tcp; inside = client; outside = server }

fits : IsConnKey connection
fits = (
  record { addr_fits = omega arith; port_fits = omega arith },
  record { addr_fits = omega arith; port_fits = omega arith },
)

-- a number that is there, or 0
abbrev or_zero : Option ℕ → ℕ
or_zero None = 0
or_zero (Some number) = number

pub write_over : write_over_is_refused
unfolding conn_key_number single_number key_number pair_number conn_number conn_of pair_of pair_at write_over_strays
write_over = record {
  strays = write_over_strays;
  no_box = λ explained.
      let same : 6 ≡ 5 = ap or_zero ((explained.maps 11 (omega arith)).at_key connection fits) in
      omega arith;
}
