-- What wrong bodies make of worked runs.
use Rattle.std.specs.Prelude.{List, [], ◌∷◌, ◌++◌, take}
use Rattle.slnf_access.specs.declared.requests.Entry.{Entry}
use Rattle.slnf_access.specs.declared.requests.Reply.TheVariants.{Done, Absent}
use Rattle.slnf_rows.specs.Rows.{entry, read, put, replace_at, delete_at, found}
use Rattle.slnf_rows.specs.Bodies.{Strays, StraysFromBox, nat_body, fw_body, emits_own_claim, keeps_its_claim, records_first, tries_one, skips_last_read, sweeps_any_claim, sweeps_any_flow, sweeps_by_a_new_version, writes_over}
use Rattle.slnf_rows.specs.Nats.{IsPoolTo, race_on_one_flow, full_pool, pool_of_one, sweep, five_key, six_key, tcp_port, udp_port, five_by, to}
use Rattle.slnf_rows.specs.Firewalls.{IsFirewall, two_replaces, key}

-- The loser of the race makes no release, and emits its own port or the winner's.
abbrev pub own_claim_is_refused : Type 0
own_claim_is_refused =
    StraysFromBox (IsPoolTo 40003) race_on_one_flow (nat_body emits_own_claim) (take 7 race_on_one_flow.journal)

abbrev pub kept_claim_is_refused : Type 0
kept_claim_is_refused =
    Strays (IsPoolTo 40003) race_on_one_flow (nat_body keeps_its_claim) (take 7 race_on_one_flow.journal)

-- Without claims both flows get the pool's one port.
abbrev pub one_port_for_two : List Entry
one_port_for_two =
    entry 1 0 0 (read five_key) Absent
    ∷ entry 2 0 0 (put five_key (to 40000)) (Done 2)
    ∷ entry 3 0 1 (read six_key) Absent
    ∷ entry 4 0 1 (put six_key (to 40000)) (Done 4)
    ∷ []

abbrev pub record_first_is_refused : Type 0
record_first_is_refused = StraysFromBox (IsPoolTo 40000) full_pool (nat_body records_first) one_port_for_two

-- The loser is dropped with its candidate taken, and never finds the winner's record.
abbrev pub one_candidate_is_refused : Type 0
one_candidate_is_refused = Strays (IsPoolTo 40000) pool_of_one (nat_body tries_one) (take 5 pool_of_one.journal)

abbrev pub skipped_read_is_refused : Type 0
skipped_read_is_refused = Strays (IsPoolTo 40000) pool_of_one (nat_body skips_last_read) (take 5 pool_of_one.journal)

-- A sweep takes the claim of its own epoch's instance, whose flow then has none.
abbrev pub any_claim_swept : List Entry
any_claim_swept =
    take 5 sweep.journal
    ++ entry 6 2 0 (read six_key) Absent
    ∷ entry 7 2 0 (delete_at (tcp_port 40000) 4) (Done 7)
    ∷ entry 8 2 1 (read (tcp_port 40001)) (found (five_by 0) 2)
    ∷ entry 9 1 0 (put six_key (to 40000)) (Done 9)
    ∷ entry 10 2 1 (read five_key) Absent
    ∷ entry 11 2 1 (delete_at (tcp_port 40001) 2) (Done 11)
    ∷ entry 12 2 2 (read (udp_port 40000)) Absent
    ∷ entry 13 2 3 (read (udp_port 40001)) Absent
    ∷ []

abbrev pub any_claim_is_refused : Type 0
any_claim_is_refused = Strays (IsPoolTo 40001) sweep (nat_body sweeps_any_claim) any_claim_swept

-- It takes a claim with no look at the flow's record,
abbrev pub any_flow_swept : List Entry
any_flow_swept =
    take 6 sweep.journal
    ++ entry 7 2 1 (delete_at (tcp_port 40001) 2) (Done 7)
    ∷ entry 8 2 2 (read (udp_port 40000)) Absent
    ∷ entry 9 1 0 (put six_key (to 40000)) (Done 9)
    ∷ entry 10 2 3 (read (udp_port 40001)) Absent
    ∷ []

abbrev pub any_flow_is_refused : Type 0
any_flow_is_refused = Strays (IsPoolTo 40001) sweep (nat_body sweeps_any_flow) any_flow_swept

-- or by the version of a claim that came later than the one that it looked into.
abbrev pub new_version_swept : List Entry
new_version_swept =
    take 7 sweep.journal
    ++ entry 8 2 1 (read (tcp_port 40001)) (found (five_by 0) 2)
    ∷ entry 9 1 0 (put six_key (to 40000)) (Done 9)
    ∷ entry 10 2 1 (delete_at (tcp_port 40001) 2) (Done 10)
    ∷ entry 11 2 2 (read (udp_port 40000)) Absent
    ∷ entry 12 2 3 (read (udp_port 40001)) Absent
    ∷ []

abbrev pub new_version_is_refused : Type 0
new_version_is_refused = Strays (IsPoolTo 40001) sweep (nat_body sweeps_by_a_new_version) new_version_swept

-- The server's FIN writes over the client's, as if that had never come.
abbrev pub written_over : List Entry
written_over = take 10 two_replaces.journal ++ entry 11 1 1 (replace_at key 9 5) (Done 11) ∷ []

abbrev pub write_over_is_refused : Type 0
write_over_is_refused = StraysFromBox IsFirewall two_replaces (fw_body writes_over) written_over
