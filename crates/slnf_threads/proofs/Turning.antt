-- What a turn at the store makes of an actor and its pass.
use Rattle.std.proofs.Common.{◌≡◌, inl, inr, ℕ, suc, ◌+◌, ◌-◌, ◌^◌, ◌<◌, ◌≤◌, ◌==◌, max, Option, Some, None, List, [], ◌∷◌, ◌++◌, length, map, take, drop, refl, sym, ap, ◌∙◌, subst, arith, append-nil, eq-eqb, take-append-drop}
use Rattle.std.proofs.lemmas.Bool.{cases_lt, cond-true}
use Rattle.std.proofs.lemmas.List.{length-map}
use Rattle.std.proofs.lemmas.Nat.{mod_below}
use Rattle.slnf_access.specs.declared.requests.Entry.{Entry}
use Rattle.slnf_access.specs.declared.requests.Ask.{Ask}
use Rattle.slnf_access.specs.declared.requests.Reply.{Reply}
use Rattle.slnf_access.specs.Map.{key_of, cell_of}
use Rattle.slnf_access.proofs.Laws.{can_reply_to}
use Rattle.slnf_bucket.specs.Bucket.{last_stamp}
use Rattle.slnf_bucket.specs.declared.errors.BucketError.{BucketError}
use Rattle.slnf_turns.specs.declared.views.View.{View}
use Rattle.slnf_turns.specs.Passes.{KeepsKin}
use Rattle.slnf_store.specs.Accesses.{first_shard, entry_after, entries_after, MakesEntries, MakesAccess, MakesAccesses, RefusesAccesses}
use Rattle.slnf_store.specs.Passes.{PassState, own_entries, last_seen}
use Rattle.slnf_run.specs.Jobs.{by_rounds, wanted_in}
use Rattle.slnf_instance.specs.Items.{Workload}
use Rattle.slnf_instance.specs.Instances.{Acting, ask_by, StandsBy, IsAnswer}
use Rattle.slnf_threads.specs.Reports.{job_by, KeepsLateStamp, IsRefused, Gains}
use Rattle.slnf_threads.specs.Takes.{IsWithin, AreAnswers, CanTake}
use Rattle.slnf_threads.specs.Worked.{IsWorked}

pub same_kin : (a b c : View) → KeepsKin a b → KeepsKin b c → KeepsKin a c
same_kin a b c h k = (k.0 ∙ h.0, k.1 ∙ h.1, k.2 ∙ h.2, k.3 ∙ h.3)

pub own_kin : (a : View) → KeepsKin a a
own_kin a = (refl, refl, refl, refl)

-- the refusal of some of at most 32 accesses
pub refused : (shards count shard : ℕ) (earlier : List Entry) (old new : PassState) (refusal : BucketError) →
    count ≤ 32 → shard < shards → RefusesAccesses count shard earlier old new refusal → IsRefused shards new refusal
refused shards count shard earlier old new refusal few inside r last q = go ((r.1 last).0 q)
  where
    seen : last_seen shard new ≡ earlier
    seen =
        r.0.seen shard
        ∙ (cond-true (shard == shard) (earlier ++ []) (last_seen shard old) (eq-eqb shard shard refl)
        ∙ append-nil earlier)

    late : (a b before : ℕ) → before < 32 → max a b + before ≡ 2 ^ 62 - 1 → b < 2 ^ 62 - 32 → 2 ^ 62 - 32 ≤ a
    late a b before l e k = omega arith

    go : (last ≡ 2 ^ 62 - 1) × (before : ℕ) × (before < count)
        × (max (last_stamp 0 earlier) old.clock + before ≡ last) → (last ≡ 2 ^ 62 - 1) × KeepsLateStamp shards new
    go p =
        let is : last ≡ 2 ^ 62 - 1 = p.0 in
        let low : p.1 < count = p.2 in
        let sum : max (last_stamp 0 earlier) old.clock + p.1 ≡ last = p.3 in (
          is,
          elim (cases_lt old.clock (2 ^ 62 - 32)) [
            | inr l ↦ inl (subst (λ n. 2 ^ 62 - 32 ≤ n) (sym r.0.clock) l)
            | inl l ↦ inr (
              shard,
              inside,
              subst (λ es. 2 ^ 62 - 32 ≤ last_stamp 0 es) (sym seen)
                  (late (last_stamp 0 earlier) old.clock p.1 (omega arith) (sum ∙ is) l),
            )
          ],
        )

pub first_inside : (shards : ℕ) (asks : List Ask) → 0 < shards → first_shard shards asks < shards
first_inside shards [] h = h
first_inside shards (ask ∷ asks) h = mod_below (key_of ask.request) shards h

pub count_after : (earlier : List Entry) (shard incarnation clock : ℕ) (asks : List Ask) →
    length (entries_after earlier shard incarnation clock asks) ≡ length asks
count_after earlier shard incarnation clock [] = refl
count_after earlier shard incarnation clock (ask ∷ asks) =
    ap suc (count_after (earlier ++ entry_after earlier shard incarnation clock ask.item ask.request ∷ []) shard
    incarnation (max (last_stamp 0 earlier) clock + 1) asks)

pub count_replies : (earlier : List Entry) (shard incarnation clock : ℕ) (asks : List Ask) (replies : List Reply) →
    replies ≡ map (λ (e : Entry). e.reply) (entries_after earlier shard incarnation clock asks) →
    length replies ≡ length asks
count_replies earlier shard incarnation clock asks replies h =
    ap length h
    ∙ (length-map (entries_after earlier shard incarnation clock asks) (λ (e : Entry). e.reply)
    ∙ count_after earlier shard incarnation clock asks)

module _ {G F : Type 0} (work : G → Workload F) where
  -- a turn that is refused changes nothing
  pub gains_none : (i : Acting G F) (shard : ℕ) (earlier : List Entry) (before after : PassState) →
      MakesEntries shard earlier [] before after → StandsBy work (job_by work i) (own_entries before) i →
      Gains work i i before after []
  gains_none i shard earlier before after made stands = record {
    errand = refl;
    own = made.own;
    worked = tt;
    stands = subst (λ own. StandsBy work (job_by work i) own i)
        (sym (made.own ∙ append-nil (own_entries before))) stands;
    kin = made.kin;
    clock = made.clock;
  }

  -- one access
  pub gains_one : (old new : Acting G F) (shard : ℕ) (earlier : List Entry) (before after : PassState) (ask : Ask)
      (reply : Reply) (wanted : Option Ask) → MakesAccess shard earlier before after ask.item ask.request reply →
      wanted ≡ Some ask → wanted ≡ ask_by old → wanted ≡ wanted_in by_rounds (job_by work old) (own_entries before) →
      new.errand ≡ old.errand →
      ((e : Entry) → IsAnswer (ask_by old) reply e →
      StandsBy work (job_by work old) (own_entries before ++ e ∷ []) new) →
      Gains work old new before after
      (entry_after earlier shard (before.known.number - 1) before.clock ask.item ask.request ∷ [])
  gains_one old new shard earlier before after ask reply wanted made is asks wants errand stands =
      let e : Entry = entry_after earlier shard (before.known.number - 1) before.clock ask.item ask.request in
      record {
        errand = errand;
        own = made.0.own;
        worked = (subst (λ o. IsAnswer o e.reply e) (sym is ∙ wants) (refl, refl, refl), tt);
        stands = subst (λ own. StandsBy work (job_by work old) own new) (sym made.0.own)
            (stands e (subst (λ o. IsAnswer o reply e) (sym is ∙ asks) (refl, refl, sym made.1)));
        kin = made.0.kin;
        clock = made.0.clock;
      }

  -- the replies to several accesses answer what the round asks
  answers_of : (earlier : List Entry) (shard incarnation clock : ℕ) (asks tail : List Ask) →
      AreAnswers (asks ++ tail) (map (λ (e : Entry). e.reply) (entries_after earlier shard incarnation clock asks))
      (entries_after earlier shard incarnation clock asks)
  answers_of earlier shard incarnation clock [] tail = tt
  answers_of earlier shard incarnation clock (ask ∷ asks) tail =
      let stamp : ℕ = max (last_stamp 0 earlier) clock + 1 in (
        can_reply_to ask.request stamp (cell_of (key_of ask.request) None earlier),
        (refl, refl, refl),
        answers_of (earlier ++ entry_after earlier shard incarnation clock ask.item ask.request ∷ []) shard incarnation
            (max (last_stamp 0 earlier) clock + 1) asks tail,
      )

  -- several accesses can be taken one after another
  pub can_take : (i : Acting G F) (shard : ℕ) (earlier : List Entry) (before after : PassState) (asks : List Ask)
      (replies : List Reply) (count : ℕ) → MakesAccesses shard earlier before after asks replies →
      asks ≡ take count i.rest → length replies ≡ count →
      IsWithin i.errand.stop (length (own_entries before) + count) →
      StandsBy work (job_by work i) (own_entries before) i →
      CanTake work (job_by work i) (own_entries before) i replies
      (entries_after earlier shard (before.known.number - 1) before.clock asks)
  can_take i shard earlier before after asks replies count made front size within stands =
      let es : List Entry = entries_after earlier shard (before.known.number - 1) before.clock asks in
      let whole : asks ++ drop count i.rest ≡ i.rest =
      ap (λ l. l ++ drop count i.rest) front ∙ take-append-drop count i.rest in
      record {
        stands = stands;
        answers = subst (λ rs. AreAnswers i.rest rs es) (sym made.1)
            (subst (λ rest. AreAnswers rest (map (λ (e : Entry). e.reply) es) es) whole
            (answers_of earlier shard (before.known.number - 1) before.clock asks (drop count i.rest)));
        within = subst (λ n. IsWithin i.errand.stop (length (own_entries before) + n)) (sym size) within;
      }

  pub gains_many : (old new : Acting G F) (shard : ℕ) (earlier : List Entry) (before after : PassState)
      (asks : List Ask) (replies : List Reply) → MakesAccesses shard earlier before after asks replies →
      new.errand ≡ old.errand →
      StandsBy work (job_by work old) (own_entries before
      ++ entries_after earlier shard (before.known.number - 1) before.clock asks) new
      × IsWorked (job_by work old) (own_entries before)
      (entries_after earlier shard (before.known.number - 1) before.clock asks) →
      Gains work old new before after (entries_after earlier shard (before.known.number - 1) before.clock asks)
  gains_many old new shard earlier before after asks replies made errand taken = record {
    errand = errand;
    own = made.0.own;
    worked = taken.1;
    stands = subst (λ own. StandsBy work (job_by work old) own new) (sym made.0.own) taken.0;
    kin = made.0.kin;
    clock = made.0.clock;
  }
