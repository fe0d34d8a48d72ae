-- The laws of histories that are the parts of a list, which crates above cite.
use Rattle.std.proofs.Common.{◌≡◌, ℕ, ◌+◌, ◌%◌, ◌≤◌, ◌<◌, IsTrue, max, Option, None, List, [], ◌∷◌, ◌++◌, length, get_or, length-set, sym, ap, ap₂, ◌∙◌, subst, arith, refl, mod-lt}
use Rattle.std.specs.List.{AllByRecursion}
use Rattle.std.specs.List.Sorted.{IsPermutation}
use Rattle.slnf_access.specs.declared.requests.Entry.{Entry}
use Rattle.slnf_access.specs.declared.requests.Held.{Held}
use Rattle.slnf_access.specs.Map.{key_of, reply_to, cell_of}
use Rattle.slnf_access.specs.Order.{InOrder}
use Rattle.slnf_merge.specs.Merge.{AreHistories, all_of}
use Rattle.slnf_run.specs.Setting.{Setting, era_of}
use Rattle.slnf_run.specs.Scheduled.{greatest, in_order}
use Rattle.slnf_run.specs.Made.{Grown, Pairs, IsLaid, is_before, of_shard, last_stamp, clock}
use Rattle.slnf_run.proofs.Clocks.{stamp_by_clock, greatest_within}
use Rattle.slnf_run.proofs.Growth.{grown-append}
use Rattle.slnf_run.proofs.Keys.{cell_of-of_shard}
use Rattle.slnf_run.proofs.OrderKeeps.{made_own}
use Rattle.slnf_run.proofs.Pairing.{each-weaker}
use Rattle.slnf_run.proofs.Stamps.{stamps_above, shard_stamps_rise}
use Rattle.slnf_shards.specs.Shards.{with_entry_on}
use Rattle.slnf_shards.specs.Parts.{ArePartsOf, BeginAsParts, StayParts, MakesAsScheduled, StaysWithin, HasGreatest, IsFirstClock}
use Rattle.slnf_shards.proofs.Histories.{have_parts-none, have_parts-at, have_parts-push, merge_is_in_order}
use Rattle.slnf_shards.proofs.FirstClocks.{clock-first, greatest_of_histories}
pub use Rattle.slnf_shards.proofs.FirstClocks.{clock-own, clock-other}

-- the parts of no accesses are empty histories
pub begin_as_parts : BeginAsParts
begin_as_parts epoch histories some h = record { some = some; made = tt; parts = have_parts-none 0 histories h }

-- an entry that comes next in the list goes to its shard's history
pub stay_parts : StayParts
stay_parts epoch m histories e h laid =
    let next : List (List Entry) = with_entry_on histories e in
    let count : length next ≡ length histories =
    length-set histories e.shard (get_or histories e.shard [] ++ e ∷ []) in
    record {
      some = subst (λ n. 0 < n) (sym count) h.some;
      made = subst (λ n. Grown (IsLaid epoch n) [] (m ++ e ∷ [])) (sym count)
          (grown-append (IsLaid epoch (length histories)) [] m (e ∷ []) h.made (laid, tt));
      parts = have_parts-push 0 e.shard histories m e (omega arith) h.parts;
    }

-- the stamps of a shard rise along the list, and each shard has a history
rising : (epoch : ℕ → ℕ) (m : List Entry) (histories : List (List Entry)) → ArePartsOf epoch m histories →
    Pairs (λ e f. e.shard ≡ f.shard → e.stamp < f.stamp) m
rising epoch m histories h = shard_stamps_rise epoch m (stamps_above epoch (length histories) m h.made)

inside : (epoch : ℕ → ℕ) (m : List Entry) (histories : List (List Entry)) → ArePartsOf epoch m histories →
    AllByRecursion (λ e. e.shard < length histories) m
inside epoch m histories h =
    each-weaker (λ e. e.shard ≡ key_of e.request % length histories) (λ e. e.shard < length histories)
    (λ e k. subst (λ n. n < length histories) (sym k) (mod-lt _ h.some)) m
    (made_own epoch (length histories) [] m h.made)

-- the entry that an access with the actor's clock makes of the histories is the schedule's of the list
pub makes_as_scheduled : {F A : Type 0} (s : Setting F A) → MakesAsScheduled s
makes_as_scheduled s m histories incarnation ask h count =
    let epoch : ℕ → ℕ = era_of s.eras in
    let key : ℕ = key_of ask.request in
    let made : Grown (IsLaid epoch s.shards) [] m = subst (λ n. Grown (IsLaid epoch n) [] m) count h.made in
    let here : 0 + key % length histories ≡ key % length histories = omega arith in
    let own : get_or histories (key % length histories) [] ≡ of_shard (key % length histories) m =
    have_parts-at 0 (key % length histories) histories m (mod-lt key h.some) h.parts
    ∙ ap (λ n. of_shard n m) here in
    ap (of_history (key % length histories)) own
    ∙ (ap (λ n. of_history (key % n) (of_shard (key % n) m)) count
    ∙ ap₂ of_latest (sym (stamp_by_clock epoch s.shards m incarnation (key % s.shards) made))
    (sym (cell_of-of_shard s.shards (key % s.shards) key None m (made_own epoch s.shards [] m made) refl)))
  where
    of_history : ℕ → List Entry → Entry
    of_history shard es = record {
      stamp = max (last_stamp es) (clock (era_of s.eras) m incarnation) + 1;
      shard = shard;
      incarnation = incarnation;
      item = ask.item;
      request = ask.request;
      reply = reply_to ask.request (max (last_stamp es) (clock (era_of s.eras) m incarnation) + 1)
          (cell_of (key_of ask.request) None es);
    }

    of_latest : ℕ → Option Held → Entry
    of_latest latest held = record {
      stamp = latest + 1;
      shard = key_of ask.request % s.shards;
      incarnation = incarnation;
      item = ask.item;
      request = ask.request;
      reply = reply_to ask.request (latest + 1) held;
    }

-- where no stamp is above the number of accesses, the clocks of the next access aren't either
pub stays_within : {F A : Type 0} (s : Setting F A) → StaysWithin s
stays_within s m histories incarnation ask h count low =
    let place : ℕ = key_of ask.request % s.shards in
    let same = ap (λ (e : Entry). e.stamp) (makes_as_scheduled s m histories incarnation ask h count) in
    let most : greatest (is_before (era_of s.eras) incarnation place) m ≤ length m =
    greatest_within (is_before (era_of s.eras) incarnation place) (length m) m
    (each-weaker (λ e. e.stamp ≤ length m)
    (λ e. IsTrue (is_before (era_of s.eras) incarnation place e) → e.stamp ≤ length m) (λ e l _. l) m low) in
    omega arith

-- the greatest of the histories' last stamps is that of the whole list
pub has_greatest : HasGreatest
has_greatest epoch m histories h =
    greatest_of_histories histories m (rising epoch m histories h) (inside epoch m histories h) h.parts

-- and it is the clock of each actor of a later epoch than all of the list
pub is_first_clock : IsFirstClock
is_first_clock epoch m histories incarnation h before =
    clock-first epoch incarnation m before ∙ has_greatest epoch m histories h

-- the histories' merge is the list in order
pub merge_of_parts : (epoch : ℕ → ℕ) (m : List Entry) (histories : List (List Entry)) (merged : List Entry) →
    ArePartsOf epoch m histories → AreHistories 0 histories → InOrder merged →
    IsPermutation (all_of histories) merged → merged ≡ in_order m
merge_of_parts epoch m histories merged h placed ordered same =
    merge_is_in_order histories merged m (rising epoch m histories h) (inside epoch m histories h) h.parts placed
    ordered same
