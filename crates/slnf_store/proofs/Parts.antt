-- The merged list's parts, and the stamps.
use Rattle.std.proofs.Common.{◌≡◌, ℕ, suc, ◌+◌, ◌<◌, ◌==◌, if◌then◌else◌, Bool, true, false, List, [], ◌∷◌, map, length, refl, sym, subst, arith, eq-eqb, eqb-true}
use Rattle.std.specs.List.{AllByRecursion}
use Rattle.std.specs.List.Sorted.{IsPermutation}
use Rattle.std.proofs.lemmas.List.Sorted.{IsPermutation-sym}
use Rattle.slnf_access.specs.declared.requests.Entry.{Entry}
use Rattle.slnf_access.specs.Order.{InOrder}
use Rattle.slnf_merge.specs.Merge.{all_of, shard_part}
use Rattle.slnf_turns.specs.declared.views.Noted.{Noted}
use Rattle.slnf_turns.specs.declared.views.Joined.{Joined}
use Rattle.slnf_turns.specs.declared.views.View.{View}
use Rattle.slnf_turns.specs.Views.{Begins, list_in, kept_of}
use Rattle.slnf_store.specs.Lines.{noted_of}
use Rattle.slnf_store.specs.Passes.{entries_of, entries_seen, greatest_listed, AreEntriesOf, IsJoined}
use Rattle.slnf_store.specs.Closes.{history_at, incarnation_part, list_of, IsListIn, SawPrefixes}
use Rattle.slnf_store.proofs.Joins.{rises_stamped}
use Rattle.slnf_store.proofs.Grown.{stamped_within}
use Rattle.slnf_merge.proofs.Laws.{IsIn, in_permuted, Strong, strong_from_order, strong_filtered, same_members}
use Rattle.slnf_store.proofs.Members.{all_in, all_swap, in_filtered, filtered_in, strong_rises}
use Rattle.slnf_store.proofs.Histories.{IsHistoryOf, AreHistoriesOf, histories_in, history_here, in_all, in_own, part_here}

-- what a joined pass saw of each shard
pub seen_by : (shards : ℕ) (v : View) (hs : List (List Entry)) → length hs ≡ shards → AreHistoriesOf 0 shards v hs
    → AllByRecursion (SawPrefixes shards hs) v.joined
seen_by shards v hs count h =
    all_swap (λ (k : ℕ). k < shards) (λ (k : ℕ) (x : Joined). Begins (entries_seen x.seen k)
    (history_at hs k)) v.joined
    (λ k inside. let at : 0 + k ≡ k = omega arith in
    (subst (λ (s : ℕ). IsHistoryOf s shards v (history_at hs k)) at
    (history_here 0 shards v hs k h (omega arith))).seen)

-- a list of a joined pass, in the histories themselves
pub listed_at : (shards : ℕ) (hs : List (List Entry)) (x : Joined) → IsJoined shards x → SawPrefixes shards hs x
    → IsListIn shards hs x
listed_at shards hs x j b =
    record {
      written = j.written;
      own = j.own;
      stamped = stamped_within shards x.listed.number (entries_seen x.seen) (history_at hs) (greatest_listed x.told)
          (entries_of x.listed.lines) b j.own j.stamped;
    }

-- what holds of the list of a number
pub record IsGood (shards number : ℕ) (lines : List Noted) : Type 0 where
  pub written : lines ≡ map noted_of (entries_of lines)
  pub own : AreEntriesOf shards number (entries_of lines)
  pub strong : Strong (entries_of lines)

good_none : (shards number : ℕ) → IsGood shards number []
good_none shards number = record { written = refl; own = tt; strong = tt }

good_joined : (shards : ℕ) (x : Joined) → IsJoined shards x → IsGood shards x.listed.number x.listed.lines
good_joined shards x j = record {
  written = j.written;
  own = j.own;
  strong = strong_rises (greatest_listed x.told)
      (entries_of x.listed.lines) (rises_stamped (entries_seen x.seen) (greatest_listed x.told)
      (entries_of x.listed.lines) j.stamped);
}

pick_good : (shards number : ℕ) (x : Joined) (rest : List Noted) (b : Bool) → (b ≡ true → x.listed.number ≡ number)
    → IsJoined shards x → IsGood shards number rest → IsGood shards number (if b then x.listed.lines else rest)
pick_good shards number x rest true is j good = subst (λ (n : ℕ). IsGood shards n x.listed.lines) (is refl)
    (good_joined shards x j)
pick_good shards number x rest false is j good = good

good_kept : (shards number : ℕ) (js : List Joined) → AllByRecursion (IsJoined shards) js
    → IsGood shards number (kept_of number js)
good_kept shards number [] h = good_none shards number
good_kept shards number (x ∷ xs) h = pick_good shards number x (kept_of number xs) (x.listed.number == number)
    (λ t. eqb-true x.listed.number number t) h.0 (good_kept shards number xs h.1)

pub good_list : (shards i : ℕ) (v : View) → AllByRecursion (IsJoined shards) v.joined → IsGood shards (suc i)
    (list_in (suc i) v)
good_list shards i v h = good_kept shards (suc i) v.joined h

module _ (shards : ℕ) (v : View) (hs : List (List Entry)) (count : length hs ≡ shards)
    (h : AreHistoriesOf 0 shards v hs) (joined : AllByRecursion (IsJoined shards) v.joined) where
  part_at : (i k : ℕ) → k < shards → incarnation_part i (history_at hs k) ≡ shard_part k (list_of i v)
  part_at i k inside =
      let at : 0 + k ≡ k = omega arith in
      part_here k shards i v (history_at hs k) (subst (λ (s : ℕ). IsHistoryOf s shards v (history_at hs k)) at
      (history_here 0 shards v hs k h (omega arith))) (good_list shards i v joined).written

  -- an entry of the histories stands in its incarnation's list, and the other way round
  pub to_list : (z : Entry) → IsIn z (all_of hs) → IsIn z (list_of z.incarnation v)
  to_list z i =
      let at = in_own hs z (histories_in 0 shards v hs h) i in
      let here : IsIn z (incarnation_part z.incarnation (history_at hs z.shard)) = in_filtered
      (λ (e : Entry). e.incarnation == z.incarnation) z (history_at hs z.shard)
      (eq-eqb z.incarnation z.incarnation refl) at.1 in
      let there : IsIn z (shard_part z.shard (list_of z.incarnation v)) = subst (λ (l : List Entry). IsIn z l)
      (part_at z.incarnation z.shard (subst (λ (n : ℕ). z.shard < n) count at.0)) here in
      (filtered_in (λ (e : Entry). e.shard == z.shard) z (list_of z.incarnation v) there).1

  pub from_list : (i : ℕ) (z : Entry) → IsIn z (list_of i v) → (z.incarnation ≡ i) × IsIn z (all_of hs)
  from_list i z m =
      let of = all_in (λ (e : Entry). (e.incarnation + 1 ≡ suc i) × (e.shard < shards)) z (list_of i v)
      (good_list shards i v joined).own m in
      let who : z.incarnation ≡ i = (let one = of.0 in omega arith) in
      let there : IsIn z (shard_part z.shard (list_of i v)) = in_filtered (λ (e : Entry). e.shard == z.shard) z
      (list_of i v) (eq-eqb z.shard z.shard refl) m in
      let here : IsIn z (incarnation_part i (history_at hs z.shard)) = subst (λ (l : List Entry). IsIn z l)
      (sym (part_at i z.shard of.1)) there in
      (who, in_all hs z.shard z (filtered_in (λ (e : Entry). e.incarnation == i) z (history_at hs z.shard) here).1)

  -- the merged list's part is the list
  pub part_merged : (i : ℕ) (merged : List Entry) → IsPermutation (all_of hs) merged → InOrder merged
      → incarnation_part i merged ≡ list_of i v
  part_merged i merged same order =
      same_members (incarnation_part i merged) (list_of i v)
      (strong_filtered (λ (e : Entry). e.incarnation == i) merged (strong_from_order merged order))
      (good_list shards i v joined).strong
      (λ z m.
      let f = filtered_in (λ (e : Entry). e.incarnation == i) z merged m in
      subst (λ (n : ℕ). IsIn z (list_of n v)) (eqb-true z.incarnation i f.0)
      (to_list z (in_permuted z merged (all_of hs) (IsPermutation-sym (all_of hs) merged same) f.1)))
      (λ z m.
      let f = from_list i z m in
      in_filtered (λ (e : Entry). e.incarnation == i) z merged (eq-eqb z.incarnation i f.0)
      (in_permuted z (all_of hs) merged same f.1))
