-- Where a run ends: all epochs have passed, or stamps are said to be spent, which can't be where few accesses were made.
use Rattle.std.proofs.Common.{◌≡◌, inl, inr, ℕ, zero, suc, ◌+◌, ◌-◌, ◌^◌, ◌<◌, ◌≤◌, List, [], ◌∷◌, ◌++◌, Some, length, map, slice_get, refl, sym, ap, ◌∙◌, subst, arith, append-nil}
use Rattle.std.specs.List.{AllByRecursion, range_with_len}
use Rattle.std.specs.List.Sorted.{IsPermutation}
use Rattle.std.proofs.Math.ListN.{drop_of_length-le}
use Rattle.std.proofs.lemmas.Bool.{cases_lt}
use Rattle.std.proofs.lemmas.List.Sorted.{IsPermutation-sym}
use Rattle.slnf_access.specs.declared.requests.Entry.{Entry}
use Rattle.slnf_access.specs.Order.{InOrder}
use Rattle.slnf_bucket.specs.Bucket.{last_stamp}
use Rattle.slnf_merge.specs.Merge.{all_of}
use Rattle.slnf_merge.proofs.Laws.{IsIn, in_permuted}
use Rattle.slnf_turns.specs.declared.views.Joined.{Joined}
use Rattle.slnf_turns.specs.declared.views.View.{View}
use Rattle.slnf_turns.specs.Views.{list_in}
use Rattle.slnf_store.specs.Passes.{entries_of, entries_seen}
use Rattle.slnf_store.specs.Closes.{history_at, list_of, IsClosed}
use Rattle.slnf_run.specs.Setting.{Setting}
use Rattle.slnf_run.specs.Parts.{part_of, Post, posts_of, posts_from}
use Rattle.slnf_run.specs.Jobs.{job_of}
use Rattle.slnf_run.proofs.LanePosts.{slice_get_either}
use Rattle.slnf_threads.specs.Parts.{AreParts, ArePartsSoFar}
use Rattle.slnf_threads.specs.Passing.{joined_number, HaveWorked, HavePassed, AreAtWork, IsClockOf, HasLateStamp}
use Rattle.slnf_threads.specs.Worked.{IsWorked}
use Rattle.slnf_threads.proofs.Members.{in_left, in_right, all_in, all_from}
use Rattle.slnf_threads.proofs.Passing.{kept_none}
use Rattle.slnf_threads.proofs.Told.{from_list}

in_all : (hs : List (List Entry)) (k : ℕ) (z : Entry) → IsIn z (history_at hs k) → IsIn z (all_of hs)
in_all [] k z i = absurd i
in_all (x ∷ hs) zero z i = in_left z x (all_of hs) i
in_all (x ∷ hs) (suc k) z i = in_right z x (all_of hs) (in_all hs k z i)

last_within : (bound clock : ℕ) (es : List Entry) → clock ≤ bound → ((e : Entry) → IsIn e es → e.stamp ≤ bound) →
    last_stamp clock es ≤ bound
last_within bound clock [] l h = l
last_within bound clock (e ∷ es) l h = last_within bound e.stamp es (h e (inl refl)) (λ x i. h x (inr i))

in_at : {X : Type 0} (xs : List X) (k : ℕ) (x : X) → slice_get xs k ≡ Some x → IsIn x xs
in_at [] k x h = absurd (cc)
in_at (y ∷ xs) zero x h = inl (cc)
in_at (y ∷ xs) (suc k) x h = inr (in_at xs k x h)

no_list : (base i : ℕ) (root : View) → map joined_number root.joined ≡ range_with_len 1 base → base ≤ i →
    list_of i root ≡ []
no_list base i root numbers l = ap entries_of (kept_none 1 base root.joined (suc i) numbers (omega arith))

module _ {F A : Type 0} (s : Setting F A) (root : View) (merged : List Entry)
    (own : (i : ℕ) → part_of i merged ≡ list_of i root) where
  -- all epochs have passed
  pub parts_of_passed : (number base : ℕ) (places : ℕ → ℕ) → HavePassed s number base places root →
      length s.eras ≤ number → AreParts s root merged
  parts_of_passed number base places passed l =
      let worked : HaveWorked s number base places root merged = passed.worked merged (λ i less. own i) in
      let whole : posts_of s merged ≡ worked.posts =
      worked.whole
      ∙ (ap (λ eras. worked.posts ++ posts_from s merged number base places eras) (drop_of_length-le s.eras l)
      ∙ append-nil worked.posts) in
      record {
        nobody_else = λ i behind.
            no_list base i root passed.numbers
            (subst (λ n. n ≤ i) (ap length whole ∙ worked.count) behind);
        worked = λ i post there. worked.each i post (ap (λ ps. slice_get ps i) (sym whole) ∙ there);
        split = passed.split;
      }

  -- actors are at work
  pub parts_of_work : (base : ℕ) → AreAtWork s base root → ArePartsSoFar s root merged
  parts_of_work base at =
      let w = at.worked merged (λ i less. own i) in
      record {
        nobody_else = λ i behind. elim (cases_lt i base) [
          | inr l ↦ no_list base i root at.numbers l
          | inl l ↦ absurd (too_few w.0 w.1 w.2 w.3 i l behind)
        ];
        worked = λ i post there. elim (slice_get_either w.0 w.1 i post (ap (λ ps. slice_get ps i) (sym w.3) ∙ there)) [
          | inl here ↦ w.4 i post here
          | inr later ↦
              let q : i ≡ length w.0 + later.0 = later.1 in
              subst (IsWorked (job_of s i post.at post.actor) [])
              (sym (no_list base i root at.numbers (omega (arith, q, w.2)))) tt
        ];
      }
    where
      too_few : (posts later : List Post) → length posts ≡ base → posts_of s merged ≡ posts ++ later → (i : ℕ) →
          i < base → length (posts_of s merged) ≤ i → ⊥
      too_few posts later n whole i l behind =
          let m : length posts ≤ length (posts ++ later) = front posts later in
          let k : length (posts_of s merged) ≡ length (posts ++ later) = ap length whole in
          omega (arith, n, l, behind, m, k)
        where
          front : (xs ys : List Post) → length xs ≤ length (xs ++ ys)
          front [] ys = omega arith
          front (x ∷ xs) ys = let r : length xs ≤ length (xs ++ ys) = front xs ys in omega arith

module _ (shards : ℕ) (root : View) (hs : List (List Entry)) (merged : List Entry) (closed : IsClosed shards root hs)
    (same : IsPermutation (all_of hs) merged) (order : InOrder merged) where
  mine : (i : ℕ) → part_of i merged ≡ list_of i root
  mine = (closed.merges merged same order).1

  below : (e : Entry) → IsIn e (all_of hs) → e.stamp ≤ length (all_of hs)
  below e i = all_in (λ (x : Entry). x.stamp ≤ length (all_of hs)) e (all_of hs) closed.most i

  listed_below : AllByRecursion (λ (x : Joined). AllByRecursion (λ (e : Entry). e.stamp ≤ length (all_of hs))
      (entries_of x.listed.lines)) root.joined
  listed_below = all_from _ root.joined (λ x there. all_from _ (entries_of x.listed.lines) (λ e i.
      let list = all_in _ x root.joined closed.lists there in
      let who : e.incarnation + 1 ≡ x.listed.number = (all_in _ e (entries_of x.listed.lines) list.own i).0 in
      let kept : list_in x.listed.number root ≡ x.listed.lines = (all_in _ x root.joined closed.kept there).0 in
      let number : suc e.incarnation ≡ x.listed.number = omega (arith, who) in
      let lines : list_of e.incarnation root ≡ entries_of x.listed.lines =
      ap (λ n. entries_of (list_in n root)) number ∙ ap entries_of kept in
      let in_merged : IsIn e merged =
      from_list shards root hs merged closed mine e.incarnation e (subst (IsIn e) (sym lines) i) in
      below e (in_permuted e merged (all_of hs) (IsPermutation-sym (all_of hs) merged same) in_merged)))

  -- where few accesses were made, no late stamp is kept
  pub none_late : (clock : ℕ) → IsClockOf root clock → HasLateStamp shards root clock →
      length (all_of hs) < 2 ^ 41 → ⊥
  none_late clock is (inl late) few =
      let low : clock ≤ length (all_of hs) = is (length (all_of hs)) listed_below in
      omega (arith, low, late, few)
  none_late clock is (inr late) few =
      let x : Joined = late.1 in
      let shard : ℕ = late.3 in
      let seen = all_in _ x root.joined closed.seen (in_at root.joined late.0 x late.2) shard late.4 in
      let low : last_stamp 0 (entries_seen x.seen shard) ≤ length (all_of hs) =
      last_within (length (all_of hs)) 0 (entries_seen x.seen shard) (omega arith) (λ e i.
      below e (in_all hs shard e (subst (IsIn e) (sym seen.1) (in_left e (entries_seen x.seen shard) seen.0 i)))) in
      let high : 2 ^ 62 - 32 ≤ last_stamp 0 (entries_seen x.seen shard) = late.5 in
      omega (arith, low, high, few)
