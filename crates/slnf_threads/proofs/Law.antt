-- The merged list of actors that have worked is a run, and its stamps are the clocks'.
use Rattle.std.proofs.Common.{◌≡◌, ℕ, suc, ◌+◌, ◌<◌, ◌≤◌, ◌==◌, ◌%◌, nat_lt, max, List, [], ◌∷◌, ◌++◌, refl, sym, ap, ap₂, ◌∙◌, subst, inl, inr, arith}
use Rattle.std.specs.Prelude.{IsTrue}
use Rattle.std.specs.List.{AllByRecursion}
use Rattle.std.specs.List.Sorted.{IsPermutation}
use Rattle.std.proofs.lemmas.Bool.{cases_lt}
use Rattle.std.proofs.lemmas.Bool.Decides.{nat_tests}
use Rattle.std.proofs.lemmas.List.Elements.{filter-append}
use Rattle.std.proofs.lemmas.List.Sorted.{IsPermutation-sym}
use Rattle.slnf_access.specs.declared.requests.Entry.{Entry}
use Rattle.slnf_access.specs.Map.{key_of}
use Rattle.slnf_access.specs.Order.{Precedes, InOrder, IsInShard}
use Rattle.slnf_bucket.specs.Bucket.{last_stamp as last_stamp_from}
use Rattle.slnf_merge.specs.Merge.{InShards, all_of}
use Rattle.slnf_merge.proofs.Laws.{IsIn, in_permuted, Strong, strong_from_order, strong_filtered}
use Rattle.slnf_turns.specs.declared.views.View.{View}
use Rattle.slnf_store.specs.Passes.{entries_of, greatest_listed, IsStamped, AreStamped}
use Rattle.slnf_store.specs.Closes.{history_at, list_of, IsClosed}
use Rattle.slnf_run.specs.Setting.{Setting, era_of}
use Rattle.slnf_run.specs.Parts.{part_of, posts_of}
use Rattle.slnf_run.specs.Jobs.{job_of}
use Rattle.slnf_run.specs.Scheduled.{greatest}
use Rattle.slnf_run.specs.Run.{IsRun}
use Rattle.slnf_run.specs.Made.{Pairs, of_shard, last_stamp, is_of_earlier, clock_of, clock}
use Rattle.slnf_run.specs.Stamps.{HasClockStamp, HasClockStamps}
use Rattle.slnf_run.proofs.Pairing.{pairs_at}
use Rattle.slnf_run.proofs.Parting.{part_at}
use Rattle.slnf_run.proofs.Merged.{of_shard-own}
use Rattle.slnf_run.proofs.OrderAgain.{grown_of_splits}
use Rattle.slnf_run.proofs.Stamps.{each_below_greatest}
use Rattle.slnf_run.proofs.Clocks.{greatest_within}
use Rattle.slnf_run.proofs.Offering.{IsOffering}
use Rattle.slnf_run.proofs.RunOfGrown.{IsLooseRun}
use Rattle.slnf_run.proofs.OwnParts.{loose_of_own}
use Rattle.slnf_threads.specs.Worked.{IsWorked, HasWorked}
use Rattle.slnf_threads.specs.Parts.{AreParts, ArePartsSoFar}
use Rattle.slnf_threads.proofs.Members.{in_left, in_right, all_in, all_from, before_in}
use Rattle.slnf_threads.proofs.Histories.{shard_merged, same_split}
use Rattle.slnf_threads.proofs.Told.{IsKeptAs, owner, to_list, told_below, told_within, stamped_at}
use Rattle.slnf_threads.proofs.Rules.{own_run_of_worked, offering_of_worked}

pairs_from : (R : Entry → Entry → Type 0) (es : List Entry) → Strong es →
    ((e f : Entry) → IsIn e es → IsIn f es → Precedes e f → R e f) → Pairs R es
pairs_from R [] s f = tt
pairs_from R (e ∷ es) s f = (
  all_from (R e) es (λ x i. f e x (inl refl) (inr i) (before_in e x es s.0 i)),
  pairs_from R es s.1 (λ x y i j p. f x y (inr i) (inr j) p),
)

shard_in : (shards : ℕ) (e : Entry) (es : List Entry) → InShards shards es → IsIn e es →
    e.shard ≡ key_of e.request % shards
shard_in shards e [] h i = absurd i
shard_in shards e (x ∷ es) h (inl same) = subst (λ (y : Entry). y.shard ≡ key_of y.request % shards) same h.0
shard_in shards e (x ∷ es) h (inr rest) = shard_in shards e es h.1 rest

-- an entry with a lower stamp stands before
stands_before : (before later : List Entry) (e p : Entry) → Strong (before ++ e ∷ later) →
    IsIn p (before ++ e ∷ later) → p.stamp < e.stamp → IsIn p before
stands_before [] later e p s (inl same) l =
    let q : e.stamp ≡ p.stamp = ap (λ (x : Entry). x.stamp) same in absurd (omega arith)
stands_before [] later e p s (inr i) l = not_after (before_in e p later s.0 i)
  where
    not_after : Precedes e p → IsIn p []
    not_after (inl k) = omega arith
    not_after (inr k) = let q = k.0 in omega arith
stands_before (x ∷ before) later e p s (inl same) l = inl same
stands_before (x ∷ before) later e p s (inr i) l = inr (stands_before before later e p s.1 i l)

-- the last stamp, as the two layers say it
last_same : (c : ℕ) (e : Entry) (es : List Entry) → last_stamp_from c (e ∷ es) ≡ last_stamp (e ∷ es)
last_same c e [] = refl
last_same c e (f ∷ es) = last_same e.stamp f es

last_zero : (es : List Entry) → last_stamp_from 0 es ≡ last_stamp es
last_zero [] = refl
last_zero (e ∷ es) = last_same 0 e es

clock_same : (epoch : ℕ → ℕ) (es : List Entry) (i told : ℕ) (part : List Entry) →
    (part ≡ [] → told ≡ greatest (is_of_earlier epoch i) es) → last_stamp_from told part ≡ clock_of epoch es i part
clock_same epoch es i told [] h = h refl
clock_same epoch es i told (e ∷ part) h = last_same told e part

shard_at : (before later : List Entry) (e : Entry) (m : List Entry) → m ≡ before ++ e ∷ later →
    of_shard e.shard m ≡ of_shard e.shard before ++ e ∷ of_shard e.shard later
shard_at before later e m h =
    ap (of_shard e.shard) h
    ∙ (filter-append (λ (f : Entry). f.shard == e.shard) before (e ∷ later)
    ∙ ap (λ l. of_shard e.shard before ++ l) (of_shard-own e.shard e later refl))

module _ {F A : Type 0} (s : Setting F A) (root : View) (hs : List (List Entry)) (merged : List Entry)
    (closed : IsClosed s.shards root hs) (same : IsPermutation (all_of hs) merged) (order : InOrder merged)
    (parts : AreParts s root merged) where
  abbrev epoch : ℕ → ℕ
  epoch = era_of s.eras

  own : (i : ℕ) → part_of i merged ≡ list_of i root
  own = (closed.merges merged same order).1

  strong : Strong merged
  strong = strong_from_order merged order

  back : (e : Entry) → IsIn e merged → IsIn e (all_of hs)
  back e i = in_permuted e merged (all_of hs) (IsPermutation-sym (all_of hs) merged same) i

  -- stamps rise from epoch to epoch
  rise : (e f : Entry) → IsIn e merged → IsIn f merged → epoch e.incarnation < epoch f.incarnation →
      e.stamp < f.stamp
  rise e f i j l =
      let x : IsKeptAs (suc f.incarnation) root.joined = owner s.shards root hs merged closed own f j in
      let below : e.stamp ≤ greatest_listed x.pass.told =
      told_below s.shards root hs merged closed own s.eras parts.split f x.pass x.there x.number_is e i l in
      let mine : IsIn f (entries_of x.pass.listed.lines) =
      subst (IsIn f) (ap entries_of x.lines) (to_list s.shards root hs merged closed own f j) in
      let above : greatest_listed x.pass.told < f.stamp =
      all_in _ f (entries_of x.pass.listed.lines) (all_in _ x.pass root.joined closed.later x.there) mine in
      omega arith

  by_epoch : Pairs (λ e f. epoch e.incarnation ≤ epoch f.incarnation) merged
  by_epoch = pairs_from (λ e f. epoch e.incarnation ≤ epoch f.incarnation) merged strong
      (λ e f i j p. elim (cases_lt (epoch f.incarnation) (epoch e.incarnation)) [
        | inr l ↦ l
        | inl l ↦ absurd (clash e f p (rise f e j i l))
      ])
    where
      clash : (e f : Entry) → Precedes e f → f.stamp < e.stamp → ⊥
      clash e f (inl p) l = omega arith
      clash e f (inr p) l = let q = p.0 in omega arith

  in_shards : AllByRecursion (IsInShard s.shards) merged
  in_shards = all_from (IsInShard s.shards) merged (λ e i.
      let ranged : (0 < e.stamp) × (e.stamp < _) = all_in _ e (all_of hs) closed.ranged (back e i) in
      record {
        from_one = ranged.0;
        below_end = ranged.1;
        shard = shard_in s.shards e (all_of hs) closed.own (back e i);
      })

  loose : IsLooseRun s merged
  loose = loose_of_own s merged (own_run_of_worked s (posts_of s merged) merged
      (λ i l. own i ∙ parts.nobody_else i l)
      (λ i post at. subst (λ es. HasWorked (job_of s i post.at post.actor) es) (sym (own i))
      (parts.worked i post at)))

  is_run : IsRun s merged
  is_run = record {
    in_order = order;
    in_shards = in_shards;
    legal = (closed.merges merged same order).0;
    of_actors = loose.of_actors;
    paths = loose.paths;
    done = loose.done;
    by_epoch = λ before middle later e f w.
        pairs_at (λ e f. epoch e.incarnation ≤ epoch f.incarnation) before middle later e f
        (subst (Pairs (λ e f. epoch e.incarnation ≤ epoch f.incarnation)) w by_epoch);
    offered = loose.offered;
    by_batch = loose.by_batch;
  }

  module _ (before later : List Entry) (e : Entry) (whole : merged ≡ before ++ e ∷ later) where
    here : IsIn e merged
    here = subst (IsIn e) (sym whole) (in_right e before (e ∷ later) (inl refl))

    kept : IsKeptAs (suc e.incarnation) root.joined
    kept = owner s.shards root hs merged closed own e here

    is_lt : (m n : ℕ) → m < n → IsTrue (nat_lt m n)
    is_lt m n l = grind (arith, nat_tests)

    lt_is : (m n : ℕ) → IsTrue (nat_lt m n) → m < n
    lt_is m n t = grind (arith, nat_tests)

    -- before its first access an actor's clock is the greatest stamp of earlier epochs
    first : greatest_listed kept.pass.told ≡ greatest (is_of_earlier epoch e.incarnation) before
    first =
        let bound : ℕ = greatest (is_of_earlier epoch e.incarnation) before in
        let low : greatest_listed kept.pass.told ≤ greatest (is_of_earlier epoch e.incarnation) before =
        told_within s.shards root hs merged closed own s.eras parts.split e kept.pass kept.there kept.number_is
        (greatest (is_of_earlier epoch e.incarnation) before)
        (λ p i l.
        let there : IsIn p before =
        stands_before before later e p (subst Strong whole strong) (subst (IsIn p) whole i) (rise p e i here l) in
        all_in (λ x. IsTrue (is_of_earlier epoch e.incarnation x) →
        x.stamp ≤ greatest (is_of_earlier epoch e.incarnation) before) p before
        (each_below_greatest (is_of_earlier epoch e.incarnation) before) there
        (is_lt (epoch p.incarnation) (epoch e.incarnation) l)) in
        let high : greatest (is_of_earlier epoch e.incarnation) before ≤ greatest_listed kept.pass.told =
        greatest_within (is_of_earlier epoch e.incarnation) (greatest_listed kept.pass.told) before
        (all_from (λ x. IsTrue (is_of_earlier epoch e.incarnation x) → x.stamp ≤ greatest_listed kept.pass.told)
        before
        (λ p i t.
        told_below s.shards root hs merged closed own s.eras parts.split e kept.pass kept.there kept.number_is p
        (subst (IsIn p) (sym whole) (in_left p before (e ∷ later) i))
        (lt_is (epoch p.incarnation) (epoch e.incarnation) t))) in
        omega arith

    clocked : HasClockStamp epoch before e
    clocked =
        let list = all_in _ kept.pass root.joined closed.lists kept.there in
        let at : entries_of kept.pass.listed.lines ≡ part_of e.incarnation before ++ e ∷ part_of e.incarnation later =
        sym (ap entries_of kept.lines) ∙ (sym (own e.incarnation) ∙ part_at before later e merged whole) in
        let stamped : IsStamped (last_stamp_from (greatest_listed kept.pass.told) (part_of e.incarnation before)) e
        (history_at hs e.shard) =
        stamped_at (history_at hs) (greatest_listed kept.pass.told) (part_of e.incarnation before)
        (part_of e.incarnation later) e
        (subst (AreStamped (history_at hs) (greatest_listed kept.pass.told)) at list.stamped) in
        let shard : of_shard e.shard merged ≡ history_at hs e.shard =
        shard_merged hs merged e.shard closed.in_place same order in
        let split : of_shard e.shard merged ≡ of_shard e.shard before ++ e ∷ of_shard e.shard later =
        shard_at before later e merged whole in
        let alike : of_shard e.shard before ≡ stamped.0 =
        same_split (of_shard e.shard before) (of_shard e.shard later) stamped.0 stamped.1 e
        (subst Strong split (strong_filtered (λ (f : Entry). f.shard == e.shard) merged strong))
        (sym split ∙ (shard ∙ stamped.2)) in
        let one : last_stamp_from 0 stamped.0 ≡ last_stamp (of_shard e.shard before) =
        ap (last_stamp_from 0) (sym alike) ∙ last_zero (of_shard e.shard before) in
        let two : last_stamp_from (greatest_listed kept.pass.told) (part_of e.incarnation before)
        ≡ clock epoch before e.incarnation =
        clock_same epoch before e.incarnation (greatest_listed kept.pass.told) (part_of e.incarnation before)
        (λ _. first) in
        stamped.3 ∙ ap₂ (λ m n. max m n + 1) one two

-- the merged histories of actors that have worked are a run, with the stamps of the clocks
pub run_of_parts : {F A : Type 0} (s : Setting F A) (root : View) (hs : List (List Entry)) (merged : List Entry) →
    IsClosed s.shards root hs → IsPermutation (all_of hs) merged → InOrder merged → AreParts s root merged →
    IsRun s merged × HasClockStamps s merged
run_of_parts s root hs merged closed same order parts = (
  is_run s root hs merged closed same order parts,
  grown_of_splits (HasClockStamp (era_of s.eras)) [] merged
      (λ before later e whole. clocked s root hs merged closed same order parts before later e whole),
)

-- those of actors that have worked so far are of what these are offered
pub offering_of_parts : {F A : Type 0} (s : Setting F A) (root : View) (hs : List (List Entry)) (merged : List Entry) →
    IsClosed s.shards root hs → IsPermutation (all_of hs) merged → InOrder merged →
    ArePartsSoFar s root merged → IsOffering s merged
offering_of_parts s root hs merged closed same order parts =
    let own : (i : ℕ) → part_of i merged ≡ list_of i root = (closed.merges merged same order).1 in
    offering_of_worked s merged (λ i l. own i ∙ parts.nobody_else i l)
    (λ i post at. subst (λ es. IsWorked (job_of s i post.at post.actor) [] es) (sym (own i)) (parts.worked i post at))
