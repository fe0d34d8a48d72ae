-- A list is a run exactly where it is one entry by entry.
use Rattle.std.proofs.Common.{◌≡◌, inl, inr, ◌⊎◌, ℕ, ◌<◌, ◌≤◌, ◌==◌, true, false, IsTrue, List, [], ◌∷◌, ◌++◌, Some, length, slice_get, refl, sym, ap, ◌∙◌, subst, subst₂, arith, eqb-true}
use Rattle.std.specs.List.{AllByRecursion}
use Rattle.std.proofs.lemmas.Bool.{cases_Bool, and_parts}
use Rattle.std.proofs.lemmas.Option.{slice_get_cases, slice_get_within}
use Rattle.slnf_access.specs.declared.requests.Entry.{Entry}
use Rattle.slnf_access.specs.Machines.{Machine, Stand, stand_after, IsAsked, IsPath}
use Rattle.slnf_access.proofs.Laws.{path-back}
use Rattle.slnf_run.specs.Setting.{Setting, era_of}
use Rattle.slnf_run.specs.Scene.{is_of, own_of, stand_of}
use Rattle.slnf_run.specs.Parts.{part_of, of_item, batch_of, is_stopped, Post, posts_of, offers_at}
use Rattle.slnf_run.specs.Run.{IsBelowStop, IsDone, IsOffered, EarlierEnded, IsRun}
use Rattle.slnf_run.specs.Made.{Grown, Pairs}
use Rattle.slnf_run.proofs.NextAccess.{own_split}
use Rattle.slnf_run.proofs.OrderAgain.{grown_of_splits}
use Rattle.slnf_run.proofs.Pairing.{each_at, pairs_at}
use Rattle.slnf_run.proofs.Parting.{own_of_part, part_at}
use Rattle.slnf_run.proofs.Runs.{paths_of_run}
use Rattle.slnf_local.specs.Local.{IsOver, IsExpected, IsLocalRun}
use Rattle.slnf_local.proofs.Splitting.{IsSplitBy, split_of_filter, each_of_splits, path_of_splits, below_of_splits, running_before}
use Rattle.slnf_local.proofs.Until.{posts_of-until, part_of-earlier}
use Rattle.slnf_local.proofs.Over.{is_over-same, grown_by_epoch, IsAt, at_split, same_post}

-- an entry of an incarnation's part, and what it tells where it stands in the whole list
record IsInPart {F A : Type 0} (s : Setting F A) (j : List Entry) (incarnation : ℕ) (own : List Entry) (e : Entry) :
    Type 0 where
  before : List Entry
  front : part_of incarnation before ≡ own
  mine : e.incarnation ≡ incarnation
  at : IsAt s j before e

in_part : {F A : Type 0} (s : Setting F A) (j : List Entry) (incarnation : ℕ) (own rest : List Entry) (e : Entry) →
    Grown (IsExpected s) [] j → part_of incarnation j ≡ own ++ e ∷ rest → IsInPart s j incarnation own e
in_part s j incarnation own rest e grown w =
    let split : IsSplitBy (λ e. e.incarnation == incarnation) j own e =
    split_of_filter (λ e. e.incarnation == incarnation) j own rest e w in
    record {
      before = split.before;
      front = split.front;
      mine = eqb-true e.incarnation incarnation split.passes;
      at = at_split s j split.before split.later e grown split.whole;
    }

-- each item's entries are a path
path_of : {F A : Type 0} (s : Setting F A) (j : List Entry) (incarnation item : ℕ) → Grown (IsExpected s) [] j →
    IsPath (s.scene.machine incarnation) (s.scene.begins incarnation item) (of_item item (part_of incarnation j))
path_of {F = F} s j incarnation item grown =
    path_of_splits machine (s.scene.begins incarnation item) (of_item item (part_of incarnation j))
    (λ own rest e w. asked own e (split_of_filter (is_of incarnation item) j own rest e
    (own_of_part incarnation item j ∙ w)))
  where
    machine : Machine F
    machine = s.scene.machine incarnation

    asked : (own : List Entry) (e : Entry) → IsSplitBy (is_of incarnation item) j own e →
        IsAsked machine (stand_after machine (s.scene.begins incarnation item) own) e
    asked own e split =
        let p = and_parts (e.incarnation == incarnation) (e.item == item) split.passes in
        let at : IsAt s j split.before e = at_split s j split.before split.later e grown split.whole in
        subst (λ l. IsAsked machine (stand_after machine (s.scene.begins incarnation item) l) e) split.front
        (subst₂ (λ i k. IsAsked (s.scene.machine i) (stand_of s.scene i k split.before) e)
        (eqb-true e.incarnation incarnation p.0) (eqb-true e.item item p.1) at.expected.asked)

-- and of items that its incarnation is offered
offered_of : {F A : Type 0} (s : Setting F A) (j : List Entry) (incarnation : ℕ) (post : Post) →
    Grown (IsExpected s) [] j → slice_get (posts_of s j) incarnation ≡ Some post →
    AllByRecursion (λ e. IsOffered e.item (offers_at s incarnation post)) (part_of incarnation j)
offered_of s j incarnation post grown at =
    each_of_splits (λ e. IsOffered e.item (offers_at s incarnation post)) (part_of incarnation j)
    (λ own rest e w.
    let x : IsInPart s j incarnation own e = in_part s j incarnation own rest e grown w in
    subst₂ (λ i p. IsOffered e.item (offers_at s i p)) x.mine
    (same_post s j x.before e incarnation post x.at x.mine at) x.at.expected.offered)

-- an actor that isn't stopped is below its stop: no part passes it
below_of : {F A : Type 0} (s : Setting F A) (j : List Entry) (incarnation : ℕ) (post : Post) →
    Grown (IsExpected s) [] j → slice_get (posts_of s j) incarnation ≡ Some post →
    is_stopped post.actor (part_of incarnation j) ≡ false → IsBelowStop post.actor (part_of incarnation j)
below_of s j incarnation post grown at running =
    below_of_splits post.actor.stop (part_of incarnation j)
    (λ own rest e w.
    let x : IsInPart s j incarnation own e = in_part s j incarnation own rest e grown w in
    subst (λ l. is_stopped post.actor l ≡ false) x.front
    (subst₂ (λ i p. is_stopped p.actor (part_of i x.before) ≡ false) x.mine
    (same_post s j x.before e incarnation post x.at x.mine at) x.at.expected.running))
    running

-- an actor that has ended has done its work
done_of_over : {F A : Type 0} (s : Setting F A) (j : List Entry) (incarnation : ℕ) (post : Post) →
    Grown (IsExpected s) [] j → slice_get (posts_of s j) incarnation ≡ Some post → IsOver s j incarnation post →
    IsDone s j incarnation post
done_of_over s j incarnation post grown at (inl stopped) = inl stopped
done_of_over s j incarnation post grown at (inr ended) =
    elim (cases_Bool (is_stopped post.actor (part_of incarnation j))) [
      | inl stopped ↦ inl stopped
      | inr running ↦ inr (below_of s j incarnation post grown at running, ended)
    ]

-- what is a run entry by entry is a run
pub run_of_local : {F A : Type 0} (s : Setting F A) (j : List Entry) → IsLocalRun s j → IsRun s j
run_of_local s j h = record {
  in_order = h.in_order;
  in_shards = h.in_shards;
  legal = h.legal;
  of_actors = each_of_splits (λ e. e.incarnation < length (posts_of s j)) j (λ before later e w.
      let at : IsAt s j before e = at_split s j before later e h.expected w in
      slice_get_within (posts_of s j) e.incarnation at.expected.post at.posted);
  paths = λ incarnation item. path_of s j incarnation item h.expected;
  done = λ incarnation post at. done_of_over s j incarnation post h.expected at (h.over incarnation post at);
  by_epoch = λ before middle later e f w.
      pairs_at (λ e f. era_of s.eras e.incarnation ≤ era_of s.eras f.incarnation) before middle later e f
      (subst (Pairs (λ e f. era_of s.eras e.incarnation ≤ era_of s.eras f.incarnation)) w
      (grown_by_epoch s [] j h.expected));
  offered = λ incarnation post at. offered_of s j incarnation post h.expected at;
  by_batch = λ before later e post w at.
      let x : IsAt s j before e = at_split s j before later e h.expected w in
      subst (λ p. EarlierEnded s e.incarnation before (batch_of e.item (offers_at s e.incarnation p))
      (offers_at s e.incarnation p)) (same_post s j before e e.incarnation post x refl at) x.expected.in_hand;
}

longer : (own rest : List Entry) (e : Entry) → length own < length (own ++ e ∷ rest)
longer [] rest e = omega arith
longer (x ∷ own) rest e = let r : length own < length (own ++ e ∷ rest) = longer own rest e in omega arith

done_or_below : {F A : Type 0} (s : Setting F A) (j : List Entry) (incarnation : ℕ) (post : Post)
    (part : List Entry) → part_of incarnation j ≡ part → IsDone s j incarnation post →
    IsTrue (is_stopped post.actor part) ⊎ IsBelowStop post.actor part
done_or_below s j incarnation post part w (inl stopped) = inl (subst (λ p. is_stopped post.actor p ≡ true) w stopped)
done_or_below s j incarnation post part w (inr done) = inr (subst (IsBelowStop post.actor) w done.0)

over_of_done : {F A : Type 0} (s : Setting F A) (j : List Entry) (incarnation : ℕ) (post : Post) →
    IsDone s j incarnation post → IsOver s j incarnation post
over_of_done s j incarnation post (inl stopped) = inl stopped
over_of_done s j incarnation post (inr done) = inr done.1

-- a path asks for each of its entries
path_at : {F : Type 0} (machine : Machine F) (stand : Stand F) (xs ys : List Entry) (e : Entry) →
    IsPath machine stand (xs ++ e ∷ ys) → IsAsked machine (stand_after machine stand xs) e
path_at machine stand xs ys e h = (path-back machine stand xs (e ∷ ys) h).0

-- each entry of a run is expected where its post is known
expected_at_post : {F A : Type 0} (s : Setting F A) (j before later : List Entry) (e : Entry) (post : Post) →
    IsRun s j → j ≡ before ++ e ∷ later → slice_get (posts_of s j) e.incarnation ≡ Some post → IsExpected s before e
expected_at_post {F = F} s j before later e post run w at = record {
  post = post;
  posted = sym (posts_of-until s j before e.incarnation parts) ∙ at;
  running = running_before post.actor.stop (length (part_of e.incarnation before))
      (length (part_of e.incarnation before ++ e ∷ part_of e.incarnation later))
      (longer (part_of e.incarnation before) (part_of e.incarnation later) e)
      (done_or_below s j e.incarnation post (part_of e.incarnation before ++ e ∷ part_of e.incarnation later) part
      (run.done e.incarnation post at));
  earlier_over = λ i p q l. is_over-same s j before i p (parts i l)
      (over_of_done s j i p (run.done i p (posts_of-until s j before i (λ k m. parts k (omega arith)) ∙ q)));
  offered = each_at (λ f. IsOffered f.item (offers_at s e.incarnation post)) (part_of e.incarnation before)
      (part_of e.incarnation later) e
      (subst (AllByRecursion (λ f. IsOffered f.item (offers_at s e.incarnation post))) part
      (run.offered e.incarnation post at));
  in_hand = run.by_batch before later e post w at;
  asked = path_at machine begins (own_of e.incarnation e.item before) (own_of e.incarnation e.item later) e
      (subst (IsPath machine begins) (ap (own_of e.incarnation e.item) w ∙ own_split before later e)
      (paths_of_run s j run e.incarnation e.item));
}
  where
    machine : Machine F
    machine = s.scene.machine e.incarnation

    begins : Stand F
    begins = s.scene.begins e.incarnation e.item

    part : part_of e.incarnation j ≡ part_of e.incarnation before ++ e ∷ part_of e.incarnation later
    part = part_at before later e j w

    -- the entries from here on leave the parts of earlier epochs
    parts : (k : ℕ) → era_of s.eras k < era_of s.eras e.incarnation → part_of k j ≡ part_of k before
    parts k l = ap (part_of k) w ∙ part_of-earlier s (era_of s.eras e.incarnation) k before (e ∷ later) l (
      omega arith,
      each_of_splits (λ f. era_of s.eras e.incarnation ≤ era_of s.eras f.incarnation) later
          (λ middle last f q. run.by_epoch before middle last e f (w ∙ ap (λ l. before ++ e ∷ l) q)),
    )

-- each entry of a run is expected
pub expected_of_run : {F A : Type 0} (s : Setting F A) (j before later : List Entry) (e : Entry) → IsRun s j →
    j ≡ before ++ e ∷ later → IsExpected s before e
expected_of_run s j before later e run w =
    elim (slice_get_cases (posts_of s j) e.incarnation).1 [
      | inl some ↦ expected_at_post s j before later e some.0 run w some.2
      | inr past ↦
          let l : e.incarnation < length (posts_of s j) =
          each_at (λ f. f.incarnation < length (posts_of s j)) before later e
          (subst (AllByRecursion (λ f. f.incarnation < length (posts_of s j))) w run.of_actors) in
          let k : length (posts_of s j) ≤ e.incarnation = past.0 in
          absurd (omega arith)
    ]

-- and what is a run is one entry by entry
pub local_of_run : {F A : Type 0} (s : Setting F A) (j : List Entry) → IsRun s j → IsLocalRun s j
local_of_run s j run = record {
  in_order = run.in_order;
  in_shards = run.in_shards;
  legal = run.legal;
  expected = grown_of_splits (IsExpected s) [] j
      (λ before later e w. expected_of_run s j before later e run w);
  over = λ incarnation post at. over_of_done s j incarnation post (run.done incarnation post at);
}
