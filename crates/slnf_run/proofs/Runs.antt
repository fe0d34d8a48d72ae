-- Runs: a box that keeps up explains them, and what is written of a packet is what was decided.
use Rattle.std.proofs.Common.{◌≡◌, ◌⊎◌, inl, inr, ℕ, ◌-◌, Bool, true, false, cond, ◌==◌, ◌&&◌, Option, Some, None, List, [], ◌∷◌, ◌++◌, length, take, drop, slice_get, refl, ap, sym, ◌∙◌, subst, subst₂, eqb-true, append-nil, take-append-drop}
use Rattle.std.proofs.Math.Seq.{take-append_seam}
use Rattle.std.specs.Option.{option_and_then}
use Rattle.std.proofs.lemmas.Bool.{and_parts}
use Rattle.std.proofs.lemmas.List.Elements.{filter-append}
use Rattle.std.proofs.lemmas.Option.{same_Some}
use Rattle.slnf_base.specs.declared.packets.Verdict.{Verdict}
use Rattle.slnf_base.specs.declared.packets.Verdict.TheVariants.{Lost}
use Rattle.slnf_access.specs.declared.requests.Entry.{Entry}
use Rattle.slnf_access.specs.Map.{Cells}
use Rattle.slnf_access.specs.Machines.{Machine, Stand, Flies, Ends, stand_step, stand_after, IsPath, decided_at}
use Rattle.slnf_access.proofs.Laws.{stand_after-append}
use Rattle.slnf_run.specs.Scene.{Scene, is_of, own_of, stand_of}
use Rattle.slnf_run.specs.Visits.{newly, decided_by, decision_of, decision_at}
use Rattle.slnf_run.specs.Boxes.{Box, IsExplained}
use Rattle.slnf_run.specs.Steady.{IsSteady}
use Rattle.slnf_run.specs.Setting.{Setting}
use Rattle.slnf_run.specs.Parts.{part_of, of_item, is_stopped, Post}
use Rattle.slnf_run.specs.Verdicts.{counted, verdict_at, verdict_by}
use Rattle.slnf_run.specs.Run.{IsRun}
use Rattle.slnf_run.specs.Keeps.{HasPaths, Keeps, Recalled}
use Rattle.slnf_run.proofs.Splits.{slice_get-split}
use Rattle.slnf_run.proofs.DecidedOnce.{stand_of-own, steady_step}
use Rattle.slnf_run.proofs.NextAccess.{stand_after-ended}
use Rattle.slnf_run.proofs.KeepingBoxes.{recalled_explained}
use Rattle.slnf_run.proofs.Counting.{prefix_induction}
use Rattle.slnf_access.proofs.Orders.{rises_in_order}

-- an item's entries in its incarnation's part
pub own_in_part : (i k : ℕ) (es : List Entry) → of_item k (part_of i es) ≡ own_of i k es
own_in_part i k [] = refl
own_in_part i k (e ∷ es) = go (e.incarnation == i) (e.item == k) refl (own_in_part i k es)
  where
    go : (a b : Bool) → (e.item == k) ≡ b → of_item k (part_of i es) ≡ own_of i k es →
        of_item k (cond a (e ∷ part_of i es) (part_of i es)) ≡ cond (a && b) (e ∷ own_of i k es) (own_of i k es)
    go true true w r = ap (λ c. cond c (e ∷ of_item k (part_of i es)) (of_item k (part_of i es))) w
        ∙ ap (λ xs. e ∷ xs) r
    go true false w r = ap (λ c. cond c (e ∷ of_item k (part_of i es)) (of_item k (part_of i es))) w ∙ r
    go false b w r = r

-- a run is one of paths
pub paths_of_run : {F A : Type 0} (s : Setting F A) (j : List Entry) → IsRun s j → HasPaths s.scene j
paths_of_run s j run i k = subst (IsPath (s.scene.machine i) (s.scene.begins i k)) (own_in_part i k j) (run.paths i k)

-- A box that keeps up with its machines explains each run.
pub run_explained : {F A C : Type 0} (s : Setting F A) (box : Box A C) (Same : C → Cells → Type 0) (j : List Entry) →
    Keeps s.scene box Same Recalled → IsRun s j → IsExplained s.scene box Same j
run_explained s box Same j keeps run =
    recalled_explained s.scene box Same j keeps (rises_in_order s.shards j run.in_order run.in_shards) run.legal
    (paths_of_run s j run)

-- the decision at an entry, by where its item stands
decision_of_entry : {F A : Type 0} (s : Scene F A) (es before later : List Entry) (e : Entry) → es ≡ before
    ++ e ∷ later → decision_at s es (length before)
    ≡ decision_of (s.begins e.incarnation e.item) (decided_by s before e)
decision_of_entry s es before later e split =
    ap (option_and_then (λ f. decision_of (s.begins f.incarnation f.item) (decided_by s (take (length before) es) f)))
    (ap (λ xs. slice_get xs (length before)) split ∙ slice_get-split before later e)
    ∙ ap (λ xs. decision_of (s.begins e.incarnation e.item) (decided_by s xs e)) (ap (take (length before)) split
    ∙ take-append_seam before (e ∷ later))

-- A verdict that an item comes to, and that wasn't decided at first, was decided at an entry.
pub was_decided : {F A : Type 0} (s : Scene F A) (es : List Entry) (i k : ℕ) (first : F) (v : Verdict) →
    ((i : ℕ) → IsSteady (s.machine i)) → s.begins i k ≡ Flies first → (s.machine i).decided first ≡ None →
    decided_at (s.machine i) (stand_of s i k es) ≡ Some v → (d : ℕ)
    × (decision_at s es d ≡ Some (record { first = first; verdict = v }))
was_decided {F = F} s es i k first v steady begins unmade now =
    last (prefix_induction (λ xs. Far i k xs) es (inl (ap (decided_at (s.machine i)) begins ∙ unmade)) step) now
  where
    Far : ℕ → ℕ → List Entry → Type 0
    Far i k xs = (decided_at (s.machine i) (stand_of s i k xs) ≡ None)
        ⊎ ((u : Verdict) × (d : ℕ) × (decided_at (s.machine i) (stand_of s i k xs) ≡ Some u)
        × (decision_at s es d ≡ Some (record { first = first; verdict = u })))

    last : (decided_at (s.machine i) (stand_of s i k es) ≡ None)
        ⊎ ((u : Verdict) × (d : ℕ) × (decided_at (s.machine i) (stand_of s i k es) ≡ Some u)
        × (decision_at s es d ≡ Some (record { first = first; verdict = u }))) →
        decided_at (s.machine i) (stand_of s i k es) ≡ Some v → (d : ℕ)
        × (decision_at s es d ≡ Some (record { first = first; verdict = v }))
    last (inl h) now = cc
    last (inr r) now =
        let same : r.0 ≡ v = same_Some r.0 v (sym r.2 ∙ now) in
        (r.1, r.3 ∙ ap (λ u. Some (record { first = first; verdict = u })) same)

    mine : (before later : List Entry) (e : Entry) → es ≡ before ++ e ∷ later → s.begins e.incarnation e.item
        ≡ Flies first → Far e.incarnation e.item before → Far e.incarnation e.item (before ++ e ∷ [])
    mine before later e split begins (inl none) =
        go (decided_at m (stand_of s e.incarnation e.item (before ++ e ∷ []))) refl
      where
        m : Machine F
        m = s.machine e.incarnation

        go : (o : Option Verdict) → decided_at (s.machine e.incarnation)
            (stand_of s e.incarnation e.item (before ++ e ∷ [])) ≡ o → Far e.incarnation e.item (before ++ e ∷ [])
        go None w = inl w
        go (Some u) w =
            let stepped : decided_at (s.machine e.incarnation)
            (stand_step (s.machine e.incarnation) (stand_of s e.incarnation e.item before) e) ≡ Some u =
            ap (decided_at (s.machine e.incarnation)) (sym (stand_of-own s before e)) ∙ w in
            let newly_so : decided_by s before e ≡ Some u =
            ap (λ o. newly o (decided_at (s.machine e.incarnation)
            (stand_step (s.machine e.incarnation) (stand_of s e.incarnation e.item before) e))) none ∙ stepped in
            inr (
              u,
              length before,
              w,
              decision_of_entry s es before later e split
                  ∙ ap (λ st. decision_of st (decided_by s before e)) begins ∙ ap (decision_of (Flies first)) newly_so,
            )
    mine before later e split begins (inr r) =
        inr (
          r.0,
          r.1,
          ap (decided_at (s.machine e.incarnation)) (stand_of-own s before e)
              ∙ steady_step (s.machine e.incarnation) (steady e.incarnation)
              (stand_of s e.incarnation e.item before) e r.0 r.2,
          r.3,
        )

    step : (before later : List Entry) (e : Entry) → es ≡ before ++ e ∷ later → Far i k before →
        Far i k (before ++ e ∷ [])
    step before later e split far = go (is_of i k e) refl
      where
        go : (b : Bool) → is_of i k e ≡ b → Far i k (before ++ e ∷ [])
        go true w =
            let parts : ((e.incarnation == i) ≡ true) × ((e.item == k) ≡ true) =
            and_parts (e.incarnation == i) (e.item == k) w in
            subst₂ (λ a b. s.begins a b ≡ Flies first → Far a b before → Far a b (before ++ e ∷ []))
            (eqb-true e.incarnation i parts.0) (eqb-true e.item k parts.1) (mine before later e split) begins far
        go false w =
            let same : own_of i k (before ++ e ∷ []) ≡ own_of i k before = filter-append (is_of i k) before (e ∷ [])
            ∙ ap (λ b. own_of i k before ++ cond b (e ∷ []) []) w ∙ append-nil (own_of i k before) in
            let stands : stand_of s i k (before ++ e ∷ []) ≡ stand_of s i k before =
            ap (stand_after (s.machine i) (s.begins i k)) same in
            stay (ap (decided_at (s.machine i)) stands) far
          where
            stay : decided_at (s.machine i) (stand_of s i k (before ++ e ∷ []))
                ≡ decided_at (s.machine i) (stand_of s i k before) → Far i k before → Far i k (before ++ e ∷ [])
            stay same (inl h) = inl (same ∙ h)
            stay same (inr r) = inr (r.0, r.1, same ∙ r.2, r.3)

-- what is reached by the entries that count is reached by all
pub counted_ended : {F : Type 0} (m : Machine F) (st : Stand F) (k : ℕ) (stopped : Bool) (part : List Entry)
    (v : Option Verdict) → stand_after m st (of_item k (counted stopped part)) ≡ Ends v →
    stand_after m st (of_item k part) ≡ Ends v
counted_ended m st k false part v h = h
counted_ended m st k true part v h =
    let n : ℕ = length part - 1 in
    let whole : of_item k part ≡ of_item k (take n part) ++ of_item k (drop n part) =
    ap (of_item k) (sym (take-append-drop n part))
    ∙ filter-append (λ e. e.item == k) (take n part) (drop n part) in
    ap (stand_after m st) whole
    ∙ stand_after-append m st (of_item k (take n part)) (of_item k (drop n part))
    ∙ ap (λ now. stand_after m now (of_item k (drop n part))) h
    ∙ stand_after-ended m v (of_item k (drop n part))

-- A packet that begins with an access is lost, or what is written of it was decided at an entry.
pub written : {F A : Type 0} (s : Setting F A) (j : List Entry) (i k : ℕ) (post : Post) (first : F) →
    ((i : ℕ) → IsSteady (s.scene.machine i)) → s.scene.begins i k ≡ Flies first → (s.scene.machine i).decided first
    ≡ None → (verdict_by s j i post k ≡ Lost) ⊎ ((d : ℕ)
    × (decision_at s.scene j d ≡ Some (record { first = first; verdict = verdict_by s j i post k })))
written {F = F} s j i k post first steady begins unmade =
    go (stand_after (s.scene.machine i) (s.scene.begins i k)
    (of_item k (counted (is_stopped post.actor (part_of i j)) (part_of i j)))) refl
  where
    go : (now : Stand F) → stand_after (s.scene.machine i) (s.scene.begins i k)
        (of_item k (counted (is_stopped post.actor (part_of i j)) (part_of i j))) ≡ now → (verdict_at now ≡ Lost)
        ⊎ ((d : ℕ) × (decision_at s.scene j d ≡ Some (record { first = first; verdict = verdict_at now })))
    go (Flies f) w = inl refl
    go (Ends None) w = inl refl
    go (Ends (Some v)) w =
        let whole : stand_of s.scene i k j ≡ Ends (Some v) =
        ap (stand_after (s.scene.machine i) (s.scene.begins i k)) (sym (own_in_part i k j))
        ∙ counted_ended (s.scene.machine i) (s.scene.begins i k) k (is_stopped post.actor (part_of i j))
        (part_of i j) (Some v) w in
        inr (was_decided s.scene j i k first v steady begins unmade (ap (decided_at (s.scene.machine i)) whole))
