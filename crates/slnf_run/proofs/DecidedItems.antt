-- A packet that has a verdict after a list is decided at an entry of it.
use Rattle.std.proofs.Common.{◌≡◌, ◌⊎◌, inl, inr, ℕ, zero, suc, ◌≤◌, Bool, true, false, cond, ◌==◌, Option, Some, None, List, [], ◌∷◌, ◌++◌, length, take, slice_get, refl, ap, sym, ◌∙◌, subst, arith}
use Rattle.std.proofs.lemmas.Bool.{eqb-true, and_parts}
use Rattle.std.proofs.lemmas.Option.{same_Some}
use Rattle.slnf_base.specs.declared.packets.Verdict.{Verdict}
use Rattle.slnf_access.specs.declared.requests.Entry.{Entry}
use Rattle.slnf_access.specs.Machines.{Flies, stand_step, stand_after, decided_at}
use Rattle.slnf_run.specs.Scene.{Scene, is_of, stand_of}
use Rattle.slnf_run.specs.Visits.{Decision, newly, decision_of, decision_at}
use Rattle.slnf_run.specs.Steady.{IsSteady}
use Rattle.slnf_run.proofs.Splits.{IsSplit, split_at}
use Rattle.slnf_run.proofs.DecidedOnce.{stand_of-append, stand_of-own, steady_step}

-- the item is decided at an entry of its own
pub record IsDecidedAt {F A : Type 0} (s : Scene F A) (es : List Entry) (i k d : ℕ) (first : F)
    (verdict : Verdict) : Type 0 where
  pub entry : Entry
  pub there : slice_get es d ≡ Some entry
  pub own_incarnation : entry.incarnation ≡ i
  pub own_item : entry.item ≡ k
  pub decision : decision_at s es d ≡ Some (record { first = first; verdict = verdict })

take_all : {X : Type 0} (xs : List X) → take (length xs) xs ≡ xs
take_all [] = refl
take_all (x ∷ xs) = ap (λ l. x ∷ l) (take_all xs)

module _ {F A : Type 0} (s : Scene F A) (es : List Entry) (i k : ℕ) (first : F) (steady : (j : ℕ) →
    IsSteady (s.machine j)) (began : s.begins i k ≡ Flies first) (undecided : (s.machine i).decided first
    ≡ None) where
  -- undecided so far, or decided at an entry
  abbrev pub SoFar : ℕ → Type 0
  SoFar t =
      (decided_at (s.machine i) (stand_of s i k (take t es)) ≡ None)
      ⊎ ((d : ℕ) × (verdict : Verdict) × IsDecidedAt s es i k d first verdict
      × (decided_at (s.machine i) (stand_of s i k (take t es)) ≡ Some verdict))

  so_far : (t : ℕ) → t ≤ length es → SoFar t
  so_far zero h = inl (ap (decided_at (s.machine i)) began ∙ undecided)
  so_far (suc t) h = go (split_at es t h) (so_far t (omega arith))
    where
      go : (e : Entry) × IsSplit es t e → SoFar t → SoFar (suc t)
      go r was = by (is_of i k r.0) refl was
        where
          e : Entry
          e = r.0

          other : is_of i k r.0 ≡ false → stand_of s i k (take (suc t) es) ≡ stand_of s i k (take t es)
          other w = ap (stand_of s i k) r.1.front ∙ stand_of-append s i k (take t es) (r.0 ∷ [])
              ∙ ap (λ b. stand_after (s.machine i) (stand_of s i k (take t es)) (cond b (r.0 ∷ []) [])) w

          own : r.0.incarnation ≡ i → r.0.item ≡ k → stand_of s i k (take (suc t) es)
              ≡ stand_step (s.machine i) (stand_of s i k (take t es)) r.0
          own a b =
              ap (stand_of s i k) r.1.front
              ∙ subst (λ j. stand_of s j k (take t es ++ r.0 ∷ [])
              ≡ stand_step (s.machine j) (stand_of s j k (take t es)) r.0) a
              (subst (λ l. stand_of s r.0.incarnation l (take t es ++ r.0 ∷ [])
              ≡ stand_step (s.machine r.0.incarnation) (stand_of s r.0.incarnation l (take t es)) r.0) b
              (stand_of-own s (take t es) r.0))

          new : r.0.incarnation ≡ i → r.0.item ≡ k → decided_at (s.machine i) (stand_of s i k (take t es)) ≡ None →
              (o : Option Verdict) → decided_at (s.machine i)
              (stand_step (s.machine i) (stand_of s i k (take t es)) r.0) ≡ o → SoFar (suc t)
          new a b none None w = inl (ap (decided_at (s.machine i)) (own a b) ∙ w)
          new a b none (Some v) w =
              let at : decision_at s es t ≡ decision_of (s.begins r.0.incarnation r.0.item)
              (newly (decided_at (s.machine r.0.incarnation) (stand_of s r.0.incarnation r.0.item (take t es)))
              (decided_at (s.machine r.0.incarnation)
              (stand_step (s.machine r.0.incarnation) (stand_of s r.0.incarnation r.0.item (take t es)) r.0))) =
              rw r.1.at refl in
              let mine : decision_of (s.begins i k) (newly (decided_at (s.machine i) (stand_of s i k (take t es)))
              (decided_at (s.machine i) (stand_step (s.machine i) (stand_of s i k (take t es)) r.0)))
              ≡ Some (record { first = first; verdict = v }) =
              ap (λ st. decision_of st (newly (decided_at (s.machine i) (stand_of s i k (take t es)))
              (decided_at (s.machine i) (stand_step (s.machine i) (stand_of s i k (take t es)) r.0)))) began
              ∙ ap (λ o. decision_of (Flies first) (newly o
              (decided_at (s.machine i) (stand_step (s.machine i) (stand_of s i k (take t es)) r.0)))) none
              ∙ ap (decision_of (Flies first)) w in
              let D : ℕ → ℕ → Option (Decision F) = λ j l.
              decision_of (s.begins j l) (newly (decided_at (s.machine j) (stand_of s j l (take t es)))
              (decided_at (s.machine j) (stand_step (s.machine j) (stand_of s j l (take t es)) r.0))) in
              inr (
                t,
                v,
                record {
                  entry = r.0;
                  there = r.1.at;
                  own_incarnation = a;
                  own_item = b;
                  decision = at ∙ ap (λ j. D j r.0.item) a ∙ ap (D i) b ∙ mine;
                },
                ap (decided_at (s.machine i)) (own a b) ∙ w,
              )

          by : (b : Bool) → is_of i k r.0 ≡ b → SoFar t → SoFar (suc t)
          by false w (inl none) = inl (ap (decided_at (s.machine i)) (other w) ∙ none)
          by false w (inr p) = inr (p.0, p.1, p.2, ap (decided_at (s.machine i)) (other w) ∙ p.3)
          by true w (inl none) =
              let parts : ((r.0.incarnation == i) ≡ true) × ((r.0.item == k) ≡ true) =
              and_parts (r.0.incarnation == i) (r.0.item == k) w in
              new (eqb-true _ _ parts.0) (eqb-true _ _ parts.1) none
              (decided_at (s.machine i) (stand_step (s.machine i) (stand_of s i k (take t es)) r.0)) refl
          by true w (inr p) =
              let parts : ((r.0.incarnation == i) ≡ true) × ((r.0.item == k) ≡ true) =
              and_parts (r.0.incarnation == i) (r.0.item == k) w in
              inr (
                p.0,
                p.1,
                p.2,
                ap (decided_at (s.machine i)) (own (eqb-true _ _ parts.0) (eqb-true _ _ parts.1))
                    ∙ steady_step (s.machine i) (steady i) (stand_of s i k (take t es)) r.0 p.1 p.3,
              )

  -- A packet with a verdict is decided so at one of its entries.
  pub decided_somewhere : (verdict : Verdict) → decided_at (s.machine i) (stand_of s i k es) ≡ Some verdict → (d : ℕ)
      × IsDecidedAt s es i k d first verdict
  decided_somewhere verdict h = go (so_far (length es) (omega arith))
    where
      go : SoFar (length es) → (d : ℕ) × IsDecidedAt s es i k d first verdict
      go (inl none) = let whole : decided_at (s.machine i) (stand_of s i k es) ≡ None =
          ap (λ l. decided_at (s.machine i) (stand_of s i k l)) (sym (take_all es)) ∙ none in absurd (cc)
      go (inr p) =
          let same : p.1 ≡ verdict = same_Some p.1 verdict (sym p.3
          ∙ ap (λ l. decided_at (s.machine i) (stand_of s i k l)) (take_all es) ∙ h) in
          (p.0, subst (IsDecidedAt s es i k p.0 first) same p.2)
