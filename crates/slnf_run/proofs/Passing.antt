-- Whole epochs that pass one after another: where the next one begins, and that all of them make the journal.
use Rattle.std.proofs.Common.{◌≡◌, inl, inr, ℕ, zero, suc, ◌+◌, ◌-◌, ◌<◌, List, [], ◌∷◌, ◌++◌, Some, length, drop, slice_get, refl, sym, ap, ◌∙◌, subst, subst₂, arith}
use Rattle.std.proofs.Math.Seq.{drop-length}
use Rattle.std.specs.List.{repeat}
use Rattle.std.proofs.lemmas.Bool.{cases_lt}
use Rattle.std.proofs.lemmas.Option.{same_Some}
use Rattle.slnf_access.specs.declared.requests.Entry.{Entry}
use Rattle.slnf_run.specs.Setting.{Era, Setting, base_of, era_of}
use Rattle.slnf_run.specs.Parts.{places_after}
use Rattle.slnf_run.specs.Scheduled.{Way, turn, turns, round, NobodyWants, Makes, in_order, IsScheduled}
use Rattle.slnf_run.proofs.Epochs.{era_of-first, era_of-later}
use Rattle.slnf_run.specs.SoFar.{Passes, HavePassed, IsSoFar}

-- a list from one of its elements on
pub drop_from : {X : Type 0} (xs : List X) (n : ℕ) (x : X) → slice_get xs n ≡ Some x → drop n xs
    ≡ x ∷ drop (suc n) xs
drop_from [] n x h = absurd (cc)
drop_from (y ∷ xs) zero x h = ap (λ z. z ∷ xs) (same_Some y x h)
drop_from (y ∷ xs) (suc n) x h = drop_from xs n x h

-- the next epoch begins behind this one's actors
pub base_of-next : (eras : List Era) (number : ℕ) (era : Era) → slice_get eras number ≡ Some era →
    base_of eras (suc number) ≡ base_of eras number + length era.actors
base_of-next [] number era h = absurd (cc)
base_of-next (e ∷ eras) zero era h =
    let same : length e.actors ≡ length era.actors = ap (λ (x : Era). length x.actors) (same_Some e era h) in
    omega arith
base_of-next (e ∷ eras) (suc number) era h =
    let rest : base_of eras (suc number) ≡ base_of eras number + length era.actors =
    base_of-next eras number era h in
    omega arith

-- incarnations before an epoch are of earlier ones
pub era_of-before : (eras : List Era) (number i : ℕ) → i < base_of eras number → era_of eras i < number
era_of-before eras zero i h = absurd (omega arith)
era_of-before [] (suc number) i h = absurd (omega arith)
era_of-before (era ∷ eras) (suc number) i h =
    elim (cases_lt i (length era.actors)) [
      | inl first ↦ let a : era_of (era ∷ eras) i ≡ 0 = era_of-first era eras i first in omega arith
      | inr later ↦
          let a : era_of (era ∷ eras) i ≡ era_of eras (i - length era.actors) + 1 = era_of-later era eras i later in
          let r : era_of eras (i - length era.actors) < number =
          era_of-before eras number (i - length era.actors) (omega arith) in
          omega arith
    ]

-- and an epoch's own are of it
pub era_of-here : (eras : List Era) (number k : ℕ) (era : Era) → slice_get eras number ≡ Some era →
    k < length era.actors → era_of eras (base_of eras number + k) ≡ number
era_of-here [] number k era at l = absurd (cc)
era_of-here (e ∷ eras) zero k era at l =
    let same : length e.actors ≡ length era.actors = ap (λ (x : Era). length x.actors) (same_Some e era at) in
    let q : 0 + k ≡ k = omega arith in
    ap (era_of (e ∷ eras)) q ∙ era_of-first e eras k (omega arith)
era_of-here (e ∷ eras) (suc number) k era at l =
    let q : length e.actors + base_of eras number + k - length e.actors ≡ base_of eras number + k = omega arith in
    let r : era_of eras (base_of eras number + k) ≡ number = era_of-here eras number k era at l in
    era_of-later e eras (length e.actors + base_of eras number + k) (omega arith)
    ∙ (ap (λ n. era_of eras n + 1) q ∙ (omega arith))

-- turns in two parts
pub turns-append : {F A : Type 0} (s : Setting F A) (way : Way) (base : ℕ) (places : ℕ → ℕ) (era : Era)
    (xs ys : List ℕ) (es : List Entry) → turns s way base places era (xs ++ ys) es
    ≡ turns s way base places era ys (turns s way base places era xs es)
turns-append s way base places era [] ys es = refl
turns-append s way base places era (x ∷ xs) ys es =
    turns-append s way base places era xs ys (turn s way base places era es x)

module _ {F A : Type 0} (s : Setting F A) (way : Way) where
  -- before the first epoch
  pub passed_none : HavePassed s way 0 0 (λ lane. 0) []
  passed_none = (refl, λ lane. refl, refl)

  -- one more epoch, after which lanes have come so far
  pub passed_next : (number base : ℕ) (places next : ℕ → ℕ) (es m : List Entry) (era : Era) →
      HavePassed s way number base places es → slice_get s.eras number ≡ Some era →
      Passes s way base places era es m → ((lane : ℕ) → next lane ≡ places_after s m base places era lane) →
      HavePassed s way (number + 1) (base + length era.actors) next m
  passed_next number base places next es m era h at passes far =
      let q : suc number ≡ number + 1 = omega arith in
      subst (λ n. HavePassed s way n (base + length era.actors) next m) q
      (base, places, era, es, h, at, passes, refl, far)

  pub passed_base : (number base : ℕ) (places : ℕ → ℕ) (m : List Entry) → HavePassed s way number base places m →
      base ≡ base_of s.eras number
  passed_base zero base places m h = h.0
  passed_base (suc number) base places m h =
      let rest : h.0 ≡ base_of s.eras number = passed_base number h.0 h.1 h.3 h.4 in
      let next : base_of s.eras (suc number) ≡ base_of s.eras number + length h.2.actors =
      base_of-next s.eras number h.2 h.5 in
      let here : base ≡ h.0 + length h.2.actors = h.7 in
      omega arith

  -- what the schedule makes from here it makes from the start
  pub passed_goes_on : (number base : ℕ) (places : ℕ → ℕ) (es m : List Entry) →
      HavePassed s way number base places es → Makes s way base places (drop number s.eras) es m →
      Makes s way 0 (λ lane. 0) s.eras [] m
  passed_goes_on zero base places es m h makes =
      let none : places ≡ (λ lane. 0) = λ i lane. h.1 lane i in
      subst (λ l. Makes s way 0 (λ lane. 0) s.eras l m) h.2
      (subst₂ (λ b p. Makes s way b p s.eras es m) h.0 none makes)
  passed_goes_on (suc number) base places es m h makes =
      let first : ℕ = h.0 in
      let from : ℕ → ℕ = h.1 in
      let era : Era = h.2 in
      let passes : Passes s way first from era h.3 es = h.6 in
      let after : List Entry = turns s way first from era (era.schedule ++ repeat passes.rounds (round era)) h.3 in
      let far : places ≡ places_after s es first from era = λ i lane. h.8 lane i in
      let rest : Makes s way (first + length era.actors) (places_after s es first from era) (drop (suc number) s.eras)
      es m = subst₂ (λ b p. Makes s way b p (drop (suc number) s.eras) es m) h.7 far makes in
      passed_goes_on number first from h.3 m h.4
      (subst (λ eras. Makes s way first from eras h.3 m) (sym (drop_from s.eras number era h.5)) (
        passes.rounds,
        (
          subst (λ l. NobodyWants s way.comes_before from l first era.actors) passes.turned passes.nothing,
          subst (λ l. Makes s way (first + length era.actors) (places_after s l first from era)
              (drop (suc number) s.eras) l m) passes.turned rest,
        ),
      ))

  -- where all have passed, their accesses in order are the journal
  pub passed_all : (base : ℕ) (places : ℕ → ℕ) (m : List Entry) → HavePassed s way (length s.eras) base places m →
      Makes s way 0 (λ lane. 0) s.eras [] m
  passed_all base places m h =
      passed_goes_on (length s.eras) base places m m h
      (subst (λ eras. Makes s way base places eras m m) (sym (drop-length s.eras)) refl)

  pub scheduled_of_passed : (base : ℕ) (places : ℕ → ℕ) (m : List Entry) →
      HavePassed s way (length s.eras) base places m → IsScheduled s way (in_order m)
  scheduled_of_passed base places m h = record { accesses = m; made = passed_all base places m h; sorted = refl }

  -- An epoch begins,
  pub so_far_of_passed : (number base : ℕ) (places : ℕ → ℕ) (m : List Entry) (era : Era) →
      HavePassed s way number base places m → slice_get s.eras number ≡ Some era →
      IsSoFar s way number base places m
  so_far_of_passed number base places m era h at =
      record { begun = m; passed = h; era = era; at = at; numbers = []; turned = refl }

  -- and goes on turn by turn.
  pub so_far_turns : (number base : ℕ) (places : ℕ → ℕ) (m : List Entry) (era : Era) (numbers : List ℕ) →
      IsSoFar s way number base places m → slice_get s.eras number ≡ Some era →
      IsSoFar s way number base places (turns s way base places era numbers m)
  so_far_turns number base places m era numbers h at =
      let same : h.era ≡ era = same_Some h.era era (sym h.at ∙ at) in
      record {
        begun = h.begun;
        passed = h.passed;
        era = era;
        at = at;
        numbers = h.numbers ++ numbers;
        turned = ap (turns s way base places era numbers) (h.turned
            ∙ ap (λ e. turns s way base places e h.numbers h.begun) same)
            ∙ sym (turns-append s way base places era h.numbers numbers h.begun);
      }

  pub so_far_turn : (number base : ℕ) (places : ℕ → ℕ) (m : List Entry) (era : Era) (k : ℕ) →
      IsSoFar s way number base places m → slice_get s.eras number ≡ Some era →
      IsSoFar s way number base places (turn s way base places era m k)
  so_far_turn number base places m era k h at = so_far_turns number base places m era (k ∷ []) h at
