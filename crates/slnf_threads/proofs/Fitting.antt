-- No lane comes farther than its packets.
use Rattle.std.proofs.Common.{◌≡◌, ℕ, suc, ◌+◌, ◌≤◌, ◌==◌, Bool, true, false, Some, List, [], ◌∷◌, length, slice_get, refl, sym, ap, ◌∙◌, subst, arith, eqb-true}
use Rattle.std.proofs.lemmas.Bool.{cond-true, cond-false}
use Rattle.std.proofs.lemmas.List.{length-append}
use Rattle.slnf_base.specs.declared.packets.Verdict.{Verdict}
use Rattle.slnf_access.specs.declared.requests.Entry.{Entry}
use Rattle.slnf_plan.specs.declared.plan.InstancePlan.{InstancePlan}
use Rattle.slnf_run.specs.Jobs.{Job}
use Rattle.slnf_instance.specs.Ends.{verdicts_in}
use Rattle.slnf_ledger.specs.Ledger.{given_by, given_from}

-- no two of these are on one lane
abbrev pub AreApart : List InstancePlan → Type 0
AreApart instances = (a b : ℕ) (i j : InstancePlan) → slice_get instances a ≡ Some i → slice_get instances b ≡ Some j →
    i.lane ≡ j.lane → a ≡ b

apart_rest : (i : InstancePlan) (instances : List InstancePlan) → AreApart (i ∷ instances) → AreApart instances
apart_rest i instances apart a b x y x_at y_at same =
    let q : suc a ≡ suc b = apart (suc a) (suc b) x y x_at y_at same in omega (arith, q)

module _ {F : Type 0} (jobs : ℕ → InstancePlan → Job F) (owns : ℕ → List Entry) (lane : ℕ) where
  -- how many packets the actor with this number took
  abbrev pub took_by : ℕ → InstancePlan → ℕ
  took_by number i = length (verdicts_in (jobs number i) (owns number))

  -- those that aren't on the lane give nothing to it
  none_given : (number : ℕ) (instances : List InstancePlan) →
      ((k : ℕ) (i : InstancePlan) → slice_get instances k ≡ Some i → i.lane ≡ lane → ⊥) →
      length (given_from jobs owns number instances lane) ≡ 0
  none_given number [] none = refl
  none_given number (i ∷ instances) none =
      let mine : List Verdict = given_by (jobs number i) (owns number) i lane in
      let rest : length (given_from jobs owns (number + 1) instances lane) ≡ 0 =
      none_given (number + 1) instances (λ k j at on. none (suc k) j at on) in
      length-append mine (given_from jobs owns (number + 1) instances lane)
      ∙ (by_test (i.lane == lane) refl (length (given_from jobs owns (number + 1) instances lane)) rest)
    where
      by_test : (b : Bool) → (i.lane == lane) ≡ b → (n : ℕ) → n ≡ 0 →
          length (given_by (jobs number i) (owns number) i lane) + n ≡ 0
      by_test true on n rest = absurd (none 0 i refl (eqb-true i.lane lane on))
      by_test false off n rest =
          let first : length (given_by (jobs number i) (owns number) i lane) ≡ 0 =
          ap length (cond-false (i.lane == lane) (verdicts_in (jobs number i) (owns number)) [] off) in
          omega (arith, first, rest)

  -- what is given to a lane is at most what there is room for
  pub given_within : (room : ℕ → ℕ) (number : ℕ) (instances : List InstancePlan) → AreApart instances →
      ((k : ℕ) (i : InstancePlan) → slice_get instances k ≡ Some i → took_by (number + k) i ≤ room i.lane) →
      length (given_from jobs owns number instances lane) ≤ room lane
  given_within room number [] apart h = omega arith
  given_within room number (i ∷ instances) apart h =
      let rest : List Verdict = given_from jobs owns (number + 1) instances lane in
      let all : length (given_from jobs owns number (i ∷ instances) lane)
      ≡ length (given_by (jobs number i) (owns number) i lane) + length rest =
      length-append (given_by (jobs number i) (owns number) i lane) rest in
      let most : length (given_by (jobs number i) (owns number) i lane) + length rest ≤ room lane =
      by_test (i.lane == lane) refl (length rest)
      (λ same. none_given (number + 1) instances (λ k j at on.
      let q : 0 ≡ suc k = apart 0 (suc k) i j refl at (same ∙ sym on) in omega (arith, q)))
      (given_within room (number + 1) instances (apart_rest i instances apart)
      (λ k j at. let q : number + suc k ≡ number + 1 + k = omega arith in
      subst (λ n. took_by n j ≤ room j.lane) q (h (suc k) j at))) in
      omega (arith, all, most)
    where
      here : took_by number i ≤ room i.lane
      here = let q : number + 0 ≡ number = omega arith in subst (λ n. took_by n i ≤ room i.lane) q (h 0 i refl)

      by_test : (b : Bool) → (i.lane == lane) ≡ b → (n : ℕ) → (i.lane ≡ lane → n ≡ 0) → n ≤ room lane →
          length (given_by (jobs number i) (owns number) i lane) + n ≤ room lane
      by_test true on n none rest =
          let same : i.lane ≡ lane = eqb-true i.lane lane on in
          let first : length (given_by (jobs number i) (owns number) i lane) ≡ took_by number i =
          ap length (cond-true (i.lane == lane) (verdicts_in (jobs number i) (owns number)) [] on) in
          let there : room i.lane ≡ room lane = ap room same in
          omega (arith, first, none same, here, there)
      by_test false off n none rest =
          let first : length (given_by (jobs number i) (owns number) i lane) ≡ 0 =
          ap length (cond-false (i.lane == lane) (verdicts_in (jobs number i) (owns number)) [] off) in
          omega (arith, first, rest)
