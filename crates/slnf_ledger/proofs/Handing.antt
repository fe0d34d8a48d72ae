-- What actors give to their lanes, one after another.
use Rattle.std.proofs.Common.{◌≡◌, inl, inr, ℕ, zero, suc, ◌+◌, ◌<◌, ◌≤◌, ◌==◌, if◌then◌else◌, Option, Some, None, List, [], ◌∷◌, ◌++◌, drop, length, set, get_or, slice_get, refl, sym, ap, ◌∙◌, arith, append-nil, eq-eqb, ne_eqb}
use Rattle.std.proofs.lemmas.Bool.{cases_eq, cond-true, cond-false}
use Rattle.std.proofs.lemmas.List.{append_assoc}
use Rattle.slnf_base.specs.declared.packets.Verdict.{Verdict}
use Rattle.slnf_access.specs.declared.requests.Entry.{Entry}
use Rattle.slnf_plan.specs.declared.plan.InstancePlan.{InstancePlan}
use Rattle.slnf_run.specs.Jobs.{Job}
use Rattle.slnf_instance.specs.Ends.{verdicts_in}
use Rattle.slnf_ledger.specs.Ledger.{verdicts_at, added_by, given_by, given_from}

put_own : {X : Type 0} (xs : List X) (k : ℕ) (x d : X) → k < length xs → get_or (set xs k x) k d ≡ x
put_own [] k x d l = absurd (omega arith)
put_own (y ∷ xs) zero x d l = refl
put_own (y ∷ xs) (suc k) x d l = put_own xs k x d (omega arith)

put_other : {X : Type 0} (xs : List X) (k n : ℕ) (x d : X) → (k ≡ n → ⊥) → get_or (set xs k x) n d ≡ get_or xs n d
put_other [] k n x d other = refl
put_other (y ∷ xs) zero zero x d other = absurd (other refl)
put_other (y ∷ xs) zero (suc n) x d other = refl
put_other (y ∷ xs) (suc k) zero x d other = refl
put_other (y ∷ xs) (suc k) (suc n) x d other = put_other xs k n x d (λ q. other (ap suc q))

-- verdicts that are added to a lane
pub added_to : (ledger : List (List Verdict)) (lane other : ℕ) (verdicts : List Verdict) → lane < length ledger →
    verdicts_at (set ledger lane (verdicts_at ledger lane ++ verdicts)) other
    ≡ verdicts_at ledger other ++ (if lane == other then verdicts else [])
added_to ledger lane other verdicts l =
    elim (cases_eq lane other) [
      | inl own ↦
          ap (λ n. verdicts_at (set ledger lane (verdicts_at ledger lane ++ verdicts)) n) (sym own)
          ∙ (put_own ledger lane (verdicts_at ledger lane ++ verdicts) [] l
          ∙ (ap (λ n. verdicts_at ledger n ++ verdicts) own
          ∙ ap (λ l. verdicts_at ledger other ++ l)
          (sym (cond-true (lane == other) verdicts [] (eq-eqb lane other own)))))
      | inr apart ↦
          put_other ledger lane other (verdicts_at ledger lane ++ verdicts) [] apart
          ∙ (sym (append-nil (verdicts_at ledger other))
          ∙ ap (λ l. verdicts_at ledger other ++ l)
          (sym (cond-false (lane == other) verdicts [] (ne_eqb lane other apart))))
    ]

-- the first of what is left
drop_first : {X : Type 0} (xs : List X) (k : ℕ) (o : Option X) → slice_get xs k ≡ o →
    drop k xs ≡ elim o [ None ↦ [] | Some x ↦ x ∷ drop (suc k) xs ]
drop_first [] zero None h = refl
drop_first [] (suc k) None h = refl
drop_first [] k (Some x) h = absurd (cc)
drop_first (y ∷ xs) zero None h = absurd (cc)
drop_first (y ∷ xs) zero (Some x) h = ap (λ o. elim o [ None ↦ [] | Some z ↦ z ∷ xs ]) h
drop_first (y ∷ xs) (suc k) None h = drop_first xs k None h
drop_first (y ∷ xs) (suc k) (Some x) h = drop_first xs k (Some x) h

none_behind : {X : Type 0} (xs : List X) (k : ℕ) → slice_get xs k ≡ None → drop (suc k) xs ≡ []
none_behind [] k h = refl
none_behind (x ∷ xs) zero h = absurd (cc)
none_behind (x ∷ xs) (suc k) h = none_behind xs k h

module _ {F : Type 0} (jobs : ℕ → InstancePlan → Job F) (owns : ℕ → List Entry) (lane : ℕ) where
  first_given : (instances : List InstancePlan) (number : ℕ) (verdicts : List Verdict) (o : Option InstancePlan) →
      slice_get instances number ≡ o →
      ((i : InstancePlan) → o ≡ Some i → verdicts ≡ verdicts_in (jobs number i) (owns number)) →
      given_from jobs owns number (drop number instances) lane
      ≡ added_by o verdicts lane ++ given_from jobs owns (number + 1) (drop (number + 1) instances) lane
  first_given instances number verdicts None at is =
      let next : suc number ≡ number + 1 = omega arith in
      ap (λ l. given_from jobs owns number l lane) (drop_first instances number None at)
      ∙ ap (λ l. given_from jobs owns (number + 1) l lane)
      (sym (ap (λ k. drop k instances) (sym next) ∙ none_behind instances number at))
  first_given instances number verdicts (Some i) at is =
      let next : suc number ≡ number + 1 = omega arith in
      ap (λ l. given_from jobs owns number l lane) (drop_first instances number (Some i) at)
      ∙ (ap (λ k. given_by (jobs number i) (owns number) i lane
      ++ given_from jobs owns (number + 1) (drop k instances) lane) next
      ∙ ap (λ l. added_by (Some i) l lane ++ given_from jobs owns (number + 1) (drop (number + 1) instances) lane)
      (sym (is i refl)))

  -- one actor less is left to give
  pub handed_step : (instances : List InstancePlan) (number : ℕ) (verdicts before after total : List Verdict) →
      after ≡ before ++ added_by (slice_get instances number) verdicts lane →
      ((i : InstancePlan) → slice_get instances number ≡ Some i →
      verdicts ≡ verdicts_in (jobs number i) (owns number)) →
      before ++ given_from jobs owns number (drop number instances) lane ≡ total →
      after ++ given_from jobs owns (number + 1) (drop (number + 1) instances) lane ≡ total
  handed_step instances number verdicts before after total more is h =
      let rest : List Verdict = given_from jobs owns (number + 1) (drop (number + 1) instances) lane in
      ap (λ l. l ++ rest) more
      ∙ (append_assoc before (added_by (slice_get instances number) verdicts lane) rest
      ∙ (ap (λ l. before ++ l)
      (sym (first_given instances number verdicts (slice_get instances number) refl is)) ∙ h))

-- what is left of a list begins with the element at the number
pub at_drop : {X : Type 0} (xs : List X) (k : ℕ) (x : X) (rest : List X) → drop k xs ≡ x ∷ rest →
    (slice_get xs k ≡ Some x) × (rest ≡ drop (k + 1) xs)
at_drop [] zero x rest h = absurd (cc)
at_drop [] (suc k) x rest h = absurd (cc)
at_drop (y ∷ xs) zero x rest h =
    (ap (λ l. slice_get l 0) h, sym (ap (λ l. drop 1 l) h))
at_drop (y ∷ xs) (suc k) x rest h =
    let q : k + 1 + 1 ≡ suc k + 1 = omega arith in
    let r : (slice_get xs k ≡ Some x) × (rest ≡ drop (k + 1) xs) = at_drop xs k x rest h in
    let up : suc (k + 1) ≡ suc k + 1 = omega arith in
    (r.0, r.1 ∙ ap (λ n. drop n (y ∷ xs)) up)

pub none_left : {X : Type 0} (xs : List X) (k : ℕ) → drop k xs ≡ [] → length xs ≤ k
none_left [] k h = omega arith
none_left (x ∷ xs) zero h = absurd (cc)
none_left (x ∷ xs) (suc k) h = let l : length xs ≤ k = none_left xs k h in omega arith

pub none_there : {X : Type 0} (xs : List X) (k : ℕ) → length xs ≤ k → slice_get xs k ≡ None
none_there [] k l = refl
none_there (x ∷ xs) zero l = absurd (omega arith)
none_there (x ∷ xs) (suc k) l = none_there xs k (omega arith)
