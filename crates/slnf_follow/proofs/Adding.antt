-- What the actors took, added lane by lane.
use Rattle.std.proofs.Common.{◌≡◌, inl, inr, ℕ, zero, suc, ◌+◌, ◌-◌, ◌*◌, ◌^◌, ◌<◌, ◌==◌, if◌then◌else◌, Some, None, List, [], ◌∷◌, length, drop, set, slice_get, sym, ap, ap₂, ◌∙◌, subst, arith, eq-eqb, ne_eqb}
use Rattle.std.proofs.lemmas.Bool.{cases_eq, cond-true, cond-false}
use Rattle.std.proofs.lemmas.List.{get_or-set_same, get_or-set_other}
use Rattle.std.proofs.lemmas.Option.{same_Some}
use Rattle.slnf_plan.specs.declared.plan.InstancePlan.{InstancePlan}
use Rattle.slnf_hand.specs.Hands.{Followed, taken}
use Rattle.slnf_follow.specs.Follows.{come_to, taken_on}

rest_drop : {G F : Type 0} (lane n : ℕ) (instances : List InstancePlan) (hands : List (Followed G F)) (i : InstancePlan)
    (hand : Followed G F) → slice_get instances n ≡ Some i → slice_get hands n ≡ Some hand →
    taken_on lane (drop n instances) (drop n hands)
    ≡ (if i.lane == lane then taken hand else 0) + taken_on lane (drop (n + 1) instances) (drop (n + 1) hands)
rest_drop lane n [] hands i hand at there = absurd (cc)
rest_drop lane n (x ∷ instances) [] i hand at there = absurd (cc)
rest_drop {G} {F} lane zero (x ∷ instances) (y ∷ hands) i hand at there =
    ap₂ (λ (j : InstancePlan) (h : Followed G F). (if j.lane == lane then taken h else 0) + taken_on lane instances hands)
    (same_Some x i at) (same_Some y hand there)
rest_drop lane (suc n) (x ∷ instances) (y ∷ hands) i hand at there =
    let q : suc (n + 1) ≡ suc n + 1 = omega arith in
    subst (λ m. taken_on lane (drop n instances) (drop n hands)
    ≡ (if i.lane == lane then taken hand else 0) + taken_on lane (drop m (x ∷ instances)) (drop m (y ∷ hands))) q
    (rest_drop lane n instances hands i hand at there)

-- one lane has come farther
pub one_more : (places : List ℕ) (own lane before count : ℕ) → own < length places → before ≡ come_to places own →
    come_to (set places own (before + count)) lane ≡ come_to places lane + (if own == lane then count else 0)
one_more places own lane before count l is = elim (cases_eq own lane) [
  | inl q ↦
      let yes : (if own == lane then count else 0) ≡ count = cond-true (own == lane) count 0 (eq-eqb own lane q) in
      ap (come_to (set places own (before + count))) (sym q)
      ∙ (get_or-set_same places own (before + count) 0 l
      ∙ (ap (λ n. n + count) (is ∙ ap (come_to places) q) ∙ ap (λ n. come_to places lane + n) (sym yes)))
  | inr q ↦
      let none : (if own == lane then count else 0) ≡ 0 = cond-false (own == lane) count 0 (ne_eqb own lane q) in
      let z : come_to places lane ≡ come_to places lane + (if own == lane then count else 0) = omega arith in
      get_or-set_other places own lane (before + count) 0 (λ p. q (sym p)) ∙ z
]

-- one actor more is counted
pub one_added : {G F : Type 0} (lane n : ℕ) (instances : List InstancePlan) (hands : List (Followed G F))
    (i : InstancePlan) (hand : Followed G F) (count old new total : ℕ) → slice_get instances n ≡ Some i →
    slice_get hands n ≡ Some hand → count ≡ taken hand → new ≡ old + (if i.lane == lane then count else 0) →
    old + taken_on lane (drop n instances) (drop n hands) ≡ total →
    new + taken_on lane (drop (n + 1) instances) (drop (n + 1) hands) ≡ total
one_added lane n instances hands i hand count old new total at there same is rest =
    let r : taken_on lane (drop n instances) (drop n hands)
    ≡ (if i.lane == lane then taken hand else 0) + taken_on lane (drop (n + 1) instances) (drop (n + 1) hands) =
    rest_drop lane n instances hands i hand at there in
    let q : (if i.lane == lane then count else 0) ≡ (if i.lane == lane then taken hand else 0) =
    ap (λ m. if i.lane == lane then m else 0) same in
    omega arith

-- and there is room
pub room_left : (own lane n size count old new : ℕ) → n < size → count < 2 ^ 32 →
    new ≡ old + (if own == lane then count else 0) → old + (size - n) * 2 ^ 32 < 2 ^ 64 →
    new + (size - (n + 1)) * 2 ^ 32 < 2 ^ 64
room_left own lane n size count old new l few is room = elim (cases_eq own lane) [
  | inl q ↦
      let yes : (if own == lane then count else 0) ≡ count = cond-true (own == lane) count 0 (eq-eqb own lane q) in
      omega arith
  | inr q ↦
      let no : (if own == lane then count else 0) ≡ 0 = cond-false (own == lane) count 0 (ne_eqb own lane q) in
      omega arith
]

-- what indexing gives where there is nothing
abbrev pub no_instance : InstancePlan
no_instance = record { lane = 0; quota = None; stop = None }
