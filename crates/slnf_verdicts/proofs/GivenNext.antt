-- What an epoch's actors give, actor by actor, and what all epochs give, epoch by epoch.
use Rattle.std.proofs.Common.{◌≡◌, ℕ, suc, zero, ◌+◌, ◌<◌, ◌≤◌, if◌then◌else◌, List, [], ◌∷◌, ◌++◌, drop, get_or, length, map, refl, sym, ap, ◌∙◌, append_assoc, append-nil, length-append, eq-eqb, ne_eqb, arith}
use Rattle.std.proofs.Math.Seq.{drop-cons}
use Rattle.std.proofs.lemmas.Bool.{cond-true, cond-false}
use Rattle.std.proofs.lemmas.List.{drop_all}
use Rattle.slnf_base.specs.declared.packets.Verdict.{Verdict}
use Rattle.slnf_access.specs.declared.requests.Entry.{Entry}
use Rattle.slnf_plan.specs.declared.plan.Epoch.{Epoch}
use Rattle.slnf_plan.specs.declared.plan.InstancePlan.{InstancePlan}
use Rattle.slnf_plan.specs.declared.plan.SweepPlan.{SweepPlan}
use Rattle.slnf_plan.specs.declared.plan.SweepPlan.TheVariants.{No, Yes}
use Rattle.slnf_run.specs.Setting.{Setting, base_of, is_on}
use Rattle.slnf_run.specs.Jobs.{job_of}
use Rattle.slnf_flight.specs.Actors.{instance_actor, sweep_actors, era_of_epoch, eras_of}
use Rattle.slnf_verdicts.specs.Given.{verdicts_in, given_in, given_from}

-- an element that is left of a list
left_of : {X : Type 0} (xs : List X) (k : ℕ) (x d : X) → k < length xs → x ≡ get_or xs k d →
    drop k xs ≡ x ∷ drop (k + 1) xs
left_of xs k x d l is =
    let q : suc k ≡ k + 1 = omega arith in
    drop-cons xs k d l ∙ ap (λ y. y ∷ drop (suc k) xs) (sym is) ∙ ap (λ n. x ∷ drop n xs) q

module _ {F A : Type 0} (s : Setting F A) (parts : ℕ → List Entry) (lane : ℕ) where
  -- what one instance gives to the lane
  abbrev pub one_given : ℕ → ℕ → InstancePlan → List Verdict
  one_given at i instance =
      if is_on lane (instance_actor instance)
      then verdicts_in (job_of s i at (instance_actor instance)) (parts i) else []

  -- one instance more
  pub instance_next : (at base k : ℕ) (instances : List InstancePlan) (instance d : InstancePlan)
      (row more total : List Verdict) → k < length instances → instance ≡ get_or instances k d →
      more ≡ row ++ one_given at (base + k) instance →
      row ++ given_in s parts lane at (base + k) (map instance_actor (drop k instances)) ≡ total →
      more ++ given_in s parts lane at (base + (k + 1)) (map instance_actor (drop (k + 1) instances)) ≡ total
  instance_next at base k instances instance d row more total l is add h =
      let q : base + (k + 1) ≡ base + k + 1 = omega arith in
      let rest : List Verdict = given_in s parts lane at (base + k + 1)
      (map instance_actor (drop (k + 1) instances)) in
      ap (λ n. more ++ given_in s parts lane at n (map instance_actor (drop (k + 1) instances))) q
      ∙ ap (λ x. x ++ rest) add
      ∙ append_assoc row (one_given at (base + k) instance) rest
      ∙ ap (λ x. row ++ given_in s parts lane at (base + k) (map instance_actor x))
      (sym (left_of instances k instance d l is))
      ∙ h

  -- a sweep gives nothing
  sweep_none : (at i : ℕ) (instances : List InstancePlan) (sweep : SweepPlan) →
      given_in s parts lane at i (map instance_actor instances)
      ≡ given_in s parts lane at i (map instance_actor instances ++ sweep_actors sweep)
  sweep_none at i [] No = refl
  sweep_none at i [] (Yes stop) = refl
  sweep_none at i (instance ∷ instances) sweep =
      ap (λ x. one_given at i instance ++ x) (sweep_none at (i + 1) instances sweep)

  -- an instance of the lane gives what it took, and another nothing
  pub on_gives : (at i : ℕ) (instance : InstancePlan) → instance.lane ≡ lane →
      verdicts_in (job_of s i at (instance_actor instance)) (parts i) ≡ one_given at i instance
  on_gives at i instance on =
      sym (cond-true (is_on lane (instance_actor instance))
      (verdicts_in (job_of s i at (instance_actor instance)) (parts i)) [] (eq-eqb instance.lane lane on))

  pub off_gives : (at i : ℕ) (instance : InstancePlan) (row : List Verdict) → (instance.lane ≡ lane → ⊥) →
      row ≡ row ++ one_given at i instance
  off_gives at i instance row off =
      sym (ap (λ x. row ++ x) (cond-false (is_on lane (instance_actor instance))
      (verdicts_in (job_of s i at (instance_actor instance)) (parts i)) [] (ne_eqb instance.lane lane off))
      ∙ append-nil row)

  -- all instances of the epoch
  pub instances_end : (at base k : ℕ) (epoch : Epoch) (instances : List InstancePlan) (row old : List Verdict) →
      instances ≡ epoch.instances → at ≡ length old → length instances ≤ k →
      row ++ given_in s parts lane at (base + k) (map instance_actor (drop k instances))
      ≡ old ++ given_in s parts lane at base (map instance_actor instances) →
      row ≡ old ++ given_in s parts lane (length old) base (era_of_epoch epoch).actors
  instances_end at base k epoch instances row old are from l h =
      sym (append-nil row)
      ∙ ap (λ x. row ++ given_in s parts lane at (base + k) (map instance_actor x)) (sym (drop_all k instances l))
      ∙ h
      ∙ ap (λ x. old ++ given_in s parts lane at base (map instance_actor x)) are
      ∙ ap (λ x. old ++ x) (sweep_none at base epoch.instances epoch.sweep)
      ∙ ap (λ n. old ++ given_in s parts lane n base (era_of_epoch epoch).actors) from

  -- one epoch more
  pub epoch_next : (number base next : ℕ) (epochs : List Epoch) (epoch d : Epoch) (given more total : List Verdict) →
      number < length epochs → epoch ≡ get_or epochs number d →
      more ≡ given ++ given_in s parts lane (length given) base (era_of_epoch epoch).actors →
      next ≡ base + length (era_of_epoch epoch).actors →
      given ++ given_from s parts lane (length given) base (eras_of (drop number epochs)) ≡ total →
      more ++ given_from s parts lane (length more) next (eras_of (drop (number + 1) epochs)) ≡ total
  epoch_next number base next epochs epoch d given more total l is add step h =
      let own : List Verdict = given_in s parts lane (length given) base (era_of_epoch epoch).actors in
      let rest : ℕ → ℕ → List Verdict = λ at base. given_from s parts lane at base
      (eras_of (drop (number + 1) epochs)) in
      let size : length more ≡ length given + length own = ap length add ∙ length-append given own in
      ap (λ n. more ++ rest (length more) n) step
      ∙ ap (λ n. more ++ rest n (base + length (era_of_epoch epoch).actors)) size
      ∙ ap (λ x. x ++ rest (length given + length own) (base + length (era_of_epoch epoch).actors)) add
      ∙ append_assoc given own (rest (length given + length own) (base + length (era_of_epoch epoch).actors))
      ∙ ap (λ x. given ++ given_from s parts lane (length given) base (eras_of x))
      (sym (left_of epochs number epoch d l is))
      ∙ h

  -- all epochs
  pub epochs_end : (number base : ℕ) (epochs : List Epoch) (given total : List Verdict) → length epochs ≤ number →
      given ++ given_from s parts lane (length given) base (eras_of (drop number epochs)) ≡ total → given ≡ total
  epochs_end number base epochs given total l h =
      sym (append-nil given)
      ∙ ap (λ x. given ++ given_from s parts lane (length given) base (eras_of x)) (sym (drop_all number epochs l))
      ∙ h

-- the next epoch's first incarnation
pub base_next : (epochs : List Epoch) (number : ℕ) (epoch d : Epoch) → number < length epochs →
    epoch ≡ get_or epochs number d →
    base_of (eras_of epochs) (number + 1) ≡ base_of (eras_of epochs) number + length (era_of_epoch epoch).actors
base_next [] number epoch d l is = absurd (omega arith)
base_next (first ∷ epochs) zero epoch d l is =
    let size : length (era_of_epoch first).actors ≡ length (era_of_epoch epoch).actors =
    ap (λ (e : Epoch). length (era_of_epoch e).actors) (sym is) in
    omega arith
base_next (first ∷ epochs) (suc number) epoch d l is =
    let q : suc (number + 1) ≡ suc number + 1 = omega arith in
    let rest : base_of (eras_of epochs) (number + 1)
    ≡ base_of (eras_of epochs) number + length (era_of_epoch epoch).actors =
    base_next epochs number epoch d (omega arith) is in
    ap (base_of (eras_of (first ∷ epochs))) (sym q)
    ∙ (let sum : length (era_of_epoch first).actors + base_of (eras_of epochs) (number + 1)
    ≡ length (era_of_epoch first).actors + base_of (eras_of epochs) number + length (era_of_epoch epoch).actors
    = omega arith in sum)
