-- What an epoch's actors give to their lanes: as many verdicts as packets that they took.
use Rattle.std.proofs.Common.{◌≡◌, ℕ, ◌+◌, Bool, true, false, if◌then◌else◌, List, [], ◌∷◌, ◌++◌, length, map, refl, sym, ap, ◌∙◌, arith}
use Rattle.std.proofs.lemmas.List.{length-append}
use Rattle.std.proofs.lemmas.List.FromFn.{length-map-range_with_len}
use Rattle.slnf_base.specs.declared.packets.Verdict.{Verdict}
use Rattle.slnf_access.specs.declared.requests.Entry.{Entry}
use Rattle.slnf_plan.specs.declared.plan.InstancePlan.{InstancePlan}
use Rattle.slnf_plan.specs.declared.plan.SweepPlan.{SweepPlan}
use Rattle.slnf_plan.specs.declared.plan.SweepPlan.TheVariants.{No, Yes}
use Rattle.slnf_run.specs.Setting.{Actor, Setting, is_on}
use Rattle.slnf_run.specs.Jobs.{Job, job_of, verdict_in, taken_in}
use Rattle.slnf_run.specs.Parts.{part_of, at_lane, taken_on}
use Rattle.slnf_instance.specs.Ends.{verdicts_in}
use Rattle.slnf_flight.specs.Actors.{instance_actor, sweep_actors}
use Rattle.slnf_ledger.specs.Ledger.{given_by, given_from}

module _ {F A : Type 0} (s : Setting F A) where
  -- the job of an incarnation, where lanes have come so far
  abbrev pub job_there : (ℕ → ℕ) → ℕ → Actor → Job F
  job_there places incarnation actor = job_of s incarnation (at_lane places actor) actor

  -- what these actors give to a lane, of which the first is this incarnation
  abbrev pub given_on : List Entry → (ℕ → ℕ) → ℕ → ℕ → List Actor → List Verdict
  given_on es places lane incarnation [] = []
  given_on es places lane incarnation (actor ∷ actors) =
      (if is_on lane actor then verdicts_in (job_there places incarnation actor) (part_of incarnation es) else [])
      ++ given_on es places lane (incarnation + 1) actors

  -- how many packets of a lane they took
  pub taken_on_is : (es : List Entry) (places : ℕ → ℕ) (lane incarnation : ℕ) (actors : List Actor) →
      taken_on s es incarnation places lane actors ≡ length (given_on es places lane incarnation actors)
  taken_on_is es places lane incarnation [] = refl
  taken_on_is es places lane incarnation (actor ∷ actors) =
      ap (λ n. n + taken_on s es (incarnation + 1) places lane actors) (chosen (is_on lane actor))
      ∙ (ap (λ n. length (if is_on lane actor then given else []) + n)
      (taken_on_is es places lane (incarnation + 1) actors)
      ∙ sym (length-append (if is_on lane actor then given else []) (given_on es places lane (incarnation + 1) actors)))
    where
      given : List Verdict
      given = verdicts_in (job_there places incarnation actor) (part_of incarnation es)

      count : length given ≡ length (taken_in (job_there places incarnation actor) (part_of incarnation es))
      count = length-map-range_with_len (verdict_in (job_there places incarnation actor) (part_of incarnation es))
          (job_there places incarnation actor).at
          (length (taken_in (job_there places incarnation actor) (part_of incarnation es)))

      chosen : (b : Bool) →
          (if b then length (taken_in (job_there places incarnation actor) (part_of incarnation es)) else 0)
          ≡ length (if b then given else [])
      chosen true = sym count
      chosen false = refl

-- a sweep gives nothing to a lane
sweeps_give : {F A : Type 0} (s : Setting F A) (es : List Entry) (places : ℕ → ℕ) (lane incarnation : ℕ)
    (sweep : SweepPlan) → given_on s es places lane incarnation (sweep_actors sweep) ≡ []
sweeps_give s es places lane incarnation No = refl
sweeps_give s es places lane incarnation (Yes stop) = refl

-- the code's own numbers are the setting's
pub given_is : {F A : Type 0} (s : Setting F A) (es : List Entry) (places : ℕ → ℕ) (lane base number : ℕ)
    (instances : List InstancePlan) (sweep : SweepPlan) →
    given_from (λ k i. job_there s places (base + k) (instance_actor i)) (λ k. part_of (base + k) es) number instances
    lane ≡ given_on s es places lane (base + number) (map instance_actor instances ++ sweep_actors sweep)
given_is s es places lane base number [] sweep = sym (sweeps_give s es places lane (base + number) sweep)
given_is s es places lane base number (i ∷ instances) sweep =
    let next : base + (number + 1) ≡ base + number + 1 = omega arith in
    ap (λ l. given_by (job_there s places (base + number) (instance_actor i)) (part_of (base + number) es) i lane ++ l)
    (given_is s es places lane base (number + 1) instances sweep
    ∙ ap (λ n. given_on s es places lane n (map instance_actor instances ++ sweep_actors sweep)) next)
