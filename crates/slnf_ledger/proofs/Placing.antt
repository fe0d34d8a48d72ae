-- Where an epoch's actors begin.
use Rattle.std.proofs.Common.{◌≡◌, ℕ, zero, suc, Some, None, List, [], ◌∷◌, ◌++◌, map, slice_get, sym, ap}
use Rattle.std.proofs.lemmas.Option.{same_Some}
use Rattle.slnf_plan.specs.declared.plan.Epoch.{Epoch}
use Rattle.slnf_plan.specs.declared.plan.InstancePlan.{InstancePlan}
use Rattle.slnf_plan.specs.declared.plan.SweepPlan.{SweepPlan}
use Rattle.slnf_plan.specs.declared.plan.SweepPlan.TheVariants.{No, Yes}
use Rattle.slnf_run.specs.Setting.{Actor}
use Rattle.slnf_run.specs.Parts.{at_lane}
use Rattle.slnf_flight.specs.Actors.{instance_actor, sweep_actors, era_of_epoch}
use Rattle.slnf_ledger.specs.Ledger.{place_at}

-- how far the lane of an epoch's actor has come: an instance's own, and a sweep, behind the instances, has none
pub actor_place : (epoch : Epoch) (places : ℕ → ℕ) (k : ℕ) (actor : Actor) →
    slice_get (era_of_epoch epoch).actors k ≡ Some actor → at_lane places actor ≡ place_at places epoch.instances k
actor_place epoch places k actor at = go epoch.instances k at
  where
    of_sweep : (sweep : SweepPlan) (k : ℕ) → slice_get (sweep_actors sweep) k ≡ Some actor → at_lane places actor ≡ 0
    of_sweep No k at = absurd (cc)
    of_sweep (Yes stop) zero at =
        ap (at_lane places) (sym (same_Some (record { lane = None; quota = None; stop = stop }) actor at))
    of_sweep (Yes stop) (suc k) at = absurd (cc)

    go : (instances : List InstancePlan) (k : ℕ) →
        slice_get (map instance_actor instances ++ sweep_actors epoch.sweep) k ≡ Some actor →
        at_lane places actor ≡ place_at places instances k
    go [] k at = of_sweep epoch.sweep k at
    go (i ∷ instances) zero at = ap (at_lane places) (sym (same_Some (instance_actor i) actor at))
    go (i ∷ instances) (suc k) at = go instances k at
