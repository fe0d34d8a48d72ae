-- A plan has few actors.
use Rattle.std.proofs.Common.{◌≡◌, ℕ, ◌+◌, ◌*◌, ◌^◌, ◌<◌, ◌≤◌, true, Some, List, [], ◌∷◌, ◌++◌, length, map, slice_get, arith, length-append}
use Rattle.std.specs.Prelude.{nat_le}
use Rattle.std.specs.List.{list_all}
use Rattle.std.proofs.lemmas.Bool.{and_parts, leb-true}
use Rattle.std.proofs.lemmas.List.{length-map}
use Rattle.std.proofs.lemmas.Option.{slice_get_within}
use Rattle.slnf_plan.specs.declared.plan.Epoch.{Epoch}
use Rattle.slnf_plan.specs.declared.plan.SweepPlan.{SweepPlan}
use Rattle.slnf_plan.specs.declared.plan.SweepPlan.TheVariants.{No, Yes}
use Rattle.slnf_plan.specs.Ranges.{is_instance, has_instances}
use Rattle.slnf_run.specs.Setting.{Actor, actors_of}
use Rattle.slnf_flight.specs.Actors.{instance_actor, sweep_actors, era_of_epoch, eras_of}

one_sweep : (sweep : SweepPlan) → length (sweep_actors sweep) ≤ 1
one_sweep No = omega arith
one_sweep (Yes stop) = omega arith

-- an epoch has at most 33
few_in : (epoch : Epoch) → has_instances epoch ≡ true → length (era_of_epoch epoch).actors ≤ 33
few_in epoch h =
    let few : length epoch.instances ≤ 32 = leb-true (length epoch.instances) 32
    (and_parts (nat_le (length epoch.instances) 32) (list_all is_instance epoch.instances) h).0 in
    let one : length (sweep_actors epoch.sweep) ≤ 1 = one_sweep epoch.sweep in
    let size : length (map instance_actor epoch.instances ++ sweep_actors epoch.sweep)
    ≡ length (map instance_actor epoch.instances) + length (sweep_actors epoch.sweep) = length-append
    (map instance_actor epoch.instances) (sweep_actors epoch.sweep) in
    let same : length (map instance_actor epoch.instances)
    ≡ length epoch.instances = length-map epoch.instances instance_actor in
    omega arith

few_actors : (epochs : List Epoch) → list_all has_instances epochs ≡ true
    → length (actors_of (eras_of epochs)) ≤ 33 * length epochs
few_actors [] h = omega arith
few_actors (epoch ∷ epochs) h =
    let parts : (has_instances epoch ≡ true) × (list_all has_instances epochs ≡ true) = and_parts
    (has_instances epoch) (list_all has_instances epochs) h in
    let here : length (era_of_epoch epoch).actors ≤ 33 = few_in epoch parts.0 in
    let rest : length (actors_of (eras_of epochs)) ≤ 33 * length epochs = few_actors epochs parts.1 in
    let size : length ((era_of_epoch epoch).actors ++ actors_of (eras_of epochs))
    ≡ length (era_of_epoch epoch).actors + length (actors_of (eras_of epochs)) = length-append
    (era_of_epoch epoch).actors (actors_of (eras_of epochs)) in
    omega arith

-- so the number of an incarnation has 32 bits
pub incarnation_fits : (epochs : List Epoch) (i : ℕ) (actor : Actor) → list_all has_instances epochs ≡ true
    → length epochs ≤ 1000 → slice_get (actors_of (eras_of epochs)) i ≡ Some actor → i < 2 ^ 32
incarnation_fits epochs i actor h few at =
    let size : length (actors_of (eras_of epochs)) ≤ 33 * length epochs = few_actors epochs h in
    let within : i < length (actors_of (eras_of epochs)) = slice_get_within (actors_of (eras_of epochs)) i actor at in
    omega arith
