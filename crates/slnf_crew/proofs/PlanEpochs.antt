-- What a plan's type says of one of its epochs.
use Rattle.std.proofs.Common.{◌≡◌, ℕ, zero, suc, ◌+◌, ◌≤◌, ◌<◌, ◌^◌, Bool, true, false, ◌&&◌, ◌==◌, nat_le, nat_lt, Option, Some, List, [], ◌∷◌, length, map, slice_get, refl, sym, ap, ◌∙◌, subst, arith}
use Rattle.std.specs.List.{list_all}
use Rattle.std.proofs.lemmas.Bool.{leb-true}
use Rattle.std.proofs.lemmas.List.{length-append, length-map}
use Rattle.std.proofs.lemmas.Option.{same_Some}
use Rattle.slnf_plan.specs.declared.plan.FunctionPlan.{FunctionPlan}
use Rattle.slnf_plan.specs.declared.plan.FunctionPlan.TheVariants.{Nat, Firewall, Balancer}
use Rattle.slnf_plan.specs.declared.plan.Epoch.{Epoch}
use Rattle.slnf_plan.specs.declared.plan.InstancePlan.{InstancePlan}
use Rattle.slnf_plan.specs.declared.plan.SweepPlan.{SweepPlan}
use Rattle.slnf_plan.specs.declared.plan.SweepPlan.TheVariants.{No, Yes}
use Rattle.slnf_plan.specs.declared.plan.Plan.{Plan}
use Rattle.slnf_plan.specs.Ranges.{is_at_most, is_instance, has_instances, has_sweep, sweep_count, has_actors, actor_count}
use Rattle.slnf_flight.specs.declared.functions.AnyFunction.{AnyFunction}
use Rattle.slnf_flight.specs.declared.functions.AnyFunction.TheVariants.{Nat as AnyNat, Firewall as AnyFirewall, Balancer as AnyBalancer}
use Rattle.slnf_flight.specs.declared.lanes.Lane.{Lane}
use Rattle.slnf_flight.specs.Actors.{instance_actor, sweep_actors, era_of_epoch}
use Rattle.slnf_flight.specs.Functions.{IsFunctionOf}
use Rattle.slnf_flight.specs.Lanes.{AreFew, packets_on, packet_count}
use Rattle.slnf_crew.specs.Errands.{MaySweep}

and_left : (a b : Bool) → (a && b) ≡ true → a ≡ true
and_left true b h = refl
and_left false b h = absurd (cc)

and_right : (a b : Bool) → (a && b) ≡ true → b ≡ true
and_right true b h = h
and_right false b h = absurd (cc)

-- what a test over all says of one
all_at : {X : Type 0} (test : X → Bool) (xs : List X) (k : ℕ) (x : X) → list_all test xs ≡ true →
    slice_get xs k ≡ Some x → test x ≡ true
all_at test [] k x h at = absurd (cc)
all_at test (y ∷ xs) zero x h at =
    subst (λ z. test z ≡ true) (same_Some y x at) (and_left (test y) (list_all test xs) h)
all_at test (y ∷ xs) (suc k) x h at = all_at test xs k x (and_right (test y) (list_all test xs) h) at

-- a lane has no more packets than all together
lane_most : (lanes : List Lane) (lane : ℕ) → length (packets_on lanes lane) ≤ packet_count lanes
lane_most [] lane = omega arith
lane_most (l ∷ lanes) zero = omega arith
lane_most (l ∷ lanes) (suc lane) =
    let rest : length (packets_on lanes lane) ≤ packet_count lanes = lane_most lanes lane in omega arith

pub lanes_few : (lanes : List Lane) → packet_count lanes ≤ 1048576 → AreFew lanes
lanes_few lanes few lane =
    let most : length (packets_on lanes lane) ≤ packet_count lanes = lane_most lanes lane in omega arith

-- how many actors there are
pub actors_count : (epoch : Epoch) → length (era_of_epoch epoch).actors ≡ actor_count epoch
actors_count epoch =
    length-append (map instance_actor epoch.instances) (sweep_actors epoch.sweep)
    ∙ (ap (λ n. n + length (sweep_actors epoch.sweep)) (length-map epoch.instances instance_actor)
    ∙ ap (λ n. length epoch.instances + n) (one_or_none epoch.sweep))
  where
    one_or_none : (sweep : SweepPlan) → length (sweep_actors sweep) ≡ sweep_count sweep
    one_or_none No = refl
    one_or_none (Yes stop) = refl

sweeps_few : (sweep : SweepPlan) → sweep_count sweep ≤ 1
sweeps_few No = omega arith
sweeps_few (Yes stop) = omega arith

none_swept : (function : AnyFunction) (sweep : SweepPlan) → (sweep_count sweep == 0) ≡ true → MaySweep function sweep
none_swept function No h = tt
none_swept function (Yes stop) h = absurd (cc)

nat_sweeps : (sweep : SweepPlan) (function : AnyFunction) (o : Option Epoch) (plan : FunctionPlan) (epoch : Epoch) →
    epoch.sweep ≡ sweep → IsFunctionOf plan o function → has_sweep plan epoch ≡ true → MaySweep function sweep
nat_sweeps sweep function o (Firewall inside rules) epoch is of h =
    none_swept function sweep (ap (λ s. sweep_count s == 0) (sym is) ∙ h)
nat_sweeps sweep function o (Balancer service) epoch is of h =
    none_swept function sweep (ap (λ s. sweep_count s == 0) (sym is) ∙ h)
nat_sweeps No function o (Nat pool) epoch is of h = tt
nat_sweeps (Yes stop) (AnyNat function) o (Nat pool) epoch is of h = tt
nat_sweeps (Yes stop) (AnyFirewall function) o (Nat pool) epoch is of h = absurd of
nat_sweeps (Yes stop) (AnyBalancer function) o (Nat pool) epoch is of h = absurd of

-- What holds of an epoch.
pub record IsEpoch (epoch : Epoch) : Type 0 where
  pub few : length epoch.instances ≤ 32
  pub actors : actor_count epoch ≤ 33
  pub schedule : list_all (λ n. nat_lt n (actor_count epoch)) epoch.schedule ≡ true
  pub lanes : (k : ℕ) (i : InstancePlan) → slice_get epoch.instances k ≡ Some i → i.lane < 32

pub is_epoch : (plan : Plan) (number : ℕ) (epoch : Epoch) → slice_get plan.epochs number ≡ Some epoch → IsEpoch epoch
is_epoch plan number epoch at =
    let own : has_instances epoch ≡ true = all_at has_instances plan.epochs number epoch plan.instances_fit at in
    let few : length epoch.instances ≤ 32 = leb-true (length epoch.instances) 32
    (and_left (nat_le (length epoch.instances) 32) (list_all is_instance epoch.instances) own) in
    let one : sweep_count epoch.sweep ≤ 1 = sweeps_few epoch.sweep in
    record {
      few = few;
      actors = omega arith;
      schedule = all_at has_actors plan.epochs number epoch plan.actors_fit at;
      lanes = λ k i there.
          let fits : is_instance i ≡ true = all_at is_instance epoch.instances k i
          (and_right (nat_le (length epoch.instances) 32) (list_all is_instance epoch.instances) own) there in
          let lane : i.lane ≤ 31 = leb-true i.lane 31 (and_left (nat_le i.lane 31)
          (is_at_most 1048576 i.quota) (and_left (nat_le i.lane 31 && is_at_most 1048576 i.quota)
          (is_at_most (2 ^ 40) i.stop) fits)) in
          omega arith;
    }

-- only a NAT's epoch has a sweep
pub may_sweep : (plan : Plan) (number : ℕ) (epoch : Epoch) (function : AnyFunction) →
    slice_get plan.epochs number ≡ Some epoch → IsFunctionOf plan.function (Some epoch) function →
    MaySweep function epoch.sweep
may_sweep plan number epoch function at of =
    nat_sweeps epoch.sweep function (Some epoch) plan.function epoch refl of
    (all_at (has_sweep plan.function) plan.epochs number epoch plan.sweeps_fit at)
