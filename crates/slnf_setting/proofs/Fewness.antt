-- Within the limits a run of a plan has fewer than 2^41 entries.
use Rattle.std.proofs.Common.{◌≡◌, ℕ, ◌+◌, ◌-◌, ◌*◌, ◌^◌, ◌<◌, ◌≤◌, true, Some, None, List, [], ◌∷◌, ◌++◌, length, map, slice_get, refl, sym, subst, arith, nat_lt}
use Rattle.std.specs.Prelude.{IsTrue}
use Rattle.std.proofs.lemmas.Nat.{mul-le}
use Rattle.std.proofs.lemmas.Bool.{and_parts, ltb-true}
use Rattle.slnf_base.specs.declared.packets.Packet.{Packet}
use Rattle.slnf_access.specs.declared.requests.Entry.{Entry}
use Rattle.slnf_access.specs.Machines.{Stand, Flies, Ends}
use Rattle.slnf_plan.specs.declared.plan.FunctionPlan.{FunctionPlan}
use Rattle.slnf_plan.specs.declared.plan.FunctionPlan.TheVariants.{Nat, Firewall, Balancer}
use Rattle.slnf_plan.specs.declared.plan.Epoch.{Epoch}
use Rattle.slnf_plan.specs.declared.plan.InstancePlan.{InstancePlan}
use Rattle.slnf_plan.specs.declared.plan.SweepPlan.{SweepPlan}
use Rattle.slnf_plan.specs.declared.plan.SweepPlan.TheVariants.{No, Yes}
use Rattle.slnf_plan.specs.declared.plan.Plan.{Plan}
use Rattle.slnf_run.specs.Setting.{Actor, Setting, actors_of, total_of, sweeps_in}
use Rattle.slnf_run.specs.Run.{IsRun}
use Rattle.slnf_run.specs.Items.{Item, sum_over}
use Rattle.slnf_run.specs.Keeps.{HasPaths}
use Rattle.slnf_run.specs.Images.{stand_as}
use Rattle.slnf_run.specs.OneBox.{IsSound}
use Rattle.slnf_flight.specs.declared.lanes.Lane.{Lane}
use Rattle.slnf_flight.specs.Lanes.{lane_sizes}
use Rattle.slnf_flight.specs.Begins.{begins_of, no_sweeps}
use Rattle.slnf_setting.proofs.Beginning.{begins_in_sweep}
use Rattle.slnf_run.proofs.WholeCases.{own_paths}
use Rattle.slnf_run.proofs.Offering.{IsOffering, offering_of_run}
use Rattle.slnf_run.proofs.Itemized.{each_of_all, sum_most, sum_append, packets, packets_few, sweeps, sweeps_few, each_of_sweeps, of_these, each_item_weaker}
use Rattle.slnf_box.specs.Pools.{port_count}
use Rattle.slnf_nat.specs.Flights.{Out, In, Sweep}
use Rattle.slnf_fw.specs.Bound.{IsBounded}
use Rattle.slnf_flight.specs.Actors.{instance_actor, sweep_actors, eras_of}
use Rattle.slnf_flight.specs.declared.flights.AnyFlight.{AnyFlight}
use Rattle.slnf_flight.specs.declared.flights.AnyFlight.TheVariants.{Nat as NatFlies, Firewall as FwFlies, Balancer as LbFlies}
use Rattle.slnf_flight.specs.Flights.{Arrival}
use Rattle.slnf_setting.specs.Fits.{has_types}
use Rattle.slnf_nat.specs.Starts.{nat_starts}
use Rattle.slnf_flight.specs.NatPlan.{nat_sweeps}
use Rattle.slnf_flight.specs.FwPlan.{policy_with, fw_starts}
use Rattle.slnf_flight.specs.PlanSetting.{fw_own, fw_case, scene_of, sweep_items_of, setting_with, setting_of}
use Rattle.slnf_setting.specs.Bound.{most_at, others_on, most_in, IsBoundedFor, IsSweep, AreItemsOf}
use Rattle.slnf_setting.proofs.FwWhole.{fw_flights}
use Rattle.slnf_nat.proofs.PacketEnds.{item_sweeps}
use Rattle.slnf_setting.proofs.PlanBound.{bounded_by}
use Rattle.slnf_setting.proofs.PlanWhole.{plan_sound}
use Rattle.std.proofs.lemmas.List.{length-append}
use Rattle.slnf_access.specs.Map.{IsLegal}
use Rattle.slnf_fw.proofs.Laws.{fw_bounded}

sweeps_append : (xs ys : List Actor) → sweeps_in (xs ++ ys) ≡ sweeps_in xs + sweeps_in ys
sweeps_append [] ys = omega arith
sweeps_append (x ∷ xs) ys = let r : sweeps_in (xs ++ ys)
    ≡ sweeps_in xs + sweeps_in ys = sweeps_append xs ys in omega arith

no_instance_sweeps : (instances : List InstancePlan) → sweeps_in (map instance_actor instances) ≡ 0
no_instance_sweeps [] = refl
no_instance_sweeps (i ∷ instances) = let r : sweeps_in (map instance_actor instances)
    ≡ 0 = no_instance_sweeps instances in omega arith

one_sweep : (sweep : SweepPlan) → sweeps_in (sweep_actors sweep) ≤ 1
one_sweep No = omega arith
one_sweep (Yes stop) = omega arith

-- an epoch has at most one sweep
few_sweeps : (epochs : List Epoch) → sweeps_in (actors_of (eras_of epochs)) ≤ length epochs
few_sweeps [] = omega arith
few_sweeps (epoch ∷ epochs) =
    let a : sweeps_in ((map instance_actor epoch.instances ++ sweep_actors epoch.sweep) ++ actors_of (eras_of epochs))
    ≡ sweeps_in (map instance_actor epoch.instances ++ sweep_actors epoch.sweep) + sweeps_in
    (actors_of (eras_of epochs)) = sweeps_append (map instance_actor epoch.instances ++ sweep_actors epoch.sweep)
    (actors_of (eras_of epochs)) in
    let b : sweeps_in (map instance_actor epoch.instances ++ sweep_actors epoch.sweep)
    ≡ sweeps_in (map instance_actor epoch.instances) + sweeps_in (sweep_actors epoch.sweep) = sweeps_append
    (map instance_actor epoch.instances) (sweep_actors epoch.sweep) in
    let c : sweeps_in (map instance_actor epoch.instances) ≡ 0 = no_instance_sweeps epoch.instances in
    let d : sweeps_in (sweep_actors epoch.sweep) ≤ 1 = one_sweep epoch.sweep in
    let e : sweeps_in (actors_of (eras_of epochs)) ≤ length epochs = few_sweeps epochs in
    omega arith

-- no flight of a NAT makes more than its ports and three, however it begins
nat_most : (ports : ℕ) (others : Packet → ℕ) → ((packet : Packet) → others packet ≡ 0) → (st : Stand AnyFlight)
    → most_at ports others st ≤ ports + 3
nat_most ports others none (Flies (NatFlies (Out state i packet))) = omega arith
nat_most ports others none (Flies (NatFlies (In state packet))) = omega arith
nat_most ports others none (Flies (NatFlies (Sweep state proto port base))) = omega arith
nat_most ports others none (Flies (FwFlies flight)) = let z : others flight.packet
    ≡ 0 = none flight.packet in omega arith
nat_most ports others none (Flies (LbFlies flight)) = omega arith
nat_most ports others none (Ends end) = omega arith

-- nor one of a balancer more than three
lb_most : (others : Packet → ℕ) → ((packet : Packet) → others packet ≡ 0) → (st : Stand AnyFlight)
    → most_at 0 others st ≤ 3
lb_most others none st = nat_most 0 others none st

below : (es a p w m : ℕ) → es ≤ a → a ≡ p + w → p ≤ 2 ^ 20 * m → w ≤ 131072000 * 3 → m ≤ 65539 → es < 2 ^ 41
below es a p w m h k l n q =
    let r : 2 ^ 20 * m ≤ 2 ^ 20 * 65539 = mul-le (2 ^ 20) m (2 ^ 20) 65539 (omega arith) q in
    let big : 2 ^ 20 * 65539 + 131072000 * 3 < 2 ^ 41 = omega arith in
    omega (arith, h, k, l, n, r, big)

module _ (plan : Plan) (lanes : List Lane) (es : List Entry) (ps ws : List Item)
    (few : total_of (lane_sizes lanes) ≤ 2 ^ 20) (legal : IsLegal es) where
  -- a function without a sweep has as many items as packets
  size : (s : Setting AnyFlight Arrival) → AreItemsOf s ps ws es → s.lanes ≡ lane_sizes lanes → s.sweep_items ≡ 0
      → length (ps ++ ws) ≤ 2 ^ 20
  size s are is none =
      let a : length (ps ++ ws) ≡ length ps + length ws = length-append ps ws in
      let b : length ps ≤ total_of (lane_sizes lanes) = subst (λ ns. length ps ≤ total_of ns) is are.few in
      let c : length ws ≤ sweeps_in (actors_of s.eras) * 0 = subst
      (λ n. length ws ≤ sweeps_in (actors_of s.eras) * n) none are.items in
      omega (arith, few)

  few_by : (f : FunctionPlan) → has_types f ≡ true
      → (let s : Setting AnyFlight Arrival = setting_with plan.shards plan.batch plan.epochs lanes (sweep_items_of f)
      (scene_of f plan.epochs lanes) in HasPaths s.scene es → AreItemsOf s ps ws es → length es < 2 ^ 41)
  few_by (Nat pool) types paths are =
      let s : Setting AnyFlight Arrival = setting_with plan.shards plan.batch plan.epochs lanes (2 * port_count pool)
      (scene_of (Nat pool) plan.epochs lanes) in
      let most : ℕ → ℕ → ℕ = most_in (Nat pool) (scene_of (Nat pool) plan.epochs lanes).begins es in
      let bound : IsBoundedFor (Nat pool) (scene_of (Nat pool) plan.epochs lanes).begins es = bounded_by
      (Nat pool) plan.epochs lanes es legal paths in
      let high : pool.high < 2 ^ 16 = ltb-true pool.high (2 ^ 16)
      (and_parts (nat_lt pool.outside (2 ^ 32)) (nat_lt pool.high (2 ^ 16)) types).1 in
      let ports : pool.high - pool.low + 1 ≤ 2 ^ 16 = omega arith in
      let total : length es ≤ sum_over most (ps ++ ws) = bound.total (ps ++ ws) are.of in
      let parts : sum_over most (ps ++ ws) ≡ sum_over most ps + sum_over most ws = sum_append most ps ws in
      let by_packets : sum_over most ps ≤ length ps * (port_count pool + 3) =
      sum_most most (port_count pool + 3) ps (each_of_all (λ i k. most i k ≤ port_count pool + 3)
      (λ i k. nat_most (port_count pool) (others_on (Nat pool) es i k) (λ packet. refl)
      ((scene_of (Nat pool) plan.epochs lanes).begins i k)) ps) in
      let by_sweeps : sum_over most ws ≤ length ws * 3 =
      sum_most most 3 ws (each_item_weaker (λ i k. IsSweep (eras_of plan.epochs) i) (λ i k. most i k ≤ 3)
      (λ i k h. swept i k h.0 h.1 h.2) ws are.swept) in
      let packets_size : length ps ≤ total_of (lane_sizes lanes) = are.few in
      let sweeps_size : length ws ≤ sweeps_in (actors_of (eras_of plan.epochs)) * (2 * port_count pool) = are.items in
      let epochs : length plan.epochs ≤ 1000 = plan.few_epochs in
      let some : sweeps_in (actors_of (eras_of plan.epochs)) ≤ length plan.epochs = few_sweeps plan.epochs in
      let swept_most : sweeps_in (actors_of (eras_of plan.epochs)) * (2 * port_count pool) ≤ 1000 * 131072 = mul-le
      (sweeps_in (actors_of (eras_of plan.epochs))) (2 * port_count pool) 1000 131072 (omega arith)
      (omega arith) in
      let few_packets : length ps * (port_count pool + 3) ≤ 2 ^ 20 * (port_count pool + 3) = mul-le (length ps)
      (port_count pool + 3) (2 ^ 20) (port_count pool + 3) (omega arith) (omega arith) in
      below (length es) (sum_over most (ps ++ ws)) (sum_over most ps) (sum_over most ws) (port_count pool + 3)
      total parts (omega (arith, by_packets, few_packets)) (omega (arith, by_sweeps, sweeps_size, swept_most))
      (omega (arith, ports))
    where
      swept : (i k : ℕ) (actor : Actor) → slice_get (actors_of (eras_of plan.epochs)) i ≡ Some actor
          → actor.lane ≡ None → most_in (Nat pool) (scene_of (Nat pool) plan.epochs lanes).begins es i k ≤ 3
      swept i k actor at none =
          subst (λ st. most_at (port_count pool) (others_on (Nat pool) es i k) (stand_as NatFlies st) ≤ 3)
          (sym (begins_in_sweep (eras_of plan.epochs) lanes (nat_starts pool)
          (nat_sweeps pool (eras_of plan.epochs)) i k actor at none))
          (item_sweeps (λ st. most_at (port_count pool) (others_on (Nat pool) es i k)
          (stand_as NatFlies st) ≤ 3) pool _ k (λ proto place. omega arith) (omega arith))
  few_by (Firewall inside rules) types paths are =
      let s : Setting AnyFlight Arrival = setting_with plan.shards plan.batch plan.epochs lanes 0
      (scene_of (Firewall inside rules) plan.epochs lanes) in
      let policy = policy_with inside rules in
      let own = own_paths fw_case (setting_with 1 1 plan.epochs lanes 0 (fw_own policy plan.epochs lanes)) es paths in
      let bound : IsBounded policy (begins_of (eras_of plan.epochs) lanes
      (fw_starts policy) no_sweeps) es = fw_bounded policy
      (begins_of (eras_of plan.epochs) lanes (fw_starts policy) no_sweeps) es
      (fw_flights policy 1 1 plan.epochs lanes) legal own in
      let items : List Item = ps ++ ws in
      let total : length es ≤ length items * (2 + length items) = bound.total items are.of in
      let n : length items ≤ 2 ^ 20 = size s are refl refl in
      let m : length items * (2 + length items) ≤ 2 ^ 20 * (2 + 2 ^ 20) = mul-le (length items) (2 + length items)
      (2 ^ 20) (2 + 2 ^ 20) n (omega (arith, n)) in
      let big : 2 ^ 20 * (2 + 2 ^ 20) < 2 ^ 41 = omega arith in
      omega (arith, total, m, big)
  few_by (Balancer service) types paths are =
      let s : Setting AnyFlight Arrival = setting_with plan.shards plan.batch plan.epochs lanes 0
      (scene_of (Balancer service) plan.epochs lanes) in
      let most : ℕ → ℕ → ℕ = most_in (Balancer service) (scene_of (Balancer service) plan.epochs lanes).begins es in
      let bound : IsBoundedFor (Balancer service) (scene_of
      (Balancer service) plan.epochs lanes).begins es = bounded_by
      (Balancer service) plan.epochs lanes es legal paths in
      let items : List Item = ps ++ ws in
      let total : length es ≤ sum_over most items = bound.total items are.of in
      let each : sum_over most items ≤ length items * 3 = sum_most most 3 items
      (each_of_all (λ i k. most i k ≤ 3) (λ i k. lb_most (others_on (Balancer service) es i k) (λ packet. refl)
      ((scene_of (Balancer service) plan.epochs lanes).begins i k)) items) in
      let n : length items ≤ 2 ^ 20 = size s are refl refl in
      omega (arith, total, each, n)

-- Within the limits a legal list of paths of a plan's items has fewer than 2^41 entries,
pub fewer_of_items : (plan : Plan) (lanes : List Lane) (packets sweeps : List Item) (es : List Entry)
    → IsTrue (has_types plan.function) → total_of (lane_sizes lanes) ≤ 2 ^ 20 → IsLegal es
    → HasPaths (setting_of plan lanes).scene es → AreItemsOf (setting_of plan lanes) packets sweeps es
    → length es < 2 ^ 41
fewer_of_items plan lanes ps ws es types few legal paths are =
    few_by plan lanes es ps ws few legal plan.function types paths are

-- and each run is one, and each list of accesses so far.
pub items_of_offering : (plan : Plan) (lanes : List Lane) (es : List Entry) → IsOffering (setting_of plan lanes) es
    → (packets sweeps : List Item) × AreItemsOf (setting_of plan lanes) packets sweeps es
items_of_offering plan lanes es rules =
    let s : Setting AnyFlight Arrival = setting_of plan lanes in
    let sound : IsSound (setting_of plan lanes) = plan_sound plan lanes in
    let p : length (packets s es sound rules) ≡ total_of s.lanes = packets_few s es sound rules in
    let w : length (sweeps s es sound rules) ≡ sweeps_in
    (actors_of s.eras) * s.sweep_items = sweeps_few s es sound rules in (
      packets s es sound rules,
      sweeps s es sound rules,
      record {
        of = of_these s es sound rules;
        few = omega (arith, p);
        swept = each_of_sweeps s es sound rules (λ i k. IsSweep s.eras i) (λ i k actor at none. (actor, at, none));
        items = omega (arith, w);
      },
    )

pub items_of_run : (plan : Plan) (lanes : List Lane) (es : List Entry) → IsRun (setting_of plan lanes) es
    → (packets sweeps : List Item) × AreItemsOf (setting_of plan lanes) packets sweeps es
items_of_run plan lanes es run = items_of_offering plan lanes es (offering_of_run (setting_of plan lanes) es run)
