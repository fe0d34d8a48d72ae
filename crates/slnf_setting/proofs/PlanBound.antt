-- How many accesses the items of a plan make.
use Rattle.std.proofs.Common.{◌≡◌, ℕ, ◌+◌, ◌-◌, ◌<◌, ◌≤◌, List, length, arith, refl, ◌*◌, []}
use Rattle.slnf_access.specs.declared.requests.Entry.{Entry}
use Rattle.slnf_access.specs.Map.{IsLegal}
use Rattle.slnf_plan.specs.declared.plan.FunctionPlan.{FunctionPlan}
use Rattle.slnf_plan.specs.declared.plan.FunctionPlan.TheVariants.{Nat, Firewall, Balancer}
use Rattle.slnf_plan.specs.declared.plan.Epoch.{Epoch}
use Rattle.slnf_plan.specs.declared.plan.Plan.{Plan}
use Rattle.slnf_run.specs.Scene.{own_of}
use Rattle.slnf_run.specs.Keeps.{HasPaths}
use Rattle.slnf_run.specs.Images.{stand_as}
use Rattle.slnf_access.specs.Machines.{Stand, Flies, Ends, IsPath}
use Rattle.slnf_box.specs.Pools.{nat_of, port_count}
use Rattle.slnf_box.specs.declared.policies.Policy.{Policy}
use Rattle.slnf_fw.specs.Flight.{Flying as FwFlying}
use Rattle.slnf_fw.specs.Machine.{fw_machine}
use Rattle.slnf_flight.specs.declared.lanes.Lane.{Lane}
use Rattle.slnf_flight.specs.Actors.{eras_of}
use Rattle.slnf_flight.specs.Begins.{begins_of, no_sweeps}
use Rattle.slnf_nat.specs.Starts.{nat_starts}
use Rattle.slnf_flight.specs.NatPlan.{nat_sweeps}
use Rattle.slnf_flight.specs.FwPlan.{policy_with, fw_starts}
use Rattle.slnf_flight.specs.LbPlan.{lb_starts}
use Rattle.slnf_flight.specs.PlanSetting.{nat_own, fw_own, lb_own, nat_case, fw_case, lb_case, scene_of, setting_with, setting_of}
use Rattle.slnf_setting.specs.Bound.{most_at, others_on, most_in, ShowsFailures, IsBoundedFor, most_of, AreOf}
use Rattle.slnf_flight.specs.declared.flights.AnyFlight.{AnyFlight}
use Rattle.slnf_flight.specs.declared.flights.AnyFlight.TheVariants.{Firewall as FwFlies, Nat as NatFlies, Balancer as LbFlies}
use Rattle.slnf_run.proofs.WholeCases.{own_paths}
use Rattle.slnf_setting.proofs.FwWhole.{fw_flights}
use Rattle.slnf_setting.proofs.Shortness.{total_by, ended_short, le_trans}
use Rattle.slnf_setting.proofs.LbShort.{lb_short}
use Rattle.slnf_setting.proofs.NatShort.{nat_short}
use Rattle.slnf_base.specs.declared.packets.Packet.{Packet}
use Rattle.slnf_base.specs.declared.plans.Pool.{Pool}
use Rattle.slnf_base.specs.declared.plans.Service.{Service}
use Rattle.slnf_nat.specs.Flights.{Out, In, Sweep}
use Rattle.slnf_setting.specs.OwnFlights.{IsStandOf}
use Rattle.slnf_run.specs.Items.{Item, sum_over}
use Rattle.slnf_run.proofs.Itemized.{sum_most, each_of_all}
use Rattle.slnf_setting.proofs.PlanWhole.{no_strays_by}
use Rattle.slnf_fw.proofs.Laws.{fw_bounded, fw_failures}

-- no item of a NAT or a balancer makes more than any
nat_no_more : (pool : Pool) (st : Stand AnyFlight) → IsStandOf (Nat pool) st → most_at (port_count pool)
    (λ packet. 0) st ≤ port_count pool + 3
nat_no_more pool (Flies (NatFlies (Out state i packet))) h = omega arith
nat_no_more pool (Flies (NatFlies (In state packet))) h = omega arith
nat_no_more pool (Flies (NatFlies (Sweep state proto port base))) h = omega arith
nat_no_more pool (Flies (FwFlies flight)) h = absurd h
nat_no_more pool (Flies (LbFlies flight)) h = absurd h
nat_no_more pool (Ends end) h = omega arith

lb_no_more : (service : Service) (st : Stand AnyFlight) → IsStandOf (Balancer service) st
    → most_at 0 (λ packet. 0) st ≤ 2
lb_no_more service (Flies (NatFlies flight)) h = absurd h
lb_no_more service (Flies (FwFlies flight)) h = absurd h
lb_no_more service (Flies (LbFlies flight)) h = omega arith
lb_no_more service (Ends end) h = omega arith

bounded : (f : FunctionPlan) (begins : ℕ → ℕ → Stand AnyFlight) (es : List Entry) → ShowsFailures f es
    → ((i k : ℕ) → length (own_of i k es) ≤ most_in f begins es i k)
    → ((items : List Item) → AreOf items es → length es ≤ sum_over
    (most_in f begins es) items → length es ≤ length items * most_of f (length items))
    → IsBoundedFor f begins es
bounded f begins es shows each by_number = record {
  each = each;
  total = λ items among. total_by (most_in f begins es) items es among each;
  by_number = λ items among. by_number items among (total_by (most_in f begins es) items es among each);
  shows = shows;
}

-- a firewall's item makes no more than it may, as it begins
fw_short : (policy : Policy) (others : Packet → ℕ) (st : Stand FwFlying) (own : List Entry)
    → IsPath (fw_machine policy) st own
    → ((first : FwFlying) → st ≡ Flies first → length own ≤ 2 + others first.packet)
    → length own ≤ most_at 0 others (stand_as FwFlies st)
fw_short policy others (Flies flight) own path h = h flight refl
fw_short policy others (Ends end) own path h = ended_short (fw_machine policy) end own path

pub bounded_by : (f : FunctionPlan) (epochs : List Epoch) (lanes : List Lane) (es : List Entry)
    → IsLegal es → HasPaths (scene_of f epochs lanes) es → IsBoundedFor f (scene_of f epochs lanes).begins es
bounded_by (Nat pool) epochs lanes es legal paths =
    bounded (Nat pool) (scene_of (Nat pool) epochs lanes).begins es tt (λ i k.
    nat_short (nat_of pool) (let some : 0 < pool.high - pool.low + 1 = omega arith in some)
    (others_on (Nat pool) es i k) (begins_of (eras_of epochs) lanes (nat_starts pool)
    (nat_sweeps pool (eras_of epochs)) i k) (own_of i k es)
    (own_paths nat_case (setting_with 1 1 epochs lanes 0 (nat_own pool epochs lanes)) es paths i k))
    (λ items among total. le_trans (length es) (sum_over
    (most_in (Nat pool) (scene_of (Nat pool) epochs lanes).begins es) items)
    (length items * (port_count pool + 3)) total
    (sum_most (most_in (Nat pool) (scene_of (Nat pool) epochs lanes).begins es) (port_count pool + 3) items
    (each_of_all (λ i k. most_in (Nat pool) (scene_of (Nat pool) epochs lanes).begins es i k ≤ port_count pool + 3)
    (λ i k. nat_no_more pool ((scene_of (Nat pool) epochs lanes).begins i k)
    (no_strays_by (Nat pool) epochs lanes i k [])) items)))
bounded_by (Firewall inside rules) epochs lanes es legal paths =
    let policy = policy_with inside rules in
    let own = own_paths fw_case (setting_with 1 1 epochs lanes 0 (fw_own policy epochs lanes)) es paths in
    bounded (Firewall inside rules) (scene_of (Firewall inside rules) epochs lanes).begins es
    (fw_failures policy (begins_of (eras_of epochs) lanes (fw_starts policy) no_sweeps) es
    (fw_flights policy 1 1 epochs lanes) legal own) (λ i k.
    fw_short policy (others_on (Firewall inside rules) es i k)
    (begins_of (eras_of epochs) lanes (fw_starts policy) no_sweeps i k) (own_of i k es) (own i k) (λ first w.
    (fw_bounded policy (begins_of (eras_of epochs) lanes (fw_starts policy) no_sweeps) es
    (fw_flights policy 1 1 epochs lanes) legal own).each i k first w))
    (λ items among total. (fw_bounded policy (begins_of (eras_of epochs) lanes (fw_starts policy) no_sweeps) es
    (fw_flights policy 1 1 epochs lanes) legal own).total items among)
bounded_by (Balancer service) epochs lanes es legal paths =
    bounded (Balancer service) (scene_of (Balancer service) epochs lanes).begins es tt (λ i k.
    lb_short service 0 (others_on (Balancer service) es i k)
    (begins_of (eras_of epochs) lanes (lb_starts service epochs) no_sweeps i k) (own_of i k es)
    (own_paths lb_case (setting_with 1 1 epochs lanes 0 (lb_own service epochs lanes)) es paths i k))
    (λ items among total. le_trans (length es) (sum_over
    (most_in (Balancer service) (scene_of (Balancer service) epochs lanes).begins es) items)
    (length items * 2) total
    (sum_most (most_in (Balancer service) (scene_of (Balancer service) epochs lanes).begins es) 2 items
    (each_of_all (λ i k. most_in (Balancer service) (scene_of (Balancer service) epochs lanes).begins es i k ≤ 2)
    (λ i k. lb_no_more service ((scene_of (Balancer service) epochs lanes).begins i k)
    (no_strays_by (Balancer service) epochs lanes i k [])) items)))

-- The accesses of a plan's items are bounded, in each legal list of their paths.
pub bounded_of_plan : (plan : Plan) (lanes : List Lane) (es : List Entry) → IsLegal es
    → HasPaths (setting_of plan lanes).scene es → IsBoundedFor plan.function (setting_of plan lanes).scene.begins es
bounded_of_plan plan lanes es legal paths = bounded_by plan.function plan.epochs lanes es legal paths
