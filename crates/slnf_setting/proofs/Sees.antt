-- The packet that a box sees of an instance's item is its lane's.
use Rattle.std.proofs.Common.{◌≡◌, ℕ, Bool, true, false, cond, Option, Some, None, List, slice_get, refl, sym, ap, ◌∙◌, subst}
use Rattle.std.specs.Prelude.{IsTrue}
use Rattle.slnf_base.specs.declared.packets.Packet.{Packet}
use Rattle.slnf_base.specs.declared.packets.Reason.TheVariants.{Neither}
use Rattle.slnf_base.specs.declared.plans.Pool.{Pool}
use Rattle.slnf_base.specs.declared.plans.Service.{Service}
use Rattle.slnf_access.specs.declared.functions.Start.{Start}
use Rattle.slnf_access.specs.declared.functions.Start.TheVariants.{Go as StartGo, Over as StartOver}
use Rattle.slnf_access.specs.Machines.{Stand, Flies, Ends, stand_of_start}
use Rattle.slnf_plan.specs.declared.plan.FunctionPlan.{FunctionPlan}
use Rattle.slnf_plan.specs.declared.plan.FunctionPlan.TheVariants.{Nat, Firewall, Balancer}
use Rattle.slnf_plan.specs.declared.plan.Epoch.{Epoch}
use Rattle.slnf_plan.specs.declared.plan.Plan.{Plan}
use Rattle.slnf_run.proofs.NextAccess.{same_flight}
use Rattle.slnf_run.specs.Setting.{Actor, Era, actors_of, is_on}
use Rattle.slnf_run.specs.Images.{stand_as}
use Rattle.slnf_box.specs.Packets.{crosses}
use Rattle.slnf_box.specs.Pools.{is_outbound, is_inbound}
use Rattle.slnf_box.specs.Services.{is_forward, is_return}
use Rattle.slnf_nat.specs.declared.flights.OutState.TheVariants.{Look}
use Rattle.slnf_nat.specs.declared.flights.InState.TheVariants.{LookPort}
use Rattle.slnf_nat.specs.Flights.{NatFlight, Out, In}
use Rattle.slnf_nat.specs.NatScene.{packet_of}
use Rattle.slnf_fw.specs.Flight.{Flying as FwFlying}
use Rattle.slnf_fw.specs.declared.flights.FwState.TheVariants.{Look as FwLook}
use Rattle.slnf_lb.specs.Flight.{Flying as LbFlying}
use Rattle.slnf_flight.specs.declared.lanes.Taken.{Taken}
use Rattle.slnf_flight.specs.declared.lanes.Taken.TheVariants.{Seen, Bad}
use Rattle.slnf_flight.specs.declared.lanes.Lane.{Lane}
use Rattle.slnf_flight.specs.Lanes.{packet_at}
use Rattle.slnf_flight.specs.Begins.{begins_with}
use Rattle.slnf_flight.specs.Actors.{eras_of}
use Rattle.slnf_flight.specs.Begins.{begins_of, no_sweeps}
use Rattle.slnf_flight.specs.declared.flights.AnyFlight.{AnyFlight}
use Rattle.slnf_flight.specs.declared.flights.AnyFlight.TheVariants.{Nat as NatFlies, Firewall as FwFlies, Balancer as LbFlies}
use Rattle.slnf_nat.specs.Starts.{nat_starts}
use Rattle.slnf_flight.specs.NatPlan.{nat_sweeps}
use Rattle.slnf_flight.specs.FwPlan.{policy_with, fw_starts}
use Rattle.slnf_flight.specs.LbPlan.{lb_starts}
use Rattle.slnf_flight.specs.PlanSetting.{scene_of, setting_of}
use Rattle.slnf_setting.proofs.Beginning.{lane_is, begins_by}
use Rattle.slnf_setting.specs.Sees.{SeesLanes}

module _ {F : Type 0} (eras : List Era) (lanes : List Lane) (starts : ℕ → ℕ → Packet → Start F)
    (sweeps : ℕ → ℕ → Stand F) (sees : F → Packet)
    (h : (i k : ℕ) (packet : Packet) (first : F) → starts i k packet ≡ StartGo first → sees first ≡ packet)
    (i k lane : ℕ) (actor : Actor) (at : slice_get (actors_of eras) i ≡ Some actor)
    (on : IsTrue (is_on lane actor)) where
  sees_own : (first : F) → begins_of eras lanes starts sweeps i k ≡ Flies first
      → packet_at lanes k (Some lane) ≡ Some (Seen (sees first))
  sees_own first begins = taken (packet_at lanes k (Some lane)) refl
      (sym (begins_by eras lanes starts sweeps i k actor at (Some lane) (lane_is lane actor on)) ∙ begins)
    where
      started : (packet : Packet) (start : Start F) → packet_at lanes k (Some lane) ≡ Some (Seen packet)
          → starts i k packet ≡ start → stand_of_start start ≡ Flies first
          → packet_at lanes k (Some lane) ≡ Some (Seen (sees first))
      started packet (StartGo flight) there w g = there
          ∙ ap (λ p. Some (Seen p)) (sym (h i k packet first (w ∙ ap (λ f. StartGo f) (same_flight flight first g))))
      started packet (StartOver reason) there w g = absurd (cc)

      taken : (packet : Option Taken) → packet_at lanes k (Some lane) ≡ packet
          → begins_with (starts i k) packet ≡ Flies first → packet_at lanes k (Some lane) ≡ Some (Seen (sees first))
      taken None w g = absurd (cc)
      taken (Some (Bad reason)) w g = absurd (cc)
      taken (Some (Seen packet)) w g = started packet (starts i k packet) w refl g

nat_sees : (pool : Pool) (i k : ℕ) (packet : Packet) (first : NatFlight) → nat_starts pool i k packet ≡ StartGo first
    → packet_of first ≡ packet
nat_sees pool i k packet first = go (is_outbound pool packet) (is_inbound pool packet)
  where
    go : (out into : Bool) → cond out (StartGo (Out Look i packet))
        (cond into (StartGo (In LookPort packet)) (StartOver Neither)) ≡ StartGo first → packet_of first ≡ packet
    go true into w = ap (λ (s : Start NatFlight). elim s [ StartGo f ↦ packet_of f | StartOver r ↦ packet ]) (sym w)
    go false true w = ap (λ (s : Start NatFlight). elim s [ StartGo f ↦ packet_of f | StartOver r ↦ packet ]) (sym w)
    go false false w = absurd (cc)

fw_sees : (inside : _) (rules : _) (i k : ℕ) (packet : Packet) (first : FwFlying)
    → fw_starts (policy_with inside rules) i k packet ≡ StartGo first → first.packet ≡ packet
fw_sees inside rules i k packet first = go (crosses (policy_with inside rules) packet)
  where
    go : (over : Bool) → cond over (StartGo (record { state = FwLook; packet = packet }))
        (StartOver Neither) ≡ StartGo first → first.packet ≡ packet
    go true w = ap (λ (s : Start FwFlying). elim s [ StartGo f ↦ f.packet | StartOver r ↦ packet ]) (sym w)
    go false w = absurd (cc)

lb_sees : (service : Service) (epochs : List Epoch) (i k : ℕ) (packet : Packet) (first : LbFlying)
    → lb_starts service epochs i k packet ≡ StartGo first → first.packet ≡ packet
lb_sees service epochs i k packet first = go (is_forward service packet) (is_return service packet) _ _ refl refl
  where
    go : (forward back : Bool) (a b : LbFlying) → a.packet ≡ packet → b.packet ≡ packet → cond forward (StartGo a)
        (cond back (StartGo b) (StartOver Neither)) ≡ StartGo first → first.packet ≡ packet
    go true back a b p q w = ap (λ (s : Start LbFlying). elim s [ StartGo f ↦ f.packet | StartOver r ↦ packet ])
        (sym w) ∙ p
    go false true a b p q w = ap (λ (s : Start LbFlying). elim s [ StartGo f ↦ f.packet | StartOver r ↦ packet ])
        (sym w) ∙ q
    go false false a b p q w = absurd (cc)

-- what a flight of a case is one of
of_case : {F : Type 0} (into : F → AnyFlight) (st : Stand F) (first : AnyFlight) (P : AnyFlight → Type 0)
    → ((own : F) → st ≡ Flies own → P (into own)) → stand_as into st ≡ Flies first → P first
of_case into (Flies own) first P each h = subst P (same_flight (into own) first h) (each own refl)
of_case into (Ends end) first P each h = absurd (cc)

sees_by : (f : FunctionPlan) (epochs : List Epoch) (lanes : List Lane) → SeesLanes (scene_of f epochs lanes)
    (eras_of epochs) lanes
sees_by (Nat pool) epochs lanes i k lane actor first e at on h =
    of_case NatFlies (begins_of (eras_of epochs) lanes (nat_starts pool) (nat_sweeps pool (eras_of epochs)) i k) first
    (λ x. packet_at lanes k (Some lane) ≡ Some (Seen (((scene_of (Nat pool) epochs lanes).arrival x e).packet)))
    (sees_own (eras_of epochs) lanes (nat_starts pool) (nat_sweeps pool (eras_of epochs)) packet_of
    (nat_sees pool) i k lane actor at on) h
sees_by (Firewall inside rules) epochs lanes i k lane actor first e at on h =
    of_case FwFlies (begins_of (eras_of epochs) lanes (fw_starts (policy_with inside rules)) no_sweeps i k) first
    (λ x. packet_at lanes k (Some lane) ≡ Some
    (Seen (((scene_of (Firewall inside rules) epochs lanes).arrival x e).packet)))
    (sees_own (eras_of epochs) lanes (fw_starts (policy_with inside rules)) no_sweeps (λ f. f.packet)
    (fw_sees inside rules) i k lane actor at on) h
sees_by (Balancer service) epochs lanes i k lane actor first e at on h =
    of_case LbFlies (begins_of (eras_of epochs) lanes (lb_starts service epochs) no_sweeps i k) first
    (λ x. packet_at lanes k (Some lane) ≡ Some
    (Seen (((scene_of (Balancer service) epochs lanes).arrival x e).packet)))
    (sees_own (eras_of epochs) lanes (lb_starts service epochs) no_sweeps (λ f. f.packet)
    (lb_sees service epochs) i k lane actor at on) h

pub plan_sees_lanes : (plan : Plan) (lanes : List Lane)
    → SeesLanes (setting_of plan lanes).scene (eras_of plan.epochs) lanes
plan_sees_lanes plan lanes = sees_by plan.function plan.epochs lanes
