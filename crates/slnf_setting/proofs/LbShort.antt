-- A balancer's packet makes at most two accesses.
use Rattle.std.proofs.Common.{ℕ, suc, ◌≤◌, Bool, true, false, cond, Option, Some, None, List, length, arith}
use Rattle.slnf_base.specs.declared.addresses.Pair.{Pair}
use Rattle.slnf_base.specs.declared.packets.Packet.{Packet}
use Rattle.slnf_base.specs.declared.plans.Service.{Service}
use Rattle.slnf_base.specs.Equal.{is_same_pair}
use Rattle.slnf_access.specs.declared.requests.Entry.{Entry}
use Rattle.slnf_access.specs.declared.requests.Reply.{Reply}
use Rattle.slnf_access.specs.declared.requests.Reply.TheVariants.{Done, Found, Absent}
use Rattle.slnf_access.specs.declared.functions.Step.TheVariants.{Over as StepOver}
use Rattle.slnf_base.specs.declared.packets.Change.TheVariants.{Source}
use Rattle.slnf_base.specs.declared.packets.Reason.TheVariants.{NotPinned}
use Rattle.slnf_base.specs.declared.packets.Verdict.TheVariants.{Emit, Dropped}
use Rattle.slnf_access.specs.Machines.{Stand, Flies, Ends, stand_of_step, IsPath}
use Rattle.slnf_keys.specs.declared.values.Pin.{Pin}
use Rattle.slnf_keys.specs.Values.{pin_of}
use Rattle.slnf_lb.specs.declared.flights.LbState.{LbState}
use Rattle.slnf_lb.specs.declared.flights.LbState.TheVariants.{Forward, Put, Return}
use Rattle.slnf_lb.specs.Flight.{Flying}
use Rattle.slnf_lb.specs.Machine.{forwarded, returned, goes_in as lb_goes_in, lb_machine}
use Rattle.slnf_run.specs.Images.{stand_as}
use Rattle.slnf_setting.specs.Bound.{most_at}
use Rattle.slnf_flight.specs.declared.flights.AnyFlight.TheVariants.{Balancer as LbFlies}
use Rattle.slnf_setting.proofs.Shortness.{size_at, path_short, le_trans}

-- how many accesses are left in a state
abbrev lb_size : LbState → ℕ
lb_size Forward = 2
lb_size Put = 1
lb_size Return = 1

forwarded_small : (pin : Option Pin)
    → suc (size_at (λ (f : Flying). lb_size f.state) (stand_of_step (forwarded pin))) ≤ 1
forwarded_small None = omega arith
forwarded_small (Some pin) = omega arith

returned_small : (service : Service) (packet : Packet) (pin : Option Pin)
    → suc (size_at (λ (f : Flying). lb_size f.state) (stand_of_step (returned service packet pin))) ≤ 1
returned_small service packet None = omega arith
returned_small service packet (Some pin) = go (is_same_pair pin.backend packet.source)
  where
    go : (b : Bool)
        → suc (size_at (λ (f : Flying). lb_size f.state)
        (stand_of_step (cond b (StepOver (Emit (Source service.front))) (StepOver (Dropped NotPinned))))) ≤ 1
    go true = omega arith
    go false = omega arith

lb_falls : (service : Service) (state : LbState) (packet : Packet) (choice : Pair) (reply : Reply)
    → suc (size_at (λ (f : Flying). lb_size f.state)
    (stand_of_step (lb_goes_in service state packet choice reply))) ≤ lb_size state
lb_falls service Forward packet choice (Done version) = omega arith
lb_falls service Forward packet choice (Found value version) = let r : suc
    (size_at (λ (f : Flying). lb_size f.state) (stand_of_step (forwarded (pin_of value.0)))) ≤ 1 = forwarded_small
    (pin_of value.0) in omega arith
lb_falls service Forward packet choice Absent = omega arith
lb_falls service Put packet choice (Done version) = omega arith
lb_falls service Put packet choice (Found value version) = forwarded_small (pin_of value.0)
lb_falls service Put packet choice Absent = omega arith
lb_falls service Return packet choice (Done version) = omega arith
lb_falls service Return packet choice (Found value version) = returned_small service packet (pin_of value.0)
lb_falls service Return packet choice Absent = omega arith

small_state : (state : LbState) → lb_size state ≤ 2
small_state Forward = omega arith
small_state Put = omega arith
small_state Return = omega arith

small_lb : (ports : ℕ) (others : Packet → ℕ) (st : Stand Flying)
    → size_at (λ (f : Flying). lb_size f.state) st ≤ most_at ports others (stand_as LbFlies st)
small_lb ports others (Flies flight) = small_state flight.state
small_lb ports others (Ends end) = omega arith

pub lb_short : (service : Service) (ports : ℕ) (others : Packet → ℕ) (st : Stand Flying) (own : List Entry)
    → IsPath (lb_machine service) st own → length own ≤ most_at ports others (stand_as LbFlies st)
lb_short service ports others st own path =
    let r : length own ≤ size_at (λ (f : Flying). lb_size f.state) st = path_short (lb_machine service)
    (λ f. lb_size f.state) (λ f reply. lb_falls service f.state f.packet f.choice reply) st own path in
    le_trans (length own) (size_at (λ (f : Flying). lb_size f.state) st)
    (most_at ports others (stand_as LbFlies st)) r (small_lb ports others st)
