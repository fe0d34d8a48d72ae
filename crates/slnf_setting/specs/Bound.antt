-- How many accesses the items of a plan make.
use Rattle.std.specs.Prelude.{◌≡◌, ℕ, ◌+◌, ◌≤◌, true, List, length, ◌*◌, ◌++◌, Some, None, slice_get}
use Rattle.slnf_base.specs.declared.packets.Packet.{Packet}
use Rattle.slnf_access.specs.declared.requests.Entry.{Entry}
use Rattle.slnf_access.specs.Machines.{Stand, Flies, Ends}
use Rattle.slnf_plan.specs.declared.plan.FunctionPlan.{FunctionPlan}
use Rattle.slnf_plan.specs.declared.plan.FunctionPlan.TheVariants.{Nat, Firewall, Balancer}
use Rattle.std.specs.List.{AllByRecursion}
use Rattle.slnf_run.specs.Scene.{own_of}
use Rattle.slnf_run.specs.Items.{Item, is_of_items, is_other_on, items_of, sum_over, EachItem}
use Rattle.slnf_box.specs.Pools.{port_count}
use Rattle.slnf_nat.specs.Flights.{Out, In, Sweep}
use Rattle.slnf_fw.specs.Machine.{packet_key}
use Rattle.slnf_fw.specs.Bound.{FailuresShow}
use Rattle.slnf_flight.specs.declared.flights.AnyFlight.{AnyFlight}
use Rattle.slnf_flight.specs.declared.flights.AnyFlight.TheVariants.{Nat as NatFlies, Firewall as FwFlies, Balancer as LbFlies}
use Rattle.slnf_flight.specs.FwPlan.{policy_with}
use Rattle.slnf_run.specs.Setting.{Actor, Era, Setting, actors_of, total_of, sweeps_in}

-- how many ports a plan has
abbrev pub ports_of : FunctionPlan → ℕ
ports_of (Nat pool) = port_count pool
ports_of (Firewall inside rules) = 0
ports_of (Balancer service) = 0

-- how many accesses a flight makes at most, with so many ports, where a firewall's packet has so many others on its
-- connection
abbrev pub most_by : ℕ → (Packet → ℕ) → AnyFlight → ℕ
most_by ports others (NatFlies (Out state incarnation packet)) = ports + 3
most_by ports others (NatFlies (In state packet)) = 2
most_by ports others (NatFlies (Sweep state proto port base)) = 3
most_by ports others (FwFlies flight) = 2 + others flight.packet
most_by ports others (LbFlies flight) = 2

-- and an item that begins so
abbrev pub most_at : ℕ → (Packet → ℕ) → Stand AnyFlight → ℕ
most_at ports others (Flies flight) = most_by ports others flight
most_at ports others (Ends end) = 0

-- how many other packets than this item have an access on the packet's connection
abbrev pub others_on : FunctionPlan → List Entry → ℕ → ℕ → Packet → ℕ
others_on (Nat pool) es incarnation item packet = 0
others_on (Firewall inside rules) es incarnation item packet =
    length (items_of (is_other_on (packet_key (policy_with inside rules) packet) incarnation item) es)
others_on (Balancer service) es incarnation item packet = 0

-- how many an item of a list makes at most
abbrev pub most_in : FunctionPlan → (ℕ → ℕ → Stand AnyFlight) → List Entry → ℕ → ℕ → ℕ
most_in function begins es incarnation item =
    most_at (ports_of function) (others_on function es incarnation item) (begins incarnation item)

-- how many an item of a plan makes at most, however it begins, where there are so many items
abbrev pub most_of : FunctionPlan → ℕ → ℕ
most_of (Nat pool) items = port_count pool + 3
most_of (Firewall inside rules) items = 2 + items
most_of (Balancer service) items = 2

-- The list is of these items.
abbrev pub AreOf : List Item → List Entry → Type 0
AreOf items es = AllByRecursion (λ e. is_of_items items e ≡ true) es

-- a firewall's failed write shows another packet's
abbrev pub ShowsFailures : FunctionPlan → List Entry → Type 0
ShowsFailures (Nat pool) es = Unit {0}
ShowsFailures (Firewall inside rules) es = FailuresShow es
ShowsFailures (Balancer service) es = Unit {0}

-- Each item makes at most so many accesses as it begins, and the list at most the sum over any items that it is of,
-- and at most so many for each of these.
pub record IsBoundedFor (function : FunctionPlan) (begins : ℕ → ℕ → Stand AnyFlight) (es : List Entry) : Type 0 where
  pub each : (incarnation item : ℕ) → length (own_of incarnation item es) ≤ most_in function begins es incarnation item
  pub total : (items : List Item) → AreOf items es → length es ≤ sum_over (most_in function begins es) items
  pub by_number : (items : List Item) → AreOf items es → length es ≤ length items * most_of function (length items)
  pub shows : ShowsFailures function es

-- the incarnation is a sweep
abbrev pub IsSweep : List Era → ℕ → Type 0
IsSweep eras incarnation = (actor : Actor) × (slice_get (actors_of eras) incarnation ≡ Some actor)
    × (actor.lane ≡ None)

-- The entries are of these packets, of which there are at most as many as the lanes have, so that each has one
-- incarnation, and of these items of sweeps.
pub record AreItemsOf {F A : Type 0} (s : Setting F A) (packets sweeps : List Item) (es : List Entry) : Type 0 where
  pub of : AreOf (packets ++ sweeps) es
  pub few : length packets ≤ total_of s.lanes
  pub swept : EachItem (λ incarnation item. IsSweep s.eras incarnation) sweeps
  pub items : length sweeps ≤ sweeps_in (actors_of s.eras) * s.sweep_items
