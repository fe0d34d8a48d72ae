-- How a packet in hand goes on by one entry of its own.
use Rattle.std.specs.Prelude.{◌≡◌, ℕ, Bool, true, false, if◌then◌else◌, Option, Some, None, List, IsSome}
use Rattle.slnf_base.specs.declared.packets.Packet.{Packet}
use Rattle.slnf_access.specs.declared.functions.Start.{Start}
use Rattle.slnf_access.specs.declared.functions.Start.TheVariants.{Go as StartGo, Over as StartOver}
use Rattle.slnf_access.specs.declared.functions.Step.{Step}
use Rattle.slnf_access.specs.declared.functions.Step.TheVariants.{Go as StepGo, Over as StepOver}
use Rattle.slnf_access.specs.declared.requests.Entry.{Entry}
use Rattle.slnf_access.specs.declared.requests.Request.{Request}
use Rattle.slnf_access.specs.declared.requests.Request.TheVariants.{Read, PutIfAbsent, ReplaceIf, DeleteIf}
use Rattle.slnf_plan.specs.declared.plan.FunctionPlan.{FunctionPlan}
use Rattle.slnf_run.specs.Scene.{Scene}
use Rattle.slnf_flight.specs.declared.flights.AnyFlight.{AnyFlight}
use Rattle.slnf_replay.specs.declared.hands.ItemKey.{ItemKey}
use Rattle.slnf_replay.specs.declared.hands.InHand.{InHand}
use Rattle.slnf_replay.specs.declared.seats.Seat.{Seat}
use Rattle.slnf_replay.specs.Hands.{hand_in, hand_after}
use Rattle.slnf_replay.specs.Packets.{has_first_place}
use Rattle.slnf_replay.specs.Seats.{seat_in}

-- the access takes something away
abbrev pub is_delete : Request → Bool
is_delete (Read key) = false
is_delete (PutIfAbsent key value) = false
is_delete (ReplaceIf key version value) = false
is_delete (DeleteIf key version) = true

-- a packet in hand whose first entry has this number, where it starts so
abbrev pub hand_of_start : ℕ → Start AnyFlight → Option InHand
hand_of_start first (StartGo flight) = Some (record { first = first; flight = flight })
hand_of_start first (StartOver reason) = None

-- what is in hand, or else this
abbrev pub hand_or : Option InHand → Option InHand → Option InHand
hand_or (Some hand) other = Some hand
hand_or None other = other

-- the packet that is in hand after a step, if it flies
abbrev pub hand_of_step : ℕ → Step AnyFlight → Option InHand
hand_of_step first (StepGo flight) = Some (record { first = first; flight = flight })
hand_of_step first (StepOver verdict) = None

-- The place of a packet that a step at the entry with the number `number` decides, where it has its first entry at
-- `first` and was decided before or not. A packet that flies is decided where it has only something to take away.
abbrev pub place_of_step : FunctionPlan → Packet → (AnyFlight → Request) → ℕ → ℕ → Bool → Step AnyFlight → Option ℕ
place_of_step function packet asks first number true step = None
place_of_step function packet asks first number false (StepGo flight) =
    if is_delete (asks flight) then Some number else None
place_of_step function packet asks first number false (StepOver verdict) =
    Some (if has_first_place function packet verdict then first else number)

-- The table has the packets in hand of all instances after so many entries.
abbrev pub AreInHand : {A : Type 0} → Scene AnyFlight A → List (Option Seat) → List Entry → ℕ →
    List (ItemKey × InHand) → Type 0
AreInHand s seats es count hands = (incarnation item : ℕ) → IsSome (seat_in seats incarnation) →
    hand_in hands incarnation item ≡ hand_after s es count incarnation item
