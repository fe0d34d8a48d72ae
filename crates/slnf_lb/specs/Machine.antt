-- The balancer's machine.
use Rattle.std.specs.Prelude.{ℕ, ◌+◌, ◌%◌, if◌then◌else◌, Option, Some, None, List, length, slice_index_or}
use Rattle.slnf_base.specs.declared.addresses.Pair.{Pair}
use Rattle.slnf_base.specs.declared.packets.Proto.{Proto}
use Rattle.slnf_base.specs.declared.packets.Packet.{Packet}
use Rattle.slnf_base.specs.declared.packets.Change.TheVariants.{Source, Dest}
use Rattle.slnf_base.specs.declared.packets.Reason.TheVariants.{Neither, NotPinned}
use Rattle.slnf_base.specs.declared.packets.Verdict.TheVariants.{Emit, Dropped}
use Rattle.slnf_base.specs.declared.plans.Service.{Service}
use Rattle.slnf_base.specs.Equal.{is_same_pair}
use Rattle.slnf_access.specs.declared.requests.Key.{Key}
use Rattle.slnf_access.specs.declared.requests.Value.{Value}
use Rattle.slnf_access.specs.declared.requests.Request.{Request}
use Rattle.slnf_access.specs.declared.requests.Request.TheVariants.{Read, PutIfAbsent}
use Rattle.slnf_access.specs.declared.requests.Reply.{Reply}
use Rattle.slnf_access.specs.declared.requests.Reply.TheVariants.{Done, Found, Absent}
use Rattle.slnf_access.specs.Machines.{Behaviour, Machine, stand_of_step}
use Rattle.slnf_access.specs.declared.functions.Start.{Start}
use Rattle.slnf_access.specs.declared.functions.Start.TheVariants.{Go as StartGo, Over as StartOver}
use Rattle.slnf_access.specs.declared.functions.Step.{Step}
use Rattle.slnf_access.specs.declared.functions.Step.TheVariants.{Go as StepGo, Over as StepOver}
use Rattle.slnf_keys.specs.declared.values.Pin.{Pin}
use Rattle.slnf_keys.specs.Keys.{pin_key_number}
use Rattle.slnf_keys.specs.Values.{pin_number, pin_of}
use Rattle.slnf_box.specs.Services.{is_forward, is_return}
use Rattle.slnf_lb.specs.declared.flights.LbState.{LbState}
use Rattle.slnf_lb.specs.declared.flights.LbState.TheVariants.{Forward, Put, Return}
use Rattle.slnf_lb.specs.Flight.{Flying}

-- the backend that is chosen: the active ones take turns, by the incarnation and the packet's number
abbrev pub choice_of : List Pair → ℕ → ℕ → Pair
choice_of active incarnation number =
    slice_index_or active ((incarnation + number) % length active) (record { addr = 0; port = 0 })

-- how a packet begins
abbrev pub lb_begins : Service → List Pair → ℕ → ℕ → Packet → Start Flying
lb_begins service active incarnation number packet =
    let choice = choice_of active incarnation number in
    if is_forward service packet then StartGo (record { state = Forward; packet = packet; choice = choice })
    else (if is_return service packet then StartGo (record { state = Return; packet = packet; choice = choice })
    else StartOver Neither)

-- the key of a client's pin
abbrev pub pin_key : Proto → Pair → Key
pin_key proto client = record { 0 = pin_key_number (record { proto = proto; client = client }) }

-- the value of a pin
abbrev pub pin_value : Pair → Value
pin_value backend = record { 0 = pin_number (record { backend = backend }) }

-- the access that a packet asks for in its state
abbrev pub asks_in : LbState → Packet → Pair → Request
asks_in Forward packet choice = Read (pin_key packet.proto packet.source)
asks_in Put packet choice = PutIfAbsent (pin_key packet.proto packet.source) (pin_value choice)
asks_in Return packet choice = Read (pin_key packet.proto packet.dest)

abbrev pub lb_asks : Flying → Request
lb_asks flight = asks_in flight.state flight.packet flight.choice

-- the verdict of a packet to the front, whose client has this pin; an ill one is no number of a pin
abbrev pub forwarded : Option Pin → Step Flying
forwarded None = StepOver (Dropped NotPinned)
forwarded (Some pin) = StepOver (Emit (Dest pin.backend))

-- the verdict of a packet from a backend, whose client has this pin
abbrev pub returned : Service → Packet → Option Pin → Step Flying
returned service packet None = StepOver (Dropped NotPinned)
returned service packet (Some pin) =
    if is_same_pair pin.backend packet.source then StepOver (Emit (Source service.front)) else StepOver (Dropped NotPinned)

-- how a packet goes on after a reply
abbrev pub goes_in : Service → LbState → Packet → Pair → Reply → Step Flying
goes_in service Forward packet choice (Found value version) = forwarded (pin_of value.0)
goes_in service Forward packet choice Absent = StepGo (record { state = Put; packet = packet; choice = choice })
goes_in service Forward packet choice (Done version) = StepOver (Dropped NotPinned)
goes_in service Put packet choice (Done version) = StepOver (Emit (Dest choice))
goes_in service Put packet choice (Found value version) = forwarded (pin_of value.0)
goes_in service Put packet choice Absent = StepOver (Dropped NotPinned)
goes_in service Return packet choice (Found value version) = returned service packet (pin_of value.0)
goes_in service Return packet choice Absent = StepOver (Dropped NotPinned)
goes_in service Return packet choice (Done version) = StepOver (Dropped NotPinned)

abbrev pub lb_goes : Service → Flying → Reply → Step Flying
lb_goes service flight reply = goes_in service flight.state flight.packet flight.choice reply

-- What the function does with packets, where these backends are active.
abbrev pub lb_behaviour : Service → List Pair → Behaviour Flying
lb_behaviour service active = record {
  begins = lb_begins service active;
  asks = lb_asks;
  goes = lb_goes service;
  decided = λ flight. None;
}

-- The machine: it decides nothing before it ends.
abbrev pub lb_machine : Service → Machine Flying
lb_machine service = record {
  asks = lb_asks;
  goes = λ flight reply. stand_of_step (lb_goes service flight reply);
  decided = λ flight. None;
}
