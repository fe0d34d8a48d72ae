-- The firewall's machine.
use Rattle.std.specs.Prelude.{ℕ, if◌then◌else◌, Option, Some, None}
use Rattle.slnf_base.specs.declared.packets.Packet.{Packet}
use Rattle.slnf_base.specs.declared.packets.Change.TheVariants.{Keep}
use Rattle.slnf_base.specs.declared.packets.Reason.TheVariants.{Neither, DeniedState}
use Rattle.slnf_base.specs.declared.packets.Verdict.TheVariants.{Emit, Dropped}
use Rattle.slnf_access.specs.declared.requests.Key.{Key}
use Rattle.slnf_access.specs.declared.requests.Value.{Value}
use Rattle.slnf_access.specs.declared.requests.Request.{Request}
use Rattle.slnf_access.specs.declared.requests.Request.TheVariants.{Read, PutIfAbsent, ReplaceIf}
use Rattle.slnf_access.specs.declared.requests.Reply.{Reply}
use Rattle.slnf_access.specs.declared.requests.Reply.TheVariants.{Done, Found, Absent}
use Rattle.slnf_access.specs.Machines.{Behaviour, Machine, machine_of}
use Rattle.slnf_access.specs.declared.functions.Start.{Start}
use Rattle.slnf_access.specs.declared.functions.Start.TheVariants.{Go as StartGo, Over as StartOver}
use Rattle.slnf_access.specs.declared.functions.Step.{Step}
use Rattle.slnf_access.specs.declared.functions.Step.TheVariants.{Go as StepGo, Over as StepOver}
use Rattle.slnf_keys.specs.Keys.{conn_key_number}
use Rattle.slnf_box.specs.Choices.{choice_of}
use Rattle.slnf_box.specs.Packets.{crosses, conn_of_packet}
use Rattle.slnf_box.specs.declared.choices.Choice.{Choice}
use Rattle.slnf_box.specs.declared.choices.Choice.TheVariants.{Refuses, Passes, Writes}
use Rattle.slnf_box.specs.declared.choices.Tracked.{Tracked}
use Rattle.slnf_box.specs.declared.policies.Policy.{Policy}
use Rattle.slnf_fw.specs.declared.flights.FwState.{FwState}
use Rattle.slnf_fw.specs.declared.flights.FwState.TheVariants.{Look, Add, Alter}
use Rattle.slnf_fw.specs.Conns.{tracked_number, tracked_of}
use Rattle.slnf_fw.specs.Flight.{Flying}

-- how a packet begins
abbrev pub fw_begins : Policy → Packet → Start Flying
fw_begins policy packet =
    if crosses policy packet then StartGo (record { state = Look; packet = packet }) else StartOver Neither

-- the number of the key of a packet's connection
abbrev pub packet_key : Policy → Packet → ℕ
packet_key policy packet = conn_key_number (conn_of_packet policy packet)

-- the key and the value in the store
abbrev pub fw_key : Policy → Packet → Key
fw_key policy packet = record { 0 = packet_key policy packet }

abbrev pub fw_value : Tracked → Value
fw_value tracked = record { 0 = tracked_number tracked }

-- the access that a packet asks for in its state
abbrev pub asks_in : Policy → FwState → Packet → Request
asks_in policy Look packet = Read (fw_key policy packet)
asks_in policy (Add tracked) packet = PutIfAbsent (fw_key policy packet) (fw_value tracked)
asks_in policy (Alter version tracked) packet = ReplaceIf (fw_key policy packet) version (fw_value tracked)

abbrev pub fw_asks : Policy → Flying → Request
fw_asks policy flight = asks_in policy flight.state flight.packet

-- the state in which it writes over what was found with this version, or anew where nothing was found
abbrev pub written_where : Option ℕ → Tracked → FwState
written_where None tracked = Add tracked
written_where (Some version) tracked = Alter version tracked

-- how a packet goes on by a choice: what is to be written takes an access of this kind
abbrev pub step_of_choice : Packet → (Tracked → FwState) → Choice → Step Flying
step_of_choice packet write (Refuses reason) = StepOver (Dropped reason)
step_of_choice packet write Passes = StepOver (Emit Keep)
step_of_choice packet write (Writes tracked) = StepGo (record { state = write tracked; packet = packet })

-- by what is kept where the version was found; what is ill is denied
abbrev pub decide_found : Policy → Packet → ℕ → Option Tracked → Step Flying
decide_found policy packet version None = StepOver (Dropped DeniedState)
decide_found policy packet version (Some tracked) =
    step_of_choice packet (Alter version) (choice_of policy packet (Some tracked))

-- by what a reply tells of the connection; a read is never done
abbrev pub decide : Policy → Packet → Reply → Step Flying
decide policy packet Absent = step_of_choice packet Add (choice_of policy packet None)
decide policy packet (Found value version) = decide_found policy packet version (tracked_of value.0)
decide policy packet (Done version) = StepOver (Dropped DeniedState)

-- how a packet goes on after a put or a replace
abbrev pub after_write : Policy → Packet → Reply → Step Flying
after_write policy packet (Done version) = StepOver (Emit Keep)
after_write policy packet (Found value version) = decide policy packet (Found value version)
after_write policy packet Absent = decide policy packet Absent

-- how a packet goes on after a reply
abbrev pub goes_in : Policy → FwState → Packet → Reply → Step Flying
goes_in policy Look packet reply = decide policy packet reply
goes_in policy (Add tracked) packet reply = after_write policy packet reply
goes_in policy (Alter version tracked) packet reply = after_write policy packet reply

abbrev pub fw_goes : Policy → Flying → Reply → Step Flying
fw_goes policy flight reply = goes_in policy flight.state flight.packet reply

-- What the function does with packets. It decides nothing before a packet's last access.
abbrev pub fw_behaviour : Policy → Behaviour Flying
fw_behaviour policy = record {
  begins = λ incarnation number packet. fw_begins policy packet;
  asks = fw_asks policy;
  goes = fw_goes policy;
  decided = λ flight. None;
}

-- the machine
abbrev pub fw_machine : Policy → Machine Flying
fw_machine policy = machine_of (fw_behaviour policy)
