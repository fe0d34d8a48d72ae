use Rattle.std.specs.Prelude.{◌≡◌, ℕ, Option, Some, List, [], ◌∷◌}
use Rattle.slnf_base.specs.declared.packets.Packet.{Packet}
use Rattle.slnf_base.specs.declared.packets.Verdict.{Verdict}
use Rattle.slnf_base.specs.declared.packets.Verdict.TheVariants.{Dropped}
use Rattle.slnf_access.specs.declared.functions.Start.{Start}
use Rattle.slnf_access.specs.declared.functions.Start.TheVariants.{Go as StartGo, Over as StartOver}
use Rattle.slnf_access.specs.declared.functions.Step.{Step}
use Rattle.slnf_access.specs.declared.functions.Step.TheVariants.{Go as StepGo, Over as StepOver}
use Rattle.slnf_access.specs.declared.requests.Entry.{Entry}
use Rattle.slnf_access.specs.declared.requests.Request.{Request}
use Rattle.slnf_access.specs.declared.requests.Reply.{Reply}

-- Where an item stands: it goes on as a flight, or it has ended, with a verdict or (a sweep's port) with none.
pub data Stand (F : Type 0) : Type 0 where
  Flies : F → Stand F
  Ends : Option Verdict → Stand F

-- A machine: the access that a flight asks for, where it stands after a reply, and the verdict that is already
-- decided while an access is still to make.
pub record Machine (F : Type 0) : Type 0 where
  pub asks : F → Request
  pub goes : F → Reply → Stand F
  pub decided : F → Option Verdict

-- What a function does with packets: how one begins, by the incarnation and the packet's number; the access that a
-- flight makes next; how it goes on after a reply; and the verdict that it has already decided, where it still has an
-- access to make.
pub record Behaviour (F : Type 0) : Type 0 where
  pub begins : ℕ → ℕ → Packet → Start F
  pub asks : F → Request
  pub goes : F → Reply → Step F
  pub decided : F → Option Verdict

-- where a packet stands that begins so
abbrev pub stand_of_start : {F : Type 0} → Start F → Stand F
stand_of_start (StartGo flight) = Flies flight
stand_of_start (StartOver reason) = Ends (Some (Dropped reason))

-- where a packet stands that goes on so
abbrev pub stand_of_step : {F : Type 0} → Step F → Stand F
stand_of_step (StepGo flight) = Flies flight
stand_of_step (StepOver verdict) = Ends (Some verdict)

-- the machine of a function's flights
abbrev pub machine_of : {F : Type 0} → Behaviour F → Machine F
machine_of behaviour = record {
  asks = behaviour.asks;
  goes = λ flight reply. stand_of_step (behaviour.goes flight reply);
  decided = behaviour.decided;
}

-- where an item stands after one more entry
abbrev pub stand_step : {F : Type 0} → Machine F → Stand F → Entry → Stand F
stand_step machine (Flies flight) e = machine.goes flight e.reply
stand_step machine (Ends verdict) e = Ends verdict

-- where an item stands after its entries
abbrev pub stand_after : {F : Type 0} → Machine F → Stand F → List Entry → Stand F
stand_after machine stand [] = stand
stand_after machine stand (e ∷ es) = stand_after machine (stand_step machine stand e) es

-- the entry's request is the one that the item asks for; an item that has ended asks for none
abbrev pub IsAsked : {F : Type 0} → Machine F → Stand F → Entry → Type 0
IsAsked machine (Flies flight) e = e.request ≡ machine.asks flight
IsAsked machine (Ends verdict) e = ⊥

-- the entries are a path: requests and replies follow the machine, and stop where it ends
abbrev pub IsPath : {F : Type 0} → Machine F → Stand F → List Entry → Type 0
IsPath machine stand [] = Unit {0}
IsPath machine stand (e ∷ es) = IsAsked machine stand e × IsPath machine (stand_step machine stand e) es

-- the item has ended
abbrev pub HasEnded : {F : Type 0} → Stand F → Type 0
HasEnded (Flies flight) = ⊥
HasEnded (Ends verdict) = Unit {0}

-- the verdict that is decided where an item stands
abbrev pub decided_at : {F : Type 0} → Machine F → Stand F → Option Verdict
decided_at machine (Flies flight) = machine.decided flight
decided_at machine (Ends verdict) = verdict
