-- What a scene's machines and places keep to.
use Rattle.std.specs.Prelude.{◌≡◌, ℕ, Some, List, slice_get}
use Rattle.slnf_base.specs.declared.packets.Verdict.{Verdict}
use Rattle.slnf_access.specs.declared.requests.Entry.{Entry}
use Rattle.slnf_access.specs.declared.requests.Reply.{Reply}
use Rattle.slnf_access.specs.Machines.{Machine, decided_at}
use Rattle.slnf_run.specs.Scene.{Scene}
use Rattle.slnf_run.specs.Visits.{Decision, decision_at}

-- A machine keeps what it has decided.
abbrev pub IsSteady : {F : Type 0} → Machine F → Type 0
IsSteady machine = (flight : _) (reply : Reply) (verdict : Verdict) → machine.decided flight ≡ Some verdict →
    decided_at machine (machine.goes flight reply) ≡ Some verdict

-- Each packet has its place at an entry of its own.
abbrev pub HasOwnPlaces : {F A : Type 0} → Scene F A → List Entry → Type 0
HasOwnPlaces {F = F} s es = (number : ℕ) (e place : Entry) (decision : Decision F) → slice_get es number ≡ Some e →
    decision_at s es number ≡ Some decision → slice_get es (s.place es number decision.first decision.verdict)
    ≡ Some place → (place.incarnation ≡ e.incarnation) × (place.item ≡ e.item)
