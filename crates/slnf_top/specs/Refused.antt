-- Why a step of the command is refused.
use Rattle.std.specs.Prelude.{◌≡◌, ◌≢◌, ◌⊎◌, ℕ, ◌+◌, ◌<◌, Option, List, length, Err, IfSome}
use Rattle.slnf_pcap.specs.declared.errors.PcapError.{PcapError}
use Rattle.slnf_pcap.specs.declared.errors.PcapError.TheVariants.{NoMemory as PcapNoMemory}
use Rattle.slnf_pcap.specs.declared.capture.Capture.{Capture}
use Rattle.slnf_plan.specs.declared.error.PlanError.{PlanError}
use Rattle.slnf_plan.specs.declared.error.PlanError.TheVariants.{NoMemory as PlanNoMemory}
use Rattle.slnf_shelf.specs.Shelf.{Faults}
use Rattle.slnf_check.specs.declared.refusals.CheckError.{CheckError}
use Rattle.slnf_check.specs.declared.refusals.CheckError.TheVariants as errors
use Rattle.slnf_top.specs.declared.statuses.Status.{Status}
use Rattle.slnf_top.specs.declared.statuses.Status.TheVariants as status
use Rattle.slnf_top.specs.Kinds.{Kind, Whole, Formless, Refusing, Broken, Unread, Unwritten, Wanting, kind_of}
use Rattle.slnf_top.specs.declared.inputs.Tally.{Tally}
use Rattle.slnf_top.specs.Readings.{Input, reading_of, plan_reading, capture_reading, packets_reading}
use Rattle.slnf_top.specs.Reached.{Holds, MayRefuse, IsUnreadFrom, IsRefusedFrom, IsUnread, IsRefused}
use Rattle.slnf_top.specs.declared.outputs.File.{File}
use Rattle.slnf_top.specs.Files.{WroteSome, StoppedAt}

-- how a command ends whose files aren't accepted
abbrev pub status_of_check : CheckError → Status
status_of_check (errors.Refused refusal) = status.Refused refusal
status_of_check errors.NoMemory = status.NoMemory

-- a read was refused: its file met a fault (`rose`), memory was wanting, or the bytes give the status (`gives`)
abbrev pub RefusesBy : Type 0 → Type 0 → Kind → Type 0
RefusesBy rose gives Whole = ⊥
RefusesBy rose gives Formless = ⊥
RefusesBy rose gives Refusing = gives
RefusesBy rose gives Broken = ⊥
RefusesBy rose gives Unread = rose
RefusesBy rose gives Unwritten = ⊥
RefusesBy rose gives Wanting = Unit {0}

abbrev pub Refuses : Type 0 → (Status → Type 0) → Status → Type 0
Refuses rose gives ended = RefusesBy rose (gives ended) (kind_of ended)

-- the input was refused, behind this tally
abbrev pub RefusesOne : Input → Tally → Option (List ℕ) → Status → Type 0
RefusesOne input tally held refusal =
    MayRefuse input tally refusal × IfSome held (λ bytes. reading_of input tally bytes ≡ Err refusal)

-- these bytes of a plan within its limit are refused
abbrev pub IsBadPlan : List ℕ → Status → Type 0
IsBadPlan bytes refusal =
    ((error : PlanError) × (error ≢ PlanNoMemory) × (refusal ≡ status.PlanBad error))
    × (plan_reading bytes ≡ Err refusal)

-- these bytes of a capture within its limit are refused, behind this tally
abbrev pub IsBadCapture : Tally → List ℕ → Status → Type 0
IsBadCapture tally bytes refusal =
    (((error : PcapError) × (error ≢ PcapNoMemory) × (refusal ≡ status.CaptureBad tally.lanes error))
    ⊎ ((count : ℕ) × (refusal ≡ status.OverLimit 3 count)) ⊎ ((count : ℕ) × (refusal ≡ status.OverLimit 4 count)))
    × (capture_reading tally bytes ≡ Err refusal)

-- there are too many packets with this capture, behind this tally
abbrev pub AreTooMany : Tally → List ℕ → Capture → Status → Type 0
AreTooMany tally bytes capture refusal =
    ((count : ℕ) × (refusal ≡ status.OverLimit 4 count)) × (packets_reading tally bytes capture ≡ Err refusal)

-- one of these inputs was refused, behind this tally
abbrev pub RefusesFrom : Tally → Holds → List Input → Faults → Faults → Status → Type 0
RefusesFrom first held inputs before now ended =
    Refuses (IsUnreadFrom first held inputs before now) (IsRefusedFrom first held inputs) ended

-- one of these inputs was refused
abbrev pub RefusesInputs : Holds → List Input → Faults → Faults → Status → Type 0
RefusesInputs held inputs before now ended =
    Refuses (IsUnread held inputs before now) (IsRefused held inputs) ended

-- no count of faults changed, unless the status is this fault
abbrev pub StaysUnless : Status → Faults → Faults → Status → Type 0
StaysUnless fault before now ended = ended ≢ fault → now ≡ before

-- the status says that the file is over this limit, and it is
abbrev pub IsOver : ℕ → ℕ → Option (List ℕ) → Status → Type 0
IsOver limit most held refusal =
    (refusal ≡ status.OverLimit limit (most + 1)) × IfSome held (λ bytes. most < length bytes)

-- writing stopped: a begin or an append met a fault, or memory was wanting
abbrev pub StopsBy : Type 0 → Kind → Type 0
StopsBy rose Whole = ⊥
StopsBy rose Formless = ⊥
StopsBy rose Refusing = ⊥
StopsBy rose Broken = ⊥
StopsBy rose Unread = ⊥
StopsBy rose Unwritten = rose
StopsBy rose Wanting = Unit {0}

abbrev pub StopsWriting : Type 0 → Status → Type 0
StopsWriting rose ended = StopsBy rose (kind_of ended)

-- a fault of writing stopped it within this file, or at one of these files
abbrev pub StopsWithin : File → Faults → Faults → Holds → Holds → Status → Type 0
StopsWithin file before now held holds ended = ended ≡ status.WriteFault → WroteSome file before now held holds

abbrev pub StopsAt : List File → Faults → Faults → Holds → Holds → Status → Type 0
StopsAt files before now held holds ended = ended ≡ status.WriteFault → StoppedAt files before now held holds
