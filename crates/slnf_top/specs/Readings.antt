-- What a command reads, in order, and what it refuses by the bytes of its inputs.
use Rattle.std.specs.Prelude.{ℕ, ◌+◌, nat_le, if◌then◌else◌, Option, Some, None, List, [], ◌∷◌, ◌++◌, length, Result, Ok, Err}
use Rattle.slnf_pcap.specs.declared.errors.PcapError.{PcapError}
use Rattle.slnf_pcap.specs.declared.capture.Capture.{Capture}
use Rattle.slnf_pcap.specs.Captures.{capture_of}
use Rattle.slnf_plan.specs.declared.error.PlanError.{PlanError}
use Rattle.slnf_plan.specs.Plain.{PlainPlan}
use Rattle.slnf_plan.specs.Reading.{plan_of_bytes}
use Rattle.slnf_top.specs.declared.statuses.Status.{Status}
use Rattle.slnf_top.specs.declared.statuses.Status.TheVariants as status
use Rattle.slnf_top.specs.declared.inputs.Tally.{Tally}
use Rattle.slnf_top.specs.declared.products.Product.{Product}
use Rattle.slnf_top.specs.declared.products.Product.TheVariants.{Journal, Verdicts, Output}
use Rattle.slnf_top.specs.Limits.{plan_limit, capture_limit, captures_limit, packets_limit, journal_limit, verdicts_limit}
use Rattle.slnf_top.specs.Words.{PlanWords, Command, Run, Step, Check, Box, Load}
use Rattle.slnf_top.specs.Names.{verdicts_name, journal_name, capture_names}

-- A file that a command reads, by what it is to hold.
pub data Input : Type 0 where
  PlanFile : List ℕ → Input
  CaptureFile : List ℕ → Input
  -- what a run made
  ProductFile : Product → List ℕ → Input

abbrev pub name_of : Input → List ℕ
name_of (PlanFile name) = name
name_of (CaptureFile name) = name
name_of (ProductFile product name) = name

-- the captures under these names
abbrev pub captures_in : List (List ℕ) → List Input
captures_in [] = []
captures_in (name ∷ names) = CaptureFile name ∷ captures_in names

-- the output captures under these names
abbrev pub outputs_in : List (List ℕ) → List Input
outputs_in [] = []
outputs_in (name ∷ names) = ProductFile Output name ∷ outputs_in names

-- the plan and the captures of a run
abbrev pub run_inputs : PlanWords → List Input
run_inputs words = PlanFile words.plan ∷ captures_in words.captures

-- its journal
abbrev pub journal_file : List ℕ → Input
journal_file out = ProductFile Journal (journal_name out)

-- all that it made: the journal, the verdicts, and an output capture for each of these captures
abbrev pub products_by : List ℕ → List (List ℕ) → List Input
products_by out captures =
    journal_file out ∷ ProductFile Verdicts (verdicts_name out) ∷ outputs_in (capture_names out 0 captures)

-- the files that a command reads, in order
abbrev pub inputs_of : Command → List Input
inputs_of (Run words) = run_inputs words
inputs_of (Step words) = run_inputs words
inputs_of (Check words) = run_inputs words ++ products_by words.out words.captures
inputs_of (Box words) = run_inputs words ++ journal_file words.out ∷ []
inputs_of (Load words) = []

-- what was read as a plan
abbrev pub spelled_plan : Result PlainPlan PlanError → Result PlainPlan Status
spelled_plan (Ok plan) = Ok plan
spelled_plan (Err error) = Err (status.PlanBad error)

-- The plan that these bytes spell, or the first refusal: limit 1, or the plan's own. Of a file over its limit one
-- byte more than the limit is read.
abbrev pub plan_reading : List ℕ → Result PlainPlan Status
plan_reading bytes =
    if nat_le (length bytes) plan_limit
    then spelled_plan (plan_of_bytes bytes)
    else Err (status.OverLimit 1 (plan_limit + 1))

-- before the first capture
abbrev pub no_tally : Tally
no_tally = record { lanes = 0; bytes = 0; packets = 0 }

-- with one capture more
abbrev pub with_capture : Tally → List ℕ → Capture → Tally
with_capture tally bytes capture = record {
  lanes = tally.lanes + 1;
  bytes = tally.bytes + length bytes;
  packets = tally.packets + length capture.packets;
}

-- the packets of the captures so far with these are within limit 4
abbrev pub packets_reading : Tally → List ℕ → Capture → Result Tally Status
packets_reading tally bytes capture =
    if nat_le (tally.packets + length capture.packets) packets_limit
    then Ok (with_capture tally bytes capture)
    else Err (status.OverLimit 4 (tally.packets + length capture.packets))

-- what was read as a capture, and is the lane with this number
abbrev pub spelled_capture : Tally → List ℕ → Result Capture PcapError → Result Tally Status
spelled_capture tally bytes (Ok capture) = packets_reading tally bytes capture
spelled_capture tally bytes (Err error) = Err (status.CaptureBad tally.lanes error)

-- the bytes of the captures so far with these are within limit 3
abbrev pub bytes_reading : Tally → List ℕ → Result Tally Status
bytes_reading tally bytes =
    if nat_le (tally.bytes + length bytes) captures_limit
    then spelled_capture tally bytes (capture_of bytes)
    else Err (status.OverLimit 3 (tally.bytes + length bytes))

-- The tally with the capture of these bytes, or the first refusal: limit 2, limit 3, the capture's own, or limit 4.
abbrev pub capture_reading : Tally → List ℕ → Result Tally Status
capture_reading tally bytes =
    if nat_le (length bytes) capture_limit
    then bytes_reading tally bytes
    else Err (status.OverLimit 2 (capture_limit + 1))

-- the tally stays where a plan was read
abbrev pub with_plan : Tally → Result PlainPlan Status → Result Tally Status
with_plan tally (Ok plan) = Ok tally
with_plan tally (Err refusal) = Err refusal

-- what a run made has a limit with this number, of so many bytes
abbrev pub limit_of : Product → ℕ
limit_of Journal = 5
limit_of Verdicts = 6
limit_of Output = 2

abbrev pub most_of : Product → ℕ
most_of Journal = journal_limit
most_of Verdicts = verdicts_limit
most_of Output = capture_limit

-- The tally stays where what a run made is within its limit.
abbrev pub product_reading : Product → Tally → List ℕ → Result Tally Status
product_reading product tally bytes =
    if nat_le (length bytes) (most_of product)
    then Ok tally
    else Err (status.OverLimit (limit_of product) (most_of product + 1))

-- The tally behind an input with these bytes, or the refusal of it.
abbrev pub reading_of : Input → Tally → List ℕ → Result Tally Status
reading_of (PlanFile name) tally bytes = with_plan tally (plan_reading bytes)
reading_of (CaptureFile name) tally bytes = capture_reading tally bytes
reading_of (ProductFile product name) tally bytes = product_reading product tally bytes

-- the answer from the tally on, or the refusal
abbrev pub go_on : (Tally → Option Status) → Result Tally Status → Option Status
go_on answer (Ok tally) = answer tally
go_on answer (Err refusal) = Some refusal

-- The first refusal of these inputs, behind those of the tally, where they hold these bytes; none where all pass.
abbrev pub first_refusal : List Input → Tally → List (List ℕ) → Option Status
first_refusal [] tally bytes = None
first_refusal (input ∷ inputs) tally [] = None
first_refusal (input ∷ inputs) tally (bytes ∷ more) =
    go_on (λ next. first_refusal inputs next more) (reading_of input tally bytes)
