-- A plan and captures, with the captures' bytes and their lanes, and how they are read.
use Rattle.std.specs.Prelude.{◌≡◌, ℕ, ◌≤◌, Option, Some, List, [], ◌∷◌, length, map, Ok, IfSome}
use Rattle.slnf_pcap.specs.declared.capture.Capture.{Capture}
use Rattle.slnf_plan.specs.declared.plan.Plan.{Plan}
use Rattle.slnf_plan.specs.Plain.{plain}
use Rattle.slnf_plan.specs.Reading.{plan_of_bytes}
use Rattle.slnf_flight.specs.declared.lanes.Lane.{Lane}
use Rattle.slnf_flight.specs.Lanes.{packet_count}
use Rattle.slnf_check.specs.declared.given.Given.{Given}
use Rattle.slnf_check.specs.Given.{IsRead, AreRead}
use Rattle.slnf_top.specs.declared.inputs.NextLane.{NextLane}
use Rattle.slnf_top.specs.declared.inputs.Captures.{Captures}
use Rattle.slnf_top.specs.declared.inputs.Inputs.{Inputs}
use Rattle.slnf_top.specs.declared.inputs.Tally.{Tally}
use Rattle.slnf_top.specs.Limits.{plan_limit, captures_limit, packets_limit}
use Rattle.slnf_top.specs.Readings.{PlanFile, captures_in, with_capture, capture_reading, no_tally}
use Rattle.slnf_top.specs.Reached.{Holds, HavePassed}

-- A lane is that of a capture of these bytes.
pub record IsLaneOf (bytes : List ℕ) (lane : Lane) : Type 0 where
  pub capture : Capture
  pub read : IsRead (record { bytes = bytes; capture = capture }) lane

-- lanes are those of captures of these bytes, in order
abbrev pub AreLanesOf : List (List ℕ) → List Lane → Type 0
AreLanesOf [] [] = Unit {0}
AreLanesOf [] (lane ∷ lanes) = ⊥
AreLanesOf (bytes ∷ more) [] = ⊥
AreLanesOf (bytes ∷ more) (lane ∷ lanes) = IsLaneOf bytes lane × AreLanesOf more lanes

-- the captures have these bytes, each where they are told
abbrev pub AreTold : List (Option (List ℕ)) → List Given → Type 0
AreTold [] [] = Unit {0}
AreTold [] (given ∷ more) = ⊥
AreTold (told ∷ others) [] = ⊥
AreTold (told ∷ others) (given ∷ more) =
    IfSome told (λ bytes. given.bytes ≡ bytes) × AreTold others more

-- these texts, each where it is told
abbrev pub AreTexts : List (Option (List ℕ)) → List (List ℕ) → Type 0
AreTexts [] [] = Unit {0}
AreTexts [] (text ∷ texts) = ⊥
AreTexts (told ∷ others) [] = ⊥
AreTexts (told ∷ others) (text ∷ texts) = IfSome told (λ bytes. text ≡ bytes) × AreTexts others texts

-- the shelf tells these bytes under these names
abbrev pub AreHeld : Holds → List (List ℕ) → List (List ℕ) → Type 0
AreHeld held [] [] = Unit {0}
AreHeld held [] (bytes ∷ more) = ⊥
AreHeld held (name ∷ names) [] = ⊥
AreHeld held (name ∷ names) (bytes ∷ more) = (held name ≡ Some bytes) × AreHeld held names more

-- The plan is that of these bytes, within limit 1.
pub record IsPlanOf (plan : Plan) (bytes : List ℕ) : Type 0 where
  pub within : length bytes ≤ plan_limit
  pub is : plan_of_bytes bytes ≡ Ok (plain plan)

-- A tally is that of these lanes, within the limits.
pub record IsTally (tally : Tally) (lanes : List Lane) : Type 0 where
  pub places : tally.lanes ≡ length lanes
  pub bytes : tally.bytes ≤ captures_limit
  pub packets : tally.packets ≡ packet_count lanes
  pub few : tally.packets ≤ packets_limit

-- The next capture was read behind those of the tally: it passes, and its tally is the next one.
pub record IsNext (tally : Tally) (next : NextLane) : Type 0 where
  pub read : IsRead next.given next.lane
  pub passed : capture_reading tally next.given.bytes ≡ Ok next.tally
  pub counted : next.tally ≡ with_capture tally next.given.bytes next.given.capture
  pub bytes : next.tally.bytes ≤ captures_limit
  pub packets : next.tally.packets ≤ packets_limit

-- All captures were read: they are what the shelf tells, and none is refused.
pub record AreCaptures (held : Holds) (names : List (List ℕ)) (captures : Captures) : Type 0 where
  pub read : AreRead captures.given captures.lanes
  pub told : AreTold (map held names) captures.given
  pub tally : IsTally captures.tally captures.lanes
  pub passed : HavePassed held (captures_in names) no_tally captures.tally

-- What a run comes from: the bytes of a plan and of captures, each where they are told.
pub record Source : Type 0 where
  pub plan : Option (List ℕ)
  pub captures : List (Option (List ℕ))

-- What a run works on: the plan and the captures of these bytes, and the lanes of these captures.
pub record WorksOn (source : Source) (plan : Plan) (given : List Given) (lanes : List Lane) : Type 0 where
  pub is_plan : IfSome source.plan (IsPlanOf plan)
  pub are_told : AreTold source.captures given
  pub are_read : AreRead given lanes

-- The plan of this name and the captures of these were read.
pub record AreInputs (plan : List ℕ) (names : List (List ℕ)) (held : Holds) (inputs : Inputs) : Type 0 where
  pub is_plan : IfSome (held plan) (IsPlanOf inputs.plan)
  pub are_told : AreTold (map held names) inputs.captures.given
  pub are_read : AreRead inputs.captures.given inputs.captures.lanes
  pub tally : IsTally inputs.captures.tally inputs.captures.lanes
  pub passed : HavePassed held (PlanFile plan ∷ captures_in names) no_tally inputs.captures.tally
