-- Captures with their bytes and their lanes.
use Rattle.std.specs.Prelude.{◌≡◌, ◌≤◌, List, [], ◌∷◌, length, Ok, All}
use Rattle.slnf_base.specs.declared.packets.Verdict.{Verdict}
use Rattle.slnf_pcap.specs.Captures.{capture_of, LiesIn}
use Rattle.slnf_flight.specs.declared.lanes.Lane.{Lane}
use Rattle.slnf_flight.specs.Captures.{packets_of}
use Rattle.slnf_check.specs.declared.given.Given.{Given}

-- A capture is that of its bytes, in which its header and its records lie.
pub record IsGiven (given : Given) : Type 0 where
  pub header : 24 ≤ length given.bytes
  pub capture : capture_of given.bytes ≡ Ok given.capture
  pub lie : All (LiesIn given.bytes) given.capture.packets

-- A capture and its lane, which has the views of its packets.
pub record IsRead (given : Given) (lane : Lane) : Type 0 where
  pub whole : IsGiven given
  pub views : lane.packets ≡ packets_of given.bytes given.capture

-- captures and their lanes, in order
abbrev pub AreRead : List Given → List Lane → Type 0
AreRead [] [] = Unit {0}
AreRead [] (lane ∷ lanes) = ⊥
AreRead (given ∷ more) [] = ⊥
AreRead (given ∷ more) (lane ∷ lanes) = IsRead given lane × AreRead more lanes

-- a verdict for each packet of each capture
abbrev pub AreSized : List Given → List (List Verdict) → Type 0
AreSized [] [] = Unit {0}
AreSized [] (verdicts ∷ others) = ⊥
AreSized (given ∷ more) [] = ⊥
AreSized (given ∷ more) (verdicts ∷ others) = (length verdicts ≡ length given.capture.packets) × AreSized more others

-- each capture is whole
abbrev pub AreGiven : List Given → Type 0
AreGiven [] = Unit {0}
AreGiven (given ∷ more) = IsGiven given × AreGiven more
