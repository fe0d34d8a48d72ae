-- A run has a verdict for each packet of each capture.
use Rattle.std.proofs.Common.{◌≡◌, ◌+◌, ℕ, zero, suc, List, [], ◌∷◌, length, map, refl, ap, ◌∙◌, arith}
use Rattle.std.specs.List.{range_with_len}
use Rattle.slnf_base.specs.declared.packets.Link.{Link}
use Rattle.slnf_access.specs.declared.requests.Entry.{Entry}
use Rattle.slnf_pcap.specs.declared.capture.Captured.{Captured}
use Rattle.slnf_run.specs.Setting.{Setting}
use Rattle.slnf_run.specs.Verdicts.{verdict_of, verdicts_from}
use Rattle.slnf_flight.specs.declared.lanes.Lane.{Lane}
use Rattle.slnf_flight.specs.Captures.{packets_in}
use Rattle.slnf_flight.specs.Lanes.{lane_sizes}
use Rattle.slnf_check.specs.declared.given.Given.{Given}
use Rattle.slnf_check.specs.Given.{AreRead, AreGiven, AreSized}

-- how many there are of a mapped list, and of a range
pub length_map : {X Y : Type 0} (f : X → Y) (xs : List X) → length (map f xs) ≡ length xs
length_map f [] = refl
length_map f (x ∷ xs) = let q : length (map f xs) ≡ length xs = length_map f xs in omega arith

pub length_range : (start count : ℕ) → length (range_with_len start count) ≡ count
length_range start zero = refl
length_range start (suc count) =
    let q : length (range_with_len (start + 1) count) ≡ count = length_range (start + 1) count in omega arith

-- and of the packets of a capture
pub length_packets : (link : Link) (bytes : List ℕ) (packets : List Captured) →
    length (packets_in link bytes packets) ≡ length packets
length_packets link bytes [] = refl
length_packets link bytes (packet ∷ packets) =
    let q : length (packets_in link bytes packets) ≡ length packets = length_packets link bytes packets in omega arith

-- captures that were read are whole
pub are_given : (given : List Given) (lanes : List Lane) → AreRead given lanes → AreGiven given
are_given [] lanes h = tt
are_given (g ∷ given) [] h = absurd h
are_given (g ∷ given) (lane ∷ lanes) h = (h.0.whole, are_given given lanes h.1)

-- there are as many as lanes
pub as_many : (given : List Given) (lanes : List Lane) → AreRead given lanes → length given ≡ length lanes
as_many [] [] h = refl
as_many [] (lane ∷ lanes) h = absurd h
as_many (g ∷ given) [] h = absurd h
as_many (g ∷ given) (lane ∷ lanes) h =
    let q : length given ≡ length lanes = as_many given lanes h.1 in omega arith

module _ {F A : Type 0} (s : Setting F A) (j : List Entry) where
  -- each capture has a verdict for each packet
  pub sized_from : (first : ℕ) (given : List Given) (lanes : List Lane) → AreRead given lanes →
      AreSized given (verdicts_from s j first (lane_sizes lanes))
  sized_from first [] [] h = tt
  sized_from first [] (lane ∷ lanes) h = absurd h
  sized_from first (g ∷ given) [] h = absurd h
  sized_from first (g ∷ given) (lane ∷ lanes) h = (
    length_map (verdict_of s j first) (range_with_len 0 (length lane.packets)) ∙ length_range 0 (length lane.packets)
        ∙ ap length h.0.views ∙ length_packets g.capture.link g.bytes g.capture.packets,
    sized_from (first + 1) given lanes h.1,
  )
