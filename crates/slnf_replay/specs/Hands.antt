-- Which packets are in hand after the first entries of a list.
use Rattle.std.specs.Prelude.{ℕ, Bool, ◌&&◌, ◌==◌, if◌then◌else◌, Option, Some, None, List, [], ◌∷◌, take}
use Rattle.std.specs.Map.{lookup}
use Rattle.slnf_access.specs.declared.requests.Entry.{Entry}
use Rattle.slnf_access.specs.Machines.{Stand, Flies, Ends}
use Rattle.slnf_run.specs.Scene.{Scene, own_of, stand_of}
use Rattle.slnf_run.specs.Looks.{first_of}
use Rattle.slnf_flight.specs.declared.flights.AnyFlight.{AnyFlight}
use Rattle.slnf_replay.specs.declared.hands.ItemKey.{ItemKey}
use Rattle.slnf_replay.specs.declared.hands.InHand.{InHand}

-- the keys are one
abbrev pub is_same_item : ItemKey → ItemKey → Bool
is_same_item a b = a.incarnation == b.incarnation && a.item == b.item

-- what the entries have of an incarnation's item
abbrev pub hand_in : List (ItemKey × InHand) → ℕ → ℕ → Option InHand
hand_in entries incarnation item =
    lookup (is_same_item (record { incarnation = incarnation; item = item })) entries

-- a table of items, with this at one of them
abbrev pub with_hand : (ℕ → ℕ → Option InHand) → ℕ → ℕ → Option InHand → ℕ → ℕ → Option InHand
with_hand table incarnation item hand =
    λ i k. if i == incarnation && k == item then hand else table i k

-- a packet that has made its own entries and stands so is in hand while it flies
abbrev pub hand_of_stand : ℕ → List Entry → Stand AnyFlight → Option InHand
hand_of_stand first [] stand = None
hand_of_stand first (e ∷ own) (Ends end) = None
hand_of_stand first (e ∷ own) (Flies flight) = Some (record { first = first; flight = flight })

-- the packet in hand of an incarnation's item after so many entries
abbrev pub hand_after : {A : Type 0} → Scene AnyFlight A → List Entry → ℕ → ℕ → ℕ → Option InHand
hand_after s es count incarnation item =
    hand_of_stand (first_of incarnation item es) (own_of incarnation item (take count es))
    (stand_of s incarnation item (take count es))
