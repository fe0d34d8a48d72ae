-- What one keeps who follows a list of entries: the epoch in hand, how many packets of each lane earlier epochs took,
-- and a hand of each of its actors.
use Rattle.std.specs.Prelude.{◌≡◌, ℕ, zero, suc, ◌+◌, ◌<◌, Bool, true, false, if◌then◌else◌, Option, Some, None, List, [], ◌∷◌, length, slice_get, set}
use Rattle.std.specs.List.{AllByRecursion}
use Rattle.slnf_access.specs.declared.requests.Entry.{Entry}
use Rattle.slnf_run.specs.Setting.{Actor, Era, Setting, is_on, base_of}
use Rattle.slnf_run.specs.Parts.{offers_of, at_lane, places_after}
use Rattle.slnf_run.specs.Made.{Grown}
use Rattle.slnf_local.specs.Local.{AllOver, IsExpected}
use Rattle.slnf_local.specs.Hands.{Hand, hand_of, hand_first, hand_after, hand_is_over, taken_by}

-- The epoch in hand, its first incarnation, how far each lane had come when it began, and its actors' hands.
pub record Follower (F : Type 0) : Type 0 where
  pub number : ℕ
  pub base : ℕ
  pub places : ℕ → ℕ
  pub hands : List (Hand F)

-- the actors of an epoch, if there is one
abbrev pub actors_in : Option Era → List Actor
actors_in None = []
actors_in (Some era) = era.actors

-- the actors of the epoch with this number
abbrev pub actors_at : List Era → ℕ → List Actor
actors_at eras number = actors_in (slice_get eras number)

-- how far each lane has come before the epoch with this number
abbrev pub places_at : {F A : Type 0} → Setting F A → List Entry → ℕ → (ℕ → ℕ) → List Era → ℕ → (ℕ → ℕ)
places_at s es base places eras zero = places
places_at s es base places [] (suc number) = places
places_at s es base places (era ∷ eras) (suc number) =
    places_at s es (base + length era.actors) (places_after s es base places era) eras number

-- the hands of these actors after these entries, of which the first is this incarnation
abbrev pub hands_of : {F A : Type 0} → Setting F A → List Entry → ℕ → ℕ → (ℕ → ℕ) → List Actor → List (Hand F)
hands_of s es number incarnation places [] = []
hands_of s es number incarnation places (actor ∷ actors) =
    hand_of s es incarnation (record { actor = actor; era = number; at = at_lane places actor })
    ∷ hands_of s es number (incarnation + 1) places actors

-- and before any entry of theirs
abbrev pub hands_first : {F A : Type 0} → Setting F A → ℕ → (ℕ → ℕ) → List Actor → List (Hand F)
hands_first s incarnation places [] = []
hands_first s incarnation places (actor ∷ actors) =
    hand_first (s.scene.begins incarnation) (offers_of s incarnation (at_lane places actor) actor)
    ∷ hands_first s (incarnation + 1) places actors

-- The state after these entries with the epoch of this number in hand. It is determined by them.
abbrev pub follower_of : {F A : Type 0} → Setting F A → List Entry → ℕ → Follower F
follower_of s es number =
    let places : ℕ → ℕ = places_at s es 0 (λ lane. 0) s.eras number in
    record {
      number = number;
      base = base_of s.eras number;
      places = places;
      hands = hands_of s es number (base_of s.eras number) places (actors_at s.eras number);
    }

-- all actors with these hands have ended
abbrev pub all_over : {F : Type 0} → List Actor → List (Hand F) → Bool
all_over [] hands = true
all_over (actor ∷ actors) [] = false
all_over (actor ∷ actors) (hand ∷ hands) = if hand_is_over actor hand then all_over actors hands else false

-- how many packets of a lane the actors with these hands took
abbrev pub taken_in : {F A : Type 0} → Setting F A → ℕ → (ℕ → ℕ) → ℕ → List Actor → List (Hand F) → ℕ
taken_in s incarnation places lane [] hands = 0
taken_in s incarnation places lane (actor ∷ actors) [] = 0
taken_in s incarnation places lane (actor ∷ actors) (hand ∷ hands) =
    (if is_on lane actor then taken_by actor hand (offers_of s incarnation (at_lane places actor) actor) else 0)
    + taken_in s (incarnation + 1) places lane actors hands

-- before the first entry
abbrev pub first_epoch : {F A : Type 0} → Setting F A → Follower F
first_epoch s = record {
  number = 0;
  base = 0;
  places = λ lane. 0;
  hands = hands_first s 0 (λ lane. 0) (actors_at s.eras 0);
}

-- the next epoch in hand, where all actors of this one have ended
abbrev pub next_epoch : {F A : Type 0} → Setting F A → Follower F → Follower F
next_epoch s f =
    let actors : List Actor = actors_at s.eras f.number in
    let places : ℕ → ℕ = λ lane. f.places lane + taken_in s f.base f.places lane actors f.hands in
    record {
      number = f.number + 1;
      base = f.base + length actors;
      places = places;
      hands = hands_first s (f.base + length actors) places (actors_at s.eras (f.number + 1));
    }

-- the state with another hand of one actor, by its number in the epoch
abbrev pub with_hand : {F : Type 0} → Follower F → ℕ → Hand F → Follower F
with_hand f k hand = record { number = f.number; base = f.base; places = f.places; hands = set f.hands k hand }

-- the hand of this actor of the epoch in hand, after an expected entry
abbrev pub hand_next : {F A : Type 0} → Setting F A → Follower F → Actor → Hand F → Entry → Hand F
hand_next s f actor hand e =
    hand_after (s.scene.machine e.incarnation) (s.scene.begins e.incarnation)
    (offers_of s e.incarnation (at_lane f.places actor) actor) hand e

-- The state is that of one who followed these entries.
pub record IsFollowed {F A : Type 0} (s : Setting F A) (es : List Entry) (f : Follower F) : Type 0 where
  pub grown : Grown (IsExpected s) [] es
  pub over : AllOver s es f.number
  pub within : AllByRecursion (λ e. e.incarnation < base_of s.eras (suc f.number)) es
  pub state : f ≡ follower_of s es f.number
