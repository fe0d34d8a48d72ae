-- Batches cut one after another, as a program cuts them from what is left of a lane.
use Rattle.std.specs.Prelude.{◌≡◌, ℕ, ◌+◌, ◌<◌, Option, List, [], ◌++◌, length, map}
use Rattle.std.specs.List.{range_with_len, AllByRecursion}
use Rattle.slnf_access.specs.Machines.{Stand}
use Rattle.slnf_run.specs.Jobs.{Offer, batched}
use Rattle.slnf_local.specs.Hands.{Item}

-- these items, where they stand so
abbrev pub items_at : {F : Type 0} → (ℕ → Stand F) → List ℕ → List (Item F)
items_at stand items = map (λ item. record { number = item; stand = stand item }) items

-- The offers are those of batches before this number, and those cut from what is left of the lane: `left` packets from
-- `from` on. The actor began at `at`.
pub record IsDealt (offers : List Offer) (limit : ℕ) (first : ℕ → Option ℕ) (at number from left : ℕ) : Type 0 where
  pub earlier : List Offer
  pub whole : offers ≡ earlier ++ batched limit first number 0 [] (range_with_len from left)
  pub below : AllByRecursion (λ offer. offer.batch < number) earlier
  pub place : from ≡ at + length earlier
