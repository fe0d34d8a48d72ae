-- Actors on lanes of their own, along a list of them.
use Rattle.std.proofs.Common.{◌≡◌, ◌⊎◌, inl, inr, ℕ, suc, Bool, true, false, Some, List, ◌∷◌, slice_get, refl, arith}
use Rattle.slnf_run.specs.Setting.{Actor, is_on}
use Rattle.slnf_run.specs.OneBox.{HasLanesOnce}

-- none of these is on the lane
abbrev pub NoneOn : ℕ → List Actor → Type 0
NoneOn lane actors = (k : ℕ) (actor : Actor) → slice_get actors k ≡ Some actor → is_on lane actor ≡ true → ⊥

-- the others aren't on the first one's lane
pub none_on : (lane : ℕ) (actor : Actor) (actors : List Actor) → HasLanesOnce (actor ∷ actors) →
    is_on lane actor ≡ true → NoneOn lane actors
none_on lane actor actors once on k other at there =
    let same : 0 ≡ suc k = once lane 0 (suc k) actor other refl at on there in omega arith

-- and are apart themselves
pub rest_once : (actor : Actor) (actors : List Actor) → HasLanesOnce (actor ∷ actors) → HasLanesOnce actors
rest_once actor actors once lane i k a b at_a at_b on_a on_b =
    let same : suc i ≡ suc k = once lane (suc i) (suc k) a b at_a at_b on_a on_b in omega arith

pub none_rest : (lane : ℕ) (actor : Actor) (actors : List Actor) → NoneOn lane (actor ∷ actors) → NoneOn lane actors
none_rest lane actor actors none k other at there = none (suc k) other at there

-- a test that can't hold
pub not_so : (b : Bool) → (b ≡ true → ⊥) → b ≡ false
not_so true h = absurd (h refl)
not_so false h = refl

pub either_way : (b : Bool) → (b ≡ true) ⊎ (b ≡ false)
either_way true = inl refl
either_way false = inr refl
