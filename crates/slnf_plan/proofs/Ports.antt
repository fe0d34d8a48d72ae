-- A list of another count than two is of another kind.
use Rattle.std.proofs.Common.{◌≡◌, ℕ, List, [], ◌∷◌, length, refl}
use Rattle.toml.specs.View.{items_view}
use Rattle.toml.specs.declared.value.Value.{Value}
use Rattle.slnf_plan.specs.declared.refusal.Cause.TheVariants.{WrongType}
use Rattle.slnf_plan.specs.Refusals.{refuse}
use Rattle.slnf_plan.specs.Values.{two_ports}

pub two_ports-other : (least : ℕ) (vs : List Value) → (length vs ≡ 2 → ⊥) → two_ports least (items_view vs) ≡ refuse WrongType
two_ports-other least [] other = refl
two_ports-other least (a ∷ []) other = refl
two_ports-other least (a ∷ b ∷ []) other = absurd (other refl)
two_ports-other least (a ∷ b ∷ c ∷ vs) other = refl
