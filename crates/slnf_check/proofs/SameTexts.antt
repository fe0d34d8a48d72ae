-- No place where two texts differ is there exactly where they are one.
use Rattle.std.proofs.Common.{◌≡◌, ◌==◌, ℕ, suc, Bool, true, false, Option, Some, None, List, [], ◌∷◌, refl, ap, ◌∙◌, eqb-true, eq-eqb}
use Rattle.std.specs.Prelude.{option_map}
use Rattle.slnf_check.specs.Compare.{behind, first_other_byte}

-- a mapped answer is none exactly where it was none
pub unmapped : {X Y : Type 0} (f : X → Y) (found : Option X) → option_map f found ≡ None → found ≡ None
unmapped f None h = refl
unmapped f (Some x) h = cc

behind_none : (same : Bool) (found : Option ℕ) → behind same found ≡ None → (same ≡ true) × (found ≡ None)
behind_none true found h = (refl, unmapped suc found h)
behind_none false found h = cc

pub same_where_none : (ones others : List ℕ) → first_other_byte ones others ≡ None → ones ≡ others
unfolding first_other_byte
same_where_none [] [] h = refl
same_where_none [] (other ∷ others) h = cc
same_where_none (one ∷ ones) [] h = cc
same_where_none (one ∷ ones) (other ∷ others) h =
    let parts = behind_none (one == other) (first_other_byte ones others) h in
    let heads : one ≡ other = eqb-true one other parts.0 in
    let tails : ones ≡ others = same_where_none ones others parts.1 in
    ap (λ (x : ℕ). x ∷ ones) heads ∙ ap (λ (xs : List ℕ). other ∷ xs) tails

pub none_where_same : (texts : List ℕ) → first_other_byte texts texts ≡ None
unfolding first_other_byte
none_where_same [] = refl
none_where_same (byte ∷ bytes) =
    ap (λ (b : Bool). behind b (first_other_byte bytes bytes)) (eq-eqb byte byte refl)
    ∙ ap (option_map suc) (none_where_same bytes)
