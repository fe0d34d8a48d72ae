-- Laws of the words in which the clauses speak, for the crates above.
use Rattle.std.proofs.Common.{◌≡◌, ◌⊎◌, inl, inr, ⊎_elim, ℕ, zero, suc, List, [], ◌∷◌, ◌++◌, length, slice_get, Some, refl, ap, sym, ◌∙◌, subst, arith}
use Rattle.slnf_turns.specs.declared.views.Line.{Line}
use Rattle.slnf_turns.specs.Values.{AreFresh}
use Rattle.slnf_turns.proofs.Items.{same_value}
pub use Rattle.slnf_turns.proofs.Lines.{lines_of_append, lines_of_all, lines_of_none, part_of_append, part_here, part_else}
pub use Rattle.slnf_turns.proofs.Lists.{begins_refl, begins_more, begins_trans}

-- an element of a list with one more is an old one, or the last
slice_end : {A : Type 0} (l : List A) (a : A) (k : ℕ) (x : A)
    → slice_get (l ++ a ∷ []) k ≡ Some x → (slice_get l k ≡ Some x) ⊎ ((k ≡ length l) × (a ≡ x))
slice_end [] a zero x e = inr (refl, same_value a x e)
slice_end [] a (suc k) x e = absurd (grind arith)
slice_end (y ∷ ys) a zero x e = inl e
slice_end {A} (y ∷ ys) a (suc k) x e = ⊎_elim (λ (h : slice_get ys k ≡ Some x). inl h)
    (λ (h : (k ≡ length ys) × (a ≡ x)). inr (ap suc h.0, h.1)) (slice_end ys a k x e)

-- one more value with an empty list
pub fresh_more : {B : Type 0} (lines : B → List Line) (place places : B → ℕ) (n : ℕ) (bs : List B) (b : B)
    → AreFresh lines place places n bs → lines b ≡ [] → place b ≡ length bs → places b ≡ n
    → AreFresh lines place places n (bs ++ b ∷ [])
fresh_more {B} lines place places n bs b old empty here among = λ k x e. ⊎_elim (λ (h : slice_get bs k ≡ Some x). old k x h)
    (λ (h : (k ≡ length bs) × (b ≡ x)). subst (λ (y : B). (lines y ≡ []) × (place y ≡ k) × (places y ≡ n)) h.1
    (empty, here ∙ sym h.0, among)) (slice_end bs b k x e)
