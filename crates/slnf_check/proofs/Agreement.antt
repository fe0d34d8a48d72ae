-- Texts that agree up to a place, and where they differ first.
use Rattle.std.proofs.Common.{◌≡◌, ◌≤◌, ◌<◌, ◌+◌, ◌⊎◌, inl, inr, zero, suc, ℕ, Bool, Some, None, List, [], ◌∷◌, length, slice_index_or, min, refl, sym, ap, ◌∙◌, arith, eq-eqb, ne_eqb}
use Rattle.std.specs.Prelude.{option_map}
use Rattle.std.proofs.lemmas.Bool.{cases_eq, cases_lt}
use Rattle.slnf_check.specs.Compare.{behind, first_other_byte}

-- the texts have the same bytes before this place
abbrev pub Agree : ℕ → List ℕ → List ℕ → Type 0
Agree place ones others = (i : ℕ) → i < place → slice_index_or ones i 0 ≡ slice_index_or others i 0

pub agree_more : (place : ℕ) (ones others : List ℕ) → Agree place ones others →
    slice_index_or ones place 0 ≡ slice_index_or others place 0 → Agree (place + 1) ones others
agree_more place ones others before here i below = elim (cases_eq i place) [
  | inl at ↦ ap (λ (k : ℕ). slice_index_or ones k 0) at ∙ here ∙ sym (ap (λ (k : ℕ). slice_index_or others k 0) at)
  | inr other ↦ before i (omega (arith, below, other))
]

behind_it : (one other : ℕ) (ones others : List ℕ) → one ≡ other →
    first_other_byte (one ∷ ones) (other ∷ others) ≡ option_map suc (first_other_byte ones others)
unfolding first_other_byte
behind_it one other ones others same = ap (λ (b : Bool). behind b (first_other_byte ones others)) (eq-eqb one other same)

here : (one other : ℕ) (ones others : List ℕ) → (one ≡ other → ⊥) →
    first_other_byte (one ∷ ones) (other ∷ others) ≡ Some 0
unfolding first_other_byte
here one other ones others differ = ap (λ (b : Bool). behind b (first_other_byte ones others)) (ne_eqb one other differ)

tails_agree : (place one other : ℕ) (ones others : List ℕ) → Agree (suc place) (one ∷ ones) (other ∷ others) →
    Agree place ones others
tails_agree place one other ones others agree i below = agree (suc i) (omega (arith, below))

pub differ_at : (place : ℕ) (ones others : List ℕ) → Agree place ones others → place < length ones →
    place < length others → (slice_index_or ones place 0 ≡ slice_index_or others place 0 → ⊥) →
    first_other_byte ones others ≡ Some place
differ_at place [] others agree in_ones in_others differ = absurd (omega (arith, in_ones))
differ_at place (one ∷ ones) [] agree in_ones in_others differ = absurd (omega (arith, in_others))
differ_at zero (one ∷ ones) (other ∷ others) agree in_ones in_others differ = here one other ones others differ
differ_at (suc place) (one ∷ ones) (other ∷ others) agree in_ones in_others differ =
    behind_it one other ones others (agree 0 (omega arith))
    ∙ ap (λ found. option_map suc found) (differ_at place ones others
    (tails_agree place one other ones others agree) (omega (arith, in_ones)) (omega (arith, in_others)) differ)

pub same_texts : (ones others : List ℕ) → Agree (length ones) ones others → length ones ≡ length others →
    first_other_byte ones others ≡ None
unfolding first_other_byte
same_texts [] [] agree sizes = refl
same_texts [] (other ∷ others) agree sizes = absurd (omega (arith, sizes))
same_texts (one ∷ ones) [] agree sizes = absurd (omega (arith, sizes))
same_texts (one ∷ ones) (other ∷ others) agree sizes =
    behind_it one other ones others (agree 0 (omega arith))
    ∙ ap (λ found. option_map suc found)
    (same_texts ones others (tails_agree (length ones) one other ones others agree) (omega (arith, sizes)))

-- a text and itself
pub one_text : (bytes : List ℕ) → None ≡ first_other_byte bytes bytes
one_text bytes = sym (same_texts bytes bytes (λ i below. refl) refl)

-- the less of two lengths is one of them
pub least : (most one other : ℕ) → most ≡ min one other → (one ≤ most) ⊎ (other ≤ most)
least most one other is = elim (cases_lt one other) [
  | inl h ↦ inl (omega (arith, is, h))
  | inr h ↦ inr (omega (arith, is, h))
]

ends_behind : (place : ℕ) (ones others : List ℕ) → (suc (length ones) ≤ suc place) ⊎ (suc (length others) ≤ suc place) →
    (length ones ≤ place) ⊎ (length others ≤ place)
ends_behind place ones others (inl h) = inl (omega (arith, h))
ends_behind place ones others (inr h) = inr (omega (arith, h))

-- one text ends at the place, and the other goes on
pub one_ends : (place : ℕ) (ones others : List ℕ) → Agree place ones others → place ≤ length ones →
    place ≤ length others → (length ones ≤ place) ⊎ (length others ≤ place) → (length ones ≡ length others → ⊥) →
    first_other_byte ones others ≡ Some place
unfolding first_other_byte
one_ends place [] [] agree in_ones in_others ends differ = absurd (differ refl)
one_ends zero [] (other ∷ others) agree in_ones in_others ends differ = refl
one_ends (suc place) [] (other ∷ others) agree in_ones in_others ends differ = absurd (omega (arith, in_ones))
one_ends zero (one ∷ ones) [] agree in_ones in_others ends differ = refl
one_ends (suc place) (one ∷ ones) [] agree in_ones in_others ends differ = absurd (omega (arith, in_others))
one_ends zero (one ∷ ones) (other ∷ others) agree in_ones in_others ends differ =
    absurd (elim ends [ inl h ↦ omega (arith, h) | inr h ↦ omega (arith, h) ])
one_ends (suc place) (one ∷ ones) (other ∷ others) agree in_ones in_others ends differ =
    behind_it one other ones others (agree 0 (omega arith))
    ∙ ap (λ found. option_map suc found) (one_ends place ones others
    (tails_agree place one other ones others agree) (omega (arith, in_ones)) (omega (arith, in_others))
    (ends_behind place ones others ends)
    (λ same. differ (ap suc same)))
