-- A filter_map over a range that picks at one place or nowhere.
use Rattle.std.proofs.Common.{◌≡◌, ℕ, zero, suc, ◌+◌, ◌<◌, ◌≤◌, ◌⊎◌, inl, inr, Option, Some, None, [], ◌∷◌, filter_map, refl, ap, ◌∙◌, arith}
use Rattle.std.proofs.Math.Nat.{eq-or-lt_of_le}
use Rattle.std.specs.List.{range_with_len, cons_option}

pub picks_none : {Y : Type 0} (f : ℕ → Option Y) (a n : ℕ) → ((d : ℕ) → a ≤ d → d < a + n → f d ≡ None) →
    filter_map f (range_with_len a n) ≡ []
picks_none f a zero none = refl
picks_none f a (suc n) none =
    rw (none a (omega arith) (omega arith)) (picks_none f (a + 1) n
    (λ d low high. none d (omega arith) (omega arith)))

-- what is picked at one place alone isn't picked elsewhere
not_elsewhere : {Y : Type 0} (f : ℕ → Option Y) (d b : ℕ) → ((c : ℕ) (x : Y) → f c ≡ Some x → c ≡ d) → d < b →
    (o : Option Y) → f b ≡ o → f b ≡ None
not_elsewhere f d b only h None w = w
not_elsewhere f d b only h (Some x) w = let same : b ≡ d = only b x w in absurd (omega arith)

pub picks_one : {Y : Type 0} (f : ℕ → Option Y) (a n d : ℕ) (y : Y) → a ≤ d → d < a + n → f d ≡ Some y →
    ((c : ℕ) (x : Y) → f c ≡ Some x → c ≡ d) → filter_map f (range_with_len a n) ≡ y ∷ []
picks_one f a zero d y low high there only = absurd (omega arith)
picks_one {Y = Y} f a (suc n) d y low high there only =
    go (eq-or-lt_of_le low) (λ h. picks_one f (a + 1) n d y h (omega arith) there only)
  where
    here : a < d → (a + 1 ≤ d → filter_map f (range_with_len (a + 1) n) ≡ y ∷ []) → (o : Option Y) → f a ≡ o →
        cons_option o (filter_map f (range_with_len (a + 1) n)) ≡ y ∷ []
    here h later None w = later (omega arith)
    here h later (Some x) w = let same : a ≡ d = only a x w in absurd (omega arith)

    go : (a ≡ d) ⊎ (a < d) → (a + 1 ≤ d → filter_map f (range_with_len (a + 1) n) ≡ y ∷ []) →
        filter_map f (range_with_len a (suc n)) ≡ y ∷ []
    go (inl same) later =
        rw (ap f same ∙ there, picks_none f (a + 1) n (λ b l h. not_elsewhere f d b only (omega arith) (f b) refl))
        refl
    go (inr h) later = here h later (f a) refl
