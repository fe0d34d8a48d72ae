-- What `fold_of` keeps of a number, and how folded sums add up.
use Rattle.std.proofs.Common.{◌≡◌, ℕ, zero, suc, ◌+◌, ◌-◌, ◌*◌, ◌%◌, ◌<◌, ◌≤◌, ◌^◌, inl, inr, refl, ap, arith}
use Rattle.std.proofs.lemmas.Bool.{cases_lt}
use Rattle.slnf_sum.specs.Sum.{fold_of, LawOfCarries}

-- a folded number fits a word
pub fold_of-le : (n : ℕ) → fold_of n ≤ 65535
unfolding fold_of
fold_of-le zero = omega arith
fold_of-le (suc n) = omega arith

-- only zero folds to zero
pub fold_of-pos : (n : ℕ) → 0 < n → 0 < fold_of n
unfolding fold_of
fold_of-pos zero h = omega arith
fold_of-pos (suc n) h = omega arith

-- folding keeps the remainder
pub fold_of-rem : (n : ℕ) → fold_of n % 65535 ≡ n % 65535
unfolding fold_of
fold_of-rem zero = refl
fold_of-rem (suc n) = omega arith

pub fold_of-zero : fold_of 0 ≡ 0
unfolding fold_of
fold_of-zero = refl

-- the folded number is the one word with that remainder that isn't zero
pub fold_of-is : (n word : ℕ) → 0 < n → 0 < word → word ≤ 65535 → word % 65535 ≡ n % 65535 → fold_of n ≡ word
fold_of-is n word some nonzero fits same =
    let low = fold_of-pos n some in
    let high = fold_of-le n in
    let kept = fold_of-rem n in
    omega arith

-- a word folds to itself
pub fold_of-word : (n : ℕ) → n ≤ 65535 → fold_of n ≡ n
fold_of-word zero h = fold_of-zero
fold_of-word (suc n) h = fold_of-is (suc n) (suc n) (omega arith) (omega arith) h refl

-- a sum of two words with a carry
pub fold_of-carried : (n : ℕ) → 65535 < n → n ≤ 131070 → fold_of n ≡ n - 65535
fold_of-carried n above below = fold_of-is n (n - 65535) (omega arith) (omega arith) (omega arith) (omega arith)

-- a part of a sum may be folded before
pub fold_of-add : (a b : ℕ) → fold_of (fold_of a + b) ≡ fold_of (a + b)
fold_of-add zero b = ap (λ (n : ℕ). fold_of (n + b)) fold_of-zero
fold_of-add (suc a) b =
    let some = fold_of-pos (suc a) (omega arith) in
    let kept = fold_of-rem (suc a) in
    let low = fold_of-pos (suc a + b) (omega arith) in
    let high = fold_of-le (suc a + b) in
    let same = fold_of-rem (suc a + b) in
    fold_of-is (fold_of (suc a) + b) (fold_of (suc a + b)) (omega arith) low high (omega arith)

carried : (high low : ℕ) → fold_of (high * 2 ^ 16 + low) ≡ fold_of (high + low)
carried high low =
    elim (cases_lt 0 (high + low)) [
      | inl some ↦
          fold_of-is (high * 2 ^ 16 + low) (fold_of (high + low)) (omega arith) (fold_of-pos (high + low) some)
          (fold_of-le (high + low)) (let kept = fold_of-rem (high + low) in omega (arith, kept))
      | inr none ↦
          let low_none : low ≡ 0 = omega arith in
          let high_none : high ≡ 0 = omega arith in
          rw (low_none, high_none) refl
    ]

pub law_of_carries : LawOfCarries
law_of_carries = (λ word fits. fold_of-word word (omega arith), carried)
