-- The law of sums, checksums that are adjusted word by word, and how the words of bytes follow the bytes.
use Rattle.std.proofs.Common.{◌≡◌, ◌≢◌, ℕ, zero, suc, ◌+◌, ◌-◌, ◌*◌, ◌%◌, ◌<◌, ◌≤◌, ◌^◌, List, [], ◌∷◌, length, get_or, set, sum, sum_by, length-set, get_or-set_other, ◌++◌, inl, inr, refl, sym, ap, ◌∙◌, arith}
use Rattle.std.specs.List.{All, AllByRecursion}
use Rattle.std.proofs.lemmas.Bool.{cases_lt}
use Rattle.std.proofs.lemmas.List.{get_or_past}
use Rattle.std.proofs.lemmas.List.Elements.{All-get_or, All-set, All-nil, All-cons, All-head, All-tail}
use Rattle.std.proofs.lemmas.List.Sums.{sum_by-cons, sum_by-set, get_or-le-sum_by, sum_by_push}
use Rattle.slnf_sum.specs.Sum.{words_of, fold_of, complement, adjusted, adjusted_over, Verifies, with_words, replaced, IsBeside, LawOfSums, LawOfZeros}
use Rattle.slnf_sum.proofs.Folds.{fold_of-add, fold_of-is, fold_of-le, fold_of-rem}

abbrev shift_of : (ℕ × ℕ) → ℕ
shift_of change = complement change.0 + change.1

-- what the changes add to the field's complement is what they add to the sum, but for multiples of 65535
balance : (field : ℕ) (puts : List (ℕ × ℕ)) (words : List ℕ)
    → All (λ word. word < 2 ^ 16) words → AllByRecursion (IsBeside (length words) field) puts
    → sum_by shift_of (replaced puts words) + sum words ≡ 65535 * length puts + sum (with_words puts words)
balance field [] words small beside = omega arith
balance field (put ∷ puts) words small (first, others) =
    let old = get_or words put.0 0 in
    let next = set words put.0 put.1 in
    let fits : old < 2 ^ 16 = All-get_or (λ (word : ℕ). word < 2 ^ 16) words put.0 0 first.within small in
    let after : All (λ word. word < 2 ^ 16) next = All-set (λ (word : ℕ). word < 2 ^ 16) words put.0 put.1 first.word small in
    let same : AllByRecursion (IsBeside (length next) field) puts = rw (length-set words put.0 put.1) others in
    let rest = balance field puts next after same in
    let moved = sum_by-set (λ (word : ℕ). word) words put.0 put.1 0 first.within in
    let front = sum_by-cons shift_of (old, put.1) (replaced puts next) in
    omega arith

-- a place keeps its word where no new one is put
pub get_or-with_words : (field count : ℕ) (puts : List (ℕ × ℕ)) (words : List ℕ)
    → AllByRecursion (IsBeside count field) puts → get_or (with_words puts words) field 0 ≡ get_or words field 0
get_or-with_words field count [] words beside = refl
get_or-with_words field count (put ∷ puts) words (first, others) =
    get_or-with_words field count puts (set words put.0 put.1) others
    ∙ get_or-set_other words put.0 field put.1 0 (λ e. first.apart (sym e))

-- new words change no length
pub length-with_words : (puts : List (ℕ × ℕ)) (words : List ℕ) → length (with_words puts words) ≡ length words
length-with_words [] words = refl
length-with_words (put ∷ puts) words =
    length-with_words puts (set words put.0 put.1) ∙ length-set words put.0 put.1

-- a list with another word than zero has a sum above zero
sum-pos : (words : List ℕ) (place : ℕ) → get_or words place 0 ≢ 0 → 0 < sum words
sum-pos words place other =
    elim (cases_lt place (length words)) [
      | inl inside ↦ let part = get_or-le-sum_by (λ (word : ℕ). word) words place 0 inside in omega arith
      | inr past ↦ absurd (other (get_or_past words place 0 past))
    ]

-- numbers alone: c is the field, n the adjusted one, s and t the sums of all words before and after, x what is folded
remainders : (c n s t x y k folded : ℕ) → c ≤ 65535 → n ≡ 65535 - folded → folded ≤ 65535 → folded % 65535 ≡ x % 65535
    → x ≡ 65535 - c + y → y + s ≡ 65535 * k + t → s % 65535 ≡ 0 → c ≤ t → (t + n - c) % 65535 ≡ 0
remainders c n s t x y k folded fits is bound kept split even full within = omega arith

-- words verify exactly where their sum is above zero and a multiple of 65535
pub Verifies-from : (words : List ℕ) → 0 < sum words → sum words % 65535 ≡ 0 → Verifies words
Verifies-from words some full = fold_of-is (sum words) 65535 some (omega arith) (omega arith) (omega arith)

pub sum-verified : (words : List ℕ) → Verifies words → sum words % 65535 ≡ 0
sum-verified words h = let kept = fold_of-rem (sum words) in omega (arith, h)

pub law_of_sums : LawOfSums
law_of_sums words field puts small inside beside (place, apart, other) verified =
    let check = get_or words field 0 in
    let changed = with_words puts words in
    let changes = replaced puts words in
    let new = adjusted_over check changes in
    let x = complement check + sum_by shift_of changes in
    let after = set changed field new in
    let small_check : check < 2 ^ 16 = All-get_or (λ (word : ℕ). word < 2 ^ 16) words field 0 inside small in
    let kept = get_or-with_words field (length words) puts words beside in
    let long : field < length changed = omega (arith, length-with_words puts words) in
    let part = get_or-le-sum_by (λ (word : ℕ). word) changed field 0 long in
    let moved = sum_by-set (λ (word : ℕ). word) changed field new 0 long in
    let still : get_or after place 0 ≡ get_or changed place 0 = get_or-set_other changed field place new 0 apart in
    let some = sum-pos after place (λ e. other (sym still ∙ e)) in
    let even = balance field puts words small beside in
    let full = remainders check new (sum words) (sum changed) x (sum_by shift_of changes) (length puts) (fold_of x)
    (omega arith) refl (fold_of-le x) (fold_of-rem x) refl even (sum-verified words verified) (omega arith) in
    Verifies-from after some (omega arith)

pub law_of_zeros : LawOfZeros
law_of_zeros words field inside verified =
    let zero_sum = sum_by-set (λ (word : ℕ). word) words field 0 0 inside in
    let ones_sum = sum_by-set (λ (word : ℕ). word) words field 65535 0 inside in
    let full = sum-verified (set words field 0) verified in
    Verifies-from (set words field 65535) (omega arith) (omega arith)

-- one change is a list of one
pub adjusted-one : (check old new : ℕ) → adjusted check old new ≡ adjusted_over check ((old, new) ∷ [])
adjusted-one check old new =
    let joined : complement check + complement old + new ≡ complement check + (0 + (complement old + new)) = omega arith in
    ap (λ (n : ℕ). complement (fold_of n)) joined

-- a checksum that was adjusted and is adjusted by one more change
pub adjusted-push : (check : ℕ) (changes : List (ℕ × ℕ)) (old new : ℕ)
    → adjusted (adjusted_over check changes) old new ≡ adjusted_over check (changes ++ (old, new) ∷ [])
adjusted-push check changes old new =
    let x = complement check + sum_by shift_of changes in
    let high = fold_of-le x in
    let turned : complement (adjusted_over check changes) ≡ fold_of x = omega arith in
    let joined : complement (adjusted_over check changes) + complement old + new ≡ fold_of x + (complement old + new) =
    omega (arith, turned) in
    let pushed = sum_by_push shift_of changes (old, new) in
    let total : x + (complement old + new) ≡ complement check + sum_by shift_of (changes ++ (old, new) ∷ []) =
    omega (arith, pushed) in
    ap (λ (n : ℕ). complement (fold_of n)) joined
    ∙ ap complement (fold_of-add x (complement old + new))
    ∙ ap (λ (n : ℕ). complement (fold_of n)) total

-- an even place
twice : ℕ → ℕ
twice zero = 0
twice (suc k) = suc (suc (twice k))

twice-is : (k : ℕ) → twice k ≡ 2 * k
unfolding twice
twice-is zero = refl
twice-is (suc k) = let rest = twice-is k in omega (arith, rest)

at_twice : (k : ℕ) (bytes : List ℕ)
    → get_or (words_of bytes) k 0 ≡ get_or bytes (twice k) 0 * 256 + get_or bytes (suc (twice k)) 0
unfolding twice
at_twice k [] = omega arith
at_twice zero (high ∷ []) = omega arith
at_twice (suc k) (high ∷ []) = omega arith
at_twice zero (high ∷ low ∷ rest) = refl
at_twice (suc k) (high ∷ low ∷ rest) = at_twice k rest

-- the word at a place
pub get_or-words_of : (bytes : List ℕ) (k : ℕ)
    → get_or (words_of bytes) k 0 ≡ get_or bytes (2 * k) 0 * 256 + get_or bytes (2 * k + 1) 0
get_or-words_of bytes k =
    let high : get_or bytes (twice k) 0 ≡ get_or bytes (2 * k) 0 = ap (λ (i : ℕ). get_or bytes i 0) (twice-is k) in
    let after : suc (twice k) ≡ 2 * k + 1 = omega (arith, twice-is k) in
    let low : get_or bytes (suc (twice k)) 0 ≡ get_or bytes (2 * k + 1) 0 = ap (λ (i : ℕ). get_or bytes i 0) after in
    omega (arith, at_twice k bytes)

put_twice : (k : ℕ) (bytes : List ℕ) (high low : ℕ) → suc (twice k) < length bytes
    → words_of (set (set bytes (twice k) high) (suc (twice k)) low) ≡ set (words_of bytes) k (high * 256 + low)
unfolding twice
put_twice zero [] high low inside = absurd (omega arith)
put_twice zero (x ∷ []) high low inside = absurd (omega arith)
put_twice zero (x ∷ y ∷ rest) high low inside = refl
put_twice (suc k) [] high low inside = absurd (omega arith)
put_twice (suc k) (x ∷ []) high low inside = absurd (omega arith)
put_twice (suc k) (x ∷ y ∷ rest) high low inside =
    ap (λ (words : List ℕ). (x * 256 + y) ∷ words) (put_twice k rest high low (omega arith))

-- two bytes that are put at an even place put a word
pub words_of-set : (bytes : List ℕ) (k high low : ℕ) → 2 * k + 2 ≤ length bytes
    → words_of (set (set bytes (2 * k) high) (2 * k + 1) low) ≡ set (words_of bytes) k (high * 256 + low)
words_of-set bytes k high low inside =
    let even = twice-is k in
    let first : 2 * k ≡ twice k = omega (arith, even) in
    let second : 2 * k + 1 ≡ suc (twice k) = omega (arith, even) in
    rw (second, first) (put_twice k bytes high low (omega (arith, even)))

-- the words of bytes cover them
pub length-words_of : (bytes : List ℕ) → length bytes ≤ 2 * length (words_of bytes)
length-words_of [] = omega arith
length-words_of (high ∷ []) = omega arith
length-words_of (high ∷ low ∷ rest) = let more = length-words_of rest in omega (arith, more)

-- and there is none too many
pub length-words_of-le : (bytes : List ℕ) → 2 * length (words_of bytes) ≤ length bytes + 1
length-words_of-le [] = omega arith
length-words_of-le (high ∷ []) = omega arith
length-words_of-le (high ∷ low ∷ rest) =
    let more = length-words_of-le rest in omega (arith, more)

-- the words of bytes fit 16 bits
pub All-words_of : (bytes : List ℕ) → All (λ byte. byte < 256) bytes → All (λ word. word < 2 ^ 16) (words_of bytes)
All-words_of [] small = All-nil (λ (word : ℕ). word < 2 ^ 16)
All-words_of (high ∷ []) small =
    let first = All-head (λ (byte : ℕ). byte < 256) high [] small in
    All-cons (λ (word : ℕ). word < 2 ^ 16) (high * 256) [] (omega (arith, first)) (All-nil (λ (word : ℕ). word < 2 ^ 16))
All-words_of (high ∷ low ∷ rest) small =
    let first = All-head (λ (byte : ℕ). byte < 256) high (low ∷ rest) small in
    let others = All-tail (λ (byte : ℕ). byte < 256) high (low ∷ rest) small in
    let second = All-head (λ (byte : ℕ). byte < 256) low rest others in
    let left = All-tail (λ (byte : ℕ). byte < 256) low rest others in
    All-cons (λ (word : ℕ). word < 2 ^ 16) (high * 256 + low) (words_of rest)
    (omega (arith, first, second)) (All-words_of rest left)
