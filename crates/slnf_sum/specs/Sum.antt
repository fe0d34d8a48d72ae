-- Ones' complement sums of 16-bit words, by remainders, and the change of a checksum (RFC 1071, RFC 1624).
use Rattle.std.specs.Prelude.{◌≡◌, ◌≢◌, ℕ, zero, suc, ◌+◌, ◌*◌, ◌-◌, ◌%◌, ◌<◌, ◌^◌, List, [], ◌∷◌, length, sum, sum_by, slice_index, slice_set, All}
use Rattle.std.specs.List.{AllByRecursion}

-- the words of bytes, the high byte first; an odd last byte is the high byte of a word
abbrev pub words_of : List ℕ → List ℕ
words_of [] = []
words_of (high ∷ []) = high * 256 ∷ []
words_of (high ∷ low ∷ rest) = (high * 256 + low) ∷ words_of rest

-- the number from 1 to 65535 that leaves the same remainder modulo 65535, and 0 for 0
unfoldable pub fold_of : ℕ → ℕ
fold_of zero = 0
fold_of (suc n) = n % 65535 + 1

-- the ones' complement sum of words
abbrev pub sum_of : List ℕ → ℕ
sum_of words = fold_of (sum words)

-- a word with each bit turned
abbrev pub complement : ℕ → ℕ
complement word = 65535 - word

-- the checksum after one word of its data has changed (RFC 1624, equation 3)
abbrev pub adjusted : ℕ → ℕ → ℕ → ℕ
adjusted check old new = complement (fold_of (complement check + complement old + new))

-- the checksum after words of its data have changed, each given as it was and as it is (RFC 1624, equation 3)
abbrev pub adjusted_over : ℕ → List (ℕ × ℕ) → ℕ
adjusted_over check changes =
    complement (fold_of (complement check + sum_by (λ change. complement change.0 + change.1) changes))

-- the checksum among these words is right (RFC 1071)
abbrev pub Verifies : List ℕ → Type 0
Verifies words = sum_of words ≡ 65535

-- the words with new ones at places
abbrev pub with_words : List (ℕ × ℕ) → List ℕ → List ℕ
with_words [] words = words
with_words (put ∷ puts) words = with_words puts (slice_set words put.0 put.1)

-- each word that a new one replaces, and the new one
abbrev pub replaced : List (ℕ × ℕ) → List ℕ → List (ℕ × ℕ)
replaced [] words = []
replaced (put ∷ puts) words =
    (slice_index words put.0, put.1) ∷ replaced puts (slice_set words put.0 put.1)

-- a place of a list with so many words that isn't the field's, and the new word there
pub record IsBeside (count field : ℕ) (put : ℕ × ℕ) : Type 0 where
  pub within : put.0 < count
  pub apart : put.0 ≢ field
  pub word : put.1 < 2 ^ 16

-- there is another word than zero beside the field
abbrev pub HasOther : List ℕ → ℕ → Type 0
HasOther words field = (place : ℕ) × (place ≢ field) × (slice_index words place ≢ 0)

-- Law of sums. A field that verifies over words verifies over the changed words once it is adjusted by each
-- change, if there is another word than zero beside it then (RFC 1624).
abbrev pub LawOfSums : Type 0
LawOfSums =
    (words : List ℕ) (field : ℕ) (puts : List (ℕ × ℕ)) → All (λ word. word < 2 ^ 16) words → field < length words
    → AllByRecursion (IsBeside (length words) field) puts → HasOther (with_words puts words) field → Verifies words
    → Verifies (slice_set (with_words puts words) field (adjusted_over (slice_index words field) (replaced puts words)))

-- Where zero in a field verifies, so does ffff, the other zero of ones' complement.
abbrev pub LawOfZeros : Type 0
LawOfZeros =
    (words : List ℕ) (field : ℕ) → field < length words
    → Verifies (slice_set words field 0) → Verifies (slice_set words field 65535)

-- Folding adds the part above 16 bits to the part below, until nothing is above.
abbrev pub LawOfCarries : Type 0
LawOfCarries =
    ((word : ℕ) → word < 2 ^ 16 → fold_of word ≡ word) × ((high low : ℕ) → fold_of (high * 2 ^ 16 + low) ≡ fold_of (high + low))
