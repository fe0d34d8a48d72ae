-- Numbers in hexadecimal digits.
use Rattle.std.proofs.Common.{◌≡◌, ◌≤◌, ◌<◌, ◌+◌, ◌-◌, ◌*◌, ◌/◌, ◌%◌, ◌^◌, ◌==◌, ◌&&◌, ◌||◌, ℕ, zero, suc, Bool, true, false, List, [], ◌∷◌, ◌++◌, Option, Some, None, cond, length, nat_lt, nat_le, refl, sym, ◌∙◌, ap, subst, append_assoc, arith, inl, inr}
use Rattle.std.proofs.Math.Nat.{pow-suc, mul-le-mul_right}
use Rattle.std.proofs.lemmas.Bool.{and_parts, and_from, or_cases, or_left, or_right, cases_lt, eqb-true, eq-eqb, ltb-true, lt-ltb, le-ltb, leb-true, le-leb, lt-leb}
use Rattle.std.proofs.lemmas.Bool.Decides.{nat_tests}
use Rattle.std.proofs.lemmas.List.{append-nil, length-append}
use Rattle.slnf_journal.specs.Words.{hex_digit, hex_text}
use Rattle.slnf_journal.specs.Fields.{is_hex_digit, are_hex_digits, hex_digit_value, hex_value, hex_number}
use Rattle.slnf_journal.specs.Ranges.{IsWord}

digit_small : (d : ℕ) → is_hex_digit d ≡ true → hex_digit_value d < 16
digit_small d h = grind (arith, nat_tests)

digit_again : (d : ℕ) → is_hex_digit d ≡ true → hex_digit (hex_digit_value d) ≡ d
digit_again d h = grind (arith, nat_tests)

digit_is : (n : ℕ) → n < 16 → is_hex_digit (hex_digit n) ≡ true
digit_is n h = grind (arith, nat_tests)

digit_back : (n : ℕ) → n < 16 → hex_digit_value (hex_digit n) ≡ n
digit_back n h = grind (arith, nat_tests)

hex_text-more : (width n d : ℕ) → is_hex_digit d ≡ true
    → hex_text (suc width) (n * 16 + hex_digit_value d) ≡ hex_text width n ++ d ∷ []
unfolding hex_text
hex_text-more width n d h =
    let small = digit_small d h in
    let high : (n * 16 + hex_digit_value d) / 16 ≡ n = omega arith in
    let low : (n * 16 + hex_digit_value d) % 16 ≡ hex_digit_value d = omega arith in
    ap (λ m. hex_text width m ++ hex_digit ((n * 16 + hex_digit_value d) % 16) ∷ []) high
    ∙ ap (λ m. hex_text width n ++ hex_digit m ∷ []) low
    ∙ ap (λ m. hex_text width n ++ m ∷ []) (digit_again d h)

-- the digits behind those of a number so far
text_is : (ds : List ℕ) (width n : ℕ) → are_hex_digits ds ≡ true
    → hex_text (width + length ds) (hex_value n ds) ≡ hex_text width n ++ ds
text_is [] width n h =
    let e : width + 0 ≡ width = omega arith in
    ap (λ w. hex_text w n) e ∙ sym (append-nil (hex_text width n))
text_is (d ∷ ds) width n h =
    let p = and_parts (is_hex_digit d) (are_hex_digits ds) h in
    let e : width + length (d ∷ ds) ≡ suc width + length ds = omega arith in
    ap (λ w. hex_text w (hex_value (n * 16 + hex_digit_value d) ds)) e
    ∙ text_is ds (suc width) (n * 16 + hex_digit_value d) p.1
    ∙ ap (λ l. l ++ ds) (hex_text-more width n d p.0)
    ∙ append_assoc (hex_text width n) (d ∷ []) ds

value_small : (ds : List ℕ) (n : ℕ) → are_hex_digits ds ≡ true → hex_value n ds < (n + 1) * 16 ^ length ds
value_small [] n h = omega arith
value_small (d ∷ ds) n h =
    let p = and_parts (is_hex_digit d) (are_hex_digits ds) h in
    let more : (n * 16 + hex_digit_value d + 1) * 16 ^ length ds ≤ (n * 16 + 16) * 16 ^ length ds =
    mul-le-mul_right (16 ^ length ds) (omega (arith, digit_small d p.0)) in
    let power : 16 ^ length (d ∷ ds) ≡ 16 ^ length ds * 16 = pow-suc 16 (length ds) in
    let step : hex_value n (d ∷ ds) < (n + 1) * (16 ^ length ds * 16) =
    omega (arith, value_small ds (n * 16 + hex_digit_value d) p.1, more) in
    subst (λ q. hex_value n (d ∷ ds) < (n + 1) * q) (sym power) step

value_push : (ds : List ℕ) (n d : ℕ) → hex_value n (ds ++ d ∷ []) ≡ hex_value n ds * 16 + hex_digit_value d
value_push [] n d = refl
value_push (e ∷ ds) n d = value_push ds (n * 16 + hex_digit_value e) d

digits_push : (ds : List ℕ) (d : ℕ) → are_hex_digits ds ≡ true → is_hex_digit d ≡ true → are_hex_digits (ds ++ d ∷ []) ≡ true
digits_push [] d h last = and_from _ _ last refl
digits_push (e ∷ ds) d h last = let p = and_parts (is_hex_digit e) (are_hex_digits ds) h in
    and_from _ _ p.0 (digits_push ds d p.1 last)

pub hex_text-digits : (width n : ℕ) → are_hex_digits (hex_text width n) ≡ true
unfolding hex_text
hex_text-digits zero n = refl
hex_text-digits (suc width) n = digits_push (hex_text width (n / 16))
    (hex_digit (n % 16)) (hex_text-digits width (n / 16)) (digit_is (n % 16) (omega arith))

pub hex_text-length : (width n : ℕ) → length (hex_text width n) ≡ width
unfolding hex_text
hex_text-length zero n = refl
hex_text-length (suc width) n =
    omega (arith, length-append (hex_text width (n / 16)) (hex_digit (n % 16) ∷ []), hex_text-length width (n / 16))

value_is : (width n : ℕ) → n < 16 ^ width → hex_value 0 (hex_text width n) ≡ n
unfolding hex_text
value_is zero n h = omega arith
value_is (suc width) n h =
    let high : n / 16 < 16 ^ width = omega (arith, pow-suc 16 width) in
    let low = digit_back (n % 16) (omega arith) in
    value_push (hex_text width (n / 16)) 0 (hex_digit (n % 16))
    ∙ omega (arith, value_is width (n / 16) high, low)

text_none : (ds : List ℕ) → are_hex_digits ds ≡ true → hex_text (0 + length ds) (hex_value 0 ds) ≡ ds
unfolding hex_text
text_none ds h = text_is ds 0 0 h

pub hex_gives : (field : List ℕ) (n : ℕ) → hex_number field ≡ Some n → IsWord n × (field ≡ hex_text 32 n)
unfolding hex_number
hex_gives field n h = split (length field == 32) (are_hex_digits field) refl refl h
  where
    split : (a b : Bool) → (length field == 32) ≡ a → are_hex_digits field ≡ b
        → cond (a && b) (Some (hex_value 0 field)) None ≡ Some n → IsWord n × (field ≡ hex_text 32 n)
    split true false ha hb e = absurd cc
    split false true ha hb e = absurd cc
    split false false ha hb e = absurd cc
    split true true ha hb e =
        let len : length field ≡ 32 = eqb-true _ _ ha in
        let value : hex_value 0 field ≡ n = cc in
        let size : 0 + length field ≡ 32 = omega arith in
        let small : hex_value 0 field < 16 ^ length field = omega (arith, value_small field 0 hb) in (
          subst (λ m. m < 2 ^ 128) value (subst (λ k. hex_value 0 field < 16 ^ k) len small),
          sym (text_none field hb) ∙ ap (λ k. hex_text k (hex_value 0 field)) size ∙ ap (hex_text 32) value,
        )

pub hex_back : (n : ℕ) → IsWord n → hex_number (hex_text 32 n) ≡ Some n
unfolding hex_number
hex_back n h =
    ap (λ b. cond b (Some (hex_value 0 (hex_text 32 n))) None)
    (and_from _ _ (eq-eqb _ _ (hex_text-length 32 n)) (hex_text-digits 32 n))
    ∙ ap Some (value_is 32 n h)
