-- Numbers in decimal and hexadecimal digits: what is read was written so, and what was written is read.
use Rattle.std.proofs.Common.{◌≡◌, ◌≤◌, ◌<◌, ◌+◌, ◌-◌, ◌*◌, ◌^◌, ◌==◌, ◌&&◌, ◌||◌, ℕ, zero, suc, Bool, true, false, List, [], ◌∷◌, ◌++◌, Option, Some, None, cond, length, get_or, nat_lt, nat_le, refl, sym, ◌∙◌, ap, subst, arith, inl, inr, decimal}
use Rattle.std.proofs.Math.Nat.{pow-le-pow_right}
use Rattle.std.proofs.lemmas.Bool.{and_parts, and_from, or_cases, or_left, or_right, cases_lt, cases_Bool, eqb-true, eq-eqb, ltb-true, lt-ltb, le-ltb, leb-true, le-leb}
use Rattle.std.proofs.lemmas.Fmt.{digits_decimal, digits_value-decimal, decimal-digits_value, length-decimal-le, first_decimal, decimal_digit}
use Rattle.std.proofs.lemmas.Str.Parse.{IsNumeralModel, numerals_by_fold, tells_all_ascii_digits}
use Rattle.std.specs.Str.{all_ascii_digits}
use Rattle.slnf_journal.specs.Fields.{is_decimal, decimal_value, within, number_of}

pub tens : (i : ℕ) → i < 19 → 10 ^ i ≤ 10 ^ 18
tens i below = let le : i ≤ 18 = omega arith in let ten : 0 < 10 = omega arith in pow-le-pow_right {n = 10} ten le

pub sixteens : (i : ℕ) → i < 32 → 16 ^ i ≤ 16 ^ 31
sixteens i below = let le : i ≤ 31 = omega arith in let some : 0 < 16 = omega arith in pow-le-pow_right {n = 16} some le

pub own : IsNumeralModel (λ ds. all_ascii_digits ds ≡ true) (decimal_value 0)
own = numerals_by_fold (λ ds. all_ascii_digits ds ≡ true) tells_all_ascii_digits decimal_value
    (record { empty = λ n. refl; more = λ n c cs h. refl })

-- ---- decimals

pub record IsDecimal (ds : List ℕ) : Type 0 where
  pub digits : all_ascii_digits ds ≡ true
  pub some : 0 < length ds
  pub plain : get_or ds 0 0 ≡ 48 → length ds ≡ 1

pub decimal_parts : (ds : List ℕ) → is_decimal ds ≡ true → IsDecimal ds
decimal_parts [] h = let wrong : ⊥ = cc in absurd wrong
decimal_parts (d ∷ ds) h =
    let p = and_parts (length (d ∷ ds) == 1 || nat_lt 48 d) (all_ascii_digits (d ∷ ds)) h in
    record {
      digits = p.1;
      some = omega arith;
      plain = λ first. elim (or_cases (length (d ∷ ds) == 1) (nat_lt 48 d) p.0) [
        | inl one ↦ eqb-true _ _ one
        | inr more ↦ absurd (omega (arith, ltb-true 48 d more))
      ];
    }

pub decimal_again : (n : ℕ) → n < 2 ^ 64 → is_decimal (decimal n) ≡ true
decimal_again n small =
    and_from _ _
    (elim (cases_lt 0 n) [
      | inl some ↦ or_right _ _ (lt-ltb _ _ (first_decimal n some small))
      | inr none ↦ or_left _ _ (eq-eqb _ _ (ap length (decimal_digit n (omega arith))))
    ])
    (digits_decimal own n small)

-- a decimal is the text of its value
pub decimal_is : (ds : List ℕ) → is_decimal ds ≡ true → decimal_value 0 ds < 2 ^ 64 → decimal (decimal_value 0 ds) ≡ ds
decimal_is ds h small = let p = decimal_parts ds h in decimal-digits_value own ds p.digits p.some p.plain small

pub not_decimal : (least end : ℕ) (ds : List ℕ) → is_decimal ds ≡ false → None ≡ number_of least end ds
unfolding number_of
not_decimal least end ds h = ap (λ b. cond b (within least end (decimal_value 0 ds)) None) (sym h)

past_end : (least end n : ℕ) → end ≤ n → within least end n ≡ None
past_end least end n past = ap (λ b. cond (nat_le least n && b) (Some n) None) (le-ltb n end past) ∙ none (nat_le least n)
  where
    none : (b : Bool) → cond (b && false) (Some n) None ≡ None
    none true = refl
    none false = refl

-- more than 19 digits, the first not 0, are no number below 2^62
pub too_long : (least end : ℕ) (ds : List ℕ) → end ≤ 2 ^ 62 → 19 < length ds → None ≡ number_of least end ds
unfolding number_of
too_long least end ds high long =
    elim (cases_Bool (is_decimal ds)) [
      | inr not ↦ ap (λ b. cond b (within least end (decimal_value 0 ds)) None) (sym not)
      | inl is ↦ elim (cases_lt (decimal_value 0 ds) end) [
        | inl small ↦ absurd (omega (
          arith,
          length-decimal-le 19 (decimal_value 0 ds)
              (omega arith) (omega arith) (omega arith),
          ap length (decimal_is ds is (omega arith)),
        ))
        | inr past ↦ sym (ap (λ b. cond b (within least end (decimal_value 0 ds)) None) is
            ∙ past_end least end (decimal_value 0 ds) past)
      ]
    ]

pub value_again : (n : ℕ) → n < 2 ^ 64 → decimal_value 0 (decimal n) ≡ n
value_again n small = digits_value-decimal own n small
