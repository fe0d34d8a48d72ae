-- The numbers that words are the decimals of.
use Rattle.std.proofs.Common.{◌≡◌, ◌≤◌, ◌^◌, ◌&&◌, ℕ, Bool, true, false, cond, List, None, Some, nat_le, refl, sym, ◌∙◌, ap, subst, arith, inl, inr}
use Rattle.std.specs.Prelude.{Result, Ok, Err}
use Rattle.std.specs.Str.Parse.{ParsesUnsigned}
use Rattle.std.proofs.lemmas.Bool.{le-ltb, cases_lt}
use Rattle.std.proofs.lemmas.Str.Parse.{parse_digits}
use Rattle.slnf_journal.specs.Fields.{is_decimal, decimal_value, within, number_of}
use Rattle.slnf_journal.proofs.Numbers.{own, IsDecimal, decimal_parts}

-- a number past the end
past_end : (least end number : ℕ) → end ≤ number → None ≡ within least end number
past_end least end number past =
    sym (ap (λ b. cond (nat_le least number && b) (Some number) None) (le-ltb number end past) ∙ none
    (nat_le least number))
  where
    none : (b : Bool) → cond (b && false) (Some number) None ≡ None
    none true = refl
    none false = refl

pub not_decimal : (least end : ℕ) (word : List ℕ) → is_decimal word ≡ false → None ≡ number_of least end word
unfolding number_of
not_decimal least end word not = ap (λ b. cond b (within least end (decimal_value 0 word)) None) (sym not)

is_number : (least end : ℕ) (word : List ℕ) → is_decimal word ≡ true →
    within least end (decimal_value 0 word) ≡ number_of least end word
unfolding number_of
is_number least end word is = ap (λ b. cond b (within least end (decimal_value 0 word)) None) (sym is)

-- what was parsed
pub parsed_number : {E : Type 0} (least end number : ℕ) (word : List ℕ) (r : Result ℕ E) → is_decimal word ≡ true →
    ParsesUnsigned 64 10 word r → r ≡ Ok number → within least end number ≡ number_of least end word
parsed_number {E = E} least end number word r is parsed e =
    let digits : IsDecimal word = decimal_parts word is in
    let read = parse_digits own {E = E} 64 word (Ok number) (subst (ParsesUnsigned 64 10 word) e parsed) digits.digits in
    ap (within least end) read.1 ∙ is_number least end word is

-- what was too great to be parsed
pub unparsed_number : {E : Type 0} (least end : ℕ) (error : E) (word : List ℕ) (r : Result ℕ E) →
    is_decimal word ≡ true → end ≤ 2 ^ 64 → ParsesUnsigned 64 10 word r → r ≡ Err error →
    None ≡ number_of least end word
unparsed_number {E = E} least end error word r is few parsed e =
    let digits : IsDecimal word = decimal_parts word is in
    let not = parse_digits own {E = E} 64 word (Err error) (subst (ParsesUnsigned 64 10 word) e parsed) digits.digits in
    elim (cases_lt (decimal_value 0 word) (2 ^ 64)) [
      | inl below ↦ absurd (not (digits.some, below))
      | inr above ↦ past_end least end (decimal_value 0 word) (omega arith) ∙ is_number least end word is
    ]
