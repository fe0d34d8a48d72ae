use Rattle.std.proofs.Common.{◌≡◌, ℕ, zero, suc, ◌+◌, ◌-◌, ◌/◌, ◌%◌, ◌≤◌, ◌<◌, List, [], ◌∷◌, ◌++◌, length, drop, sym, ap, ◌∙◌, append_assoc, arith}
use Rattle.std.proofs.Math.ListN.{set}
use Rattle.std.proofs.lemmas.List.{drop-set, length-set}
use Rattle.slnf_journal.specs.Words.{hex_digit, hex_text}
use Rattle.slnf_journal.proofs.lines.fill_hex.Goals as goal

-- one more digit, at the end of those that are left
hex_text-step : (place number : ℕ)
    → 0 < place → hex_text place number ≡ hex_text (place - 1) (number / 16) ++ hex_digit (number % 16) ∷ []
unfolding hex_text
hex_text-step zero number h = absurd (omega arith)
hex_text-step (suc place) number h =
    let e : place ≡ suc place - 1 = omega arith in
    ap (λ p. hex_text p (number / 16) ++ hex_digit (number % 16) ∷ []) e

-- one digit written before those that are there
written-step : (place left digit : ℕ) (digits text : List ℕ) → 0 < place
    → place ≤ length digits → digit ≡ hex_digit (left % 16) → hex_text place left ++ drop place digits ≡ text
    → hex_text (place - 1) (left / 16) ++ drop (place - 1) (set digits (place - 1) digit) ≡ text
written-step place left digit digits text some within is written =
    let before = hex_text (place - 1) (left / 16) in
    let lt : place - 1 < length digits = omega arith in
    let e1 : place - 1 + 1 ≡ place = omega arith in
    let e2 : drop (place - 1) (set digits (place - 1) digit) ≡ digit ∷ drop place digits =
    drop-set digits (place - 1) digit lt ∙ ap (λ n. digit ∷ drop n digits) e1 in
    let e3 : hex_text place left ≡ before ++ digit ∷ [] =
    hex_text-step place left some ∙ ap (λ d. before ++ d ∷ []) (sym is) in
    ap (λ rest. before ++ rest) e2 ∙ sym (append_assoc before (digit ∷ []) (drop place digits))
    ∙ ap (λ front. front ++ drop place digits) (sym e3) ∙ written

-- no digit is left
all_written : (place left : ℕ) (digits text : List ℕ)
    → place ≤ 0 → hex_text place left ++ drop place digits ≡ text → digits ≡ text
unfolding hex_text
all_written zero left digits text none written = written
all_written (suc place) left digits text none written = absurd (omega arith)

pub loop-place-preserved : goal.loop-place-preserved
loop-place-preserved c = record {
  within = omega (arith, length-set {A = ℕ});
  written = written-step _ _ _ _ _ (omega arith) c.loop-place.invariant.within c.hex_digit.ensures c.loop-place.invariant.written;
}

pub returns : goal.returns
returns c = all_written _ _ _ _ (omega arith) c.loop-place.invariant.written
