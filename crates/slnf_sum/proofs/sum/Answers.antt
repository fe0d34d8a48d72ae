use Rattle.std.proofs.Common.{◌≡◌, ℕ, ◌+◌, ◌*◌, ◌-◌, ◌≤◌, List, [], ◌∷◌, length, take, drop, get_or, sum, sym, ap, ◌∙◌, arith}
use Rattle.std.proofs.lemmas.List.{take_all, nil_from_length}
use Rattle.std.proofs.lemmas.List.Sums.{sum_by-cons}
use Rattle.slnf_sum.specs.Sum.{words_of, fold_of}
use Rattle.slnf_sum.proofs.Folds.{fold_of-add, fold_of-word}
use Rattle.slnf_sum.proofs.sum.Goals as goal

-- the first word of bytes and those of the rest
first_word : (rest : List ℕ) → 2 ≤ length rest → sum (words_of rest)
    ≡ (get_or rest 0 0 * 256 + get_or rest 1 0) + sum (words_of (take (length rest - 2) (drop 2 rest)))
first_word [] h = omega arith
first_word (high ∷ []) h = omega arith
first_word (high ∷ low ∷ rest) h =
    sum_by-cons (λ (word : ℕ). word) (high * 256 + low) (words_of rest)
    ∙ ap (λ (bytes : List ℕ). (high * 256 + low) + sum (words_of bytes))
    (sym (take_all (length (high ∷ low ∷ rest) - 2) rest (omega arith)))

step : (total now word : ℕ) (rest : List ℕ) → 2 ≤ length rest
    → word ≡ get_or rest 0 0 * 256 + get_or rest 1 0 → now ≡ fold_of (total + word)
    → fold_of (now + sum (words_of (take (length rest - 2) (drop 2 rest)))) ≡ fold_of (total + sum (words_of rest))
step total now word rest h is added =
    let more = sum (words_of (take (length rest - 2) (drop 2 rest))) in
    let split = first_word rest h in
    let joined : (total + word) + more ≡ total + sum (words_of rest) = omega arith in
    ap (λ (n : ℕ). fold_of (n + more)) added ∙ fold_of-add (total + word) more ∙ ap fold_of joined

pub loop-rest-preserved : goal.loop-rest-preserved
loop-rest-preserved c = (
  step c.loop-rest.total c.plus-total.result c.from_be_bytes.result c.loop-rest.rest.now c.in-len2-up.len_at_least
      c.from_be_bytes.ensures c.plus-total.ensures ∙ c.loop-rest.invariant.0,
  c.plus-total.type_inv,
)

pub returns-in_default-rest : goal.returns-in_default-rest
returns-in_default-rest c =
    let none = nil_from_length c.loop-rest.rest.now (omega arith) in
    let left = ap (λ (bytes : List ℕ). fold_of (c.loop-rest.total + sum (words_of bytes))) none in
    let same = fold_of-word (c.loop-rest.total + 0) (omega arith) in
    omega (arith, left, same, c.loop-rest.invariant.0)
