-- One packet more of those that are counted.
use Rattle.std.proofs.Common.{◌≡◌, ℕ, suc, ◌+◌, ◌-◌, ◌<◌, ◌≤◌, true, false, cond, not, ◌&&◌, nat_lt, Option, List, [], sym, ap, ◌∙◌, arith}
use Rattle.std.specs.List.{range_with_len}
use Rattle.std.proofs.lemmas.Bool.{cond-true, cond-false}
use Rattle.std.proofs.lemmas.Bool.Decides.{nat_tests}
use Rattle.slnf_run.specs.Jobs.{is_among, with_key}
use Rattle.slnf_verdicts.specs.Batches.{batch_end}

module _ (limit : ℕ) (first : ℕ → Option ℕ) (last at count place size total : ℕ) (keys : List ℕ) (l : place < count)
    (key : Option ℕ) (key_is : key ≡ first (at + place))
    (h : place + batch_end limit first last size keys (range_with_len (at + place) (count - place)) ≡ total) where
  -- what is left behind this packet
  abbrev behind : ℕ → List ℕ → ℕ
  behind size keys = batch_end limit first last size keys (range_with_len (at + (place + 1)) (count - (place + 1)))

  here : place + cond (nat_lt size limit && not (is_among key keys)) (behind (size + 1) (with_key key keys) + 1)
      (cond (nat_lt last (at + place)) 0 (behind 1 (with_key key []) + 1)) ≡ total
  here =
      let q : count - place ≡ suc (count - (place + 1)) = omega arith in
      let r : at + (place + 1) ≡ at + place + 1 = omega arith in
      ap (λ n. place + cond (nat_lt size limit && not (is_among key keys))
      (batch_end limit first last (size + 1) (with_key key keys) (range_with_len n (count - (place + 1))) + 1)
      (cond (nat_lt last (at + place)) 0
      (batch_end limit first last 1 (with_key key []) (range_with_len n (count - (place + 1))) + 1))) r
      ∙ ap (λ k. place + cond (nat_lt size limit && not (is_among k keys))
      (batch_end limit first last (size + 1) (with_key k keys)
      (range_with_len (at + place + 1) (count - (place + 1))) + 1)
      (cond (nat_lt last (at + place)) 0
      (batch_end limit first last 1 (with_key k []) (range_with_len (at + place + 1) (count - (place + 1))) + 1)))
      key_is
      ∙ ap (λ n. place + batch_end limit first last size keys (range_with_len (at + place) n)) (sym q)
      ∙ h

  -- it joins the batch in hand
  pub joined : (nat_lt size limit && not (is_among key keys)) ≡ true →
      (place + 1) + behind (size + 1) (with_key key keys) ≡ total
  joined test =
      let whole : place + (behind (size + 1) (with_key key keys) + 1) ≡ total =
      ap (λ n. place + n) (sym (cond-true (nat_lt size limit && not (is_among key keys))
      (behind (size + 1) (with_key key keys) + 1)
      (cond (nat_lt last (at + place)) 0 (behind 1 (with_key key []) + 1)) test)) ∙ here in
      omega arith

  -- it begins another batch
  pub next_batch : (nat_lt size limit && not (is_among key keys)) ≡ false → at + place ≤ last →
      (place + 1) + behind 1 (with_key key []) ≡ total
  next_batch test inside =
      let within : nat_lt last (at + place) ≡ false = grind (arith, nat_tests) in
      let whole : place + (behind 1 (with_key key []) + 1) ≡ total =
      ap (λ n. place + n) (sym (cond-false (nat_lt size limit && not (is_among key keys))
      (behind (size + 1) (with_key key keys) + 1)
      (cond (nat_lt last (at + place)) 0 (behind 1 (with_key key []) + 1)) test
      ∙ cond-false (nat_lt last (at + place)) 0 (behind 1 (with_key key []) + 1) within)) ∙ here in
      omega arith

  -- it begins one behind the last packet's
  pub ended : (nat_lt size limit && not (is_among key keys)) ≡ false → last < at + place → place ≡ total
  ended test over =
      let within : nat_lt last (at + place) ≡ true = grind (arith, nat_tests) in
      let whole : place + 0 ≡ total =
      ap (λ n. place + n) (sym (cond-false (nat_lt size limit && not (is_among key keys))
      (behind (size + 1) (with_key key keys) + 1)
      (cond (nat_lt last (at + place)) 0 (behind 1 (with_key key []) + 1)) test
      ∙ cond-true (nat_lt last (at + place)) 0 (behind 1 (with_key key []) + 1) within)) ∙ here in
      omega arith

  -- what the code holds then
  pub joined_next : (next : ℕ) (held more : List ℕ) → (nat_lt size limit && not (is_among key keys)) ≡ true →
      next ≡ size → held ≡ keys → more ≡ with_key key held → (place + 1) + behind (next + 1) more ≡ total
  joined_next next held more test same own add =
      ap (λ n. (place + 1) + behind (n + 1) more) same
      ∙ ap (λ k. (place + 1) + behind (size + 1) k) (add ∙ ap (with_key key) own)
      ∙ joined test

  pub cut_next : (next : ℕ) (held more : List ℕ) → (nat_lt size limit && not (is_among key keys)) ≡ false →
      at + place ≤ last → next ≡ 0 → held ≡ [] → more ≡ with_key key held →
      (place + 1) + behind (next + 1) more ≡ total
  cut_next next held more test inside none_ own add =
      let one : next + 1 ≡ 1 = omega arith in
      ap (λ n. (place + 1) + behind n more) one
      ∙ ap (λ k. (place + 1) + behind 1 k) (add ∙ ap (with_key key) own)
      ∙ next_batch test inside
