-- The words that checksums cover, after five words were written into a frame: an address, a port and two
-- checksums. `side` is 0 for the source and 1 for the destination, and `offset` is the place of the transport
-- checksum among the words of its header.
use Rattle.std.proofs.Common.{◌≡◌, ℕ, suc, ◌+◌, ◌-◌, ◌*◌, ◌≤◌, List, ◌∷◌, ◌++◌, length, get_or, set, take, drop, length-take, length-drop, length-set, sym, ap, ◌∙◌, arith}
use Rattle.std.proofs.lemmas.List.{get_or-append_right, set-append_left, set-append_right}
use Rattle.slnf_sum.specs.Sum.{words_of}
use Rattle.slnf_sum.proofs.Laws.{length-words_of, length-words_of-le}
use Rattle.slnf_rewrite.specs.Rewritten.{with_word}
use Rattle.slnf_rewrite.proofs.Spans.{words-inside, part-before, part-behind, length-with_word}

-- the places in a frame of so many bytes
pub record Placed (size ip l4 side address port offset place : ℕ) : Type 0 where
  pub header : ip + 20 ≤ l4
  pub two : side ≤ 1
  pub address_at : address ≡ ip + 12 + 4 * side
  pub port_at : port ≡ l4 + 2 * side
  pub place_at : place ≡ l4 + 2 * offset
  pub offset_past : 2 ≤ offset
  pub inside : place + 2 ≤ size

-- a write behind the pseudo-header's first four words
pub set-behind : (front rest : List ℕ) (x y k word : ℕ)
    → length front ≡ 4 → set (front ++ x ∷ y ∷ rest) (6 + k) word ≡ front ++ x ∷ y ∷ set rest k word
set-behind front rest x y k word four =
    let left : 6 + k - 4 ≡ suc (suc k) = omega arith in
    set-append_right front (x ∷ y ∷ rest) 4 (6 + k) word four (omega arith)
    ∙ ap (λ (i : ℕ). front ++ set (x ∷ y ∷ rest) i word) left

-- a read there
pub get_or-behind : (front rest : List ℕ) (x y k : ℕ)
    → length front ≡ 4 → get_or (front ++ x ∷ y ∷ rest) (6 + k) 0 ≡ get_or rest k 0
get_or-behind front rest x y k four =
    let left : 6 + k - 4 ≡ suc (suc k) = omega arith in
    get_or-append_right front (x ∷ y ∷ rest) 4 (6 + k) 0 four (omega arith)
    ∙ ap (λ (i : ℕ). get_or (x ∷ y ∷ rest) i 0) left

-- the words of so many bytes from a place on
abbrev pub words_from : List ℕ → ℕ → ℕ → List ℕ
words_from frame j n = words_of (take n (drop j frame))

-- eight bytes are four words
pub four_words : (frame : List ℕ) (j n : ℕ) → n ≡ 8 → j + 8 ≤ length frame → length (words_from frame j n) ≡ 4
four_words frame j n eight inside =
    let part = take n (drop j frame) in
    omega (arith, length-words_of part, length-words_of-le part, length-take n (drop j frame), length-drop j frame)

-- writes into both parts of what a transport checksum covers
set-both : (front rest : List ℕ) (x y side offset high low number seal : ℕ) → length front ≡ 4 → side ≤ 1
    → set (set front (2 * side) high) (2 * side + 1) low ++ x ∷ y ∷ set (set rest side number) offset seal ≡ set
    (set (set (set (front ++ x ∷ y ∷ rest) (2 * side) high) (2 * side + 1) low) (6 + side) number) (6 + offset) seal
set-both front rest x y side offset high low number seal four within =
    let once = set front (2 * side) high in
    let twice = set once (2 * side + 1) low in
    let long1 : length once ≡ 4 = length-set front (2 * side) high ∙ four in
    let long2 : length twice ≡ 4 = length-set once (2 * side + 1) low ∙ long1 in
    sym (ap (λ (words : List ℕ). set (set (set words (2 * side + 1) low) (6 + side) number) (6 + offset) seal)
    (set-append_left front (x ∷ y ∷ rest) (2 * side) high (omega arith))
    ∙ ap (λ (words : List ℕ). set (set words (6 + side) number) (6 + offset) seal) (set-append_left once
    (x ∷ y ∷ rest) (2 * side + 1) low (omega arith)) ∙ ap (λ (words : List ℕ). set words (6 + offset) seal)
    (set-behind twice rest x y side number long2) ∙ set-behind twice (set rest side number) x y offset seal long2)

-- a frame with five words written into it
abbrev pub written : List ℕ → ℕ → ℕ → ℕ → ℕ → ℕ → ℕ → ℕ → ℕ → ℕ → List ℕ
written frame ip address port place high low number check seal =
    with_word (with_word (with_word (with_word (with_word frame address high) (address + 2) low) port number)
    (ip + 10) check) place seal

module _ (frame : List ℕ) (ip l4 side address port offset place high low number check seal : ℕ)
    (placed : Placed (length frame) ip l4 side address port offset place) where
  abbrev one : List ℕ
  one = with_word frame address high

  abbrev two : List ℕ
  two = with_word one (address + 2) low

  abbrev three : List ℕ
  three = with_word two port number

  abbrev four : List ℕ
  four = with_word three (ip + 10) check

  abbrev five : List ℕ
  five = written frame ip address port place high low number check seal

  length-one : length one ≡ length frame
  length-one = length-with_word frame address high

  length-two : length two ≡ length frame
  length-two = length-with_word one (address + 2) low ∙ length-one

  length-three : length three ≡ length frame
  length-three = length-with_word two port number ∙ length-two

  length-four : length four ≡ length frame
  length-four = length-with_word three (ip + 10) check ∙ length-three

  -- the header's words
  pub header-after : (n : ℕ) → ip + n ≡ l4
      → words_from five ip n ≡ set (set (set (words_from frame ip n) (6 + 2 * side) high) (7 + 2 * side) low) 5 check
  header-after n until =
      ap words_of (part-behind four ip n place seal (omega arith))
      ∙ words-inside three ip n 5 (ip + 10) check (omega arith) (omega arith) (omega (arith, length-three))
      ∙ ap (λ (part : List ℕ). set (words_of part) 5 check) (part-behind two ip n port number (omega arith))
      ∙ ap (λ (words : List ℕ). set words 5 check)
      (words-inside one ip n (7 + 2 * side) (address + 2) low (omega arith) (omega arith) (omega (arith, length-one)))
      ∙ ap (λ (words : List ℕ). set (set words (7 + 2 * side) low) 5 check)
      (words-inside frame ip n (6 + 2 * side) address high (omega arith) (omega arith) (omega arith))

  -- the words of both addresses
  pub addresses-after : (n : ℕ) → n ≡ 8
      → words_from five (ip + 12) n ≡ set (set (words_from frame (ip + 12) n) (2 * side) high) (2 * side + 1) low
  addresses-after n eight =
      ap words_of (part-behind four (ip + 12) n place seal (omega arith) ∙ part-before three
      (ip + 12) n (ip + 10) check (omega arith) ∙ part-behind two (ip + 12) n port number (omega arith))
      ∙ words-inside one (ip + 12) n (2 * side + 1) (address + 2) low (omega arith) (omega arith) (omega (arith, length-one))
      ∙ ap (λ (words : List ℕ). set words (2 * side + 1) low)
      (words-inside frame (ip + 12) n (2 * side) address high (omega arith) (omega arith) (omega arith))

  -- the words from the transport header on
  pub segment-after : (n : ℕ) → 2 * offset + 2 ≤ n
      → words_from five l4 n ≡ set (set (words_from frame l4 n) side number) offset seal
  segment-after n covered =
      words-inside four l4 n offset place seal (omega arith) (omega arith) (omega (arith, length-four))
      ∙ ap (λ (part : List ℕ). set (words_of part) offset seal) (part-before three l4 n (ip + 10) check (omega arith))
      ∙ ap (λ (words : List ℕ). set words offset seal)
      (words-inside two l4 n side port number (omega arith) (omega arith) (omega (arith, length-two)))
      ∙ ap (λ (part : List ℕ). set (set (words_of part) side number) offset seal)
      (part-before one l4 n (address + 2) low (omega arith) ∙ part-before frame l4 n address high (omega arith))

  -- the pseudo-header and the words from the transport header on
  pub transport-after : (m n proto count : ℕ) → m ≡ 8
      → 2 * offset + 2 ≤ n → words_from five (ip + 12) m ++ proto ∷ count ∷ words_from five l4 n
      ≡ set (set (set (set (words_from frame (ip + 12) m ++ proto ∷ count ∷ words_from frame l4 n) (2 * side) high)
      (2 * side + 1) low) (6 + side) number) (6 + offset) seal
  transport-after m n proto count eight covered =
      let front = words_from frame (ip + 12) m in
      let rest = words_from frame l4 n in
      ap (λ (words : List ℕ). words ++ proto ∷ count ∷ words_from five l4 n) (addresses-after m eight)
      ∙ ap (λ (words : List ℕ). set (set front (2 * side) high) (2 * side + 1) low ++ proto ∷ count ∷ words)
      (segment-after n covered)
      ∙ set-both front rest proto count side offset high low number seal
      (four_words frame (ip + 12) m eight (omega arith)) (omega arith)
