-- The checksums of a frame into which an address, a port and both checksums were written.
use Rattle.std.proofs.Common.{◌≡◌, ◌≢◌, ◌⊎◌, ℕ, ◌+◌, ◌*◌, ◌<◌, ◌≤◌, ◌^◌, List, [], ◌∷◌, ◌++◌, length, get_or, set, take, drop, length-append, length-take, length-drop, get_or-set_other, inl, inr, sym, ap, ◌∙◌, subst, arith}
use Rattle.std.specs.List.{All, AllByRecursion}
use Rattle.std.proofs.lemmas.List.{get_or_append_left, get_or_at}
use Rattle.std.proofs.lemmas.List.Elements.{All-append, All-cons, All-take, All-drop}
use Rattle.slnf_sum.specs.Sum.{adjusted_over, Verifies, IsBeside}
use Rattle.slnf_sum.proofs.Laws.{All-words_of, law_of_sums, law_of_zeros, length-with_words, length-words_of}
use Rattle.slnf_view.specs.Field.{word_at}
use Rattle.slnf_rewrite.proofs.Spans.{word-of_part}
use Rattle.slnf_rewrite.proofs.Written.{Placed, four_words, get_or-behind, header-after, transport-after, words_from, written}

-- an adjusted checksum depends on the words alone
adjusted-two : (c c' x x' y y' high low : ℕ) → c ≡ c'
    → x ≡ x' → y ≡ y' → adjusted_over c ((x, high) ∷ (y, low) ∷ []) ≡ adjusted_over c' ((x', high) ∷ (y', low) ∷ [])
adjusted-two c c' x x' y y' high low a b d = cc

adjusted-three : (c c' x x' y y' z z' high low number : ℕ) → c ≡ c' → x ≡ x' → y ≡ y' → z ≡ z' → adjusted_over c
    ((x, high) ∷ (y, low) ∷ (z, number) ∷ []) ≡ adjusted_over c' ((x', high) ∷ (y', low) ∷ (z', number) ∷ [])
adjusted-three c c' x x' y y' z z' high low number a b d e = cc

-- the words of a part of bytes fit 16 bits
words-small : (frame : List ℕ) (j n : ℕ) → All (λ byte. byte < 256) frame → All (λ word. word < 2 ^ 16) (words_from frame j n)
words-small frame j n small =
    All-words_of (take n (drop j frame))
    (All-take (λ (byte : ℕ). byte < 256) n (drop j frame) (All-drop (λ (byte : ℕ). byte < 256) j frame small))

-- a part that lies in the frame has this many words at least
words-long : (frame : List ℕ) (j n k : ℕ) → 2 * k ≤ n → j + 2 * k ≤ length frame → k ≤ length (words_from frame j n)
words-long frame j n k covered inside =
    omega (arith, length-words_of (take n (drop j frame)), length-take n (drop j frame), length-drop j frame)

-- what is written for an adjusted checksum: that, or ffff for zero
abbrev pub IsSeal : ℕ → ℕ → Type 0
IsSeal adjusted seal = (seal ≡ adjusted) ⊎ ((adjusted ≡ 0) × (seal ≡ 65535))

sealed : (words : List ℕ) (field adjusted seal : ℕ) → field < length words
    → IsSeal adjusted seal → Verifies (set words field adjusted) → Verifies (set words field seal)
sealed words field adjusted seal inside (inl same) h =
    subst Verifies (ap (λ (word : ℕ). set words field word) (sym same)) h
sealed words field adjusted seal inside (inr (zero, ones)) h =
    subst Verifies (ap (λ (word : ℕ). set words field word) (sym ones))
    (law_of_zeros words field inside (subst Verifies (ap (λ (word : ℕ). set words field word) zero) h))

module _ (frame : List ℕ) (ip l4 side address port offset place high low number check seal : ℕ)
    (placed : Placed (length frame) ip l4 side address port offset place) (small : All (λ byte. byte < 256) frame)
    (high_fits : high < 2 ^ 16) (low_fits : low < 2 ^ 16) (number_fits : number < 2 ^ 16) where
  -- a header that verified verifies
  pub header-verifies : (n : ℕ) → ip + n ≡ l4 → word_at frame (ip + 2) ≢ 0
      → check ≡ adjusted_over (word_at frame (ip + 10))
      ((word_at frame address, high) ∷ (word_at frame (address + 2), low) ∷ []) → Verifies (words_from frame ip n)
      → Verifies (words_from (written frame ip address port place high low number check seal) ip n)
  header-verifies n until total made verified =
      let words = words_from frame ip n in
      let a = 6 + 2 * side in
      let b = 7 + 2 * side in
      let once = set words a high in
      let changed = set once b low in
      let long = words-long frame ip n 10 (omega arith) (omega arith) in
      let beside : AllByRecursion (IsBeside (length words) 5) ((a, high) ∷ (b, low) ∷ []) = (
        record { within = omega arith; apart = omega arith; word = high_fits },
        (record { within = omega arith; apart = omega arith; word = low_fits }, tt),
      ) in
      let apart : b ≢ a = omega arith in
      let first = word-of_part frame ip n a address (omega arith) (omega arith) in
      let second = get_or-set_other words a b high 0 apart
      ∙ word-of_part frame ip n b (address + 2) (omega arith) (omega arith) in
      let field = word-of_part frame ip n 5 (ip + 10) (omega arith) (omega arith) in
      let other : get_or changed 1 0 ≡ word_at frame (ip + 2) =
      get_or-set_other once b 1 low 0 (omega arith) ∙ get_or-set_other words a 1 high 0 (omega arith)
      ∙ word-of_part frame ip n 1 (ip + 2) (omega arith) (omega arith) in
      let law = law_of_sums words 5 ((a, high) ∷ (b, low) ∷ []) (words-small frame ip n small)
      (omega arith) beside (1, omega arith, λ e. total (sym other ∙ e)) verified in
      let same = adjusted-two _ _ _ _ _ _ high low field first second in
      subst Verifies (ap (λ (word : ℕ). set changed 5 word) (same ∙ sym made)
      ∙ sym (header-after frame ip l4 side address port offset place high low number check seal placed n until)) law

  -- a transport checksum that verified verifies, if it is adjusted
  pub transport-verifies : (m n proto count : ℕ) → m ≡ 8
      → 2 * offset + 2 ≤ n → proto ≢ 0 → proto < 2 ^ 16 → count < 2 ^ 16 → IsSeal (adjusted_over (word_at frame place)
      ((word_at frame address, high) ∷ (word_at frame (address + 2), low) ∷ (word_at frame port, number) ∷ [])) seal
      → Verifies (words_from frame (ip + 12) m ++ proto ∷ count ∷ words_from frame l4 n)
      → Verifies (words_from (written frame ip address port place high low number check seal)
      (ip + 12) m ++ proto ∷ count ∷ words_from (written frame ip address port place high low number check seal) l4 n)
  transport-verifies m n proto count eight covered some proto_fits count_fits made verified =
      let front = words_from frame (ip + 12) m in
      let rest = words_from frame l4 n in
      let words = front ++ proto ∷ count ∷ rest in
      let a = 2 * side in
      let b = 2 * side + 1 in
      let d = 6 + side in
      let field = 6 + offset in
      let once = set words a high in
      let twice = set once b low in
      let changed = set twice d number in
      let puts = (a, high) ∷ (b, low) ∷ (d, number) ∷ [] in
      let four = four_words frame (ip + 12) m eight (omega arith) in
      let long = words-long frame l4 n (offset + 1) (omega arith) (omega arith) in
      let total : length words ≡ 4 + (2 + length rest) = omega (arith, length-append front (proto ∷ count ∷ rest)) in
      let beside : AllByRecursion (IsBeside (length words) field) puts = (
        record { within = omega arith; apart = omega arith; word = high_fits },
        (
          record { within = omega arith; apart = omega arith; word = low_fits },
          (record { within = omega arith; apart = omega arith; word = number_fits }, tt),
        ),
      ) in
      let tail : All (λ word. word < 2 ^ 16) (proto ∷ count ∷ rest) =
      All-cons (λ (word : ℕ). word < 2 ^ 16) proto (count ∷ rest) proto_fits
      (All-cons (λ (word : ℕ). word < 2 ^ 16) count rest count_fits (words-small frame l4 n small)) in
      let all = All-append (λ (word : ℕ). word < 2 ^ 16) front
      (proto ∷ count ∷ rest) (words-small frame (ip + 12) m small) tail in
      let first = get_or_append_left front (proto ∷ count ∷ rest) 0 a (omega arith)
      ∙ word-of_part frame (ip + 12) m a address (omega arith) (omega arith) in
      let second = get_or-set_other words a b high 0 (omega arith) ∙ get_or_append_left front (proto ∷ count ∷ rest) 0 b
      (omega arith) ∙ word-of_part frame (ip + 12) m b (address + 2) (omega arith) (omega arith) in
      let third = get_or-set_other once b d low 0 (omega arith)
      ∙ get_or-set_other words a d high 0 (omega arith) ∙ get_or-behind front rest proto count side four
      ∙ word-of_part frame l4 n side port (omega arith) (omega arith) in
      let was = get_or-behind front rest proto count offset four
      ∙ word-of_part frame l4 n offset place (omega arith) (omega arith) in
      let at_proto : get_or words 4 0 ≡ proto = get_or_at front proto (count ∷ rest) 0 4 four in
      let other : get_or changed 4 0 ≡ proto =
      get_or-set_other twice d 4 number 0 (omega arith)
      ∙ get_or-set_other once b 4 low 0 (omega arith) ∙ get_or-set_other words a 4 high 0 (omega arith) ∙ at_proto in
      let law = law_of_sums words field puts all (omega arith) beside (4, omega arith, λ e. some (sym other ∙ e)) verified in
      let same = adjusted-three _ _ _ _ _ _ _ _ high low number was first second third in
      let length_changed = length-with_words puts words in
      let adjusted = subst Verifies (ap (λ (word : ℕ). set changed field word) same) law in
      subst Verifies (sym (transport-after frame ip l4 side address port offset place high low number check seal placed
      m n proto count eight covered)) (sealed changed field _ seal (omega (arith, length_changed)) made adjusted)
