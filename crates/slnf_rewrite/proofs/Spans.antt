-- A part of a frame, `take n (drop j frame)`, after a word was written into the frame.
use Rattle.std.proofs.Common.{◌≡◌, ℕ, zero, suc, ◌+◌, ◌*◌, ◌/◌, ◌%◌, ◌≤◌, List, [], ◌∷◌, length, get_or, set, take, drop, get_or-take, get_or-drop, length-take, length-drop, length-set, refl, sym, ap, ◌∙◌, arith}
use Rattle.std.proofs.lemmas.List.{drop-set-add, drop-set-lt, drop-take, take-set-le}
use Rattle.slnf_sum.specs.Sum.{words_of}
use Rattle.slnf_sum.proofs.Laws.{get_or-words_of, words_of-set}
use Rattle.slnf_view.specs.Field.{word_at}
use Rattle.slnf_rewrite.specs.Rewritten.{with_word}

-- a write into bytes is one into their front, where it is in it
take-set : (n : ℕ) (bytes : List ℕ) (i byte : ℕ) → take n (set bytes i byte) ≡ set (take n bytes) i byte
take-set zero bytes i byte = refl
take-set (suc n) [] i byte = refl
take-set (suc n) (x ∷ bytes) zero byte = refl
take-set (suc n) (x ∷ bytes) (suc i) byte =
    ap (λ (rest : List ℕ). x ∷ rest) (take-set n bytes i byte)

part-set : (frame : List ℕ) (j n i byte : ℕ) → take n (drop j (set frame (j + i) byte)) ≡ set (take n (drop j frame)) i byte
part-set frame j n i byte =
    ap (take n) (drop-set-add j frame i byte) ∙ take-set n (drop j frame) i byte

-- a word is written into a part
pub words-inside : (frame : List ℕ) (j n k place word : ℕ)
    → place ≡ j + 2 * k → 2 * k + 2 ≤ n → place + 2 ≤ length frame
    → words_of (take n (drop j (with_word frame place word))) ≡ set (words_of (take n (drop j frame))) k word
words-inside frame j n k place word at fits inside =
    let part = take n (drop j frame) in
    let high = word / 256 in
    let low = word % 256 in
    let second : place + 1 ≡ j + (2 * k + 1) = omega arith in
    let long : 2 * k + 2 ≤ length part = omega (arith, length-take n (drop j frame), length-drop j frame) in
    let whole : high * 256 + low ≡ word = omega arith in
    ap (λ (i : ℕ). words_of (take n (drop j (set (set frame place high) i low)))) second
    ∙ ap words_of (part-set (set frame place high) j n (2 * k + 1) low)
    ∙ ap (λ (i : ℕ). words_of (set (take n (drop j (set frame i high))) (2 * k + 1) low)) at
    ∙ ap (λ (bytes : List ℕ). words_of (set bytes (2 * k + 1) low)) (part-set frame j n (2 * k) high)
    ∙ words_of-set part k high low long
    ∙ ap (λ (w : ℕ). set (words_of part) k w) whole

-- a word is written before a part
pub part-before : (frame : List ℕ) (j n place word : ℕ)
    → place + 2 ≤ j → take n (drop j (with_word frame place word)) ≡ take n (drop j frame)
part-before frame j n place word before =
    ap (take n) (drop-set-lt j (set frame place (word / 256)) (place + 1) (word % 256) (omega arith)
    ∙ drop-set-lt j frame place (word / 256) (omega arith))

-- a word is written behind a part
pub part-behind : (frame : List ℕ) (j n place word : ℕ)
    → j + n ≤ place → take n (drop j (with_word frame place word)) ≡ take n (drop j frame)
part-behind frame j n place word behind =
    let high = set frame place (word / 256) in
    sym (drop-take j n (set high (place + 1) (word % 256)))
    ∙ ap (drop j) (take-set-le (j + n) high (place + 1) (word % 256) (omega arith)
    ∙ take-set-le (j + n) frame place (word / 256) behind)
    ∙ drop-take j n frame

-- a word of a part is the frame's word
pub word-of_part : (frame : List ℕ) (j n k place : ℕ)
    → place ≡ j + 2 * k → 2 * k + 2 ≤ n → get_or (words_of (take n (drop j frame))) k 0 ≡ word_at frame place
word-of_part frame j n k place at fits =
    let part = take n (drop j frame) in
    let second : j + (2 * k + 1) ≡ place + 1 = omega arith in
    let high : get_or part (2 * k) 0 ≡ get_or frame place 0 =
    get_or-take n (drop j frame) (2 * k) 0 (omega arith)
    ∙ get_or-drop j frame (2 * k) 0 ∙ ap (λ (i : ℕ). get_or frame i 0) (sym at) in
    let low : get_or part (2 * k + 1) 0 ≡ get_or frame (place + 1) 0 =
    get_or-take n (drop j frame) (2 * k + 1) 0 (omega arith)
    ∙ get_or-drop j frame (2 * k + 1) 0 ∙ ap (λ (i : ℕ). get_or frame i 0) second in
    omega (arith, get_or-words_of part k, high, low)

-- a written word changes no length
pub length-with_word : (frame : List ℕ) (place word : ℕ) → length (with_word frame place word) ≡ length frame
length-with_word frame place word =
    length-set (set frame place (word / 256)) (place + 1) (word % 256) ∙ length-set frame place (word / 256)
