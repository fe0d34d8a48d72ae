-- A word that is written into bytes, and the words of a part of them.
use Rattle.std.proofs.Common.{◌≡◌, ℕ, suc, ◌+◌, ◌-◌, ◌/◌, ◌%◌, ◌<◌, ◌≤◌, ◌^◌, List, [], ◌∷◌, ◌++◌, length, get_or, set, take, drop, length-drop, take-append-drop, refl, sym, ap, ◌∙◌, arith}
use Rattle.std.proofs.lemmas.List.{append-nil, drop_all, drop_more, drop-drop, length-take-le, take_rest}
use borrow.Rule.Slice.PartMut.{put_mid}
use Rattle.byteorder.specs.Endian.{big_bytes}
use Rattle.slnf_rewrite.specs.Rewritten.{with_word}

-- two bytes that are put behind a front
put_behind : (front rest : List ℕ) (x y high low : ℕ)
    → set (set (front ++ x ∷ y ∷ rest) (length front) high) (length front + 1) low ≡ front ++ high ∷ low ∷ rest
put_behind [] rest x y high low = refl
put_behind (z ∷ front) rest x y high low =
    let next : suc (length front) + 1 ≡ suc (length front + 1) = omega arith in
    rw next (ap (λ (bytes : List ℕ). z ∷ bytes) (put_behind front rest x y high low))

-- bytes with a word at a place, by what is before and after it
with_word-split : (bytes : List ℕ) (place word : ℕ) → place + 2 ≤ length bytes
    → with_word bytes place word ≡ take place bytes ++ (word / 256) ∷ (word % 256) ∷ drop (place + 2) bytes
with_word-split bytes place word inside =
    let front = take place bytes in
    let x = get_or bytes place 0 in
    let y = get_or bytes (place + 1) 0 in
    let rest = drop (place + 2) bytes in
    let size : length front ≡ place = length-take-le place bytes (omega arith) in
    let second : drop (place + 1) bytes ≡ y ∷ drop (place + 1 + 1) bytes = drop_more bytes (place + 1) 0 (omega arith) in
    let two : place + 1 + 1 ≡ place + 2 = omega arith in
    let behind : drop place bytes ≡ x ∷ y ∷ rest =
    drop_more bytes place 0 (omega arith)
    ∙ ap (λ (tail : List ℕ). x ∷ tail) (second ∙ ap (λ (i : ℕ). y ∷ drop i bytes) two) in
    let whole : bytes ≡ front ++ x ∷ y ∷ rest =
    sym (take-append-drop place bytes) ∙ ap (λ (tail : List ℕ). front ++ tail) behind in
    ap (λ (list : List ℕ). with_word list place word) whole
    ∙ ap (λ (i : ℕ). set (set (front ++ x ∷ y ∷ rest) i (word / 256)) (i + 1) (word % 256)) (sym size)
    ∙ put_behind front rest x y (word / 256) (word % 256)

-- what is written into the bytes from a place on
pub with_word-from_put : (bytes : List ℕ) (place word : ℕ) (part : List ℕ) → place + 2 ≤ length bytes
    → word < 2 ^ 16 → part ≡ big_bytes 2 word ++ drop 2 (take (length bytes - place) (drop place bytes))
    → put_mid place (length bytes - place) bytes part ≡ with_word bytes place word
with_word-from_put bytes place word part inside fits written =
    let front = take place bytes in
    let none : drop (length bytes - place) (drop place bytes) ≡ [] =
    drop_all (length bytes - place) (drop place bytes) (omega (arith, length-drop place bytes)) in
    let rest : drop 2 (take (length bytes - place) (drop place bytes)) ≡ drop (place + 2) bytes =
    ap (drop 2) (take_rest bytes place) ∙ drop-drop 2 place bytes in
    let high : word / 256 % 256 ≡ word / 256 = omega arith in
    let spelled : part ≡ (word / 256) ∷ (word % 256) ∷ drop (place + 2) bytes =
    written
    ∙ ap (λ (tail : List ℕ). (word / 256 % 256) ∷ (word % 256) ∷ tail) rest
    ∙ ap (λ (byte : ℕ). byte ∷ (word % 256) ∷ drop (place + 2) bytes) high in
    ap (λ (tail : List ℕ). front ++ (part ++ tail)) none
    ∙ ap (λ (list : List ℕ). front ++ list) (append-nil part ∙ spelled)
    ∙ sym (with_word-split bytes place word inside)
