-- What is read of a file piece by piece is a front of it.
use Rattle.std.proofs.Common.{◌≡◌, ◌+◌, ◌-◌, ℕ, List, ◌++◌, Option, Some, None, IfSome, length, take, drop, sym, ◌∙◌, ap, arith, length-append}
use Rattle.std.proofs.lemmas.List.{length-take-le, length-drop}
use Rattle.std.proofs.Math.Seq.{take-add}
use Rattle.std.specs.Io.{StartsWith}
use Rattle.std.proofs.lemmas.Grind.{common_steps}
use Rattle.slnf_shelf.specs.Shelf.{Gives, with_more}
use Rattle.slnf_shelf.proofs.Laws.{with_more-front}

pub front-more : (held front buffer : List ℕ) (at count : ℕ) → at ≡ length front
    → Gives held at buffer count → StartsWith held front → StartsWith held (front ++ take count buffer)
front-more held front buffer at count place gives starts =
    let long : length (take count buffer) ≡ count = ap length gives.bytes
    ∙ length-take-le count (drop at held) (omega (arith, gives.within, length-drop at held)) in
    let size : length (front ++ take count buffer) ≡ length front + count =
    length-append front (take count buffer) ∙ ap (λ n. length front + n) long in
    let piece : take count (drop (length front) held) ≡ take count buffer =
    ap (λ n. take count (drop n held)) (sym place) ∙ sym gives.bytes in
    ap (λ n. take n held) size ∙ take-add (length front) count held
    ∙ ap (λ xs. xs ++ take count (drop (length front) held)) starts ∙ ap (λ xs. front ++ xs) piece

-- the same where the shelf tells what is held
pub told-front-more : (told : Option (List ℕ)) (front buffer more : List ℕ) (at count : ℕ)
    → at ≡ length front → more ≡ front ++ take count buffer → IfSome told (λ held. Gives held at buffer count)
    → IfSome told (λ held. StartsWith held front → StartsWith held more)
told-front-more None front buffer more at count place added gives = tt
told-front-more (Some held) front buffer more at count place added gives =
    λ starts. rw added (front-more held front buffer at count place gives starts)

-- a slice from a place on
pub rest-slice : (n : ℕ) (text : List ℕ) → take (length text - n) (drop n text) ≡ drop n text
rest-slice n text = grind (arith, common_steps)

-- a front of the rest of a text, behind a front of it
pub front-of-rest : (m n : ℕ) (text : List ℕ) (before middle now : Option (List ℕ))
    → middle ≡ with_more (take m text) before → now ≡ with_more (take n (take (length text - m) (drop m text))) middle
    → now ≡ with_more (take (m + n) text) before
front-of-rest m n text before middle now first second =
    second ∙ ap (λ rest. with_more (take n rest) middle) (rest-slice m text)
    ∙ ap (λ o. with_more (take n (drop m text)) o) first ∙ with_more-front m n text before
