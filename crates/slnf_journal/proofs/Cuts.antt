-- Cutting bytes at a byte, as the code does.
use Rattle.std.proofs.Common.{◌≡◌, ◌≤◌, ◌<◌, ◌+◌, ◌-◌, ◌==◌, ℕ, Bool, List, [], ◌∷◌, ◌++◌, Option, Some, None, Result, Ok, Err, MatchOption, cond, length, take, drop, nat_lt, refl, sym, ◌∙◌, ap, subst, arith}
use Rattle.std.proofs.lemmas.Bool.{false_from_ne_true, lt-ltb, le-ltb}
use Rattle.std.proofs.lemmas.List.{get_or_default, take_all, drop_all, length-drop, drop-drop}
use Rattle.std.proofs.lemmas.List.Splits.{slice_split_none, slice_split_first, length-slice_split}
use Rattle.std.proofs.lemmas.List.Sums.{position_or_len_is}
use Rattle.std.specs.List.{slice_split, position_or_len}
use Rattle.std.specs.Option.{unwrap_or}
use Rattle.slnf_access.specs.declared.requests.Entry.{Entry}
use Rattle.memchr.specs.Find.{IsFirstByte, is_byte}
use Rattle.slnf_journal.specs.Fields.{Fields, parts_at, first_of, left_at, ending_at, fields_of, entry_in}

abbrev pub Cuts : ℕ → List ℕ → Option ℕ → Type 0
Cuts byte bytes r = MatchOption r (parts_at byte bytes ≡ bytes ∷ [])
    (λ at. (at < length bytes) × (parts_at byte bytes ≡ take at bytes ∷ parts_at byte (drop (at + 1) bytes)))

pub found : (byte : ℕ) (bytes : List ℕ) (r : Option ℕ) → IsFirstByte (is_byte byte) bytes r → Cuts byte bytes r
found byte bytes None h =
    slice_split_none (λ b. b == byte) bytes
    (λ k d below. rw (get_or_default bytes k d 0 below) (false_from_ne_true _ (h k (omega arith) below)))
found byte bytes (Some at) h =
    let p : ℕ → Bool = λ b. b == byte in
    let place : position_or_len p bytes ≡ at =
    position_or_len_is p bytes at 0
    (omega (arith, h.0.high)) (λ k below. false_from_ne_true _ (h.0.before k (omega arith) below)) (λ _. h.1) in
    let cut = slice_split_first p bytes 0 (omega (arith, place, h.0.high)) in
    (h.0.high, subst (λ n. slice_split p bytes ≡ take n bytes ∷ slice_split p (drop (n + 1) bytes)) place cut)

pub no_field : (line : List ℕ) (at number : ℕ) → length line < at → first_of number (left_at line at) ≡ Err number
unfolding left_at
no_field line at number past = ap (λ b. first_of number (cond b [] (parts_at 32 (drop at line)))) (lt-ltb _ _ past)

left_inside : (line : List ℕ) (at : ℕ) → at ≤ length line → left_at line at ≡ parts_at 32 (drop at line)
unfolding left_at
left_inside line at inside = ap (λ b. cond b [] (parts_at 32 (drop at line))) (le-ltb _ _ inside)

pub some_field : (line rest : List ℕ) (at number len : ℕ) (r : Option ℕ) →
    at ≤ length line → rest ≡ drop at line → len ≡ unwrap_or r (length rest) → Cuts 32 rest r →
    first_of number (left_at line at) ≡ Ok (take len rest, record { number = number + 1; left = left_at line (at + len + 1) })
unfolding left_at
some_field line rest at number len None inside is long cut =
    let here : left_at line at ≡ take len rest ∷ [] =
    left_inside line at inside ∙ ap (λ bytes. parts_at 32 bytes) (sym is)
    ∙ cut ∙ ap (λ bytes. bytes ∷ []) (sym (take_all len rest (omega arith))) in
    let size : length rest ≡ length line - at = ap length is ∙ length-drop at line in
    let none : left_at line (at + len + 1) ≡ [] = ap (λ b. cond b [] (parts_at 32 (drop (at + len + 1) line)))
    (lt-ltb (length line) (at + len + 1) (omega arith)) in
    ap (λ left. first_of number left) here
    ∙ ap (λ left. Ok (take len rest, record { number = number + 1; left = left })) (sym none)
some_field line rest at number len (Some k) inside is long cut =
    let size : length rest ≡ length line - at = ap length is ∙ length-drop at line in
    let place : drop (k + 1) rest ≡ drop (at + len + 1) line =
    ap (λ bytes. drop (k + 1) bytes) is ∙ drop-drop (k + 1) at line ∙ ap (λ n. drop n line) (omega arith) in
    let next : parts_at 32 (drop (k + 1) rest) ≡ left_at line (at + len + 1) =
    ap (λ bytes. parts_at 32 bytes) place ∙ sym (left_inside line (at + len + 1) (omega (arith, cut.0))) in
    let here : left_at line at ≡ take len rest ∷ left_at line (at + len + 1) =
    left_inside line at inside ∙ ap (λ bytes. parts_at 32 bytes) (sym is) ∙ cut.1
    ∙ ap (λ n. take n rest ∷ parts_at 32 (drop (k + 1) rest)) (sym long) ∙ ap (λ left. take len rest ∷ left) next in
    ap (λ left. first_of number left) here

-- a cut has one part or more
pub some_part : (byte : ℕ) (bytes : List ℕ) → 0 < length (parts_at byte bytes)
some_part byte bytes = omega (arith, length-slice_split (λ b. b == byte) bytes)

pub more_fields : (entry : Entry) (line : List ℕ) (at number : ℕ) →
    at ≤ length line → Err number ≡ ending_at entry number (left_at line at)
more_fields entry line at number inside =
    some_left entry number _ (omega (arith, ap length (left_inside line at inside), some_part 32 (drop at line)))
  where
    some_left : (entry : Entry) (number : ℕ) (left : List (List ℕ)) → 0 < length left → Err number ≡ ending_at entry number left
    some_left entry number [] some = absurd (omega arith)
    some_left entry number (field ∷ left) some = refl

pub no_more_fields : (entry : Entry) (line : List ℕ) (at number : ℕ) →
    length line < at → Ok entry ≡ ending_at entry number (left_at line at)
unfolding left_at
no_more_fields entry line at number past =
    ap (λ b. ending_at entry number (cond b [] (parts_at 32 (drop at line)))) (sym (lt-ltb _ _ past))

-- all fields of a line
pub left_at-start : (line : List ℕ) → left_at line 0 ≡ parts_at 32 line
left_at-start line = left_inside line 0 (omega arith)
