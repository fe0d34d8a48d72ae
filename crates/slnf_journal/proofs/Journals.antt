-- A journal's text and its reading: what is read is the text, the text is read, and each refusal has its place.
use Rattle.std.proofs.Common.{◌≡◌, ◌≢◌, ◌≤◌, ◌<◌, ◌+◌, ◌==◌, ◌⊎◌, ℕ, zero, suc, Bool, true, false, cond, List, [], ◌∷◌, ◌++◌, Option, Some, None, Result, Ok, Err, IfOk, IfErr, All, length, take, drop, refl, sym, ◌∙◌, ap, subst, append_assoc, arith, inl, inr}
use Rattle.std.proofs.Math.Seq.{take-append_seam, drop-append_seam}
use Rattle.std.proofs.lemmas.Bool.{ne_eqb, eqb-false, false_from_ne_true, cases_Bool}
use Rattle.std.proofs.lemmas.List.{append-nil, take-append-drop}
use Rattle.std.proofs.lemmas.List.Elements.{All-from_recursion, recursion_from_All, All-cons, All-nil}
use Rattle.std.proofs.lemmas.List.Splits.{slice_split_none, slice_split_at, join_with_byte-slice_split}
use Rattle.std.proofs.lemmas.Slice.Eq.{bytes_eq-Decides}
use Rattle.std.specs.List.{AllByRecursion, flat_map, join_with_byte, slice_split, onto_first}
use Rattle.std.specs.Str.{bytes_eq}
use Rattle.slnf_access.specs.declared.requests.Entry.{Entry}
use Rattle.slnf_journal.specs.declared.errors.JournalError.{JournalError}
use Rattle.slnf_journal.specs.declared.errors.JournalError.TheVariants.{BadHeader, NoNewline, BadField, NoMemory}
use Rattle.slnf_journal.specs.Journal.{journal_header, entry_text}
use Rattle.slnf_journal.specs.Versions.{Version, One, first_line, line_of, text_in, behind, body_of, line_entry}
use Rattle.slnf_journal.specs.Fields.{◌>>=◌, parts_at, fields_of, entry_in}
use Rattle.slnf_journal.specs.Reading.{at_line, ending, entries_in, lines_of, journal_in, Answers}
use Rattle.slnf_journal.specs.Ranges.{Fits, AllFit, IsFirstBad, IsOneLine, GoesOn, IsRefused}
use Rattle.slnf_journal.proofs.Cuts.{some_part}
use Rattle.slnf_journal.proofs.Steps.{entries_in-more, entries_in-one}
use Rattle.slnf_journal.proofs.Exact.{bind_ok, bind_err}
use Rattle.slnf_journal.proofs.Texts.{Lacks, bare_line, bare_fields, bare_one_line, line_is, entry_line, line_ok, line_again, line_bad, line_bad_back}

-- the lines of entries
abbrev lines : List Entry → List ℕ
lines entries = flat_map (line_of One) entries

abbrev R : Type 0
R = Result (List Entry) JournalError

-- what is read behind these entries
abbrev put_front : List Entry → R → R
put_front [] r = r
put_front (e ∷ es) r = put_front es r >>= (λ more. Ok (e ∷ more))

-- ---- parts without line feeds

abbrev OneLines : List (List ℕ) → Type 0
OneLines texts = AllByRecursion (λ text. Lacks 10 text) texts

onto_one_line : (b : ℕ) (texts : List (List ℕ)) → (b == 10) ≡ false → OneLines texts → OneLines (onto_first b texts)
onto_one_line b [] h p = (All-cons (λ x. (x == 10) ≡ false) b [] h (All-nil (λ x. (x == 10) ≡ false)), tt)
onto_one_line b (text ∷ texts) h p = (All-cons (λ x. (x == 10) ≡ false) b text h p.0, p.1)

parts_one_line : (bytes : List ℕ) → OneLines (parts_at 10 bytes)
parts_one_line [] = (All-nil (λ x. (x == 10) ≡ false), tt)
parts_one_line (b ∷ bytes) = split (b == 10) refl (parts_one_line bytes)
  where
    split : (t : Bool) → (b == 10) ≡ t → OneLines (parts_at 10 bytes) →
        OneLines (cond t ([] ∷ parts_at 10 bytes) (onto_first b (parts_at 10 bytes)))
    split true is more = (All-nil (λ x. (x == 10) ≡ false), more)
    split false is more = onto_one_line b (parts_at 10 bytes) is more

lacks_is : (text : List ℕ) → Lacks 10 text → IsOneLine text
lacks_is text p k d below = eqb-false _ _ (p k d below)

is_lacks : (text : List ℕ) → IsOneLine text → Lacks 10 text
is_lacks text p k d below = ne_eqb _ _ (p k d below)

-- ---- the first lines are of entries

entry_first : (e : Entry) (rest : List ℕ) → lines (e ∷ []) ++ rest ≡ bare_line e ++ (10 ∷ rest)
entry_first e rest = ap (λ l. l ++ rest) (append-nil (entry_text e) ∙ entry_line e) ∙ append_assoc (bare_line e) (10 ∷ []) rest

lines_more : (e : Entry) (es : List Entry) (rest : List ℕ) → lines (e ∷ es) ++ rest ≡ bare_line e ++ (10 ∷ (lines es ++ rest))
lines_more e es rest =
    append_assoc (entry_text e) (lines es) rest ∙ ap (λ l. l ++ (lines es ++ rest)) (entry_line e)
    ∙ append_assoc (bare_line e) (10 ∷ []) (lines es ++ rest)

good_line : (line : ℕ) (e : Entry) → Fits e → at_line line (line_entry One (bare_line e)) ≡ Ok e
good_line line e fits =
    ap (λ left. at_line line (entry_in (record { number = 1; left = left }))) (bare_fields e fits)
    ∙ ap (at_line line) (line_again e fits)

entries_first : (line : ℕ) (es : List Entry) (rest : List ℕ) → AllFit es → entries_in One line
    (parts_at 10 (lines es ++ rest)) ≡ put_front es (entries_in One (line + length es) (parts_at 10 rest))
entries_first line [] rest fits = ap (λ n. entries_in One n (parts_at 10 rest)) (omega arith)
entries_first line (e ∷ es) rest fits =
    ap (λ bytes. entries_in One line (parts_at 10 bytes)) (lines_more e es rest)
    ∙ ap (λ texts. entries_in One line texts)
    (slice_split_at (λ b. b == 10) (bare_line e) 10 (lines es ++ rest) (bare_one_line e fits.0) refl)
    ∙ entries_in-more One line (bare_line e) (parts_at 10 (lines es ++ rest)) (some_part 10 (lines es ++ rest))
    ∙ ap (λ r. r >>= (λ entry. entries_in One (line + 1) (parts_at 10 (lines es ++ rest))
    >>= (λ more. Ok (entry ∷ more)))) (good_line line e fits.0)
    ∙ ap (λ r. r >>= (λ more. Ok (e ∷ more)))
    (entries_first (line + 1) es rest fits.1 ∙ ap (λ n. put_front es (entries_in One n (parts_at 10 rest))) (omega arith))

front_ok : (es : List Entry) → put_front es (Ok []) ≡ Ok es
front_ok [] = refl
front_ok (e ∷ es) = ap (λ r. r >>= (λ more. Ok (e ∷ more))) (front_ok es)

front_err : (es : List Entry) (error : JournalError) → put_front es (Err error) ≡ Err error
front_err [] error = refl
front_err (e ∷ es) error = ap (λ r. r >>= (λ more. Ok (e ∷ more))) (front_err es error)

-- the text of entries is read
lines_again : (es : List Entry) → AllFit es → entries_in One 2 (parts_at 10 (lines es)) ≡ Ok es
lines_again es fits =
    ap (λ bytes. entries_in One 2 (parts_at 10 bytes)) (sym (append-nil (lines es)))
    ∙ entries_first 2 es [] fits ∙ ap (put_front es) (entries_in-one One (2 + length es) []) ∙ front_ok es

torn_err : (line : ℕ) (rest : List ℕ) → 0 < length rest →
    IsOneLine rest → entries_in One line (parts_at 10 rest) ≡ Err (NoNewline line)
torn_err line rest some one =
    ap (λ texts. entries_in One line texts) (slice_split_none (λ b. b == 10) rest (is_lacks rest one))
    ∙ entries_in-one One line rest ∙ torn rest some
  where
    torn : (text : List ℕ) → 0 < length text → ending line text ≡ Err (NoNewline line)
    torn [] some = absurd (omega arith)
    torn (byte ∷ bytes) some = refl

bad_err : (line number : ℕ) (text rest : List ℕ) → IsOneLine text → IsFirstBad (parts_at 32 text) number →
    entries_in One line (parts_at 10 (text ++ 10 ∷ rest)) ≡ Err (BadField line number)
bad_err line number text rest one bad =
    ap (λ texts. entries_in One line texts) (slice_split_at (λ b. b == 10) text 10 rest (is_lacks text one) refl)
    ∙ entries_in-more One line text (parts_at 10 rest) (some_part 10 rest)
    ∙ ap (λ r. at_line line r >>= (λ entry. entries_in One (line + 1) (parts_at 10 rest)
    >>= (λ more. Ok (entry ∷ more)))) (line_bad_back (parts_at 32 text) number bad)

-- ---- what was read is the text

line_right : (line : ℕ) (text : List ℕ) (e : Entry) → at_line line (line_entry One text) ≡ Ok e → Fits e × (text ≡ bare_line e)
line_right line text e h = let o = line_ok (parts_at 32 text) e (unlined (line_entry One text) h) in (o.0, line_is text e o.1)
  where
    unlined : (r : Result Entry ℕ) → at_line line r ≡ Ok e → r ≡ Ok e
    unlined (Ok x) h = let same : x ≡ e = cc in ap Ok same
    unlined (Err k) h = absurd cc

ending_right : (line : ℕ) (text : List ℕ) (es : List Entry) → ending line text ≡ Ok es → (text ≡ []) × (es ≡ [])
ending_right line [] es h = (refl, let same : [] ≡ es = cc in sym same)
ending_right line (byte ∷ bytes) es h = absurd cc

joined : (text : List ℕ) (texts : List (List ℕ)) →
    0 < length texts → join_with_byte 10 (text ∷ texts) ≡ text ++ (10 ∷ join_with_byte 10 texts)
joined text [] some = absurd (omega arith)
joined text (next ∷ texts) some = refl

lines_right : (line : ℕ) (texts : List (List ℕ)) (es : List Entry) →
    entries_in One line texts ≡ Ok es → AllFit es × (join_with_byte 10 texts ≡ lines es)
unfolding entries_in
lines_right line [] es h = let same : [] ≡ es = cc in subst (λ x. AllFit x × ([] ≡ lines x)) same (tt, refl)
lines_right line (text ∷ []) es h =
    let o = ending_right line text es h in
    subst (λ x. AllFit x × (text ≡ lines x)) (sym o.1) (tt, o.0)
lines_right line (text ∷ next ∷ texts) es h =
    let a = bind_ok (at_line line (line_entry One text))
    (λ entry. entries_in One (line + 1) (next ∷ texts) >>= (λ entries. Ok (entry ∷ entries))) es h in
    let b = bind_ok (entries_in One (line + 1) (next ∷ texts)) (λ entries. Ok (a.0 ∷ entries)) es a.2 in
    let one = line_right line text a.0 a.1 in
    let more = lines_right (line + 1) (next ∷ texts) b.0 b.1 in
    let same : a.0 ∷ b.0 ≡ es = let ok = b.2 in cc in
    subst (λ x. AllFit x × (text ++ (10 ∷ join_with_byte 10 (next ∷ texts)) ≡ lines x)) same (
      (one.0, more.0),
      ap (λ l. text ++ (10 ∷ l)) more.1 ∙ ap (λ l. l ++ (10 ∷ lines b.0)) one.1
          ∙ sym (append_assoc (bare_line a.0) (10 ∷ []) (lines b.0)) ∙ ap (λ l. l ++ lines b.0) (sym (entry_line a.0)),
    )

-- ---- where the reading fails

-- the lines of these entries, and then what is refused
pub data Fault (line : ℕ) (body : List ℕ) (error : JournalError) : Type 0 where
  Torn : (entries : List Entry) (rest : List ℕ) → AllFit entries → body ≡ lines entries ++ rest →
      error ≡ NoNewline (line + length entries) → 0 < length rest → Lacks 10 rest → Fault line body error
  Bad : (entries : List Entry) (text rest : List ℕ) (number : ℕ) →
      AllFit entries → body ≡ lines entries ++ (text ++ 10 ∷ rest) → error ≡ BadField (line + length entries) number →
      Lacks 10 text → IsFirstBad (parts_at 32 text) number → Fault line body error

fault_more : (line : ℕ) (e : Entry) (text body : List ℕ) (error : JournalError) →
    Fits e → text ≡ bare_line e → Fault (line + 1) body error → Fault line (text ++ (10 ∷ body)) error
fault_more line e text body error fits is (Torn entries rest all parts told some one) =
    let n : line + 1 + length entries ≡ line + length (e ∷ entries) = omega arith in
    Torn (e ∷ entries) rest (fits, all) (ap (λ l. text ++ (10 ∷ l)) parts
    ∙ ap (λ l. l ++ (10 ∷ (lines entries ++ rest))) is ∙ sym (lines_more e entries rest))
    (told ∙ ap NoNewline n) some one
fault_more line e text body error fits is (Bad entries bad rest number all parts told one first) =
    let n : line + 1 + length entries ≡ line + length (e ∷ entries) = omega arith in
    Bad (e ∷ entries) bad rest number (fits, all) (ap (λ l. text ++ (10 ∷ l)) parts
    ∙ ap (λ l. l ++ (10 ∷ (lines entries ++ (bad ++ 10 ∷ rest)))) is ∙ sym (lines_more e entries (bad ++ 10 ∷ rest)))
    (told ∙ ap (λ k. BadField k number) n) one first

ending_wrong : (line : ℕ) (text : List ℕ) (error : JournalError) →
    Lacks 10 text → ending line text ≡ Err error → Fault line text error
ending_wrong line [] error one h = absurd cc
ending_wrong line (byte ∷ bytes) error one h =
    let n : line ≡ line + 0 = omega arith in
    let told : NoNewline line ≡ error = cc in
    Torn [] (byte ∷ bytes) tt refl (sym told ∙ ap NoNewline n) (omega arith) one

line_wrong : (line : ℕ) (text rest : List ℕ) (error : JournalError) →
    Lacks 10 text → at_line line (line_entry One text) ≡ Err error → Fault line (text ++ (10 ∷ rest)) error
line_wrong line text rest error one h = split (line_entry One text) refl h
  where
    split : (r : Result Entry ℕ) → line_entry One text ≡ r → at_line line r ≡ Err error → Fault line (text ++ (10 ∷ rest)) error
    split (Ok e) is h = absurd cc
    split (Err number) is h =
        let n : line ≡ line + 0 = omega arith in
        let told : BadField line number ≡ error = cc in
        Bad [] text rest number tt refl (sym told ∙ ap (λ k. BadField k number) n) one (line_bad (parts_at 32 text) number is)

lines_wrong : (line : ℕ) (texts : List (List ℕ)) (error : JournalError) →
    OneLines texts → entries_in One line texts ≡ Err error → Fault line (join_with_byte 10 texts) error
unfolding entries_in
lines_wrong line [] error one h = absurd cc
lines_wrong line (text ∷ []) error one h = ending_wrong line text error one.0 h
lines_wrong line (text ∷ next ∷ texts) error one h =
    elim (bind_err (at_line line (line_entry One text))
    (λ entry. entries_in One (line + 1) (next ∷ texts) >>= (λ entries. Ok (entry ∷ entries))) error h) [
      | inl first ↦ line_wrong line text (join_with_byte 10 (next ∷ texts)) error one.0 first
      | inr o ↦ elim (bind_err (entries_in One (line + 1) (next ∷ texts)) (λ entries. Ok (o.0 ∷ entries)) error o.2) [
        | inl later ↦ let right = line_right line text o.0 o.1 in
            fault_more line o.0 text (join_with_byte 10 (next ∷ texts)) error right.0 right.1
            (lines_wrong (line + 1) (next ∷ texts) error one.1 later)
        | inr wrong ↦ absurd (ok_err (o.0 ∷ wrong.0) error wrong.2)
      ]
    ]
  where
    ok_err : (es : List Entry) (error : JournalError) → Ok es ≡ Err error → ⊥
    ok_err es error h = cc

-- ---- the first line

behind_split : (front bytes rest : List ℕ) → behind front bytes ≡ Some rest → bytes ≡ front ++ rest
behind_split front bytes rest h = split (bytes_eq (take (length front) bytes) front) refl h
  where
    split : (t : Bool) → bytes_eq (take (length front) bytes) front ≡ t →
        cond t (Some (drop (length front) bytes)) None ≡ Some rest → bytes ≡ front ++ rest
    split false is h = absurd cc
    split true is h =
        let same : drop (length front) bytes ≡ rest = cc in
        sym (take-append-drop (length front) bytes) ∙ ap (λ l. l ++ drop (length front) bytes)
        ((bytes_eq-Decides (take (length front) bytes) front).0 is) ∙ ap (λ l. front ++ l) same

behind_front : (front rest : List ℕ) → behind front (front ++ rest) ≡ Some rest
behind_front front rest =
    ap (λ t. cond t (Some (drop (length front) (front ++ rest))) None)
    ((bytes_eq-Decides (take (length front) (front ++ rest)) front).1 (take-append_seam front rest))
    ∙ ap Some (drop-append_seam front rest)

-- ---- the whole

pub journal_right : (bytes : List ℕ) (es : List Entry) → journal_in One bytes ≡ Ok es → AllFit es × (bytes ≡ text_in One es)
unfolding journal_in
journal_right bytes es h = split (body_of One bytes) refl h
  where
    split : (o : Option (List ℕ)) → body_of One bytes ≡ o → lines_of One o ≡ Ok es → AllFit es × (bytes ≡ text_in One es)
    split None is h = absurd cc
    split (Some body) is h =
        let right = lines_right 2 (parts_at 10 body) es h in (
          right.0,
          behind_split journal_header bytes body is
              ∙ ap (λ l. journal_header ++ l) (sym (join_with_byte-slice_split 10 body) ∙ right.1),
        )

journal_body : (body : List ℕ) → journal_in One (journal_header ++ body) ≡ entries_in One 2 (parts_at 10 body)
unfolding journal_in
journal_body body = ap (lines_of One) (behind_front journal_header body)

pub journal_again : (es : List Entry) → AllFit es → journal_in One (text_in One es) ≡ Ok es
journal_again es fits = journal_body (lines es) ∙ lines_again es fits

in_front : (entries : List Entry) (rest : List ℕ) →
    journal_header ++ (lines entries ++ rest) ≡ journal_header ++ lines entries ++ rest
in_front entries rest = sym (append_assoc journal_header (lines entries) rest)

fault_refused : (bytes body : List ℕ) (error : JournalError) →
    bytes ≡ journal_header ++ body → Fault 2 body error → IsRefused One bytes error
fault_refused bytes body error begins (Torn entries rest all parts told some one) =
    let n : 2 + length entries ≡ length entries + 2 = omega arith in
    subst (IsRefused One bytes) (sym told)
    (entries, rest, (0, all, begins ∙ ap (λ l. journal_header ++ l) parts ∙ in_front entries rest), n, some, lacks_is rest one)
fault_refused bytes body error begins (Bad entries text rest number all parts told one first) =
    let n : 2 + length entries ≡ length entries + 2 = omega arith in
    subst (IsRefused One bytes) (sym told) (
      entries,
      text,
      rest,
      (0, all, begins ∙ ap (λ l. journal_header ++ l) parts ∙ in_front entries (text ++ 10 ∷ rest)),
      n,
      lacks_is text one,
      first,
    )

pub journal_wrong : (bytes : List ℕ) (error : JournalError) → journal_in One bytes ≡ Err error → IsRefused One bytes error
unfolding journal_in
journal_wrong bytes error h = split (body_of One bytes) refl h
  where
    split : (o : Option (List ℕ)) → body_of One bytes ≡ o → lines_of One o ≡ Err error → IsRefused One bytes error
    split None is h =
        let told : BadHeader ≡ error = cc in
        subst (IsRefused One bytes) told
        (λ count rest same. none_some rest (sym is ∙ ap (body_of One) same ∙ behind_front journal_header rest))
      where
        none_some : (rest : List ℕ) → None ≡ Some rest → ⊥
        none_some rest e = cc
    split (Some body) is h =
        fault_refused bytes body error (behind_split journal_header bytes body is)
        (subst (λ l. Fault 2 l error) (join_with_byte-slice_split 10 body)
        (lines_wrong 2 (parts_at 10 body) error (parts_one_line body) h))

behind_entries : (bytes : List ℕ) (entries : List Entry) (rest : List ℕ) (error : JournalError) → GoesOn One bytes entries rest →
    entries_in One (length entries + 2) (parts_at 10 rest) ≡ Err error → journal_in One bytes ≡ Err error
behind_entries bytes entries rest error on wrong =
    let n : 2 + length entries ≡ length entries + 2 = omega arith in
    ap (journal_in One) (on.2 ∙ sym (in_front entries rest)) ∙ journal_body (lines entries ++ rest)
    ∙ entries_first 2 entries rest on.1 ∙ ap (λ k. put_front entries (entries_in One k (parts_at 10 rest))) n
    ∙ ap (put_front entries) wrong ∙ front_err entries error

pub journal_refuses : (bytes : List ℕ) (error : JournalError) → IsRefused One bytes error → journal_in One bytes ≡ Err error
unfolding journal_in
journal_refuses bytes BadHeader h = split (body_of One bytes) refl
  where
    split : (o : Option (List ℕ)) → body_of One bytes ≡ o → lines_of One o ≡ Err BadHeader
    split None is = refl
    split (Some body) is = absurd (h 0 body (behind_split journal_header bytes body is))
journal_refuses bytes (NoNewline line) h =
    behind_entries bytes h.0 h.1 (NoNewline line) h.2
    (torn_err (length h.0 + 2) h.1 h.4 h.5 ∙ ap (λ k. Err (NoNewline k)) (sym h.3))
journal_refuses bytes (BadField line number) h =
    behind_entries bytes h.0 (h.1 ++ 10 ∷ h.2) (BadField line number) h.3
    (bad_err (length h.0 + 2) number h.1 h.2 h.5 h.6 ∙ ap (λ k. Err (BadField k number)) (sym h.4))
journal_refuses bytes NoMemory h = absurd h

-- ---- what a call answers

pub answers : (r reading : R) → IfOk r (λ es. reading ≡ Ok es) →
    IfErr r (λ error. error ≢ NoMemory → reading ≡ Err error) → Answers r reading
answers (Ok es) reading ok err = sym ok
answers (Err BadHeader) reading ok err = sym (err (λ e. let wrong : ⊥ = cc in wrong))
answers (Err (NoNewline line)) reading ok err = sym (err (λ e. let wrong : ⊥ = cc in wrong))
answers (Err (BadField line number)) reading ok err = sym (err (λ e. let wrong : ⊥ = cc in wrong))
answers (Err NoMemory) reading ok err = tt

pub answers_text : (r : R) (bytes : List ℕ) → IfOk r (λ es. journal_in One bytes ≡ Ok es) →
    IfOk r (λ es. AllFit es × (bytes ≡ text_in One es))
answers_text (Ok es) bytes ok = journal_right bytes es ok
answers_text (Err error) bytes ok = tt

pub answers_place : (r : R) (bytes : List ℕ) → IfErr r (λ error. error ≢ NoMemory → journal_in One bytes ≡ Err error) →
    IfErr r (λ error. error ≢ NoMemory → IsRefused One bytes error)
answers_place (Ok es) bytes err = tt
answers_place (Err error) bytes err = λ some. journal_wrong bytes error (err some)
