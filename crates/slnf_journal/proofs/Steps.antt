-- The reading of lines one after the other, as the code goes.
use Rattle.std.proofs.Common.{◌≡◌, ◌≤◌, ◌<◌, ◌+◌, ◌-◌, ℕ, List, [], ◌∷◌, ◌++◌, Result, Ok, Err, length, take, drop, refl, sym, ◌∙◌, ap, append_assoc, arith}
use Rattle.std.proofs.lemmas.List.{append-nil, drop_all, drop-drop, length-drop}
use Rattle.slnf_access.specs.declared.requests.Entry.{Entry}
use Rattle.slnf_journal.specs.declared.errors.JournalError.{JournalError}
use Rattle.slnf_journal.specs.declared.errors.JournalError.TheVariants.{NoNewline}
use Rattle.slnf_journal.specs.Versions.{Version, line_entry}
use Rattle.slnf_journal.specs.Fields.{parts_at, ◌>>=◌}
use Rattle.slnf_journal.specs.Reading.{at_line, ending, entries_in}
use Rattle.slnf_journal.proofs.Cuts.{some_part}

-- the entries of a reading, behind these
abbrev pub with_front : List Entry → Result (List Entry) JournalError → Result (List Entry) JournalError
with_front front (Ok entries) = Ok (front ++ entries)
with_front front (Err error) = Err error

pub with_front-nothing : (r : Result (List Entry) JournalError) → with_front [] r ≡ r
with_front-nothing (Ok entries) = refl
with_front-nothing (Err error) = refl

one_more : (front : List Entry) (entry : Entry) (r : Result (List Entry) JournalError) →
    with_front (front ++ entry ∷ []) r ≡ with_front front (r >>= (λ entries. Ok (entry ∷ entries)))
one_more front entry (Ok entries) = ap Ok (append_assoc front (entry ∷ []) entries)
one_more front entry (Err error) = refl

-- a line that a line feed ends, and those behind it
pub entries_in-more : (version : Version) (line : ℕ) (text : List ℕ) (texts : List (List ℕ)) → 0 < length texts →
    entries_in version line (text ∷ texts) ≡ (at_line line (line_entry version text)
    >>= (λ entry. entries_in version (line + 1) texts >>= (λ entries. Ok (entry ∷ entries))))
unfolding entries_in
entries_in-more version line text [] some = absurd (omega arith)
entries_in-more version line text (next ∷ texts) some = refl

pub entries_in-one : (version : Version) (line : ℕ) (text : List ℕ) → entries_in version line (text ∷ []) ≡ ending line text
unfolding entries_in
entries_in-one version line text = refl

-- the bytes end here
pub step-end : (version : Version) (line at : ℕ) (body : List ℕ) (entries : List Entry) →
    length body ≤ at → with_front entries (entries_in version line (parts_at 10 (drop at body))) ≡ Ok entries
step-end version line at body entries past =
    ap (λ rest. with_front entries (entries_in version line (parts_at 10 rest))) (drop_all at body past)
    ∙ ap (λ r. with_front entries r) (entries_in-one version line [])
    ∙ ap Ok (append-nil entries)

torn : (line : ℕ) (text : List ℕ) → 0 < length text → ending line text ≡ Err (NoNewline line)
torn line [] some = absurd (omega arith)
torn line (byte ∷ bytes) some = refl

-- no line feed stands behind
pub step-torn : (version : Version) (line at : ℕ) (body rest : List ℕ) (entries : List Entry) →
    at < length body → rest ≡ drop at body → parts_at 10 rest ≡ rest ∷ [] →
    with_front entries (entries_in version line (parts_at 10 (drop at body))) ≡ Err (NoNewline line)
step-torn version line at body rest entries some is cut =
    ap (λ bytes. with_front entries (entries_in version line (parts_at 10 bytes))) (sym is)
    ∙ ap (λ texts. with_front entries (entries_in version line texts)) cut
    ∙ ap (λ r. with_front entries r)
    (entries_in-one version line rest ∙ torn line rest (omega (arith, ap length is, length-drop at body)))

abbrev Cut : List ℕ → ℕ → Type 0
Cut rest len = (len < length rest) × (parts_at 10 rest ≡ take len rest ∷ parts_at 10 (drop (len + 1) rest))

first_line : (version : Version) (line len : ℕ) (rest : List ℕ) → Cut rest len →
    entries_in version line (parts_at 10 rest) ≡ (at_line line (line_entry version (take len rest)) >>= (λ entry.
    entries_in version (line + 1) (parts_at 10 (drop (len + 1) rest)) >>= (λ entries. Ok (entry ∷ entries))))
first_line version line len rest cut =
    ap (λ texts. entries_in version line texts) cut.1
    ∙ entries_in-more version line (take len rest) (parts_at 10 (drop (len + 1) rest)) (some_part 10 (drop (len + 1) rest))

-- a line that is no entry's
pub step-bad : (version : Version) (line at len : ℕ)
    (body rest : List ℕ) (entries : List Entry) (error : JournalError) → rest ≡ drop at body → Cut rest len →
    at_line line (line_entry version (take len rest)) ≡ Err error →
    with_front entries (entries_in version line (parts_at 10 (drop at body))) ≡ Err error
step-bad version line at len body rest entries error is cut bad =
    ap (λ bytes. with_front entries (entries_in version line (parts_at 10 bytes))) (sym is)
    ∙ ap (λ r. with_front entries r) (first_line version line len rest cut)
    ∙ ap (λ r. with_front entries (r >>= (λ entry.
    entries_in version (line + 1) (parts_at 10 (drop (len + 1) rest)) >>= (λ more. Ok (entry ∷ more))))) bad

-- the line of an entry
pub step-entry : (version : Version) (line at len : ℕ) (body rest : List ℕ) (entries : List Entry) (entry : Entry) →
    rest ≡ drop at body → Cut rest len →
    at_line line (line_entry version (take len rest)) ≡ Ok entry →
    with_front (entries ++ entry ∷ []) (entries_in version (line + 1) (parts_at 10 (drop (at + (len + 1)) body)))
    ≡ with_front entries (entries_in version line (parts_at 10 (drop at body)))
step-entry version line at len body rest entries entry is cut good =
    let place : drop (at + (len + 1)) body ≡ drop (len + 1) rest =
    sym (ap (λ bytes. drop (len + 1) bytes) is ∙ drop-drop (len + 1) at body) in
    ap (λ bytes. with_front (entries ++ entry ∷ []) (entries_in version (line + 1) (parts_at 10 bytes))) place
    ∙ one_more entries entry (entries_in version (line + 1) (parts_at 10 (drop (len + 1) rest)))
    ∙ sym (ap (λ bytes. with_front entries (entries_in version line (parts_at 10 bytes))) (sym is)
    ∙ ap (λ r. with_front entries r) (first_line version line len rest cut)
    ∙ ap (λ r. with_front entries (r >>= (λ entry.
    entries_in version (line + 1) (parts_at 10 (drop (len + 1) rest)) >>= (λ more. Ok (entry ∷ more))))) good)
