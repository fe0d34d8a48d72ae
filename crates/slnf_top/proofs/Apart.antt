-- The names of the files that a run writes differ.
use Rattle.std.proofs.Common.{◌≡◌, ◌≢◌, ◌⊎◌, inl, inr, ℕ, suc, ◌+◌, ◌^◌, ◌<◌, ◌≤◌, List, [], ◌∷◌, ◌++◌, length, refl, ap, sym, ◌∙◌, arith}
use Rattle.std.specs.Prelude.{codes, decimal}
use Rattle.std.proofs.lemmas.Fmt.{decimal_injective}
use Rattle.std.proofs.lemmas.List.{append_cancel_left, append_cancel_right}
use Rattle.slnf_base.specs.declared.packets.Verdict.{Verdict}
use Rattle.slnf_access.specs.declared.requests.Entry.{Entry}
use Rattle.slnf_check.specs.declared.given.Given.{Given}
use Rattle.slnf_top.specs.declared.outputs.File.{File}
use Rattle.slnf_top.specs.Words.{PlanWords}
use Rattle.slnf_top.specs.Names.{capture_name, capture_names, verdicts_name, journal_name, standard_output, run_names}
use Rattle.slnf_top.specs.Effects.{IsAmong}
use Rattle.slnf_journal.specs.Journal.{journal_text}
use Rattle.slnf_journal.specs.Verdicts.{verdicts_text}
use Rattle.slnf_journal.specs.Summary.{summary_text}
use Rattle.slnf_top.specs.Files.{capture_files, files_of, IsNamed}

-- the last byte of a name
last_byte : List ℕ → ℕ
last_byte [] = 0
last_byte (x ∷ []) = x
last_byte (x ∷ y ∷ ys) = last_byte (y ∷ ys)

last-append : (xs : List ℕ) (y : ℕ) (ys : List ℕ) → last_byte (xs ++ y ∷ ys) ≡ last_byte (y ∷ ys)
unfolding last_byte
last-append [] y ys = refl
last-append (x ∷ []) y ys = refl
last-append (x ∷ z ∷ zs) y ys = last-append (z ∷ zs) y ys

-- a name of a capture ends with p, of the verdicts with s, and of the journal with l
capture_last : (out : List ℕ) (lane : ℕ) → last_byte (capture_name out lane) ≡ 112
unfolding last_byte
capture_last out lane = last-append (out ++ codes "." ++ decimal lane) 46 (112 ∷ 99 ∷ 97 ∷ 112 ∷ [])

verdicts_last : (out : List ℕ) → last_byte (verdicts_name out) ≡ 115
unfolding last_byte
verdicts_last out = last-append out 46 (118 ∷ 101 ∷ 114 ∷ 100 ∷ 105 ∷ 99 ∷ 116 ∷ 115 ∷ [])

journal_last : (out : List ℕ) → last_byte (journal_name out) ≡ 108
unfolding last_byte
journal_last out = last-append out 46 (106 ∷ 111 ∷ 117 ∷ 114 ∷ 110 ∷ 97 ∷ 108 ∷ [])

summary_last : last_byte standard_output ≡ 45
unfolding last_byte
summary_last = refl

-- so they differ
below : (a b : ℕ) → a < b → a ≡ b → ⊥
below a b less same = omega arith

capture_verdicts : (out : List ℕ) (lane : ℕ) → capture_name out lane ≢ verdicts_name out
capture_verdicts out lane h =
    below 112 115 (omega arith) (sym (capture_last out lane) ∙ ap last_byte h ∙ verdicts_last out)

capture_journal : (out : List ℕ) (lane : ℕ) → capture_name out lane ≢ journal_name out
capture_journal out lane h =
    below 108 112 (omega arith) (sym (sym (capture_last out lane) ∙ ap last_byte h ∙ journal_last out))

capture_summary : (out : List ℕ) (lane : ℕ) → capture_name out lane ≢ standard_output
capture_summary out lane h =
    below 45 112 (omega arith) (sym (sym (capture_last out lane) ∙ ap last_byte h ∙ summary_last))

verdicts_journal : (out : List ℕ) → verdicts_name out ≢ journal_name out
verdicts_journal out h =
    below 108 115 (omega arith) (sym (sym (verdicts_last out) ∙ ap last_byte h ∙ journal_last out))

verdicts_summary : (out : List ℕ) → verdicts_name out ≢ standard_output
verdicts_summary out h = below 45 115 (omega arith) (sym (sym (verdicts_last out) ∙ ap last_byte h ∙ summary_last))

journal_summary : (out : List ℕ) → journal_name out ≢ standard_output
journal_summary out h = below 45 108 (omega arith) (sym (sym (journal_last out) ∙ ap last_byte h ∙ summary_last))

-- two lanes have two names
lanes_differ : (out : List ℕ) (i j : ℕ) → i < 2 ^ 64 → j < 2 ^ 64 → capture_name out i ≡ capture_name out j → i ≡ j
lanes_differ out i j small few h =
    decimal_injective i j small few
    (append_cancel_left (out ++ codes ".") (decimal i) (decimal j)
    (append_cancel_right (out ++ codes "." ++ decimal i) (out ++ codes "." ++ decimal j) (codes ".pcap") h))

-- no name stands twice
abbrev pub AreApart : List File → Type 0
AreApart [] = Unit {0}
AreApart (file ∷ files) = (¬ IsNamed files file.name) × AreApart files

-- a name of one part or the other
named-append : (xs ys : List File) (name : List ℕ) → IsNamed (xs ++ ys) name → IsNamed xs name ⊎ IsNamed ys name
named-append [] ys name h = inr h
named-append (x ∷ xs) ys name (inl e) = inl (inl e)
named-append (x ∷ xs) ys name (inr h) =
    elim (named-append xs ys name h) [ inl front ↦ inl (inr front) | inr back ↦ inr back ]

-- a name of an output capture, from this lane on
record IsFrom (out : List ℕ) (first last : ℕ) (name : List ℕ) : Type 0 where
  lane : ℕ
  least : first ≤ lane
  within : lane < last
  is : name ≡ capture_name out lane

later : (out : List ℕ) (first last : ℕ) (name : List ℕ) → IsFrom out (first + 1) last name →
    IsFrom out first last name
later out first last name h =
    let least : first + 1 ≤ h.lane = h.least in
    record { lane = h.lane; least = omega arith; within = h.within; is = h.is }

captures_named : (out : List ℕ) (first last : ℕ) (given : List Given) (verdicts : List (List Verdict))
    (name : List ℕ) → first + length given ≤ last → IsNamed (capture_files out first given verdicts) name →
    IsFrom out first last name
captures_named out first last [] verdicts name fits h = absurd h
captures_named out first last (g ∷ given) [] name fits h = absurd h
captures_named out first last (g ∷ given) (v ∷ verdicts) name fits (inl e) =
    record { lane = first; least = omega arith; within = omega arith; is = e }
captures_named out first last (g ∷ given) (v ∷ verdicts) name fits (inr h) =
    later out first last name (captures_named out (first + 1) last given verdicts name (omega arith) h)

-- a file that is no capture's comes behind captures
captures_apart : (out : List ℕ) (first last : ℕ) (given : List Given) (verdicts : List (List Verdict))
    (tail : List File) → first + length given ≤ last → last < 2 ^ 64 → AreApart tail →
    ((lane : ℕ) → ¬ IsNamed tail (capture_name out lane)) → AreApart (capture_files out first given verdicts ++ tail)
captures_apart out first last [] verdicts tail fits few apart none = apart
captures_apart out first last (g ∷ given) [] tail fits few apart none = apart
captures_apart out first last (g ∷ given) (v ∷ verdicts) tail fits few apart none = (
  λ h. elim (named-append (capture_files out (first + 1) given verdicts) tail (capture_name out first) h) [
    | inl front ↦
        let there : IsFrom out (first + 1) last (capture_name out first) =
        captures_named out (first + 1) last given verdicts (capture_name out first) (omega arith) front in
        let least : first + 1 ≤ there.lane = there.least in
        let within : there.lane < last = there.within in
        let same : first ≡ there.lane = lanes_differ out first there.lane (omega arith) (omega arith) there.is in
        omega arith
    | inr back ↦ none first back
  ],
  captures_apart out (first + 1) last given verdicts tail (omega arith) few apart none,
)

-- the files behind the captures
abbrev last_files : List ℕ → List ℕ → List ℕ → List ℕ → List File
last_files out verdicts journal summary =
    record { name = verdicts_name out; text = verdicts } ∷ record { name = journal_name out; text = journal } ∷
    record { name = standard_output; text = summary } ∷ []

tail_apart : (out : List ℕ) (verdicts journal summary : List ℕ) → AreApart (last_files out verdicts journal summary)
tail_apart out verdicts journal summary = (
  λ h. elim h [
    | inl e ↦ verdicts_journal out e
    | inr rest ↦ elim rest
        [ inl e ↦ verdicts_summary out e | inr none ↦ none ]
  ],
  (λ h. elim h [ inl e ↦ journal_summary out e | inr none ↦ none ], (λ h. h, tt)),
)

no_capture : (out : List ℕ) (verdicts journal summary : List ℕ) (lane : ℕ) →
    ¬ IsNamed (last_files out verdicts journal summary) (capture_name out lane)
no_capture out verdicts journal summary lane (inl e) = capture_verdicts out lane e
no_capture out verdicts journal summary lane (inr (inl e)) = capture_journal out lane e
no_capture out verdicts journal summary lane (inr (inr (inl e))) = capture_summary out lane e
no_capture out verdicts journal summary lane (inr (inr (inr none))) = none

-- the files of a run have names that differ
pub files_apart : (out : List ℕ) (given : List Given) (verdicts : List (List Verdict)) (journal : List Entry) →
    length given ≤ 32 → AreApart (files_of out given verdicts journal)
files_apart out given verdicts journal few =
    captures_apart out 0 (length given) given verdicts
    (last_files out (verdicts_text verdicts) (journal_text journal) (summary_text verdicts journal))
    (omega arith) (omega arith)
    (tail_apart out (verdicts_text verdicts) (journal_text journal) (summary_text verdicts journal))
    (no_capture out (verdicts_text verdicts) (journal_text journal) (summary_text verdicts journal))

-- a name of one list or the other is one of both
pub among_front : (names more : List (List ℕ)) (name : List ℕ) → IsAmong names name → IsAmong (names ++ more) name
among_front [] more name h = absurd h
among_front (other ∷ names) more name (inl e) = inl e
among_front (other ∷ names) more name (inr h) = inr (among_front names more name h)

pub among_back : (names more : List (List ℕ)) (name : List ℕ) → IsAmong more name → IsAmong (names ++ more) name
among_back [] more name h = h
among_back (other ∷ names) more name h = inr (among_back names more name h)

some_more : (n : ℕ) → suc n ≡ 0 → ⊥
some_more n e = omega arith

suc_same : (m n : ℕ) → suc m ≡ suc n → m ≡ n
suc_same m n e = omega arith

-- an output capture has the name of one
captures_among : (out : List ℕ) (first : ℕ) (given : List Given) (verdicts : List (List Verdict))
    (captures : List (List ℕ)) (name : List ℕ) →
    length given ≡ length captures → IsNamed (capture_files out first given verdicts) name →
    IsAmong (capture_names out first captures) name
captures_among out first [] verdicts captures name same h = absurd h
captures_among out first (g ∷ given) [] captures name same h = absurd h
captures_among out first (g ∷ given) (v ∷ verdicts) [] name same h = absurd (some_more (length given) same)
captures_among out first (g ∷ given) (v ∷ verdicts) (c ∷ captures) name same (inl e) = inl e
captures_among out first (g ∷ given) (v ∷ verdicts) (c ∷ captures) name same (inr h) =
    inr (captures_among out (first + 1) given verdicts captures name
    (suc_same (length given) (length captures) same) h)

-- the files of a run are those that it may write
pub named_output : (words : PlanWords) (given : List Given) (verdicts : List (List Verdict)) (journal : List Entry)
    (name : List ℕ) →
    length given ≡ length words.captures → IsNamed (files_of words.out given verdicts journal) name →
    IsAmong (run_names words) name
named_output words given verdicts journal name same h =
    let captures : List (List ℕ) = capture_names words.out 0 words.captures in
    let tail : List (List ℕ) = verdicts_name words.out ∷ journal_name words.out ∷ standard_output ∷ [] in
    elim (named-append (capture_files words.out 0 given verdicts)
    (last_files words.out (verdicts_text verdicts) (journal_text journal) (summary_text verdicts journal))
    name h) [
      | inl front ↦ among_front captures tail name (captures_among words.out 0 given verdicts words.captures name
          same front)
      | inr back ↦ among_back captures tail name back
    ]
