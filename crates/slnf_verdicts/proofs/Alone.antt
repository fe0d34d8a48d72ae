-- Entries that are all of incarnation 0.
use Rattle.std.proofs.Common.{◌≡◌, ℕ, zero, suc, ◌==◌, ◌&&◌, Bool, true, false, List, [], ◌∷◌, Bor, refl, ap, sym, ◌∙◌, ne_eqb, arith}
use Rattle.std.specs.List.{list_all}
use Rattle.std.proofs.lemmas.Bool.{cond-true, cond-false, eqb-true}
use Rattle.slnf_access.specs.declared.requests.Entry.{Entry}
use Rattle.slnf_run.specs.Parts.{part_of}
use Rattle.slnf_verdicts.specs.declared.parts.Parts.TheVariants.{Alone}
use Rattle.slnf_verdicts.specs.Parts.{part_in}

abbrev AllAlone : List Entry → Type 0
AllAlone es = list_all (λ (e : Entry). e.incarnation == 0) es ≡ true

and_both : (a b : Bool) → (a && b) ≡ true → (a ≡ true) × (b ≡ true)
and_both true true h = (refl, refl)
and_both true false h = cc
and_both false b h = cc

kept : (es : List Entry) → AllAlone es → es ≡ part_of 0 es
kept [] all = refl
kept (e ∷ es) all =
    let both = and_both (e.incarnation == 0) (list_all (λ (e : Entry). e.incarnation == 0) es) all in
    ap (λ (rest : List Entry). e ∷ rest) (kept es both.1)
    ∙ sym (cond-true (e.incarnation == 0) (e ∷ part_of 0 es) (part_of 0 es) both.0)

none : (es : List Entry) (i : ℕ) → AllAlone es → [] ≡ part_of (suc i) es
none [] i all = refl
none (e ∷ es) i all =
    let both = and_both (e.incarnation == 0) (list_all (λ (e : Entry). e.incarnation == 0) es) all in
    let first : e.incarnation ≡ 0 = eqb-true e.incarnation 0 both.0 in
    none es i both.1
    ∙ sym (cond-false (e.incarnation == suc i) (e ∷ part_of (suc i) es) (part_of (suc i) es)
    (ne_eqb e.incarnation (suc i) (λ at. omega (arith, at, first))))

pub all_alone : (journal : Bor (List Entry)) → AllAlone journal.now →
    (i : ℕ) → part_in (Alone journal) i ≡ part_of i journal.now
all_alone journal all zero = kept journal.now all
all_alone journal all (suc i) = none journal.now i all
