use Rattle.std.proofs.Common.{ℕ, List, [], ◌∷◌, map}
use Rattle.std.specs.Prelude.{string_bytes}
use Rattle.std.proofs.lemmas.Result.{err_from_is_err_and}
use Rattle.slnf_top.specs.declared.products.Product.TheVariants.{Verdicts}
use Rattle.slnf_top.specs.Names.{capture_names, verdicts_name}
use Rattle.slnf_top.specs.Readings.{Input, ProductFile, journal_file, outputs_in}
use Rattle.slnf_top.proofs.Behind.{both_passed, stopped_front, stopped_back}
use Rattle.slnf_top.proofs.RunFiles.{files_told, passed_same}
use Rattle.slnf_top.proofs.products.read_products.Goals as goal

-- what is read behind the journal
abbrev verdicts_file : List ℕ → Input
verdicts_file out = ProductFile Verdicts (verdicts_name out)

abbrev outputs_by : List ℕ → List (List ℕ) → List Input
outputs_by out captures = outputs_in (capture_names out 0 captures)

abbrev behind_journal : List ℕ → List (List ℕ) → List Input
behind_journal out captures = verdicts_file out ∷ outputs_by out captures

pub returns-in_err-journal-clause-refused : goal.returns-in_err-journal-clause-refused
returns-in_err-journal-clause-refused g c =
    let out = c.args.out.now in
    let p = err_from_is_err_and c.from_residual.result c.from_residual.ensures.1 in
    rw (p.1, p.2) (stopped_front (journal_file out ∷ []) (behind_journal out (map string_bytes c.args.captures.now))
    _ _ _ _ c.in_err-journal.field-0.0 c.in_err-journal.ensures.refused)

pub returns-in_err-verdicts-clause-refused : goal.returns-in_err-verdicts-clause-refused
returns-in_err-verdicts-clause-refused g c =
    let out = c.args.out.now in
    let captures = map string_bytes c.args.captures.now in
    let p = err_from_is_err_and c.from_residual-in_err-verdicts.result c.from_residual-in_err-verdicts.ensures.1 in
    rw (p.1, p.2) (stopped_back (journal_file out ∷ []) (behind_journal out captures) _ _ _ _ _ _
    c.in_err-verdicts.field-0.0 c.in_ok-journal.ensures.read
    (stopped_front (verdicts_file out ∷ []) (outputs_by out captures) _ _ _ _ c.in_err-verdicts.field-0.0
    c.in_err-verdicts.ensures.refused))

pub returns-in_err-outputs-clause-refused : goal.returns-in_err-outputs-clause-refused
returns-in_err-outputs-clause-refused g c =
    let out = c.args.out.now in
    let captures = map string_bytes c.args.captures.now in
    let p = err_from_is_err_and c.from_residual-in_err-outputs.result c.from_residual-in_err-outputs.ensures.1 in
    rw (p.1, p.2) (stopped_back (journal_file out ∷ []) (behind_journal out captures) _ _ _ _ _ _
    c.in_err-outputs.field-0.0 c.in_ok-journal.ensures.read
    (stopped_back (verdicts_file out ∷ []) (outputs_by out captures) _ _ _ _ _ _ c.in_err-outputs.field-0.0
    c.in_ok-verdicts.ensures.read c.in_err-outputs.ensures.refused))

pub returns-clause-read : goal.returns-clause-read
returns-clause-read g c =
    let out = c.args.out.now in
    let captures = map string_bytes c.args.captures.now in
    both_passed (journal_file out ∷ []) (behind_journal out captures) _ _ _ _ _ _ c.in_ok-journal.ensures.read
    (both_passed (verdicts_file out ∷ []) (outputs_by out captures) _ _ _ _ _ _ c.in_ok-verdicts.ensures.read
    c.in_ok-outputs.ensures.read)

pub returns-clause-told : goal.returns-clause-told
returns-clause-told g c =
    let out = c.args.out.now in
    files_told out (map string_bytes c.args.captures.now) _ _ _
    (record { journal = c.in_ok-journal.journal; verdicts = c.in_ok-verdicts.verdicts; outputs = c.in_ok-outputs.outputs })
    (passed_same (journal_file out ∷ []) _ _ _ _ c.in_ok-journal.ensures.read)
    (passed_same (verdicts_file out ∷ []) _ _ _ _ c.in_ok-verdicts.ensures.read)
    c.in_ok-journal.ensures.told c.in_ok-verdicts.ensures.told c.in_ok-outputs.ensures.told
