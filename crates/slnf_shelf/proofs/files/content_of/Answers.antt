use Rattle.std.proofs.Common.{◌∙◌, Some, ap, sym}
use Rattle.slnf_shelf.specs.declared.files.Stored.{Stored}
use Rattle.slnf_shelf.proofs.FileLists.{find_file-at, find_file-none}
use Rattle.slnf_shelf.proofs.files.content_of.Goals as goal

pub returns-in_err-place : goal.returns-in_err-place
returns-in_err-place c = rw c.from_residual.ensures
    (sym (find_file-none c.args.name.now c.args.name.now c.args.files.now (sym c.in_err-place.ensures)))

pub returns : goal.returns
returns c = ap Some (c.as_slice.ensures ∙ ap (λ (f : Stored). f.bytes) (sym c.index-files-place.is))
    ∙ sym (find_file-at _ _ _ _ (sym c.in_ok-place.ensures) c.index-files-place.is)
