use Rattle.std.proofs.Common.{ap, ◌∙◌}
use Rattle.slnf_box.specs.Pairs.{taken_from}
use Rattle.slnf_box.proofs.Ends.{undone}
use Rattle.slnf_box.proofs.translator.keep.Goals as goal

pub returns-in-Err-clause-pairs_err : goal.returns-in-Err-clause-pairs_err
returns-in-Err-clause-pairs_err c =
    c.take.ensures ∙ ap (λ entries. taken_from entries c.args.proto c.args.inside) c.in_ok-put.ensures.entries
    ∙ undone c.args.pairs.now c.args.proto c.args.inside c.args.outside c.requires
