use Rattle.slnf_sum.proofs.Laws.{adjusted-push}
use Rattle.slnf_view.specs.Field.{word_at}
use Rattle.slnf_rewrite.specs.Rewritten.{address_changes}
use Rattle.slnf_rewrite.proofs.adjust_pair.Goals as goal

pub returns : goal.returns
returns c =
    let pair = c.args.pair in
    let frame = c.args.frame.now in
    let last = adjusted-push c.args.check (address_changes frame c.args.side.address pair.addr)
    (word_at frame c.args.side.port) pair.port in
    cc
