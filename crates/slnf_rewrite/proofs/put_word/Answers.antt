use Rattle.slnf_rewrite.proofs.Words.{with_word-from_put}
use Rattle.slnf_rewrite.proofs.put_word.Goals as goal

pub returns : goal.returns
returns c =
    with_word-from_put c.args.frame.now c.args.place
    c.args.word c.write_u16.new.buf c.requires c.ranges.word.fits c.write_u16.ensures
