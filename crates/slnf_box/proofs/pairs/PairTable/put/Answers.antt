use Rattle.std.proofs.Common.{ap, ◌∙◌}
use Rattle.slnf_box.specs.LbBox.{with_pin}
use Rattle.slnf_box.specs.Pairs.{pair_at}
use Rattle.slnf_box.proofs.Ends.{put_pairs}
use Rattle.slnf_box.proofs.pairs.PairTable.put.Goals as goal

pub returns-clause-ok : goal.returns-clause-ok
returns-clause-ok c =
    put_pairs c.self.inside.pairs.entries c.insert.new.self.entries c.end_of.result c.args.proto c.args.pair c.args.value
    c.end_of.ensures c.in_ok-insert.ensures.updates.0
    ∙ ap (λ entries. with_pin (pair_at entries) c.args.proto c.args.pair c.args.value) c.self.view_is
