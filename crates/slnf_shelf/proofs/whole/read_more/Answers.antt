use Rattle.std.proofs.Common.{◌≡◌, ◌++◌, length, take, arith}
use Rattle.std.proofs.lemmas.Grind.{common_steps}
use Rattle.slnf_shelf.proofs.Fronts.{told-front-more}
use Rattle.slnf_shelf.proofs.whole.read_more.Goals as goal

pub returns-clause-front : goal.returns-clause-front
returns-clause-front g c =
    let added : c.extend_from_slice.new.self.items ≡ c.args.bytes.now.items
    ++ take c.in_ok-count.count c.read.new.into = grind (arith, common_steps) in
    let place : c.len.result ≡ length c.args.bytes.now.items = grind (arith, common_steps) in
    told-front-more (g.S.Shelf.holds c.args.shelf.now c.args.name.now) c.args.bytes.now.items c.read.new.into
    c.extend_from_slice.new.self.items c.len.result c.in_ok-count.count place added c.in_ok-count.ensures.bytes
