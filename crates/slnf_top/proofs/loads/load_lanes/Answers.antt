use Rattle.std.proofs.Common.{ℕ, Global, Vec, arith}
use Rattle.slnf_top.proofs.Loading.{lanes_over}
use Rattle.slnf_top.proofs.loads.load_lanes.Goals as goal

pub returns : goal.returns
returns c =
    lanes_over (λ (capture : Vec ℕ Global). capture.items) c.args.captures.now c.loop-capture.capture-index
    c.loop-capture.lanes.items c.from_vec.result (omega (arith, c.loop-capture-test.false)) c.from_vec.ensures
    c.loop-capture.invariant
