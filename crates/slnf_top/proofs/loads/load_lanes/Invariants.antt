-- the lanes that were made, and those of the captures that are left, are all
use Rattle.std.proofs.Common.{ℕ, Global, Vec, drop, map}
use Rattle.slnf_top.proofs.Loading.{LanesSoFar}
use Rattle.slnf_top.proofs.loads.load_lanes.Given as goal

abbrev pub invariant-loop-capture : goal.invariant-loop-capture
invariant-loop-capture l =
    LanesSoFar (map (λ (capture : Vec ℕ Global). capture.items) l.captures)
    (map (λ (capture : Vec ℕ Global). capture.items) (drop l.capture-index l.captures)) l.lanes.items
