-- the captures of the lanes so far, and the words that were drawn for them
use Rattle.std.proofs.Common.{◌≡◌, ◌*◌, map}
use Rattle.std.specs.List.{range_with_len}
use Rattle.slnf_gen.specs.Words.{state_after}
use Rattle.slnf_gen.specs.Captures.{lane_capture}
use Rattle.slnf_gen.proofs.load.make_load.Given as goal

abbrev pub invariant-loop-lane : goal.invariant-loop-lane
invariant-loop-lane l = record {
  captures : map (λ capture. capture.items) l.captures.items ≡ map (lane_capture l.fn.number l.fn.packets)
      (range_with_len 0 l.lane);
  drawn : l.words ≡ state_after (l.lane * l.fn.packets) l.fn.number;
}
