-- the packets stand as after the entries so far
use Rattle.std.proofs.Common.{◌≡◌, take, map}
use Rattle.std.specs.List.{range_with_len}
use Rattle.slnf_access.specs.Machines.{machine_of}
use Rattle.slnf_verdicts.specs.Standings.{standing_at, begun_of, stood}
use Rattle.slnf_verdicts.proofs.standings.stand_all.Given as goal

abbrev pub invariant-loop-entry : goal.invariant-loop-entry
invariant-loop-entry g l =
    l.standings.items ≡ map (λ number. standing_at
    (stood (machine_of (g.F.Function.behaviour l.function))
    (begun_of ((g.F.Function.behaviour l.function).begins l.incarnation) l.packets) (take l.entry-index l.entries)
    number)) (range_with_len l.at l.count)
