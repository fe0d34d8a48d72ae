-- the packets so far, and those that are left, are all
use Rattle.std.proofs.Common.{◌≡◌, ◌++◌, ◌+◌, ◌-◌, map}
use Rattle.std.specs.List.{range_with_len}
use Rattle.slnf_verdicts.specs.Standings.{standing_at, begun_of}
use Rattle.slnf_verdicts.proofs.standings.begin_all.Given as goal

abbrev pub invariant-loop-place : goal.invariant-loop-place
invariant-loop-place g l =
    l.standings.items ++ map (λ number. standing_at
    (begun_of ((g.F.Function.behaviour l.function).begins l.incarnation) l.packets number))
    (range_with_len (l.at + l.place) (l.count - l.place))
    ≡ map (λ number. standing_at (begun_of ((g.F.Function.behaviour l.function).begins l.incarnation) l.packets
    number)) (range_with_len l.at l.count)
