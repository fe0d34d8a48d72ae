-- the verdicts so far, and those of the standings that are left, are all
use Rattle.std.proofs.Common.{◌≡◌, ◌++◌, drop, map}
use Rattle.slnf_verdicts.specs.declared.standings.Standing.{Standing}
use Rattle.slnf_verdicts.proofs.standings.verdicts_in.Given as goal

abbrev pub invariant-loop-standing : goal.invariant-loop-standing
invariant-loop-standing g l = l.verdicts.items ++ map (λ (standing : Standing _). standing.verdict)
    (drop l.standing-index l.standings) ≡ map (λ (standing : Standing _). standing.verdict) l.standings
