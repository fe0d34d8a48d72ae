-- the verdicts are those of the standings
use Rattle.std.proofs.Common.{map, ap, ◌∙◌}
use Rattle.slnf_access.specs.Machines.{machine_of}
use Rattle.slnf_verdicts.specs.declared.standings.Standing.{Standing}
use Rattle.slnf_verdicts.specs.Standings.{begun_of, stood}
use Rattle.slnf_verdicts.proofs.Following.{verdicts_are}
use Rattle.slnf_verdicts.proofs.standings.verdicts_by.Goals as goal

pub returns : goal.returns
returns g c =
    c.in_ok-verdicts.ensures
    ∙ (ap (λ l. map (λ (s : Standing _). s.verdict) l) (c.as_slice.ensures.value ∙ c.in_ok-standings.ensures)
    ∙ verdicts_are (stood (machine_of (g.F.Function.behaviour c.args.function.now))
    (begun_of ((g.F.Function.behaviour c.args.function.now).begins c.args.incarnation) c.args.packets.now)
    c.args.entries.now) c.args.at c.args.count)
