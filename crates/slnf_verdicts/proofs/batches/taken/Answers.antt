-- by whether and where it was stopped
use Rattle.std.proofs.Common.{sym, ◌∙◌, arith}
use Rattle.slnf_access.specs.Machines.{machine_of}
use Rattle.slnf_verdicts.specs.Batches.{job_over}
use Rattle.slnf_verdicts.specs.Standings.{begun_of}
use Rattle.slnf_verdicts.proofs.TakenCounts.{taken_all, taken_upto}
use Rattle.slnf_verdicts.proofs.batches.taken.Goals as goal

pub returns-then-not-is_stopped : goal.returns-then-not-is_stopped
returns-then-not-is_stopped g c =
    taken_all (job_over (machine_of (g.F.Function.behaviour c.args.function.now))
    (begun_of ((g.F.Function.behaviour c.args.function.now).begins c.args.incarnation) c.args.packets.now)
    c.args.task.now)
    c.args.part.now (sym c.is_stopped.ensures ∙ c.if-not-is_stopped.true)

pub returns : goal.returns
returns g c =
    c.in_ok-count.ensures
    ∙ taken_upto (job_over (machine_of (g.F.Function.behaviour c.args.function.now))
    (begun_of ((g.F.Function.behaviour c.args.function.now).begins c.args.incarnation) c.args.packets.now)
    c.args.task.now)
    c.args.part.now c.number_in-last.result _ c.requires.batch (sym c.is_stopped.ensures ∙ c.if-not-is_stopped.false)
    (grind (arith, c.if-is_empty.ensures)) c.number_in-last.ensures
