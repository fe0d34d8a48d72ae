-- the packets so far, and those that are left of the batches, are all
use Rattle.std.proofs.Common.{◌≡◌, ◌+◌, ◌-◌, ◌≤◌, []}
use Rattle.std.specs.List.{range_with_len}
use Rattle.slnf_access.specs.Machines.{machine_of}
use Rattle.slnf_run.specs.Jobs.{first_in}
use Rattle.slnf_verdicts.specs.Batches.{job_over, batch_end}
use Rattle.slnf_verdicts.specs.Standings.{begun_of}
use Rattle.slnf_verdicts.proofs.batches.batch_end.Given as goal

abbrev pub invariant-loop-place : goal.invariant-loop-place
invariant-loop-place g l =
    let first = first_in (job_over (machine_of (g.F.Function.behaviour l.function))
    (begun_of ((g.F.Function.behaviour l.function).begins l.incarnation) l.packets) l.task) in
    record {
      size : l.size ≤ l.place;
      counted : l.place + batch_end l.task.batch first l.last l.size l.keys.items
          (range_with_len (l.task.at + l.place) (l.task.count - l.place))
          ≡ batch_end l.task.batch first l.last 0 [] (range_with_len l.task.at l.task.count);
    }
