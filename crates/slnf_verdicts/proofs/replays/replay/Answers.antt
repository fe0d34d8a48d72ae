-- as many packets as were offered at most, and the entries that count
use Rattle.std.proofs.Common.{◌≡◌, ◌≤◌, ◌+◌, length, arith}
use Rattle.slnf_access.specs.Machines.{machine_of}
use Rattle.slnf_run.specs.Jobs.{taken_in}
use Rattle.slnf_verdicts.specs.Batches.{job_over}
use Rattle.slnf_verdicts.specs.Standings.{begun_of}
use Rattle.slnf_verdicts.proofs.Following.{followed_counted}
use Rattle.slnf_verdicts.proofs.TakenCounts.{taken_most}
use Rattle.slnf_verdicts.proofs.replays.replay.Goals as goal

pub verdicts_by-requires-clause-inside : goal.verdicts_by-requires-clause-inside
verdicts_by-requires-clause-inside g c some =
    let job = job_over (machine_of (g.F.Function.behaviour c.args.function.now))
    (begun_of ((g.F.Function.behaviour c.args.function.now).begins c.args.incarnation) c.args.packets.now)
    c.args.task.now in
    let count : c.in_ok-count.count ≡ length (taken_in job c.args.part.now) = c.in_ok-count.ensures in
    let most : length (taken_in job c.args.part.now) ≤ c.args.task.now.count = taken_most job c.args.part.now in
    let inside : c.args.task.now.at + c.args.task.now.count ≤ length c.args.packets.now =
    c.requires.inside (omega arith) in
    omega arith

pub verdicts_by-requires-clause-followed : goal.verdicts_by-requires-clause-followed
verdicts_by-requires-clause-followed g c =
    followed_counted (machine_of (g.F.Function.behaviour c.args.function.now))
    (begun_of ((g.F.Function.behaviour c.args.function.now).begins c.args.incarnation) c.args.packets.now)
    c.args.part.now c.counted-own.result.now _ c.counted-own.ensures c.requires.followed
