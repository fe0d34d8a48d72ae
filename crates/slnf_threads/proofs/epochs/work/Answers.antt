-- one turn more
use Rattle.std.proofs.Common.{◌≤◌, ◌+◌, length, sym, ap, ◌∙◌, subst}
use Rattle.slnf_store.specs.Passes.{own_entries}
use Rattle.slnf_instance.specs.declared.errands.Errand.{Errand}
use Rattle.slnf_threads.specs.Reports.{job_by}
use Rattle.slnf_threads.proofs.Turning.{same_kin}
use Rattle.slnf_threads.proofs.Working.{within_turn, clock_next, worked_next, stands_next, count_next, made_next, some_wanted}
use Rattle.slnf_threads.proofs.epochs.work.Goals as goal

pub turn-requires-clause-within : goal.turn-requires-clause-within
turn-requires-clause-within g c =
    let now = c.loop.invariant in
    let own = own_entries c.loop.pass in
    let job = job_by g.T.Items.work c.args.instance.now in
    within_turn g.T.Items.work c.args.instance.now c.loop.instance own c.loop.made c.front-count.result
    c.args.errand.now.stop now.stands (sym (ap (λ (r : Errand). r.stop) (now.errand ∙ c.requires.sent)))
    c.left_at-most.ensures.word now.made
    (some_wanted c.wanted.result _ c.is_none.result c.is_none.ensures c.if-is_none.false
    (c.wanted.ensures.wanted job own now.stands)) (subst (λ n. c.front-count.result ≤ n) c.left_at-most.ensures.left
    c.front-count.ensures.most)

pub returns-in_err-turn-clause-clock : goal.returns-in_err-turn-clause-clock
returns-in_err-turn-clause-clock g c =
    let turn = c.in_err-turn.ensures.gains in
    clock_next g.T.Items.work c.args.instance.now c.loop.instance c.turn.new.instance c.args.pass.now c.loop.pass
    c.turn.new.pass turn.0 c.loop.invariant.stands turn.1 c.loop.invariant.clock

pub returns-in_err-turn-clause-worked : goal.returns-in_err-turn-clause-worked
returns-in_err-turn-clause-worked g c =
    let turn = c.in_err-turn.ensures.gains in
    worked_next g.T.Items.work c.args.instance.now c.loop.instance c.turn.new.instance c.args.pass.now c.loop.pass
    c.turn.new.pass turn.0 c.loop.invariant.stands turn.1 c.loop.invariant.worked

pub loop-preserved : goal.loop-preserved
loop-preserved g c =
    let turn = c.in_ok-turn.ensures.gains in
    let first = c.args.instance.now in
    let i = c.loop.instance in
    let now = c.loop.invariant in
    let start = c.args.pass.now in
    let more = turn.0 in
    record {
      here = c.in_ok-turn.ensures.here;
      kin = same_kin start.known c.loop.pass.known c.turn.new.pass.known now.kin turn.1.kin;
      clock = clock_next g.T.Items.work first i c.turn.new.instance start c.loop.pass c.turn.new.pass more now.stands
          turn.1 now.clock;
      errand = turn.1.errand ∙ now.errand;
      worked = worked_next g.T.Items.work first i c.turn.new.instance start c.loop.pass c.turn.new.pass more now.stands
          turn.1 now.worked;
      stands = stands_next g.T.Items.work first i c.turn.new.instance start c.loop.pass c.turn.new.pass more now.stands
          turn.1;
      made = c.saturating_add-made.ensures
          ∙ made_next c.loop.made (length (own_entries c.loop.pass)) c.front-count.result
          (length (own_entries c.turn.new.pass)) now.made
          (count_next g.T.Items.work first i c.turn.new.instance start c.loop.pass c.turn.new.pass more now.stands
          turn.1 ∙ ap (λ n. length (own_entries c.loop.pass) + n) turn.2);
    }
