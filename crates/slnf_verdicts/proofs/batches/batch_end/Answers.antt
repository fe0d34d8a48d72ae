-- one packet more
use Rattle.std.proofs.Common.{◌≡◌, ◌+◌, ◌&&◌, not, nat_lt, ℕ, List, sym, ap, ◌∙◌, arith}
use Rattle.std.specs.Prelude.{Vec}
use Rattle.std.specs.declared.alloc.Global.{Global}
use Rattle.std.proofs.lemmas.Option.{slice_get-get_or}
use Rattle.slnf_access.specs.Machines.{machine_of}
use Rattle.slnf_run.specs.Jobs.{first_key_of, first_in, is_among}
use Rattle.slnf_flight.specs.Begins.{begins_with}
use Rattle.slnf_verdicts.specs.Batches.{job_over}
use Rattle.slnf_verdicts.specs.Standings.{begun_of}
use Rattle.slnf_verdicts.proofs.EndNext.{joined_next, cut_next, ended}
use Rattle.slnf_verdicts.proofs.batches.batch_end.Goals as goal
use Rattle.slnf_verdicts.proofs.batches.batch_end.Goals.{then-not-joins+else-last-number, else-not-joins}

pub returns-then-last-number : goal.returns-then-last-number
returns-then-last-number g c =
    let begins = (g.F.Function.behaviour c.args.function.now).begins c.args.incarnation in
    let machine = machine_of (g.F.Function.behaviour c.args.function.now) in
    let number = c.args.task.now.at + c.loop-place.place in
    ended c.args.task.now.batch (first_in (job_over machine (begun_of begins c.args.packets.now) c.args.task.now))
    c.args.last c.args.task.now.at c.args.task.now.count c.loop-place.place c.loop-place.size _
    c.loop-place.keys.items
    (omega arith) c.first_key-first.result
    (c.first_key-first.ensures ∙ ap (first_key_of machine) (c.begin-start.ensures
    ∙ ap (begins_with (begins number)) (sym (slice_get-get_or c.args.packets.now number _
    (omega (arith, c.requires.inside))))))
    c.loop-place.invariant.counted
    (ap (λ (l : List ℕ). nat_lt c.loop-place.size c.args.task.now.batch && not (is_among c.first_key-first.result l))
    (sym c.as_slice.ensures.value) ∙ (sym c.joins.ensures ∙ c.if-not-joins.true)) (omega arith)

pub loop-place-preserved : goal.loop-place-preserved
loop-place-preserved g c =
    let begins = (g.F.Function.behaviour c.args.function.now).begins c.args.incarnation in
    let machine = machine_of (g.F.Function.behaviour c.args.function.now) in
    let number = c.args.task.now.at + c.loop-place.place in
    let first = first_in (job_over machine (begun_of begins c.args.packets.now) c.args.task.now) in
    let key : c.first_key-first.result ≡ first number =
    c.first_key-first.ensures ∙ ap (first_key_of machine) (c.begin-start.ensures
    ∙ ap (begins_with (begins number)) (sym (slice_get-get_or c.args.packets.now number _
    (omega (arith, c.requires.inside))))) in
    elim c.if-not-joins.branch [
      | then-not-joins+else-last-number w ↦ record {
        size = omega (arith, w.size-is);
        counted = cut_next c.args.task.now.batch first c.args.last c.args.task.now.at c.args.task.now.count
            c.loop-place.place c.loop-place.size _ c.loop-place.keys.items (omega arith) c.first_key-first.result key
            c.loop-place.invariant.counted c.if-not-joins.size c.if-not-joins.keys.items c.add_key.new.keys.items
            (ap (λ (l : List ℕ). nat_lt c.loop-place.size c.args.task.now.batch && not
            (is_among c.first_key-first.result l))
            (sym c.as_slice.ensures.value) ∙ (sym c.joins.ensures ∙ w.if-not-joins.true))
            (omega (arith, w.if-last-number.false)) w.size-is
            (ap (λ (v : Vec ℕ Global). v.items) w.keys-is ∙ w.clear.ensures.items) c.in_ok-add_key.ensures;
      }
      | else-not-joins w ↦ record {
        size = omega (arith, w.size-is, c.loop-place.invariant.size);
        counted = joined_next c.args.task.now.batch first c.args.last c.args.task.now.at c.args.task.now.count
            c.loop-place.place c.loop-place.size _ c.loop-place.keys.items (omega arith) c.first_key-first.result key
            c.loop-place.invariant.counted c.if-not-joins.size c.if-not-joins.keys.items c.add_key.new.keys.items
            (ap (λ (l : List ℕ). nat_lt c.loop-place.size c.args.task.now.batch && not
            (is_among c.first_key-first.result l))
            (sym c.as_slice.ensures.value) ∙ (sym c.joins.ensures ∙ w.if-not-joins.false)) w.size-is
            (ap (λ (v : Vec ℕ Global). v.items) w.keys-is) c.in_ok-add_key.ensures;
      }
    ]
