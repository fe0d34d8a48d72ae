-- one entry more
use Rattle.std.proofs.Common.{◌≡◌, ◌+◌, Some, None, length, get_or, slice_get, sym, ap, ◌∙◌, subst, arith}
use Rattle.std.proofs.lemmas.Option.{slice_get-get_or}
use Rattle.slnf_run.specs.Boxes.{Box, content_after}
use Rattle.slnf_flight.specs.Flights.{Arrival}
use Rattle.slnf_flight.specs.PlanSetting.{setting_of}
use Rattle.slnf_journal.specs.declared.box_lines.BoxLine.{BoxLine}
use Rattle.slnf_replay.specs.Boxes.{arrival_of}
use Rattle.slnf_replay.specs.Packets.{sighting_of, choice_at}
use Rattle.slnf_replay.specs.Seats.{seats_from}
use Rattle.slnf_replay.proofs.Answered.{mark_at, plan_unmarked_content, plan_unmarked_next, plan_marked_seen, plan_marked_content, plan_marked_next, answers_all}
use Rattle.slnf_replay.proofs.AtEntries.{any_entry}
use Rattle.slnf_replay.proofs.Marks.{marks_count}
use Rattle.slnf_replay.proofs.OneEntry.{epoch_within, incarnation_small, item_small}
use Rattle.slnf_replay.proofs.Sightings.{IsSighting, is_sighting}
use Rattle.slnf_replay.proofs.answers.answer_all.Goals as goal

pub bounds-places-number : goal.bounds-places-number
bounds-places-number g c =
    let count : length c.args.places.now ≡ length c.args.journal.now =
    marks_count (setting_of c.args.plan.now c.args.lanes.now).scene c.args.journal.now (length c.args.journal.now)
    c.args.places.now c.requires.places in
    omega (arith, count, c.loop-number-test.true)

pub loop-number-preserved-then-not-places-number :
    goal.loop-number-preserved-then-not-places-number
loop-number-preserved-then-not-places-number g c =
    let box = g.B.OrdinaryBox.definition c.args.ordinary in
    let there = slice_get-get_or c.args.journal.now c.loop-number.number any_entry c.loop-number-test.true in
    let unmarked = sym (mark_at (setting_of c.args.plan.now c.args.lanes.now).scene c.args.journal.now
    c.args.places.now c.loop-number.number _ c.loop-number-test.true c.requires.places)
    ∙ c.if-not-places-number.true in
    record {
      same = c.loop-number.invariant.same;
      keeps = subst (g.B.OrdinaryBox.Keeps c.loop-number.ordinary)
          (sym (plan_unmarked_content c.args.plan.now c.args.lanes.now box c.args.journal.now c.requires.run
          c.loop-number.number _ there unmarked)) c.loop-number.invariant.keeps;
      answers = plan_unmarked_next c.args.plan.now c.args.lanes.now box c.args.journal.now c.requires.run
          c.loop-number.number _ there unmarked c.loop-number.answers.items c.loop-number.invariant.answers;
    }

pub loop-number-preserved-in_default : goal.loop-number-preserved-in_default
loop-number-preserved-in_default g c =
    let box = g.B.OrdinaryBox.definition c.args.ordinary in
    let there = slice_get-get_or c.args.journal.now c.loop-number.number any_entry c.loop-number-test.true in
    let marked = sym (mark_at (setting_of c.args.plan.now c.args.lanes.now).scene c.args.journal.now
    c.args.places.now c.loop-number.number _ c.loop-number-test.true c.requires.places)
    ∙ c.if-not-places-number.false in
    let e = get_or c.args.journal.now c.loop-number.number any_entry in
    let unseen : sighting_of c.args.lanes.now c.args.seats.now e ≡ None = sym c.sighting_of.ensures ∙ c.in_default.is in
    absurd (plan_marked_seen c.args.plan.now c.args.lanes.now box c.args.journal.now c.requires.run
    c.loop-number.number e there marked
    (ap (λ seats. sighting_of c.args.lanes.now seats e) (sym c.requires.seats) ∙ unseen))

pub function_of-function-requires : goal.function_of-function-requires
function_of-function-requires g c =
    epoch_within c.args.plan.now c.args.lanes.now c.args.journal.now c.requires.run c.loop-number.number _
    (slice_get-get_or c.args.journal.now c.loop-number.number any_entry c.loop-number-test.true) c.args.seats.now
    c.requires.seats c.in-Some.sighting (sym c.sighting_of.ensures ∙ c.in-Some.is) c.args.functions.now
    c.requires.functions

pub answer_at-requires-clause-incarnation : goal.answer_at-requires-clause-incarnation
answer_at-requires-clause-incarnation g c =
    incarnation_small c.args.plan.now c.args.lanes.now c.args.journal.now c.requires.run c.loop-number.number _
    (slice_get-get_or c.args.journal.now c.loop-number.number any_entry c.loop-number-test.true) c.args.seats.now
    c.requires.seats c.in-Some.sighting (sym c.sighting_of.ensures ∙ c.in-Some.is)

pub answer_at-requires-clause-item : goal.answer_at-requires-clause-item
answer_at-requires-clause-item g c =
    item_small c.args.plan.now c.args.lanes.now c.args.journal.now c.requires.run c.loop-number.number _
    (slice_get-get_or c.args.journal.now c.loop-number.number any_entry c.loop-number-test.true) c.args.seats.now
    c.requires.seats c.in-Some.sighting (sym c.sighting_of.ensures ∙ c.in-Some.is) c.requires.few

pub loop-number-preserved : goal.loop-number-preserved
loop-number-preserved g c =
    let box = g.B.OrdinaryBox.definition c.args.ordinary in
    let f = c.args.plan.now.function in
    let x = c.in-Some.sighting in
    let epoch = slice_get c.args.plan.now.epochs x.epoch in
    let e = get_or c.args.journal.now c.loop-number.number any_entry in
    let there = slice_get-get_or c.args.journal.now c.loop-number.number any_entry c.loop-number-test.true in
    let marked = sym (mark_at (setting_of c.args.plan.now c.args.lanes.now).scene c.args.journal.now
    c.args.places.now c.loop-number.number _ c.loop-number-test.true c.requires.places)
    ∙ c.if-not-places-number.false in
    let seen : sighting_of c.args.lanes.now c.args.seats.now e ≡ Some x = sym c.sighting_of.ensures ∙ c.in-Some.is in
    let right : IsSighting c.args.lanes.now (seats_from 0 c.args.plan.now.epochs) e x =
    is_sighting c.args.lanes.now (seats_from 0 c.args.plan.now.epochs) e x
    (ap (λ seats. sighting_of c.args.lanes.now seats e) (sym c.requires.seats) ∙ seen) in
    let of = c.requires.functions.each x.epoch c.function_of-function.result.now c.function_of-function.ensures in
    let content = content_after (setting_of c.args.plan.now c.args.lanes.now).scene box c.args.journal.now
    c.loop-number.number in
    let arrives = arrival_of x.packet (choice_at f epoch x.packet e) in
    record {
      same = c.answer_at.ensures.same ∙ c.loop-number.invariant.same;
      keeps = subst (g.B.OrdinaryBox.Keeps c.answer_at.new.ordinary)
          (sym (plan_marked_content c.args.plan.now c.args.lanes.now box c.args.journal.now c.requires.run
          c.loop-number.number e there marked x right))
          (subst (λ (b : Box Arrival g.B.OrdinaryBox.Content). g.B.OrdinaryBox.Keeps c.answer_at.new.ordinary
          (b.next content arrives)) c.loop-number.invariant.same
          (c.in_ok-answer.ensures.next f epoch content of c.loop-number.invariant.keeps));
      answers = plan_marked_next c.args.plan.now c.args.lanes.now box c.args.journal.now c.requires.run
          c.loop-number.number e there marked x right c.loop-number.answers.items c.push.new.self.items
          c.in_ok-answer.answer
          (c.in_ok-answer.ensures.answer f epoch content of c.loop-number.invariant.keeps
          ∙ ap (λ (b : Box Arrival g.B.OrdinaryBox.Content). let line : BoxLine = record {
            place = c.loop-number.number + 1;
            lane = x.lane;
            number = e.item;
            verdict = b.verdict content arrives;
          } in line) c.loop-number.invariant.same)
          c.in_ok-push.ensures.items c.loop-number.invariant.answers;
    }

pub returns : goal.returns
returns g c =
    answers_all (setting_of c.args.plan.now c.args.lanes.now) (g.B.OrdinaryBox.definition c.args.ordinary)
    c.args.journal.now c.loop-number.number c.loop-number.answers.items c.loop-number-test.false
    c.loop-number.invariant.answers
