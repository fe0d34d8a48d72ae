-- the flight goes on, or its verdict is kept
use Rattle.std.proofs.Common.{set, ap, ◌∙◌, sym}
use Rattle.std.proofs.lemmas.List.{set-set}
use Rattle.slnf_instance.specs.Items.{stand_of_standing}
use Rattle.slnf_instance.specs.declared.items.Standing.TheVariants.{Ended}
use Rattle.slnf_instance.specs.Works.{flight_at}
use Rattle.slnf_instance.specs.Hands.{given}
use Rattle.slnf_instance.proofs.Coding.{same_slot}
use Rattle.slnf_instance.proofs.answers.land.Goals as goal

pub returns-in-Flying-clause-flights : goal.returns-in-Flying-clause-flights
returns-in-Flying-clause-flights g c flight there =
    let items = c.args.flights.now.items in
    let goes = (g.T.Items.work c.args.items.now).machine.goes in
    let same = same_slot items c.args.place flight c.index_mut.result.now c.take.result c.unwrap-flight.result there
    c.index_mut.ensures.value c.take.ensures.value c.unwrap-flight.ensures in
    let gone = c.after.ensures ∙ ap (λ f. goes f c.args.reply) same in
    set-set items c.args.place _ _ ∙ ap (λ st. set items c.args.place (flight_at st))
    (sym (ap stand_of_standing c.in-Flying.is) ∙ gone)

pub returns-in-Flying-clause-verdicts : goal.returns-in-Flying-clause-verdicts
returns-in-Flying-clause-verdicts g c flight there =
    let items = c.args.flights.now.items in
    let goes = (g.T.Items.work c.args.items.now).machine.goes in
    let same = same_slot items c.args.place flight c.index_mut.result.now c.take.result c.unwrap-flight.result there
    c.index_mut.ensures.value c.take.ensures.value c.unwrap-flight.ensures in
    let gone = c.after.ensures ∙ ap (λ f. goes f c.args.reply) same in
    ap (λ st. given st c.args.number c.args.verdicts.now.items) (sym (ap stand_of_standing c.in-Flying.is) ∙ gone)

pub returns-in-Some-clause-flights : goal.returns-in-Some-clause-flights
returns-in-Some-clause-flights g c flight there =
    let items = c.args.flights.now.items in
    let goes = (g.T.Items.work c.args.items.now).machine.goes in
    let same = same_slot items c.args.place flight c.index_mut.result.now c.take.result c.unwrap-flight.result there
    c.index_mut.ensures.value c.take.ensures.value c.unwrap-flight.ensures in
    let gone = c.after.ensures ∙ ap (λ f. goes f c.args.reply) same in
    ap (set items c.args.place) c.take.ensures.after
    ∙ ap (λ st. set items c.args.place (flight_at st))
    (sym (ap stand_of_standing (c.in-Ended.is ∙ ap Ended c.in-Some.is)) ∙ gone)

pub returns-in-Some-clause-verdicts : goal.returns-in-Some-clause-verdicts
returns-in-Some-clause-verdicts g c flight there =
    let items = c.args.flights.now.items in
    let goes = (g.T.Items.work c.args.items.now).machine.goes in
    let same = same_slot items c.args.place flight c.index_mut.result.now c.take.result c.unwrap-flight.result there
    c.index_mut.ensures.value c.take.ensures.value c.unwrap-flight.ensures in
    let gone = c.after.ensures ∙ ap (λ f. goes f c.args.reply) same in
    ap (λ st. given st c.args.number c.args.verdicts.now.items)
    (sym (ap stand_of_standing (c.in-Ended.is ∙ ap Ended c.in-Some.is)) ∙ gone)

pub returns-in_default-clause-flights : goal.returns-in_default-clause-flights
returns-in_default-clause-flights g c flight there =
    let items = c.args.flights.now.items in
    let goes = (g.T.Items.work c.args.items.now).machine.goes in
    let same = same_slot items c.args.place flight c.index_mut.result.now c.take.result c.unwrap-flight.result there
    c.index_mut.ensures.value c.take.ensures.value c.unwrap-flight.ensures in
    let gone = c.after.ensures ∙ ap (λ f. goes f c.args.reply) same in
    ap (set items c.args.place) c.take.ensures.after
    ∙ ap (λ st. set items c.args.place (flight_at st))
    (sym (ap stand_of_standing (c.in-Ended.is ∙ ap Ended c.in_default.is)) ∙ gone)

pub returns-in_default-clause-verdicts : goal.returns-in_default-clause-verdicts
returns-in_default-clause-verdicts g c flight there =
    let items = c.args.flights.now.items in
    let goes = (g.T.Items.work c.args.items.now).machine.goes in
    let same = same_slot items c.args.place flight c.index_mut.result.now c.take.result c.unwrap-flight.result there
    c.index_mut.ensures.value c.take.ensures.value c.unwrap-flight.ensures in
    let gone = c.after.ensures ∙ ap (λ f. goes f c.args.reply) same in
    ap (λ st. given st c.args.number c.args.verdicts.now.items)
    (sym (ap stand_of_standing (c.in-Ended.is ∙ ap Ended c.in_default.is)) ∙ gone)
