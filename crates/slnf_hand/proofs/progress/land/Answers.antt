-- the flight goes on, or it has ended
use Rattle.std.proofs.Common.{set, ap, ◌∙◌, sym}
use Rattle.std.proofs.lemmas.List.{set-set}
use Rattle.slnf_instance.specs.Items.{stand_of_standing}
use Rattle.slnf_instance.specs.Works.{flight_at}
use Rattle.slnf_hand.proofs.Coding.{same_slot}
use Rattle.slnf_hand.proofs.progress.land.Goals as goal

pub returns-in-Flying-clause-flights : goal.returns-in-Flying-clause-flights
returns-in-Flying-clause-flights g c flight there =
    let items = c.args.flights.now.items in
    let goes = (g.T.Items.work c.args.items.now).machine.goes in
    let same = same_slot items c.args.place flight c.index_mut.result.now c.take.result c.unwrap-flight.result there
    c.index_mut.ensures.value c.take.ensures.value c.unwrap-flight.ensures in
    let gone = c.after.ensures ∙ ap (λ f. goes f c.args.reply) same in
    set-set items c.args.place _ _ ∙ ap (λ st. set items c.args.place (flight_at st))
    (sym (ap stand_of_standing c.in-Flying.is) ∙ gone)

pub returns-in_default-clause-flights : goal.returns-in_default-clause-flights
returns-in_default-clause-flights g c flight there =
    let items = c.args.flights.now.items in
    let goes = (g.T.Items.work c.args.items.now).machine.goes in
    let same = same_slot items c.args.place flight c.index_mut.result.now c.take.result c.unwrap-flight.result there
    c.index_mut.ensures.value c.take.ensures.value c.unwrap-flight.ensures in
    let gone = c.after.ensures ∙ ap (λ f. goes f c.args.reply) same in
    ap (set items c.args.place) c.take.ensures.after
    ∙ ap (λ st. set items c.args.place (flight_at st)) (sym (ap stand_of_standing c.in_default.is) ∙ gone)
