-- one item more is asked
use Rattle.std.proofs.Common.{◌+◌, ◌++◌, ◌∷◌, [], length, take, arith, ap, ◌∙◌}
use Rattle.std.proofs.lemmas.List.{length-take-le}
use Rattle.slnf_instance.specs.Works.{asks_of}
use Rattle.slnf_instance.proofs.Opening.{asks_more, asks_few}
use Rattle.slnf_instance.proofs.rounds.ask_all.Goals as goal

pub add_ask-requires : goal.add_ask-requires
add_ask-requires g c =
    let inv = c.loop-done.invariant in
    let few = asks_few (g.T.Items.work c.args.items.now).machine.asks c.args.from
    (take c.loop-done.done c.args.flights.now) in
    let front = length-take-le c.loop-done.done c.args.flights.now inv.upto in
    let count = ap length inv.asks in
    let len = c.loop-done.asks.ok.0 in
    omega (arith, few, front, count, len, inv.room, c.requires.room, c.loop-done-test.true)

pub loop-done-preserved : goal.loop-done-preserved
loop-done-preserved g c =
    let inv = c.loop-done.invariant in
    record {
      upto = omega (arith, c.loop-done-test.true);
      asks = asks_more (g.T.Items.work c.args.items.now).machine.asks c.args.from c.args.flights.now c.loop-done.done
          c.index-flights-done.result c.loop-done.asks.items c.add_ask.new.asks.items
          (omega (arith, c.loop-done-test.true)) inv.asks
          (c.add_ask.ensures.asks ∙ ap (λ f. c.loop-done.asks.items
          ++ asks_of (g.T.Items.work c.args.items.now).machine.asks (c.args.from + c.loop-done.done) (f ∷ []))
          c.index-flights-done.is);
      room = omega (arith, inv.room, c.add_ask.ensures.room);
    }
