-- a round is opened
use Rattle.std.proofs.Common.{length, arith, ap, ◌∙◌, sym, subst}
use Rattle.std.proofs.lemmas.List.Sorted.{length_permutation}
use Rattle.slnf_batch.specs.Order.{ItemsDiffer, Ascends}
use Rattle.slnf_instance.specs.Works.{asks_of}
use Rattle.slnf_instance.proofs.Opening.{asks_differ, asks_few}
use Rattle.slnf_instance.proofs.Coding.{written_all}
use Rattle.slnf_instance.proofs.rounds.open_round.Goals as goal

pub group-requires-clause-few : goal.group-requires-clause-few
group-requires-clause-few g c =
    let hand = c.args.hand.now in
    let few = asks_few (g.T.Items.work c.args.items.now).machine.asks hand.from hand.flights.items in
    let asks = ap length (c.as_mut_slice.ensures.value
    ∙ (c.ask_all.ensures.asks ∙ ap (asks_of (g.T.Items.work c.args.items.now).machine.asks hand.from)
    c.as_slice.ensures.value)) in
    let len = hand.flights.ok.0 in
    omega (arith, few, asks, len, c.requires.fits.few, c.requires.errand.most)

pub group-requires-clause-distinct : goal.group-requires-clause-distinct
group-requires-clause-distinct g c =
    subst ItemsDiffer (sym (c.as_mut_slice.ensures.value ∙ c.ask_all.ensures.asks))
    (asks_differ (g.T.Items.work c.args.items.now).machine.asks c.args.hand.now.from c.as_slice.result.now)

pub returns-clause-ascends : goal.returns-clause-ascends
returns-clause-ascends g c =
    let same = length_permutation c.as_mut_slice.result.now c.group.new.asks c.group.ensures.same in
    let value = ap length c.as_mut_slice.ensures.value in
    let len = c.ask_all.new.asks.ok.0 in
    subst (Ascends c.args.hand.now.errand.shards)
    (sym (written_all c.ask_all.new.asks.len c.ask_all.new.asks.items c.group.new.asks (omega (arith, same, value))
    (omega (arith, len)))) c.group.ensures.ascends
