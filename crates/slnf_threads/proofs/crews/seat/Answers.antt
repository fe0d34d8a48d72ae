-- one actor more sits at its desk
use Rattle.std.proofs.Common.{◌≡◌, ◌<◌, suc, ◌+◌, Some, length, slice_get, sym, ap, ◌∙◌, subst, arith}
use Rattle.std.proofs.lemmas.List.Elements.{All-push}
use Rattle.std.proofs.lemmas.Option.{slice_get-get_or}
use Rattle.slnf_turns.specs.declared.views.View.{View}
use Rattle.slnf_turns.specs.Views.{after_split}
use Rattle.slnf_flight.specs.declared.flights.AnyFlight.{AnyFlight}
use Rattle.slnf_crew.specs.declared.items.ActorItems.{ActorItems}
use Rattle.slnf_crew.specs.Errands.{items_work, errand_of}
use Rattle.slnf_instance.specs.Errands.{IsErrand}
use Rattle.slnf_threads.specs.declared.reports.Desk.{Desk}
use Rattle.slnf_ledger.specs.Ledger.{places_in, place_at}
use Rattle.slnf_threads.specs.Crews.{IsSent, IsNewPass}
use Rattle.slnf_threads.specs.Passing.{after_splits}
use Rattle.slnf_threads.specs.Reports.{IsReady}
use Rattle.slnf_threads.proofs.Pairs.{each_push}
use Rattle.slnf_threads.proofs.Seating.{splits_number, splits_before, HasErrand, is_sent, is_ready, is_new}
use Rattle.slnf_threads.proofs.crews.seat.Goals as goal

pub split-pass-requires-clause-root : goal.split-pass-requires-clause-root
split-pass-requires-clause-root c =
    ap (λ (v : View). v.number) c.loop-number.invariant.known
    ∙ (splits_number c.loop-number.number c.args.root.now.known ∙ c.requires.root)

pub split-pass-requires-clause-few : goal.split-pass-requires-clause-few
split-pass-requires-clause-few c =
    omega (
      arith,
      ap (λ (v : View). length v.before) c.loop-number.invariant.known,
      splits_before c.loop-number.number c.args.root.now.known,
      c.requires.few,
      c.loop-number-test.true,
    )

pub loop-number-preserved : goal.loop-number-preserved
loop-number-preserved c =
    let now = c.loop-number.invariant in
    let number = c.loop-number.number in
    let desks = c.loop-number.desks.items in
    let item : ActorItems = c.index-items-number.result in
    let desk : Desk ActorItems AnyFlight = record {
      instance = c.in_ok-instance.instance;
      errand = c.errand_for-errand.result;
      pass = c.split-pass.result;
    } in
    let within : number < length c.args.items.now = c.loop-number-test.true in
    let there : slice_get c.args.items.now number ≡ Some item =
    slice_get-get_or c.args.items.now number item within ∙ ap Some (sym c.index-items-number.is) in
    let has : HasErrand c.args.plan.now c.args.epoch.now (places_in c.args.ledger.now) number c.place_of-at.result
    (items_work item).count desk.errand = record {
      is = subst (λ n. IsErrand n c.errand_for-errand.result) c.count.ensures.is
          c.errand_for-errand.ensures.errand;
      given = λ places actor actor_at at. c.errand_for-errand.ensures.given places actor actor_at at
          ∙ ap (errand_of c.args.plan.now places actor) c.count.ensures.is;
      begins = c.place_of-at.ensures
          ∙ ap (λ l. place_at (places_in c.args.ledger.now) l number) c.as_slice.ensures;
    } in
    let split = c.split-pass.ensures in
    let items = c.in_ok-push.ensures.items in
    let last : 0 + length desks ≡ number = omega (arith, now.count) in
    record {
      count = omega (arith, c.in_ok-push.ensures.len, now.count);
      here = split.here.0;
      known = split.root
          ∙ (ap after_split now.known
          ∙ ap (λ n. after_splits n c.args.root.now.known) (let e : suc number ≡ number + 1 = omega arith in e));
      clock = split.clock.0 ∙ now.clock;
      ready = rw items (All-push (λ (d : Desk ActorItems AnyFlight).
          IsReady items_work c.args.store.now d.instance d.errand d.pass) desks desk now.ready
          (is_ready c.args.plan.now c.args.epoch.now (places_in c.args.ledger.now) c.args.items.now number c.place_of-at.result item
          desk.errand has there desk.instance c.in_ok-instance.ensures.errand c.in_ok-instance.ensures.stands
          c.args.store.now desk.pass c.loop-number.root.known split.here.1 split.pass
          (omega (arith, within, c.requires.actors)) c.requires.shards));
      sent = rw items (each_push (λ k (d : Desk ActorItems AnyFlight).
          IsSent c.args.plan.now c.args.epoch.now (places_in c.args.ledger.now) c.args.items.now k d.instance) 0 desks desk now.sent
          (subst (λ k. IsSent c.args.plan.now c.args.epoch.now (places_in c.args.ledger.now) c.args.items.now k desk.instance)
          (sym last)
          (is_sent c.args.plan.now c.args.epoch.now (places_in c.args.ledger.now) c.args.items.now number c.place_of-at.result item
          desk.errand has there desk.instance c.in_ok-instance.ensures.errand c.in_ok-instance.ensures.stands)));
      passes = rw items (each_push (λ k (d : Desk ActorItems AnyFlight).
          IsNewPass c.args.store.now c.args.root.now k d.pass) 0 desks desk now.passes
          (subst (λ k. IsNewPass c.args.store.now c.args.root.now k desk.pass) (sym last)
          (is_new c.args.store.now c.args.root.now desk.pass number c.loop-number.root.known c.loop-number.root.clock
          split.here.1 split.pass now.known split.clock.1 now.clock)));
    }
