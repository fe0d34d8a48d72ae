-- one hand more
use Rattle.std.proofs.Common.{◌≡◌, ◌+◌, ◌≤◌, ◌∙◌, ◌∷◌, [], List, Some, length, slice_get, sym, ap, subst, arith}
use Rattle.std.proofs.lemmas.Option.{slice_get-get_or}
use Rattle.slnf_run.specs.Jobs.{offers_in}
use Rattle.slnf_run.proofs.Lists.{EveryAt, every_at, every_at-append}
use Rattle.slnf_instance.specs.Errands.{job_in}
use Rattle.slnf_flight.specs.declared.flights.AnyFlight.{AnyFlight}
use Rattle.slnf_crew.specs.declared.items.ActorItems.{ActorItems}
use Rattle.slnf_crew.specs.Errands.{items_work, errand_of}
use Rattle.slnf_local.specs.Hands.{hand_first}
use Rattle.slnf_hand.specs.Hands.{Followed, IsHandOf}
use Rattle.slnf_follow.specs.Follows.{come_to, IsFirstOf}
use Rattle.slnf_follow.proofs.Hands.{first_of, place_within}
use Rattle.slnf_follow.proofs.actors.first_hands.Goals as goal

pub errand_for-errand-requires-clause-at : goal.errand_for-errand-requires-clause-at
errand_for-errand-requires-clause-at c =
    let number = c.loop-number.number in
    let at : slice_get c.args.items.now number ≡ Some c.index-items-number.result =
    slice_get-get_or c.args.items.now number c.index-items-number.result (omega arith)
    ∙ ap Some (sym c.index-items-number.is) in
    place_within (come_to c.args.places.now) c.count.result c.place_of-at.result
    (slice_get c.args.epoch.now.instances number) c.place_of-at.ensures.instance c.place_of-at.ensures.sweep
    (λ i there. subst (λ n. come_to c.args.places.now i.lane ≤ n) (sym c.count.ensures.is)
    (c.requires.fits number c.index-items-number.result i at there))

pub loop-number-preserved : goal.loop-number-preserved
loop-number-preserved c =
    let number = c.loop-number.number in
    let inv = c.loop-number.invariant in
    let item = c.index-items-number.result in
    let first = IsFirstOf c.args.plan.now c.args.epoch.now (come_to c.args.places.now) c.args.items.now in
    let at : slice_get c.args.items.now number ≡ Some item =
    slice_get-get_or c.args.items.now number item (omega arith) ∙ ap Some (sym c.index-items-number.is) in
    let place : number ≡ 0 + length c.loop-number.hands.items = omega (arith, inv.count) in
    record {
      count = omega (arith, c.in_ok-push.ensures.len, inv.count);
      each = subst (EveryAt first 0) (sym {A = List (Followed ActorItems AnyFlight)} c.in_ok-push.ensures.items)
          (every_at-append first 0 c.loop-number.hands.items (c.in_ok-make.field-0 ∷ []) inv.each (
            subst (λ n. first n c.in_ok-make.field-0) place
                (first_of c.args.plan.now c.args.epoch.now (come_to c.args.places.now) c.args.items.now number item
                c.in_ok-make.field-0 at
                (λ actor actor_at.
                subst (λ e. IsHandOf items_work (job_in (items_work item) e)
                (hand_first (items_work item).begins (offers_in (job_in (items_work item) e))) c.in_ok-make.field-0)
                (c.errand_for-errand.ensures.given (come_to c.args.places.now) actor actor_at
                (c.place_of-at.ensures.place actor actor_at)
                ∙ ap (errand_of c.args.plan.now (come_to c.args.places.now) actor) c.count.ensures.is)
                c.in_ok-make.ensures)),
            tt,
          ));
    }

pub returns : goal.returns
returns c =
    let inv = c.loop-number.invariant in
    let first = IsFirstOf c.args.plan.now c.args.epoch.now (come_to c.args.places.now) c.args.items.now in
    record {
      count = omega (arith, inv.count);
      each = λ k hand there.
          let q : 0 + k ≡ k = omega arith in
          subst (λ n. first n hand) q (every_at first 0 c.loop-number.hands.items k hand inv.each there);
    }
