-- one actor more
use Rattle.std.proofs.Common.{◌≡◌, ◌∙◌, Some, [], slice_get, sym, ap, subst, arith}
use Rattle.std.proofs.lemmas.Option.{slice_get-get_or}
use Rattle.slnf_run.specs.Setting.{Actor}
use Rattle.slnf_flight.specs.Actors.{era_of_epoch}
use Rattle.slnf_instance.specs.Errands.{job_in}
use Rattle.slnf_instance.specs.Instances.{StandsBy}
use Rattle.slnf_crew.specs.Errands.{items_work, errand_of}
use Rattle.slnf_crew.proofs.Laws.{pushed}
use Rattle.slnf_orch.specs.Hiring.{IsHired}
use Rattle.slnf_ledger.specs.Ledger.{places_in, place_at}
use Rattle.slnf_ledger.proofs.Placing.{actor_place}
use Rattle.slnf_orch.proofs.crews.crew_of.Goals as goal

pub loop-number-preserved : goal.loop-number-preserved
loop-number-preserved c =
    let at : slice_get c.args.items.now c.loop-number.number ≡ Some c.index-items-number.result =
    slice_get-get_or c.args.items.now c.loop-number.number c.index-items-number.result (omega arith)
    ∙ ap Some (sym c.index-items-number.is) in
    record {
      count = omega (arith, c.in_ok-push.ensures.len, c.loop-number.invariant.count);
      hired = λ function lanes base items k i actor i_at actor_at.
          pushed (λ j x. (a : Actor) → slice_get (era_of_epoch c.args.epoch.now).actors j ≡ Some a →
          IsHired c.args.plan.now function lanes (places_in c.args.ledger.now) base j a x)
          c.loop-number.crew.items c.push.new.self.items c.in_ok-make.field-0 c.loop-number.number c.in_ok-push.ensures.items
          c.loop-number.invariant.count
          (λ j x x_at a a_at. c.loop-number.invariant.hired function lanes base items j x a x_at a_at)
          (λ a a_at. record {
            work = items_work c.index-items-number.result;
            works = items c.loop-number.number c.index-items-number.result a at a_at;
            stands = subst (λ e. StandsBy items_work (job_in (items_work c.index-items-number.result) e) []
                c.in_ok-make.field-0)
                (c.errand_for-errand.ensures.given (places_in c.args.ledger.now) a a_at
                (actor_place c.args.epoch.now (places_in c.args.ledger.now) c.loop-number.number a a_at
                ∙ (ap (λ l. place_at (places_in c.args.ledger.now) l c.loop-number.number) (sym c.as_slice.ensures)
                ∙ sym c.place_of-at.ensures))
                ∙ ap (errand_of c.args.plan.now (places_in c.args.ledger.now) a) c.count.ensures.is)
                c.in_ok-make.ensures.stands;
          })
          k i i_at actor actor_at;
    }
