-- the epochs are followed one after another
use Rattle.std.proofs.Common.{ℕ, ◌∙◌, ◌≤◌, length, sym, ap, subst, arith}
use Rattle.std.proofs.lemmas.List.{length-map, length-replicate}
use Rattle.slnf_access.specs.Map.{empty}
use Rattle.slnf_flight.specs.PlanSetting.{setting_of}
use Rattle.slnf_flight.specs.Actors.{era_of_epoch}
use Rattle.slnf_local.specs.Tells.{Lapses}
use Rattle.slnf_local.proofs.Telling.{replies_can}
use Rattle.slnf_follow.specs.Follows.{come_to}
use Rattle.slnf_follow.proofs.Passing.{sets_out, ends, none_at}
use Rattle.slnf_follow.proofs.checks.first_lapse.Goals as goal

pub loop-number-init : goal.loop-number-init
loop-number-init c =
    let places = c.in_ok-vec.ensures.items_if_clones_equal (λ y same. same) in
    record {
      base = omega arith;
      at = record {
        upto = omega arith;
        lanes_are = ap length places ∙ length-replicate {A = ℕ} 32 0;
        followed = sets_out (setting_of c.args.plan.now c.args.lanes.now) _ (none_at 32 _ places);
      };
    }

pub follow_epoch-requires-clause-can : goal.follow_epoch-requires-clause-can
follow_epoch-requires-clause-can c = replies_can empty c.args.entries.now c.requires.legal

pub loop-number-preserved : goal.loop-number-preserved
loop-number-preserved c = record {
  base = c.in_ok-broken.ensures.base;
  at = c.in_ok-broken.ensures.next c.in_default.is;
}

pub returns : goal.returns
returns c =
    let plan = c.args.plan.now in
    let entries = c.args.entries.now in
    let course = c.loop-number.course in
    let at = c.loop-number.invariant.at in
    let past : length (setting_of plan c.args.lanes.now).eras ≤ c.loop-number.number =
    omega (arith, length-map plan.epochs era_of_epoch, c.len-number-end.ensures) in
    subst (Lapses (setting_of plan c.args.lanes.now) entries) (sym c.behind.ensures)
    (ends (setting_of plan c.args.lanes.now) entries c.loop-number.number course.base course.done
    (come_to course.places.items) at.followed past at.upto)
