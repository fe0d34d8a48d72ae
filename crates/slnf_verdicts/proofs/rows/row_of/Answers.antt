-- one epoch more
use Rattle.std.proofs.Common.{◌≡◌, ◌+◌, ◌<◌, ℕ, List, Some, get_or, length, slice_get, sym, ap, ◌∙◌, arith}
use Rattle.std.proofs.lemmas.Option.{slice_get-get_or}
use Rattle.slnf_access.specs.declared.requests.Entry.{Entry}
use Rattle.slnf_run.specs.Setting.{base_of}
use Rattle.slnf_flight.specs.declared.lanes.Taken.{Taken}
use Rattle.slnf_flight.specs.Actors.{era_of_epoch, eras_of}
use Rattle.slnf_flight.specs.PlanSetting.{setting_of}
use Rattle.slnf_verdicts.specs.Given.{given_from, filled}
use Rattle.slnf_verdicts.specs.Parts.{part_in}
use Rattle.slnf_verdicts.proofs.GivenNext.{base_next, epoch_next, epochs_end}
use Rattle.slnf_verdicts.proofs.rows.row_of.Goals as goal

pub loop-number-preserved : goal.loop-number-preserved
loop-number-preserved c =
    let epoch = c.index-as_slice-number.result in
    let epochs = c.args.plan.now.epochs in
    let number = c.loop-number.number in
    let l : number < length epochs = omega arith in
    let here : epoch ≡ get_or epochs number epoch =
    c.index-as_slice-number.is ∙ ap (λ l. get_or l number epoch) c.as_slice.ensures in
    let there : slice_get epochs number ≡ Some epoch = slice_get-get_or epochs number epoch l
    ∙ ap (λ e. Some e) (sym here) in
    let step : base_of (eras_of epochs) (number + 1) ≡ base_of (eras_of epochs) number + length
    (era_of_epoch epoch).actors =
    base_next epochs number epoch epoch l here in
    let from : c.loop-number.base ≡ base_of (eras_of epochs) number = c.loop-number.invariant.base in
    let count : c.actor_count-base.result ≡ length (era_of_epoch epoch).actors = c.actor_count-base.ensures.count in
    record {
      base = omega (arith, step, from, count);
      few = omega (arith, c.loop-number.invariant.few, c.actor_count-base.ensures.few);
      given = epoch_next (setting_of c.args.plan.now c.args.lanes.now) (λ i. part_in c.args.parts.now i)
          c.args.lane number c.loop-number.base _ epochs epoch epoch c.loop-number.given.items
          c.add_epoch.new.row.items _
          l here (c.in_ok-add_epoch.ensures epoch there) (ap (λ n. c.loop-number.base + n) count)
          c.loop-number.invariant.given;
    }

pub returns : goal.returns
returns c =
    let parts : ℕ → List Entry = λ i. part_in c.args.parts.now i in
    let total = given_from (setting_of c.args.plan.now c.args.lanes.now) parts c.args.lane 0 0
    (eras_of c.args.plan.now.epochs) in
    c.from_vec.ensures
    ∙ (c.in_ok-row.ensures
    ∙ (ap (λ l. filled l (length c.packets_on.result.now)) (c.as_slice-2.ensures.value
    ∙ epochs_end (setting_of c.args.plan.now c.args.lanes.now) parts c.args.lane c.loop-number.number
    c.loop-number.base
    c.args.plan.now.epochs c.loop-number.given.items total (omega arith) c.loop-number.invariant.given)
    ∙ ap (λ (l : List Taken). filled total (length l)) c.packets_on.ensures))
