-- one instance more
use Rattle.std.proofs.Common.{◌≡◌, ◌+◌, ◌++◌, ℕ, List, Some, None, get_or, slice_get, refl, sym, ap, ◌∙◌, arith}
use Rattle.std.specs.Prelude.{Vec}
use Rattle.std.specs.declared.alloc.Global.{Global}
use Rattle.std.proofs.lemmas.Option.{slice_get-get_or, same_Some}
use Rattle.slnf_base.specs.declared.packets.Verdict.{Verdict}
use Rattle.slnf_access.specs.declared.requests.Entry.{Entry}
use Rattle.slnf_plan.specs.declared.plan.Epoch.{Epoch}
use Rattle.slnf_plan.specs.declared.plan.InstancePlan.{InstancePlan}
use Rattle.slnf_run.specs.Jobs.{job_of}
use Rattle.slnf_flight.specs.Actors.{instance_actor}
use Rattle.slnf_flight.specs.PlanSetting.{setting_of}
use Rattle.slnf_verdicts.specs.Given.{verdicts_in}
use Rattle.slnf_verdicts.specs.Parts.{part_in}
use Rattle.slnf_verdicts.proofs.GivenNext.{instance_next, on_gives, off_gives, instances_end}
use Rattle.slnf_verdicts.proofs.PlanJobs.{begins_there}
use Rattle.slnf_verdicts.proofs.rows.add_epoch.Goals as goal
use Rattle.slnf_verdicts.proofs.rows.add_epoch.Goals.{then-instance-lane+in_ok-given+in_ok-extend_from_slice, else-instance-lane}

-- the instance that the code reads where there is none
abbrev any_instance : InstancePlan
any_instance = record { lane = 0; quota = None; stop = None }

pub replay_instance-requires-clause-begins : goal.replay_instance-requires-clause-begins
replay_instance-requires-clause-begins c item =
    let epoch = c.index-as_slice-number.result in
    let epochs = c.args.plan.now.epochs in
    let there : slice_get epochs c.args.number ≡ Some epoch =
    slice_get-get_or epochs c.args.number epoch (omega arith)
    ∙ ap (λ e. Some e) (sym (c.index-as_slice-number.is ∙ ap (λ l. get_or l c.args.number epoch)
    c.as_slice.ensures)) in
    let own : slice_get epoch.instances c.loop-k.k ≡ Some
    (get_or c.as_slice-instances.result.now c.loop-k.k any_instance) =
    ap (λ l. slice_get l c.loop-k.k) (sym (c.as_slice-instances.ensures
    ∙ ap (λ (e : Epoch). e.instances) (sym c.index-as_slice-number.is)))
    ∙ slice_get-get_or c.as_slice-instances.result.now c.loop-k.k any_instance (omega arith) in
    begins_there c.args.plan.now c.args.lanes.now c.args.number c.args.base c.loop-k.k item epoch _ c.requires.base
    there own

pub loop-k-preserved : goal.loop-k-preserved
loop-k-preserved c =
    let s = setting_of c.args.plan.now c.args.lanes.now in
    let parts : ℕ → List Entry = λ i. part_in c.args.parts.now i in
    let instances = c.as_slice-instances.result.now in
    let instance : InstancePlan = get_or instances c.loop-k.k any_instance in
    let at = c.len-at.result in
    let base = c.args.base in
    elim c.if-instance-lane.branch [
      | then-instance-lane+in_ok-given+in_ok-extend_from_slice w ↦
          instance_next s parts c.args.lane at base c.loop-k.k instances instance any_instance c.loop-k.row.items
          c.if-instance-lane.row.items _ (omega arith) refl
          (ap (λ (v : Vec Verdict Global). v.items) w.row-is
          ∙ (w.in_ok-extend_from_slice.ensures.items
          ∙ ap (λ l. c.loop-k.row.items ++ l) (w.as_slice-then-instance-lane.ensures.value
          ∙ (w.in_ok-given.ensures
          ∙ (ap (verdicts_in (job_of s (base + c.loop-k.k) at (instance_actor instance))) w.part_at-part.ensures
          ∙ on_gives s parts c.args.lane at (base + c.loop-k.k) instance w.if-instance-lane.true)))))
          c.loop-k.invariant
      | else-instance-lane w ↦
          instance_next s parts c.args.lane at base c.loop-k.k instances instance any_instance c.loop-k.row.items
          c.if-instance-lane.row.items _ (omega arith) refl
          (ap (λ (v : Vec Verdict Global). v.items) w.row-is
          ∙ off_gives s parts c.args.lane at (base + c.loop-k.k) instance c.loop-k.row.items w.if-instance-lane.false)
          c.loop-k.invariant
    ]

pub returns : goal.returns
returns c epoch there =
    let epochs = c.args.plan.now.epochs in
    let read = c.index-as_slice-number.result in
    let here : read ≡ epoch =
    same_Some read epoch (ap (λ e. Some e) (c.index-as_slice-number.is
    ∙ ap (λ l. get_or l c.args.number read) c.as_slice.ensures)
    ∙ (sym (slice_get-get_or epochs c.args.number read (omega arith)) ∙ there)) in
    instances_end (setting_of c.args.plan.now c.args.lanes.now) (λ i. part_in c.args.parts.now i) c.args.lane
    c.len-at.result c.args.base c.loop-k.k epoch c.as_slice-instances.result.now c.loop-k.row.items
    c.args.row.now.items
    (c.as_slice-instances.ensures ∙ (ap (λ (e : Epoch). e.instances) (sym c.index-as_slice-number.is)
    ∙ ap (λ (e : Epoch). e.instances) here)) (omega (arith, c.len-at.ensures)) (omega arith) c.loop-k.invariant
