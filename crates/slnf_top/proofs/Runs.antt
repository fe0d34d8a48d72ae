-- A run has a verdict for each packet of each capture, and all that its outcome owes.
use Rattle.std.proofs.Common.{◌≡◌, ◌+◌, ◌<◌, ◌^◌, ℕ, List, [], ◌∷◌, length, map, refl, ap, sym, ◌∙◌, subst}
use Rattle.std.specs.Prelude.{Result, Ok, Err, IfOk}
use Rattle.std.specs.List.{range_with_len}
use Rattle.slnf_base.specs.declared.packets.Verdict.{Verdict}
use Rattle.slnf_access.specs.declared.requests.Entry.{Entry}
use Rattle.slnf_pcap.specs.declared.capture.Capture.{Capture}
use Rattle.slnf_plan.specs.declared.plan.Plan.{Plan}
use Rattle.slnf_run.specs.Setting.{Setting}
use Rattle.slnf_run.specs.Run.{IsRun}
use Rattle.slnf_run.specs.Verdicts.{verdict_of, verdicts_from, verdicts_of, left_in}
use Rattle.slnf_flight.specs.declared.lanes.Lane.{Lane}
use Rattle.slnf_flight.specs.declared.outcomes.Outcome.{Outcome}
use Rattle.slnf_flight.specs.Captures.{packets_of}
use Rattle.slnf_flight.specs.Lanes.{lane_sizes}
use Rattle.slnf_flight.specs.PlanSetting.{setting_of}
use Rattle.slnf_setting.specs.Bound.{IsBoundedFor}
use Rattle.slnf_setting.specs.OneBoxOfPlan.{IsOneBoxOfPlan}
use Rattle.slnf_setting.specs.Pairs.{KeepsPairs}
use Rattle.slnf_setting.specs.Replies.{NoneIll}
use Rattle.slnf_setting.specs.Runs.{RunsWell}
use Rattle.slnf_check.specs.declared.given.Given.{Given}
use Rattle.slnf_top.specs.declared.outputs.File.{File}
use Rattle.slnf_top.specs.Files.{Texts}
use Rattle.slnf_check.specs.Given.{AreRead, AreSized}
use Rattle.slnf_check.proofs.Sizes.{length_map, length_range, length_packets, sized_from}
use Rattle.slnf_top.specs.Written.{Order, IsInOrder, IsExplained, IsOutcome, IsRunOf}

-- there are as many packets of a capture
pub length_packets_of : (bytes : List ℕ) (capture : Capture) →
    length (packets_of bytes capture) ≡ length capture.packets
length_packets_of bytes capture = length_packets capture.link bytes capture.packets

module _ {F A : Type 0} (s : Setting F A) (j : List Entry) where
  length_verdicts : (lane count : ℕ) → length (map (verdict_of s j lane) (range_with_len 0 count)) ≡ count
  length_verdicts lane count = length_map (verdict_of s j lane) (range_with_len 0 count) ∙ length_range 0 count

  -- so many verdicts as packets
  sizes : (lane : ℕ) (counts : List ℕ) → map (λ (vs : List Verdict). length vs) (verdicts_from s j lane counts) ≡
      counts
  sizes lane [] = refl
  sizes lane (count ∷ counts) =
      ap (λ (n : ℕ). n ∷ map (λ (vs : List Verdict). length vs) (verdicts_from s j (lane + 1) counts))
      (length_verdicts lane count)
      ∙ ap (λ (ns : List ℕ). count ∷ ns) (sizes (lane + 1) counts)

-- each capture has a verdict for each packet
pub sized : (order : Order) (plan : Plan) (given : List Given) (lanes : List Lane) (outcome : Outcome) →
    AreRead given lanes → IsOutcome order plan lanes outcome → AreSized given outcome.verdicts
sized order plan given lanes outcome read is =
    subst (AreSized given) (sym is.verdicts) (sized_from (setting_of plan lanes) outcome.journal 0 given lanes read)

-- two facts of what a call answers
pub both_if_ok : {T E : Type 0} (P Q : T → Type 0) (r : Result T E) → IfOk r P → IfOk r Q → IfOk r (λ x. P x × Q x)
both_if_ok P Q (Ok x) p q = (p, q)
both_if_ok P Q (Err e) p q = tt

-- a run of the plan, with all that its outcome owes
pub outcome_if_ok : {E : Type 0} (order : Order) (plan : Plan) (lanes : List Lane) (r : Result Outcome E) →
    IfOk r (λ o. IsInOrder order plan lanes o.journal) →
    IfOk r (λ o. IsRun (setting_of plan lanes) o.journal) → IfOk r (λ o. IsOneBoxOfPlan plan lanes o.journal) →
    IfOk r (λ o. KeepsPairs plan.function o.journal) → IfOk r (λ o. NoneIll plan.function o.journal) →
    IfOk r (λ o. IsBoundedFor plan.function (setting_of plan lanes).scene.begins o.journal) →
    IfOk r (λ o. length o.journal < 2 ^ 41) → IfOk r (λ o. RunsWell plan.function (setting_of plan lanes) o.journal) →
    IfOk r (λ o. o.verdicts ≡ verdicts_of (setting_of plan lanes) o.journal) →
    IfOk r (λ o. o.left ≡ left_in o.verdicts) → IfOk r (IsOutcome order plan lanes)
outcome_if_ok order plan lanes (Ok o) in_order run one_box pairs none_ill bounded few well verdicts left = record {
  explained = record {
    in_order = in_order;
    is_run = record {
      run = run;
      one_box = one_box;
      pairs = pairs;
      none_ill = none_ill;
      bounded = bounded;
      few = few;
      well = well;
    };
    sized = sizes (setting_of plan lanes) o.journal 0 (lane_sizes lanes);
  };
  verdicts = verdicts;
  left = left;
}
outcome_if_ok order plan lanes (Err e) in_order run one_box pairs none_ill bounded few well verdicts left = tt

-- what an outcome owes is owed by one with the same fields
pub same_if_ok : {E : Type 0} (order : Order) (plan : Plan) (lanes : List Lane) (r : Result Outcome E) (o : Outcome) →
    IfOk r (λ p. p.journal ≡ o.journal) → IfOk r (λ p. p.verdicts ≡ o.verdicts) → IfOk r (λ p. p.left ≡ o.left) →
    IsOutcome order plan lanes o → IfOk r (IsOutcome order plan lanes)
same_if_ok order plan lanes (Ok p) o journal verdicts left h = record {
  explained = subst (IsExplained order plan lanes) (sym journal) h.explained;
  verdicts = verdicts ∙ (h.verdicts ∙ ap (verdicts_of (setting_of plan lanes)) (sym journal));
  left = left ∙ (h.left ∙ ap left_in (sym verdicts));
}
same_if_ok order plan lanes (Err e) o journal verdicts left h = tt

-- the files of an outcome are those of its run
pub is_run_of : (order : Order) (texts : Texts) (plan : Plan) (given : List Given) (lanes : List Lane) (outcome : Outcome)
    (files : List File) →
    IsOutcome order plan lanes outcome → files ≡ texts given outcome.verdicts outcome.journal →
    IsRunOf order texts plan given lanes (record { files = files; left = outcome.left })
is_run_of order texts plan given lanes outcome files is are = record {
  journal = outcome.journal;
  explained = is.explained;
  files = are ∙ ap (λ (vs : List (List Verdict)). texts given vs outcome.journal) is.verdicts;
  left = is.left ∙ ap left_in is.verdicts;
}
