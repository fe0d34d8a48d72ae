-- No reply is ill in a run of a plan.
use Rattle.std.proofs.Common.{◌≡◌, ℕ, ◌≤◌, Option, Some, None, List, ◌∷◌, ◌++◌, length, take, ap, sym, ◌∙◌, subst, arith, length-append}
use Rattle.std.specs.Prelude.{IsTrue}
use Rattle.std.specs.Option.{option_map}
use Rattle.std.proofs.Math.Seq.{take-append_seam}
use Rattle.std.proofs.lemmas.Option.{same_Some}
use Rattle.slnf_base.specs.declared.addresses.Pair.{Pair}
use Rattle.slnf_base.specs.declared.packets.Proto.{Proto}
use Rattle.slnf_access.specs.declared.requests.Entry.{Entry}
use Rattle.slnf_access.specs.declared.requests.Held.{Held}
use Rattle.slnf_access.specs.declared.requests.Value.{Value}
use Rattle.slnf_access.specs.declared.requests.Reply.TheVariants.{Found}
use Rattle.slnf_access.specs.Map.{key_of, reply_to, Cells, empty, map_after, IsLegal}
use Rattle.slnf_access.proofs.Laws.{legal-back}
use Rattle.slnf_keys.specs.declared.keys.ConnKey.{ConnKey}
use Rattle.slnf_keys.specs.declared.values.Pin.{Pin}
use Rattle.slnf_base.specs.Ranges.{IsPair}
use Rattle.slnf_keys.specs.Keys.{conn_key_number, IsConnKey, pin_key_number}
use Rattle.slnf_keys.specs.Values.{pin_of}
use Rattle.slnf_plan.specs.declared.plan.FunctionPlan.{FunctionPlan}
use Rattle.slnf_plan.specs.declared.plan.FunctionPlan.TheVariants.{Nat, Firewall, Balancer}
use Rattle.slnf_plan.specs.declared.plan.Epoch.{Epoch}
use Rattle.slnf_plan.specs.declared.plan.Plan.{Plan}
use Rattle.slnf_run.specs.Scene.{Scene}
use Rattle.slnf_run.specs.Boxes.{Box, content_after, IsExplained}
use Rattle.slnf_run.specs.Run.{IsRun}
use Rattle.slnf_run.specs.Tables.{number_in}
use Rattle.slnf_access.proofs.Versions.{found_there}
use Rattle.slnf_box.specs.FwBox.{Conns}
use Rattle.slnf_box.specs.LbBox.{Pins}
use Rattle.slnf_box.specs.Pools.{nat_of}
use Rattle.slnf_box.specs.declared.choices.Tracked.{Tracked}
use Rattle.slnf_fw.specs.Conns.{tracked_number, tracked_of, IsSameConns}
use Rattle.slnf_fw.proofs.Keys.{tracked_read}
use Rattle.slnf_lb.specs.StoredPins.{backend_in, IsSameMap}
use Rattle.slnf_flight.specs.declared.lanes.Lane.{Lane}
use Rattle.slnf_flight.specs.Actors.{eras_of}
use Rattle.slnf_setting.specs.Fits.{has_types}
use Rattle.slnf_flight.specs.FwPlan.{policy_with}
use Rattle.slnf_flight.specs.PlanSetting.{scene_of, sweep_items_of, setting_with, setting_of}
use Rattle.slnf_setting.specs.OneBoxOfPlan.{any_fw_box, any_lb_box}
use Rattle.slnf_setting.specs.Replies.{NoneIll}
use Rattle.slnf_setting.proofs.Fitting.{pairs_fit}
use Rattle.slnf_setting.proofs.NatWhole.{begins, nat_list}
use Rattle.slnf_setting.proofs.FwWhole.{fw_whole}
use Rattle.slnf_setting.proofs.LbWhole.{lb_whole}
use Rattle.slnf_setting.proofs.PlanFits.{PlanFits, plan_fits, plan_is_nat}
use Rattle.slnf_run.specs.Setting.{own_base}
use Rattle.slnf_nat.proofs.LiveFlows.{flows_well, claims_well}

-- what was found stood there
there : (es before later : List Entry) (e : Entry) (value : Value) (version : ℕ) → IsLegal es
    → es ≡ before ++ e ∷ later → e.reply ≡ Found value version
    → (held : Held) × (map_after empty before (key_of e.request) ≡ Some held) × (held.value ≡ value)
there es before later e value version legal split reply =
    let here : e.reply ≡ reply_to e.request e.stamp (map_after empty before (key_of e.request)) =
    (legal-back empty before (e ∷ later) (subst IsLegal split legal)).0 in
    let r = found_there e.request e.stamp (map_after empty before (key_of e.request)) value version
    (sym here ∙ reply) in
    (r.0, r.1, r.2)

-- what a box keeps before an entry is what the map does
same_before : {F A C : Type 0} (s : Scene F A) (box : Box A C) (Same : C → Cells → Type 0)
    (es before later : List Entry) (e : Entry) → IsExplained s box Same es → es ≡ before ++ e ∷ later
    → Same (content_after s box es (length before)) (map_after empty before)
same_before s box Same es before later e explained split =
    let size : length before ≤ length es = rw split (simp length-append (omega arith)) in
    let front : take (length before) es ≡ before = ap (take (length before)) split
    ∙ take-append_seam before (e ∷ later) in
    subst (λ l. Same (content_after s box es (length before)) (map_after empty l)) front
    (explained.maps (length before) size)

-- a connection's value that was found is one
conn_well : (conns : Conns) (cells : Cells) (conn : ConnKey) (held : Held) → IsSameConns conns cells → IsConnKey conn
    → cells (conn_key_number conn) ≡ Some held → tracked_of held.value.0 ≡ None → ⊥
conn_well conns cells conn held same fits at ill = go (conns conn) (same.at_key conn fits ∙ ap number_in at)
  where
    go : (o : Option Tracked) → option_map tracked_number o ≡ Some held.value.0 → ⊥
    go None h = cc
    go (Some tracked) h =
        let number : tracked_number tracked ≡ held.value.0 = same_Some (tracked_number tracked) held.value.0 h in
        let no : Some tracked ≡ None = sym (tracked_read tracked) ∙ ap tracked_of number ∙ ill in
        cc

-- and so is a client's
pin_well : (pins : Pins) (cells : Cells) (proto : Proto) (client : Pair) (held : Held) → IsSameMap pins cells
    → IsPair client → cells (pin_key_number (record { proto = proto; client = client })) ≡ Some held
    → pin_of held.value.0 ≡ None → ⊥
pin_well pins cells proto client held same fits at ill =
    let none : backend_in (cells (pin_key_number (record { proto = proto; client = client })))
    ≡ None = ap backend_in at ∙ ap (option_map (λ (pin : Pin). pin.backend)) ill in
    let no : Some held ≡ None = sym at ∙ same.whole proto client fits none in
    cc

well_by : (shards batch : ℕ) (epochs : List Epoch) (lanes : List Lane) (f : FunctionPlan) (es : List Entry) →
    PlanFits f epochs →
    IsRun (setting_with shards batch epochs lanes (sweep_items_of f) (scene_of f epochs lanes)) es → NoneIll f es
well_by shards batch epochs lanes (Nat pool) es fits run = λ before later e value version split reply. (
  λ proto inside in_range key ill.
      flows_well (nat_of pool) (plan_is_nat pool epochs fits) (own_base (eras_of epochs))
      (begins pool shards batch epochs lanes) es (nat_list pool shards batch epochs lanes fits es run)
      before later e value version proto inside split reply key in_range ill,
  λ proto port in_range key ill.
      claims_well (nat_of pool) (plan_is_nat pool epochs fits) (own_base (eras_of epochs))
      (begins pool shards batch epochs lanes) es (nat_list pool shards batch epochs lanes fits es run)
      before later e value version proto port split reply key in_range ill,
)
well_by shards batch epochs lanes (Firewall inside rules) es fits run =
    λ before later e value version split reply conn in_range key ill.
    let s = scene_of (Firewall inside rules) epochs lanes in
    let policy = policy_with inside rules in
    let r = there es before later e value version run.legal split reply in
    conn_well (content_after s (any_fw_box policy) es (length before)) (map_after empty before) conn r.0
    (same_before s (any_fw_box policy) IsSameConns es before later e
    (fw_whole policy shards batch epochs lanes es fits.apart run).one_box.explained split)
    in_range (ap (map_after empty before) (sym key) ∙ r.1) (ap (λ (v : Value). tracked_of v.0) r.2 ∙ ill)
well_by shards batch epochs lanes (Balancer service) es fits run =
    λ before later e value version split reply proto client in_range key ill.
    let s = scene_of (Balancer service) epochs lanes in
    let r = there es before later e value version run.legal split reply in
    pin_well (content_after s (any_lb_box service) es (length before)) (map_after empty before) proto client r.0
    (same_before s (any_lb_box service) IsSameMap es before later e
    (lb_whole service shards batch epochs lanes es fits.apart
    (pairs_fit service.backends fits.types) run).one_box.explained split)
    in_range (ap (map_after empty before) (sym key) ∙ r.1) (ap (λ (v : Value). pin_of v.0) r.2 ∙ ill)

-- No reply is ill in a run of a plan.
pub none_ill_of_plan : (plan : Plan) (lanes : List Lane) (es : List Entry) → IsTrue (has_types plan.function) →
    IsRun (setting_of plan lanes) es → NoneIll plan.function es
none_ill_of_plan plan lanes es types run =
    well_by plan.shards plan.batch plan.epochs lanes plan.function es (plan_fits plan types) run
