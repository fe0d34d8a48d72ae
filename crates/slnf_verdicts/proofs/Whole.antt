-- A run's journal and its plan have what the code asks of them.
use Rattle.std.proofs.Common.{◌≡◌, ℕ, suc, zero, ◌+◌, ◌<◌, ◌≤◌, Some, List, [], ◌∷◌, ◌++◌, drop, length, map, slice_get, refl, sym, ap, ◌∙◌, subst, append_assoc, append-nil, ◌==◌, arith}
use Rattle.std.specs.List.{range_with_len, AllByRecursion}
use Rattle.std.proofs.lemmas.Option.{same_Some}
use Rattle.slnf_base.specs.declared.packets.Verdict.{Verdict}
use Rattle.slnf_access.specs.declared.requests.Entry.{Entry}
use Rattle.slnf_access.specs.Map.{Cells, empty, key_of, map_after, IsLegalFrom, CanReply}
use Rattle.slnf_access.proofs.Elements.{each-filter}
use Rattle.slnf_access.proofs.Laws.{can_reply_to}
use Rattle.slnf_plan.specs.declared.plan.Plan.{Plan}
use Rattle.slnf_run.specs.Setting.{Setting}
use Rattle.slnf_run.specs.Parts.{part_of}
use Rattle.slnf_run.specs.Run.{IsRun}
use Rattle.slnf_run.specs.Verdicts.{verdict_of, verdicts_from}
use Rattle.slnf_flight.specs.declared.flights.AnyFlight.{AnyFlight}
use Rattle.slnf_flight.specs.declared.lanes.Lane.{Lane}
use Rattle.slnf_flight.specs.Actors.{eras_of}
use Rattle.slnf_flight.specs.Flights.{Arrival}
use Rattle.slnf_flight.specs.Lanes.{packets_on, packet_count, AreFew, lane_sizes}
use Rattle.slnf_flight.specs.PlanSetting.{setting_of}
use Rattle.slnf_setting.proofs.LanesApart.{lanes_once}
use Rattle.slnf_verdicts.specs.Given.{given_from, filled}
use Rattle.slnf_verdicts.specs.Standings.{IsFollowed}
use Rattle.slnf_verdicts.proofs.GivenRows.{filled_is}

-- no lane has more packets than all have
packets_most : (lanes : List Lane) (lane : ℕ) → length (packets_on lanes lane) ≤ packet_count lanes
packets_most [] lane = omega arith
packets_most (there ∷ lanes) zero = omega arith
packets_most (there ∷ lanes) (suc lane) =
    let rest : length (packets_on lanes lane) ≤ packet_count lanes = packets_most lanes lane in
    let same : length (packets_on (there ∷ lanes) (suc lane)) ≡ length (packets_on lanes lane) = refl in
    omega arith

pub few_each : (lanes : List Lane) → packet_count lanes ≤ 1048576 → AreFew lanes
few_each lanes few lane =
    let most : length (packets_on lanes lane) ≤ packet_count lanes = packets_most lanes lane in omega arith

-- the replies of a legal list are ones that their requests can have
can_each : (cells : Cells) (es : List Entry) → IsLegalFrom cells es →
    AllByRecursion (λ e. CanReply e.request e.reply) es
can_each cells [] h = tt
can_each cells (e ∷ es) h = (
  subst (CanReply e.request) (sym h.0) (can_reply_to e.request e.stamp (cells (key_of e.request))),
  can_each (map_after cells (e ∷ [])) es h.1,
)

each_get : (P : Entry → Type 0) (es : List Entry) (k : ℕ) (e : Entry) → AllByRecursion P es →
    slice_get es k ≡ Some e → P e
each_get P [] k e h at = absurd (cc)
each_get P (f ∷ es) zero e h at = subst P (same_Some f e at) h.0
each_get P (f ∷ es) (suc k) e h at = each_get P es k e h.1 at

-- what an incarnation made in a run can be followed
pub followed_run : {F A : Type 0} (s : Setting F A) (j part : List Entry) (i : ℕ) → IsRun s j → part ≡ part_of i j →
    IsFollowed (s.scene.machine i) (s.scene.begins i) part
followed_run s j part i run own =
    subst (IsFollowed (s.scene.machine i) (s.scene.begins i)) (sym own)
    (record {
      paths = λ item. run.paths i item;
      replies = λ k e at.
          each_get (λ e. CanReply e.request e.reply) (part_of i j) k e
          (each-filter (λ e. CanReply e.request e.reply) (λ e. e.incarnation == i) j (can_each empty j run.legal)) at;
    })

-- one lane more has its verdicts
pub lane_next : (plan : Plan) (lanes : List Lane) (j : List Entry) (parts : ℕ → List Entry) (lane : ℕ)
    (rows more total : List (List Verdict)) (row : List Verdict) → lane < length lanes →
    ((i : ℕ) → parts i ≡ part_of i j) →
    row ≡ filled (given_from (setting_of plan lanes) parts lane 0 0 (eras_of plan.epochs))
    (length (packets_on lanes lane)) → more ≡ rows ++ row ∷ [] →
    rows ++ verdicts_from (setting_of plan lanes) j lane (drop lane (lane_sizes lanes)) ≡ total →
    more ++ verdicts_from (setting_of plan lanes) j (lane + 1) (drop (lane + 1) (lane_sizes lanes)) ≡ total
lane_next plan lanes j parts lane rows more total row l own is push h =
    let s : Setting AnyFlight Arrival = setting_of plan lanes in
    let count : ℕ = length (packets_on lanes lane) in
    let parts_are : parts ≡ (λ i. part_of i j) = λ k i. own i k in
    let row_is : row ≡ map (verdict_of s j lane) (range_with_len 0 count) =
    is ∙ ap (λ p. filled (given_from s p lane 0 0 (eras_of plan.epochs)) count) parts_are
    ∙ filled_is s j lane count (lanes_once plan.epochs plan.lanes_apart) in
    let rest : List (List Verdict) = verdicts_from s j (lane + 1) (drop (lane + 1) (lane_sizes lanes)) in
    ap (λ l. l ++ rest) push
    ∙ append_assoc rows (row ∷ []) rest
    ∙ ap (λ x. rows ++ x ∷ rest) row_is
    ∙ ap (λ l. rows ++ verdicts_from s j lane l) (sym (sizes_next lanes lane l))
    ∙ h
  where
    sizes_next : (lanes : List Lane) (lane : ℕ) → lane < length lanes → drop lane (lane_sizes lanes)
        ≡ length (packets_on lanes lane) ∷ drop (lane + 1) (lane_sizes lanes)
    sizes_next [] lane l = absurd (omega arith)
    sizes_next (there ∷ lanes) zero l = refl
    sizes_next (there ∷ lanes) (suc lane) l =
        let q : suc (lane + 1) ≡ suc lane + 1 = omega arith in
        sizes_next lanes lane (omega arith)
        ∙ ap (λ k. length (packets_on lanes lane) ∷ drop k (lane_sizes (there ∷ lanes))) q

-- all lanes have them
pub lanes_end : (plan : Plan) (lanes : List Lane) (j : List Entry) (lane : ℕ) (rows total : List (List Verdict)) →
    length lanes ≤ lane →
    rows ++ verdicts_from (setting_of plan lanes) j lane (drop lane (lane_sizes lanes)) ≡ total → rows ≡ total
lanes_end plan lanes j lane rows total l h =
    let none_ : drop lane (lane_sizes lanes) ≡ [] = dropped lanes lane l in
    sym (append-nil rows) ∙ ap (λ l. rows ++ verdicts_from (setting_of plan lanes) j lane l) (sym none_) ∙ h
  where
    dropped : (lanes : List Lane) (lane : ℕ) → length lanes ≤ lane → drop lane (lane_sizes lanes) ≡ []
    dropped [] zero l = refl
    dropped [] (suc lane) l = refl
    dropped (there ∷ lanes) zero l = absurd (omega arith)
    dropped (there ∷ lanes) (suc lane) l = dropped lanes lane (omega arith)
