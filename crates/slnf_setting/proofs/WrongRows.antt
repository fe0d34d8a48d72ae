-- Journals that are no run of a plan, and the rule that refuses each.
use Rattle.std.proofs.Common.{◌≡◌, inl, inr, ℕ, ◌<◌, ◌≤◌, Some, None, List, [], ◌∷◌, refl, ap, arith}
use Rattle.slnf_access.specs.declared.requests.Entry.{Entry}
use Rattle.slnf_access.specs.declared.requests.Request.{Request}
use Rattle.slnf_access.specs.declared.requests.Request.TheVariants.{Read, PutIfAbsent, ReplaceIf, DeleteIf}
use Rattle.slnf_access.specs.declared.requests.Reply.{Reply}
use Rattle.slnf_access.specs.declared.requests.Reply.TheVariants.{Done, Found, Absent}
use Rattle.slnf_base.specs.declared.packets.Proto.TheVariants.{Udp}
use Rattle.slnf_keys.specs.Layout.{pair_number, pair_at, pair_of, key_number, single_number}
use Rattle.slnf_keys.specs.Keys.{pin_key_number}
use Rattle.slnf_keys.specs.Values.{pin_number, pin_of}
use Rattle.slnf_plan.specs.declared.plan.FunctionPlan.TheVariants.{Balancer}
use Rattle.slnf_plan.specs.declared.plan.SweepPlan.TheVariants.{No}
use Rattle.slnf_plan.specs.declared.plan.Plan.{Plan}
use Rattle.slnf_run.specs.Run.{IsRun}
use Rattle.slnf_run.specs.Parts.{Post}
use Rattle.slnf_run.specs.Scheduled.{usual_way, IsScheduled}
use Rattle.slnf_lb.specs.Machine.{pin_key, pin_value}
use Rattle.slnf_flight.specs.declared.lanes.Lane.{Lane}
use Rattle.slnf_flight.specs.PlanSetting.{setting_of}
use Rattle.slnf_setting.proofs.PlanSchedules.{run_of_schedule}
use Rattle.slnf_setting.proofs.RowParts.{lane_of, epoch_of, on_lane, with_stop, entry, plan_of}
use Rattle.slnf_setting.proofs.LbRow.{client, first, second, service}
use Rattle.slnf_setting.proofs.LbRows.{going}

-- two lanes of two packets of one client; the second lane's first instance stops after an access
abbrev plan : Plan
plan = plan_of (Balancer service) 1 1 (
    epoch_of (on_lane 0 ∷ with_stop 1 1 ∷ []) (0 ∷ 1 ∷ []) No (0 ∷ 0 ∷ 0 ∷ 1 ∷ [])
    ∷ epoch_of (on_lane 1 ∷ []) (1 ∷ []) No []
    ∷ []) refl

abbrev lanes : List Lane
lanes =
    lane_of (going client ∷ going client ∷ []) refl ∷ lane_of (going client ∷ going client ∷ []) refl ∷ []

abbrev look : Request
look = Read (pin_key Udp client)

abbrev hit : Reply
hit = Found (pin_value first) 2

abbrev a0 : Entry
a0 = entry 1 0 0 look Absent

abbrev a1 : Entry
a1 = entry 2 0 0 (PutIfAbsent (pin_key Udp client) (pin_value first)) (Done 2)

abbrev a2 : Entry
a2 = entry 3 0 1 look hit

abbrev a3 : Entry
a3 = entry 4 1 0 look hit

abbrev a4 : Entry
a4 = entry 5 2 1 look hit

abbrev Runs : List Entry → Type 0
Runs es = IsRun (setting_of plan lanes) es

-- a run
scheduled : IsScheduled (setting_of plan lanes) (usual_way (setting_of plan lanes).eras) (a0 ∷ a1 ∷ a2 ∷ a3 ∷ a4 ∷ [])
unfolding pin_key_number single_number key_number pair_number pin_number pin_of pair_of pair_at
scheduled = record {
  accesses = a0 ∷ a1 ∷ a2 ∷ a3 ∷ a4 ∷ [];
  made = (0, ((refl, (refl, tt)), (1, ((refl, tt), refl))));
  sorted = refl;
}

right : Runs (a0 ∷ a1 ∷ a2 ∷ a3 ∷ a4 ∷ [])
right = run_of_schedule plan lanes (a0 ∷ a1 ∷ a2 ∷ a3 ∷ a4 ∷ []) scheduled (omega arith)

-- the posts of the three incarnations, where the second took one packet
abbrev post_0 : Post
post_0 = record { actor = record { lane = Some 0; quota = None; stop = None }; era = 0; at = 0 }

abbrev post_1 : Post
post_1 = record { actor = record { lane = Some 1; quota = None; stop = Some 1 }; era = 0; at = 0 }

abbrev post_2 : Post
post_2 = record { actor = record { lane = Some 1; quota = None; stop = None }; era = 1; at = 1 }

-- instance 0 leaves its second packet out
skips : Runs (a0 ∷ a1 ∷ a3 ∷ a4 ∷ []) → ⊥
unfolding pin_key_number single_number key_number pair_number pin_number pin_of pair_of pair_at
skips run = elim (run.done 0 post_0 refl) [
  | inl stopped ↦ absurd (cc)
  | inr whole ↦ whole.1.1.0
]

-- an access after the stop
after_stop : Runs (a0 ∷ a1 ∷ a2 ∷ a3 ∷ entry 5 1 1 look hit ∷ a4 ∷ []) → ⊥
unfolding pin_key_number single_number key_number pair_number pin_number pin_of pair_of pair_at
after_stop run = elim (run.done 1 post_1 refl) [
  | inl stopped ↦ absurd (cc)
  | inr whole ↦ let below : 2 < 1 = whole.0 in omega arith
]

-- a packet that the stopped instance took
taken_again : Runs (a0 ∷ a1 ∷ a2 ∷ a3 ∷ entry 5 2 0 look hit ∷ a4 ∷ []) → ⊥
unfolding pin_key_number single_number key_number pair_number pin_number pin_of pair_of pair_at
taken_again run = elim ((run.offered 2 post_2 refl).0) [
  | inl same ↦ let no : ◌≡◌ {A = ℕ} 1 0 = same in omega arith
  | inr none ↦ none
]

-- an entry of nobody
nobody : Runs (a0 ∷ a1 ∷ a2 ∷ a3 ∷ a4 ∷ entry 6 3 0 look hit ∷ []) → ⊥
nobody run = let below : 3 < 3 = run.of_actors.1.1.1.1.1.0 in omega arith

-- a later epoch too early
early_epoch : Runs (a0 ∷ a1 ∷ a3 ∷ entry 4 2 1 look hit ∷ a2 ∷ []) → ⊥
early_epoch run =
    let late : 1 ≤ 0 = run.by_epoch (a0 ∷ a1 ∷ a3 ∷ []) [] [] (entry 4 2 1 look hit) a2 refl in
    omega arith

-- another request
other_request : Runs (a0 ∷ entry 2 0 0 (ReplaceIf (pin_key Udp client) 1 (pin_value first)) (Done 2) ∷ []) → ⊥
unfolding pin_key_number single_number key_number pair_number pin_number pin_of pair_of pair_at
other_request run =
    let asked : ReplaceIf (pin_key Udp client) 1 (pin_value first)
    ≡ PutIfAbsent (pin_key Udp client) (pin_value first) =
    (run.paths 0 0).1.0 in
    cc

-- the value of a put
abbrev value_of : Request → ℕ
value_of (Read key) = 0
value_of (PutIfAbsent key value) = value.0
value_of (ReplaceIf key version value) = value.0
value_of (DeleteIf key version) = 0

-- another backend than its turn's
other_choice : Runs (a0 ∷ entry 2 0 0 (PutIfAbsent (pin_key Udp client) (pin_value second)) (Done 2) ∷ []) → ⊥
unfolding pin_key_number single_number key_number pair_number pin_number pin_of pair_of pair_at
other_choice run =
    let same : value_of (PutIfAbsent (pin_key Udp client) (pin_value second))
    ≡ value_of (PutIfAbsent (pin_key Udp client) (pin_value first)) = ap value_of (run.paths 0 0).1.0 in
    omega arith
