-- the epoch's crew passes it, and the run goes on behind it
use Rattle.std.proofs.Common.{◌≡◌, ◌+◌, ◌≤◌, ◌<◌, ◌++◌, ◌∙◌, true, ℕ, List, length, slice_get, nat_lt, sym, ap, subst, arith}
use Rattle.std.specs.List.{list_all}
use Rattle.slnf_plan.specs.declared.plan.Epoch.{Epoch}
use Rattle.slnf_plan.specs.declared.plan.InstancePlan.{InstancePlan}
use Rattle.slnf_access.specs.declared.requests.Entry.{Entry}
use Rattle.slnf_instance.specs.Items.{Workload}
use Rattle.slnf_flight.specs.declared.flights.AnyFlight.{AnyFlight}
use Rattle.slnf_flight.specs.Actors.{instance_actor, era_of_epoch}
use Rattle.slnf_flight.specs.Functions.{IsFunctionOf}
use Rattle.slnf_flight.specs.PlanSetting.{setting_of}
use Rattle.slnf_crew.specs.Errands.{items_work}
use Rattle.slnf_run.specs.Jobs.{Job}
use Rattle.slnf_run.specs.Parts.{part_of}
use Rattle.slnf_orch.specs.Actors.{Stage, at_work, turns_in, AreStanding, AreDone}
use Rattle.slnf_ledger.specs.Ledger.{verdicts_at, places_in, given_from}
use Rattle.slnf_orch.specs.Hiring.{DoStand}
use Rattle.slnf_orch.specs.Passing.{IsUnderWay}
use Rattle.slnf_orch.proofs.EpochPasses.{instance_at, instances_most, epoch_stage, crew_stands, crew_has_room, end_list, end_stands, has_ended}
use Rattle.slnf_ledger.proofs.Giving.{job_there}
use Rattle.slnf_orch.proofs.UnderWay.{era_there, under_way_next}
use Rattle.slnf_orch.proofs.epochs.run_epoch.Goals.{In_ok-clocks}
use Rattle.slnf_orch.proofs.epochs.run_epoch.Goals as goal

-- an actor was hired for each of the epoch's
crew_count : (c : In_ok-clocks) →
    length c.in_ok-crew.crew.items ≡ length (era_of_epoch c.epoch_of-epoch.result.now).actors
crew_count c = c.in_ok-crew.ensures.count ∙ (ap length c.as_slice.ensures.value ∙ c.in_ok-items.ensures.count)

-- the crew's number is its length
crew_length : (c : In_ok-clocks) → c.len-count.result ≡ length c.in_ok-crew.crew.items
crew_length c = omega (arith, c.len-count.ensures, c.in_ok-crew.crew.ok)

-- the crew stands before its first access
standing : (c : In_ok-clocks) → AreStanding items_work
    (epoch_stage c.args.plan.now c.args.lanes.now c.args.number c.args.base c.epoch_of-epoch.result.now
    c.args.shards.now c.args.ledger.now c.requires.under_way)
    c.requires.under_way.list
    (at_work c.args.base c.args.shards.now c.in_ok-crew.crew.items c.in_ok-clocks.clocks.items)
standing c =
    let plan = c.args.plan.now in
    let lanes = c.args.lanes.now in
    let epoch : Epoch = c.epoch_of-epoch.result.now in
    let h : IsUnderWay plan lanes c.args.number c.args.base c.args.shards.now c.args.ledger.now =
    c.requires.under_way in
    let at = c.epoch_of-epoch.ensures.there in
    crew_stands plan lanes c.args.number c.args.base epoch c.args.shards.now c.args.ledger.now h
    c.in_ok-function.function c.in_ok-crew.crew.items c.in_ok-clocks.clocks.items c.len-count.result c.latest.result at
    (λ k actor work.
    c.actors_have_jobs.ensures plan lanes c.args.number c.args.base epoch c.in_ok-function.function
    (places_in c.args.ledger.now) k actor work at h.base_is
    (subst (λ o. IsFunctionOf plan.function o c.in_ok-function.function) at c.in_ok-function.ensures.function))
    (c.in_ok-crew.ensures.hired c.in_ok-function.function lanes c.args.base
    (λ k item actor item_at actor_at. c.in_ok-items.ensures.each k item actor
    (ap (λ l. slice_get l k) (sym c.as_slice.ensures.value) ∙ item_at) actor_at))
    (crew_count c) (crew_length c)
    (c.in_ok-clocks.ensures.items_if_clones_equal (λ y same. same)) c.latest.ensures.value

pub items_of-requires-clause-sweep : goal.items_of-requires-clause-sweep
items_of-requires-clause-sweep c =
    c.epoch_of-epoch.ensures.sweep c.in_ok-function.function
    (subst (λ o. IsFunctionOf c.args.plan.now.function o c.in_ok-function.function) c.epoch_of-epoch.ensures.there
    c.in_ok-function.ensures.function)

pub crew_of-requires : goal.crew_of-requires
crew_of-requires c = record {
  fits = λ k item i item_at i_at.
      let there = ap (λ l. slice_get l k) (sym c.as_slice.ensures.value) ∙ item_at in
      let work = c.in_ok-items.ensures.each k item (instance_actor i) there
      (instance_at c.epoch_of-epoch.result.now k i i_at) in
      subst (λ (w : Workload AnyFlight). places_in c.args.ledger.now i.lane ≤ w.count) (sym work)
      (c.requires.under_way.fits i.lane);
}

pub turns_by-requires-clause-there : goal.turns_by-requires-clause-there
turns_by-requires-clause-there c =
    let epoch : Epoch = c.epoch_of-epoch.result.now in
    let at = goal.at.turns_by-requires-clause-there c in
    subst (λ n. list_all (λ k. nat_lt k n) c.as_slice-2.result.now ≡ true) (sym (crew_count at.In_ok-clocks))
    (subst (λ l. list_all (λ k. nat_lt k (length (era_of_epoch epoch).actors)) l ≡ true) (sym c.as_slice-2.ensures)
    c.epoch_of-epoch.ensures.schedule)

pub turns_by-requires-clause-room : goal.turns_by-requires-clause-room
turns_by-requires-clause-room c =
    let plan = c.args.plan.now in
    let lanes = c.args.lanes.now in
    let at = goal.at.turns_by-requires-clause-room c in
    crew_has_room plan lanes c.args.number c.args.base c.epoch_of-epoch.result.now c.args.shards.now
    c.args.ledger.now c.requires.under_way c.in_ok-crew.crew.items c.in_ok-clocks.clocks.items
    c.epoch_of-epoch.ensures.there (standing at.In_ok-clocks)
    (λ m made. c.plan_passes_few.ensures.fewer plan lanes c.args.number c.args.base (places_in c.args.ledger.now) m
    c.know_types.ensures c.requires.few_packets made)

pub hand_over-requires-clause-there : goal.hand_over-requires-clause-there
hand_over-requires-clause-there c k i i_at =
    let low : i.lane < 32 = c.epoch_of-epoch.ensures.lanes k i
    (ap (λ l. slice_get l k) (sym c.as_slice-3.ensures) ∙ i_at) in
    let lanes : length c.args.ledger.now ≡ 32 = c.requires.under_way.lanes_are in
    omega arith

pub returns-clause-under_way : goal.returns-clause-under_way
returns-clause-under_way c =
    let plan = c.args.plan.now in
    let lanes = c.args.lanes.now in
    let epoch : Epoch = c.epoch_of-epoch.result.now in
    let h : IsUnderWay plan lanes c.args.number c.args.base c.args.shards.now c.args.ledger.now =
    c.requires.under_way in
    let at = c.epoch_of-epoch.ensures.there in
    let before = (goal.at.returns-clause-under_way c).In_ok-clocks in
    let stage : Stage AnyFlight =
    epoch_stage plan lanes c.args.number c.args.base epoch c.args.shards.now c.args.ledger.now h in
    let turned : AreStanding items_work stage (turns_in stage epoch.schedule h.list)
    (at_work c.args.base c.turns_by.new.shards c.turns_by.new.instances.items c.turns_by.new.clocks.items) =
    subst (λ l. AreStanding items_work stage (turns_in stage l h.list)
    (at_work c.args.base c.turns_by.new.shards c.turns_by.new.instances.items c.turns_by.new.clocks.items))
    c.as_slice-2.ensures (c.in_ok-turns_by.ensures.turned stage h.list (standing before)) in
    let done : AreDone items_work stage (turns_in stage epoch.schedule h.list)
    (at_work c.args.base c.rounds.new.shards c.rounds.new.instances.items c.rounds.new.clocks.items) =
    c.in_ok-rounds.ensures.done stage (turns_in stage epoch.schedule h.list) turned in
    let fs : List Entry = end_list plan lanes c.args.number c.args.base epoch c.args.shards.now c.args.ledger.now h
    c.rounds.new.shards c.rounds.new.instances.items c.rounds.new.clocks.items at done in
    let jobs : ℕ → InstancePlan → Job AnyFlight = λ k i.
    job_there (setting_of plan lanes) (places_in c.args.ledger.now) (c.args.base + k) (instance_actor i) in
    let owns : ℕ → List Entry = λ k. part_of (c.args.base + k) fs in
    let stands : DoStand items_work jobs owns c.rounds.new.instances.items epoch.instances =
    end_stands plan lanes c.args.number c.args.base epoch c.args.shards.now c.args.ledger.now h
    c.rounds.new.shards c.rounds.new.instances.items c.rounds.new.clocks.items at done in
    let given : (lane : ℕ) → verdicts_at c.hand_over.new.ledger lane
    ≡ verdicts_at c.args.ledger.now lane ++ given_from jobs owns 0 epoch.instances lane =
    subst (λ l. (lane : ℕ) → verdicts_at c.hand_over.new.ledger lane
    ≡ verdicts_at c.args.ledger.now lane ++ given_from jobs owns 0 l lane) c.as_slice-3.ensures
    (c.in_ok-hand_over.ensures.given jobs owns
    (subst (λ l. length l ≤ length c.rounds.new.instances.items) (sym c.as_slice-3.ensures)
    (instances_most epoch c.rounds.new.instances.items done.stands.count))
    (subst (λ l. DoStand items_work jobs owns c.rounds.new.instances.items l) (sym c.as_slice-3.ensures) stands)) in
    subst (λ n. IsUnderWay plan lanes (c.args.number + 1) (c.args.base + n) c.rounds.new.shards c.hand_over.new.ledger)
    (sym (crew_length before ∙ crew_count before))
    (under_way_next plan lanes c.args.number c.args.base epoch c.args.shards.now c.args.ledger.now at h fs
    c.hand_over.new.ledger c.rounds.new.shards
    (has_ended plan lanes c.args.number c.args.base epoch c.args.shards.now c.args.ledger.now h
    c.rounds.new.shards c.rounds.new.instances.items c.rounds.new.clocks.items at done c.hand_over.new.ledger given)
    ((c.plan_has_one_box.ensures.sound plan lanes).lanes_once c.args.number (era_of_epoch epoch)
    (era_there plan c.args.number epoch at))
    c.in_ok-hand_over.ensures.count)
