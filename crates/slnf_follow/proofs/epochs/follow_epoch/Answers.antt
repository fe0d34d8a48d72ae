-- the epoch's hands begin, follow the entries, and end
use Rattle.std.proofs.Common.{◌≡◌, ◌+◌, ◌≤◌, ◌∙◌, Some, ℕ, length, take, slice_get, sym, ap, ap₂, subst, subst₂, arith}
use Rattle.slnf_plan.specs.declared.plan.Epoch.{Epoch}
use Rattle.slnf_instance.specs.Items.{Workload}
use Rattle.slnf_flight.specs.declared.flights.AnyFlight.{AnyFlight}
use Rattle.slnf_flight.specs.Actors.{instance_actor, era_of_epoch}
use Rattle.slnf_flight.specs.Functions.{IsFunctionOf}
use Rattle.slnf_flight.specs.Lanes.{packets_on, packet_count}
use Rattle.slnf_flight.specs.PlanSetting.{setting_of}
use Rattle.slnf_crew.specs.Errands.{items_work}
use Rattle.slnf_follow.specs.Follows.{come_to, AreFirst, open_from, taken_on, Follows, IsStuck, broken_at}
use Rattle.slnf_follow.proofs.Fitting.{packets_most}
use Rattle.slnf_follow.proofs.Passing.{breaks}
use Rattle.slnf_follow.proofs.Plans.{era_there, starts, fits, passes, instance_at}
use Rattle.slnf_follow.proofs.epochs.follow_epoch.Goals.{After-epoch_of-epoch, After-broken_at}
use Rattle.slnf_follow.proofs.epochs.follow_epoch.Goals as goal

-- no lane has come farther than its packets
come_within : (c : After-epoch_of-epoch) (lane : ℕ) →
    come_to c.args.course.now.places.items lane ≤ length (packets_on c.args.lanes.now lane)
come_within c =
    fits c.args.plan.now c.args.lanes.now c.args.entries.now c.args.number c.args.course.now c.epoch_of-epoch.result.now
    c.requires.at c.epoch_of-epoch.ensures.there
    (c.plan_has_one_box.ensures.sound c.args.plan.now c.args.lanes.now).lanes_once

-- the hands are a follower's that begins the epoch
begun : (c : After-broken_at) →
    Follows items_work (setting_of c.args.plan.now c.args.lanes.now) (take c.args.course.now.done c.args.entries.now)
    c.args.number c.args.course.now.base (come_to c.args.course.now.places.items) c.in_ok-hands.hands.items
begun c =
    let plan = c.args.plan.now in
    let lanes = c.args.lanes.now in
    let course = c.args.course.now in
    let places : ℕ → ℕ = come_to course.places.items in
    let epoch : Epoch = c.epoch_of-epoch.result.now in
    let function = c.in_ok-function.function in
    let at = c.epoch_of-epoch.ensures.there in
    let of : IsFunctionOf plan.function (Some epoch) function =
    subst (λ o. IsFunctionOf plan.function o function) at c.in_ok-function.ensures.function in
    let first : AreFirst plan epoch places c.in_ok-items.items.items c.in_ok-hands.hands.items =
    subst₂ (λ p l. AreFirst plan epoch (come_to p) l c.in_ok-hands.hands.items) c.as_slice-places.ensures.value
    c.as_slice.ensures.value c.in_ok-hands.ensures in
    starts plan lanes c.args.entries.now c.args.number course epoch c.requires.at at function c.in_ok-items.items.items
    c.in_ok-hands.hands.items of c.in_ok-items.ensures.each c.in_ok-items.ensures.count first
    (λ k actor work there works base.
    c.actors_have_jobs.ensures plan lanes c.args.number course.base epoch function places k actor work at base of there
    works)

-- what is broken is told by the hands that have followed the entries
told : (c : After-broken_at) → c.broken_at.result
    ≡ broken_at (open_from 0 c.follow-done.new.hands.items) (slice_get c.args.entries.now c.follow-done.result)
    c.args.course.now.base (c.args.course.now.base + length c.follow-done.new.hands.items) c.follow-done.result
told c =
    let entries = c.args.entries.now in
    let base = c.args.course.now.base in
    let hands = c.follow-done.new.hands.items in
    let done = c.follow-done.result in
    let len : c.len.result ≡ length hands = omega (arith, c.len.ensures, c.follow-done.new.hands.ok.0) in
    c.broken_at.ensures
    ∙ (ap (λ o. broken_at o (slice_get entries done) base (base + c.len.result) done)
    (c.first_open-unended.ensures.is ∙ ap (open_from 0) c.as_slice-2.ensures.value)
    ∙ ap (λ n. broken_at (open_from 0 hands) (slice_get entries done) base (base + n) done) len)

pub items_of-requires-clause-sweep : goal.items_of-requires-clause-sweep
items_of-requires-clause-sweep c =
    c.epoch_of-epoch.ensures.sweep c.in_ok-function.function
    (subst (λ o. IsFunctionOf c.args.plan.now.function o c.in_ok-function.function) c.epoch_of-epoch.ensures.there
    c.in_ok-function.ensures.function)

pub first_hands-requires : goal.first_hands-requires
first_hands-requires c = record {
  fits = λ k item i item_at i_at.
      let there = ap (λ l. slice_get l k) (sym c.as_slice.ensures.value) ∙ item_at in
      let work = c.in_ok-items.ensures.each k item (instance_actor i) there
      (instance_at c.epoch_of-epoch.result.now k i i_at) in
      subst₂ (λ l (w : Workload AnyFlight). come_to l i.lane ≤ w.count) (sym c.as_slice-places.ensures.value) (sym work)
      (come_within (goal.at.first_hands-requires c).After-epoch_of-epoch i.lane);
}

pub add_taken-requires-clause-room : goal.add_taken-requires-clause-room
add_taken-requires-clause-room c lane =
    let lanes = c.args.lanes.now in
    let come : come_to c.args.course.now.places.items lane ≤ length (packets_on lanes lane) =
    come_within (goal.at.add_taken-requires-clause-room c).After-epoch_of-epoch lane in
    let most : length (packets_on lanes lane) ≤ packet_count lanes = packets_most lanes lane in
    let count = ap length c.as_slice-instances.ensures in
    omega (arith, c.epoch_of-epoch.ensures.instances, c.epoch_of-epoch.ensures.actors)

pub returns-in-Some-clause-broken : goal.returns-in-Some-clause-broken
returns-in-Some-clause-broken c broken is =
    let s = setting_of c.args.plan.now c.args.lanes.now in
    let entries = c.args.entries.now in
    let course = c.args.course.now in
    let places : ℕ → ℕ = come_to course.places.items in
    let epoch : Epoch = c.epoch_of-epoch.result.now in
    let at = goal.at.returns-in-Some-clause-broken c in
    let hands = c.follow-done.new.hands.items in
    let done = c.follow-done.result in
    breaks items_work s entries c.args.number course.base done places hands (era_of_epoch epoch)
    (era_there c.args.plan.now c.args.lanes.now c.args.number epoch c.epoch_of-epoch.ensures.there)
    (c.follow-done.ensures.follows s c.args.number places (begun at.After-broken_at))
    (λ e there. subst (λ n. IsStuck s (take done entries) (course.base + n) e) (sym c.follow-done.ensures.count)
    (c.follow-done.ensures.stuck s c.args.number places (begun at.After-broken_at) e there)) broken
    (sym (told at.After-broken_at) ∙ (c.in-Some.is ∙ is))

pub returns-clause-next : goal.returns-clause-next
returns-clause-next c none =
    let plan = c.args.plan.now in
    let lanes = c.args.lanes.now in
    let course = c.args.course.now in
    let places : ℕ → ℕ = come_to course.places.items in
    let epoch : Epoch = c.epoch_of-epoch.result.now in
    let at = goal.at.returns-clause-next c in
    let hands = c.follow-done.new.hands.items in
    let len : c.len.result ≡ length hands = omega (arith, c.len.ensures, c.follow-done.new.hands.ok.0) in
    passes plan lanes c.args.entries.now c.args.number course epoch c.requires.at c.epoch_of-epoch.ensures.there _ hands
    (c.follow-done.ensures.follows (setting_of plan lanes) c.args.number places (begun at.After-broken_at))
    c.follow-done.ensures.upto (ap (λ n. course.base + n) len) c.add_taken.ensures.count
    (λ lane. c.add_taken.ensures.taken lane
    ∙ ap₂ (λ is l. places lane + taken_on lane is l) c.as_slice-instances.ensures c.as_slice-in-None.ensures.value)
    (sym (told at.After-broken_at) ∙ c.in-None.is)
