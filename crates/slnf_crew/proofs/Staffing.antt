-- The items of an epoch's actors: those of its instances, and its sweep's behind them.
use Rattle.std.proofs.Common.{◌≡◌, ◌⊎◌, inl, inr, ℕ, zero, suc, ◌+◌, Option, Some, None, List, [], ◌∷◌, ◌++◌, length, map, slice_get, refl, sym, ap, ◌∙◌, subst, arith}
use Rattle.std.proofs.lemmas.List.{length-map}
use Rattle.std.proofs.lemmas.Option.{same_Some}
use Rattle.slnf_plan.specs.declared.plan.Epoch.{Epoch}
use Rattle.slnf_plan.specs.declared.plan.InstancePlan.{InstancePlan}
use Rattle.slnf_plan.specs.declared.plan.SweepPlan.{SweepPlan}
use Rattle.slnf_plan.specs.declared.plan.SweepPlan.TheVariants.{No, Yes}
use Rattle.slnf_run.specs.Setting.{Actor}
use Rattle.slnf_run.proofs.LanePosts.{slice_get_of_map}
use Rattle.slnf_flight.specs.declared.functions.AnyFunction.{AnyFunction}
use Rattle.slnf_flight.specs.declared.lanes.Lane.{Lane}
use Rattle.slnf_flight.specs.Actors.{instance_actor, sweep_actors}
use Rattle.slnf_flight.specs.Lanes.{packets_on}
use Rattle.slnf_crew.specs.declared.items.ActorItems.{ActorItems}
use Rattle.slnf_crew.specs.Errands.{items_work, IsSweepWork, IsWorkOn, AreItemsFor}
use Rattle.slnf_crew.specs.Items.{packets_work}

-- the elements at one place of two lists that go on at one place
both_at : {X Y : Type 0} (xs ys : List X) (ps bs : List Y) (k : ℕ) (x : X) (a : Y) → length xs ≡ length ps →
    slice_get (xs ++ ys) k ≡ Some x → slice_get (ps ++ bs) k ≡ Some a →
    ((slice_get xs k ≡ Some x) × (slice_get ps k ≡ Some a))
    ⊎ ((m : ℕ) × (slice_get ys m ≡ Some x) × (slice_get bs m ≡ Some a))
both_at [] ys [] bs k x a count h j = inr (k, h, j)
both_at [] ys (b ∷ ps) bs k x a count h j = absurd (omega arith)
both_at (z ∷ xs) ys [] bs k x a count h j = absurd (omega arith)
both_at (z ∷ xs) ys (b ∷ ps) bs zero x a count h j = inl (h, j)
both_at (z ∷ xs) ys (b ∷ ps) bs (suc k) x a count h j = both_at xs ys ps bs k x a (omega arith) h j

-- the sweep's actor has no lane
lane_of_sweep : (sweep : SweepPlan) (m : ℕ) (actor : Actor) → slice_get (sweep_actors sweep) m ≡ Some actor →
    (stop : Option ℕ) × (sweep ≡ Yes stop) × (actor.lane ≡ None)
lane_of_sweep No m actor h = absurd (cc)
lane_of_sweep (Yes stop) zero actor h = (
  stop,
  refl,
  ap (λ (a : Actor). a.lane) (sym (same_Some (record { lane = None; quota = None; stop = stop }) actor
      h)),
)
lane_of_sweep (Yes stop) (suc m) actor h = absurd (cc)

pub staffed : (function : AnyFunction) (lanes : List Lane) (base : ℕ) (epoch : Epoch)
    (packets extra : List ActorItems) → length packets ≡ length epoch.instances →
    ((k : ℕ) (item : ActorItems) (i : InstancePlan) → slice_get packets k ≡ Some item →
    slice_get epoch.instances k ≡ Some i →
    items_work item ≡ packets_work function (packets_on lanes i.lane) (base + k)) →
    ((m : ℕ) (item : ActorItems) (stop : Option ℕ) → slice_get extra m ≡ Some item → epoch.sweep ≡ Yes stop →
    IsSweepWork function base (items_work item)) →
    AreItemsFor function lanes base epoch (packets ++ extra)
staffed function lanes base epoch packets extra count each sweeps k item actor item_at actor_at =
    let actors : length (map instance_actor epoch.instances) ≡ length epoch.instances =
    length-map epoch.instances instance_actor in
    elim (both_at packets extra (map instance_actor epoch.instances) (sweep_actors epoch.sweep) k item actor
    (count ∙ sym actors) item_at actor_at) [
      | inl own ↦
          let r : (i : InstancePlan) × (slice_get epoch.instances k ≡ Some i) × (instance_actor i ≡ actor) =
          slice_get_of_map instance_actor epoch.instances k actor own.1 in
          subst (λ (a : Actor). IsWorkOn function lanes base (base + k) a.lane (items_work item)) r.2
          (each k item r.0 own.0 r.1)
      | inr behind ↦
          let r : (stop : Option ℕ) × (epoch.sweep ≡ Yes stop) × (actor.lane ≡ None) =
          lane_of_sweep epoch.sweep behind.0 actor behind.2 in
          subst (λ lane. IsWorkOn function lanes base (base + k) lane (items_work item)) (sym r.2)
          (sweeps behind.0 item r.0 behind.1 r.1)
    ]

-- the one sweep
pub sweep_of_one : (function : AnyFunction) (base : ℕ) (sweep : SweepPlan) (x : ActorItems) →
    IsSweepWork function base (items_work x) → (m : ℕ) (item : ActorItems) (stop : Option ℕ) →
    slice_get (x ∷ []) m ≡ Some item → sweep ≡ Yes stop → IsSweepWork function base (items_work item)
sweep_of_one function base sweep x h zero item stop there is =
    subst (λ y. IsSweepWork function base (items_work y)) (same_Some x item there) h
sweep_of_one function base sweep x h (suc m) item stop there is = absurd (cc)
