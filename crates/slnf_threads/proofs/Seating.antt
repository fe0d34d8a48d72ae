-- An epoch's actors sit down, each with a pass of its own.
use Rattle.std.proofs.Common.{◌≡◌, ℕ, zero, suc, ◌+◌, ◌<◌, Some, List, [], ◌∷◌, ◌++◌, length, map, slice_get, refl, sym, ap, ◌∙◌, subst, arith}
use Rattle.std.proofs.lemmas.List.{length_push}
use Rattle.std.proofs.lemmas.Option.{same_Some}
use Rattle.slnf_plan.specs.declared.plan.Epoch.{Epoch}
use Rattle.slnf_plan.specs.declared.plan.Plan.{Plan}
use Rattle.slnf_turns.specs.declared.views.Joined.{Joined}
use Rattle.slnf_turns.specs.declared.views.View.{View}
use Rattle.slnf_turns.specs.Views.{split_off}
use Rattle.slnf_store.specs.declared.stores.Store.{Store}
use Rattle.slnf_store.specs.Passes.{PassState, entries_of}
use Rattle.slnf_store.specs.Stores.{IsOf, shards_of}
use Rattle.slnf_run.specs.Setting.{Actor}
use Rattle.slnf_run.specs.Parts.{at_lane}
use Rattle.slnf_instance.specs.declared.errands.Errand.{Errand}
use Rattle.slnf_instance.specs.Errands.{job_in, IsErrand}
use Rattle.slnf_instance.specs.Instances.{Acting, StandsBy}
use Rattle.slnf_flight.specs.Actors.{era_of_epoch}
use Rattle.slnf_flight.specs.declared.flights.AnyFlight.{AnyFlight}
use Rattle.slnf_crew.specs.declared.items.ActorItems.{ActorItems}
use Rattle.slnf_crew.specs.Errands.{items_work, errand_of}
use Rattle.slnf_ledger.specs.Ledger.{place_at}
use Rattle.slnf_ledger.proofs.Placing.{actor_place}
use Rattle.slnf_threads.specs.Crews.{IsSent, IsNewPass}
use Rattle.slnf_threads.specs.Passing.{after_splits}
use Rattle.slnf_threads.specs.Reports.{IsReady}
use Rattle.slnf_threads.proofs.Rules.{some_at}

-- splits keep the root's number, and are counted
pub splits_number : (n : ℕ) (v : View) → (after_splits n v).number ≡ v.number
splits_number zero v = refl
splits_number (suc n) v = splits_number n v

pub splits_before : (n : ℕ) (v : View) → length (after_splits n v).before ≡ length v.before + n
splits_before zero v = omega arith
splits_before (suc n) v =
    let rest : length (after_splits n v).before ≡ length v.before + n = splits_before n v in
    let last : length ((after_splits n v).before
    ++ map (λ (x : Joined). x.listed.number) (after_splits n v).joined ∷ []) ≡ length (after_splits n v).before + 1 =
    length_push (after_splits n v).before (map (λ (x : Joined). x.listed.number) (after_splits n v).joined) in
    omega (arith, rest, last)

-- What is known of an actor's errand.
pub record HasErrand (plan : Plan) (epoch : Epoch) (places : ℕ → ℕ) (number at count : ℕ) (errand : Errand) : Type 0
  where
    pub is : IsErrand count errand
    pub given : (places : ℕ → ℕ) (actor : Actor) → slice_get (era_of_epoch epoch).actors number ≡ Some actor →
        at_lane places actor ≡ at → errand ≡ errand_of plan places actor count
    pub begins : at ≡ place_at places epoch.instances number

module _ (plan : Plan) (epoch : Epoch) (places : ℕ → ℕ) (items : List ActorItems) (number at : ℕ) (item : ActorItems)
    (errand : Errand) (has : HasErrand plan epoch places number at (items_work item).count errand)
    (there : slice_get items number ≡ Some item) where
  errand_by : (actor : Actor) → slice_get (era_of_epoch epoch).actors number ≡ Some actor →
      errand ≡ errand_of plan places actor (items_work item).count
  errand_by actor actor_at =
      has.given places actor actor_at (actor_place epoch places number actor actor_at ∙ sym has.begins)

  pub errand_shards : number < length (era_of_epoch epoch).actors → errand.shards ≡ plan.shards
  errand_shards l =
      let actor = some_at (era_of_epoch epoch).actors number l in
      ap (λ (e : Errand). e.shards) (errand_by actor.0 actor.1)

  module _ (i : Acting ActorItems AnyFlight) (sent : i.errand ≡ errand)
      (stands : StandsBy items_work (job_in (items_work item) errand) [] i) where
    pub is_sent : IsSent plan epoch places items number i
    is_sent = record {
      errand = λ actor other actor_at other_at.
          let same : item ≡ other = same_Some item other (sym there ∙ other_at) in
          sent
          ∙ (errand_by actor actor_at
          ∙ ap (λ (x : ActorItems). errand_of plan places actor (items_work x).count) same);
      stands = λ other other_at.
          let same : item ≡ other = same_Some item other (sym there ∙ other_at) in
          subst (λ (x : ActorItems). StandsBy items_work (job_in (items_work x) i.errand) [] i) same
          (subst (λ (e : Errand). StandsBy items_work (job_in (items_work item) e) [] i) (sym sent) stands);
    }

    pub is_ready : (store : Store) (pass : PassState) (v : View) → IsOf store pass → pass.known ≡ split_off v →
        number < length (era_of_epoch epoch).actors → plan.shards ≡ shards_of store →
        IsReady items_work store i errand pass
    is_ready store pass v here known l shards = record {
      here = here;
      split = λ zero_is.
          let n : pass.known.number ≡ length v.before + 1 = ap (λ (w : View). w.number) known in
          omega (arith, n, zero_is);
      first = ap (λ (w : View). entries_of w.own) known;
      sent = sent;
      some = has.is.shards;
      shards = errand_shards l ∙ shards;
      stands = subst (λ job. StandsBy items_work job [] i) (sym stands.job_is) stands;
    }

-- the pass is the next one
pub is_new : (store : Store) (root pass : PassState) (number : ℕ) (v : View) (clock : ℕ) → IsOf store pass →
    pass.known ≡ split_off v → v ≡ after_splits number root.known → pass.clock ≡ clock → clock ≡ root.clock →
    IsNewPass store root number pass
is_new store root pass number v clock here known is same was = record {
  here = here;
  known = known ∙ ap split_off is;
  clock = same ∙ was;
}
