-- No lane stands twice in an epoch of a plan.
use Rattle.std.proofs.Common.{◌≡◌, ℕ, zero, suc, ◌==◌, Bool, true, false, not, ◌||◌, Some, List, [], ◌∷◌, ◌++◌, map, slice_get, refl, ap, sym, ◌∙◌}
use Rattle.std.specs.Prelude.{IsTrue}
use Rattle.std.specs.List.{list_any, list_all}
use Rattle.std.proofs.lemmas.Bool.{eq-eqb, eqb-true, and_parts}
use Rattle.std.proofs.lemmas.Option.{same_Some}
use Rattle.slnf_plan.specs.declared.plan.Epoch.{Epoch}
use Rattle.slnf_plan.specs.declared.plan.InstancePlan.{InstancePlan}
use Rattle.slnf_plan.specs.declared.plan.SweepPlan.{SweepPlan}
use Rattle.slnf_plan.specs.declared.plan.SweepPlan.TheVariants.{No, Yes}
use Rattle.slnf_plan.specs.Ranges.{are_distinct, has_lanes_apart}
use Rattle.slnf_run.specs.Setting.{Actor, Era, is_on}
use Rattle.slnf_run.specs.OneBox.{HasLanesOnce}
use Rattle.slnf_flight.specs.Actors.{instance_actor, sweep_actors, era_of_epoch, eras_of}

-- a test that each passes is passed by the one at a place
pub all_at : {X : Type 0} (test : X → Bool) (xs : List X) (k : ℕ) (x : X) → list_all test xs ≡ true
    → slice_get xs k ≡ Some x → test x ≡ true
all_at test [] k x h at = absurd (cc)
all_at test (y ∷ xs) zero x h at = ap test (sym (same_Some y x at)) ∙ (and_parts (test y) (list_all test xs) h).0
all_at test (y ∷ xs) (suc k) x h at = all_at test xs k x (and_parts (test y) (list_all test xs) h).1 at

-- a number at a place is among the numbers
any_at : (n : ℕ) (ns : List ℕ) (k : ℕ) → slice_get ns k ≡ Some n → list_any (λ m. m == n) ns ≡ true
any_at n [] k at = absurd (cc)
any_at n (m ∷ ns) zero at =
    let same : m ≡ n = same_Some m n at in
    ap (λ b. b || list_any (λ m. m == n) ns) (ap (λ x. x == n) same ∙ eq-eqb n n refl)
any_at n (m ∷ ns) (suc k) at = go (m == n) (any_at n ns k at)
  where
    go : (b : Bool) → list_any (λ m. m == n) ns ≡ true → (b || list_any (λ m. m == n) ns) ≡ true
    go true h = refl
    go false h = h

-- a number that isn't among the others stands nowhere else
twice : (m n : ℕ) (ns : List ℕ) (k : ℕ) → not (list_any (λ x. x == m) ns) ≡ true → m ≡ n → slice_get ns k ≡ Some n → ⊥
twice m n ns k h same at =
    let there : list_any (λ x. x == m) ns ≡ true = any_at m ns k (at ∙ ap (λ x. Some x) (sym same)) in
    let no : not true ≡ true = ap not (sym there) ∙ h in
    cc

-- of distinct numbers, one stands at one place
distinct_at : (ns : List ℕ) (n i k : ℕ) → are_distinct ns ≡ true → slice_get ns i ≡ Some n → slice_get ns k ≡ Some n
    → i ≡ k
distinct_at [] n i k h at there = absurd (cc)
distinct_at (m ∷ ns) n zero zero h at there = refl
distinct_at (m ∷ ns) n zero (suc k) h at there = absurd
    (twice m n ns k (and_parts (not (list_any (λ x. x == m) ns)) (are_distinct ns) h).0 (same_Some m n at) there)
distinct_at (m ∷ ns) n (suc i) zero h at there = absurd
    (twice m n ns i (and_parts (not (list_any (λ x. x == m) ns)) (are_distinct ns) h).0 (same_Some m n there) at)
distinct_at (m ∷ ns) n (suc i) (suc k) h at there =
    ap (λ x. suc x) (distinct_at ns n i k (and_parts (not (list_any (λ x. x == m) ns))
    (are_distinct ns) h).1 at there)

-- a sweep is on no lane
no_lane : (lane : ℕ) (sweep : SweepPlan) (i : ℕ) (a : Actor) → slice_get (sweep_actors sweep) i ≡ Some a
    → IsTrue (is_on lane a) → ⊥
no_lane lane No i a at on = cc
no_lane lane (Yes stop) zero a at on = let no : false ≡ true = ap (is_on lane) (same_Some _ a at) ∙ on in cc
no_lane lane (Yes stop) (suc i) a at on = cc

-- an actor on a lane is an instance with this lane
lane_at : (lane : ℕ) (instances : List InstancePlan) (sweep : SweepPlan) (i : ℕ) (a : Actor)
    → slice_get (map instance_actor instances ++ sweep_actors sweep) i ≡ Some a → IsTrue (is_on lane a)
    → slice_get (map (λ x. x.lane) instances) i ≡ Some lane
lane_at lane [] sweep i a at on = absurd (no_lane lane sweep i a at on)
lane_at lane (x ∷ instances) sweep zero a at on = ap (λ n. Some n)
    (eqb-true x.lane lane (ap (is_on lane) (same_Some (instance_actor x) a at) ∙ on))
lane_at lane (x ∷ instances) sweep (suc i) a at on = lane_at lane instances sweep i a at on

-- the epoch behind an era
era_behind : (epochs : List Epoch) (number : ℕ) (era : Era) → slice_get (eras_of epochs) number ≡ Some era
    → (epoch : Epoch) × (slice_get epochs number ≡ Some epoch) × (era_of_epoch epoch ≡ era)
era_behind [] number era at = absurd (cc)
era_behind (epoch ∷ epochs) zero era at = (epoch, refl, same_Some (era_of_epoch epoch) era at)
era_behind (epoch ∷ epochs) (suc number) era at = era_behind epochs number era at

pub lanes_once : (epochs : List Epoch) → list_all has_lanes_apart epochs ≡ true → (number : ℕ) (era : Era)
    → slice_get (eras_of epochs) number ≡ Some era → HasLanesOnce era.actors
lanes_once epochs apart number era there lane i k a b at_a at_b on_a on_b =
    let r : (epoch : Epoch) × (slice_get epochs number ≡ Some epoch)
    × (era_of_epoch epoch ≡ era) = era_behind epochs number era there in
    let own : (j : ℕ) (x : Actor) → slice_get era.actors j
    ≡ Some x → IsTrue (is_on lane x) → slice_get (map (λ x. x.lane) r.0.instances) j
    ≡ Some lane = λ j x at on. lane_at lane r.0.instances r.0.sweep j x
    (ap (λ (e : Era). slice_get e.actors j) r.2 ∙ at) on in
    distinct_at (map (λ x. x.lane) r.0.instances) lane i k (all_at has_lanes_apart epochs number r.0 apart r.1)
    (own i a at_a on_a) (own k b at_b on_b)
