-- What a plan that was read keeps.
use Rattle.std.proofs.Common.{◌≡◌, ℕ, ◌<◌, ◌≤◌, Bool, true, ltb, leb, List, length, Ok, refl, arith}
use Rattle.std.specs.Prelude.{codes}
use Rattle.std.specs.List.{list_all}
use Rattle.std.proofs.lemmas.Bool.{leb-true, lt-ltb, le-leb, ltb-true}
use Rattle.toml.specs.Data.{Data, Members}
use Rattle.slnf_plan.specs.declared.function_kind.FunctionKind.{FunctionKind}
use Rattle.slnf_plan.specs.declared.plan.Epoch.{Epoch}
use Rattle.slnf_plan.specs.declared.plan.FunctionPlan.{FunctionPlan}
use Rattle.slnf_plan.specs.declared.plan.FunctionPlan.TheVariants.{Nat, Firewall, Balancer}
use Rattle.slnf_plan.specs.declared.refusal.Cause.TheVariants.{NoEpoch, OutOfRange}
use Rattle.slnf_plan.specs.Plain.{plain_function}
use Rattle.slnf_plan.specs.Ranges.{has_instances, has_lanes_apart, has_places, has_sweep, has_actors}
use Rattle.slnf_plan.specs.Tables.{number, one_to, list_of, defaulted}
use Rattle.slnf_plan.specs.Plans.{function_row, backend_count, epoch_table, shards_row, batch_row, epochs_row}
use Rattle.slnf_plan.proofs.Laws.{demanded_ok, defaulted_reads, list_most, list_some, list_reads, number_within}
use Rattle.slnf_plan.proofs.EpochLaws.{epoch_keeps, places_fit, sweep_fits}
use Rattle.slnf_plan.proofs.FunctionLaws.{function_keeps, fits_of, kind_of, backends_of}

-- a number with a default, which are both in range
pub defaulted_within : (default : ℕ) (key : List ℕ) (low end : ℕ) (ms : Members) (x : ℕ) → low ≤ default
    → default < end → defaulted default key (number OutOfRange low end) ms ≡ Ok x → (low ≤ x) × (x < end)
defaulted_within default key low end ms x l h e =
    let a = defaulted_reads (λ n. leb low n) default key (number OutOfRange low end) ms x
    (λ d y r. le-leb low y (number_within OutOfRange low end d y r).0) (le-leb low default l) e in
    let b = defaulted_reads (λ n. ltb n end) default key (number OutOfRange low end) ms x
    (λ d y r. lt-ltb y end (number_within OutOfRange low end d y r).1) (lt-ltb default end h) e in
    (leb-true low x a, ltb-true x end b)

has_places_is : (f : FunctionPlan) (e : Epoch)
    → has_places f e ≡ places_fit (kind_of (plain_function f)) (backend_count (plain_function f)) e.active
has_places_is (Nat pool) e = refl
has_places_is (Firewall inside rules) e = refl
has_places_is (Balancer service) e = refl

has_sweep_is : (f : FunctionPlan) (e : Epoch) → has_sweep f e ≡ sweep_fits (kind_of (plain_function f)) e.sweep
has_sweep_is (Nat pool) e = refl
has_sweep_is (Firewall inside rules) e = refl
has_sweep_is (Balancer service) e = refl

-- the epochs of a plan that was read
pub record AreEpochs (f : FunctionPlan) (es : List Epoch) : Type 0 where
  pub some : 1 ≤ length es
  pub few : length es ≤ 1000
  pub instances : list_all has_instances es ≡ true
  pub lanes : list_all has_lanes_apart es ≡ true
  pub places : list_all (has_places f) es ≡ true
  pub sweeps : list_all (has_sweep f) es ≡ true
  pub actors : list_all has_actors es ≡ true

pub shards_within : (ms : Members) (x : ℕ) → shards_row ms ≡ Ok x → (1 ≤ x) × (x ≤ 64)
unfolding shards_row
shards_within ms x e =
    let w = defaulted_within 4 (codes "shards") 1 65 ms x (omega arith) (omega arith) e in
    (w.0, omega (arith, w.1))

pub batch_within : (ms : Members) (x : ℕ) → batch_row ms ≡ Ok x → (1 ≤ x) × (x ≤ 32)
unfolding batch_row
batch_within ms x e =
    let w = defaulted_within 1 (codes "batch") 1 33 ms x (omega arith) (omega arith) e in
    (w.0, omega (arith, w.1))

pub epochs_keep : (kind : FunctionKind) (f : FunctionPlan) (ms : Members) (es : List Epoch)
    → function_row kind ms ≡ Ok (plain_function f)
    → epochs_row kind (backend_count (plain_function f)) ms ≡ Ok es → AreEpochs f es
unfolding epochs_row
epochs_keep kind f ms es e r =
    let n = backend_count (plain_function f) in
    let named = (function_keeps kind ms (plain_function f) e).named in
    let a = demanded_ok NoEpoch (codes "epoch") (list_of (one_to NoEpoch 1000) (epoch_table kind n)) ms es r in
    let keeps = λ (d : Data) (x : Epoch) (read : epoch_table kind n d ≡ Ok x).
    epoch_keeps kind n d x (rw (← named) (backends_of f (fits_of kind ms f e))) read in
    let each = λ (test : Epoch → Bool) (h : (d : Data) (x : Epoch) → epoch_table kind n d ≡ Ok x → test x ≡ true).
    list_reads test (one_to NoEpoch 1000) (λ _. epoch_table kind n) a.0 es (λ _. h) a.1 in
    record {
      some = list_some (one_to NoEpoch 1000) (λ _. epoch_table kind n) NoEpoch a.0 es refl a.1;
      few = list_most (one_to NoEpoch 1000) (λ _. epoch_table kind n) 1000 a.0 es refl a.1;
      instances = each has_instances (λ d x read. (keeps d x read).instances);
      lanes = each has_lanes_apart (λ d x read. (keeps d x read).lanes);
      places = each (has_places f) (λ d x read. rw (has_places_is f x, named) (keeps d x read).active);
      sweeps = each (has_sweep f) (λ d x read. rw (has_sweep_is f x, named) (keeps d x read).sweep);
      actors = each has_actors (λ d x read. (keeps d x read).actors);
    }
