-- What an epoch that was read keeps.
use Rattle.std.proofs.Common.{◌≡◌, ℕ, zero, suc, ◌+◌, ◌^◌, ◌<◌, ◌≤◌, Bool, true, false, not, ◌&&◌, cond, eqb, ltb, nat_lt, nat_le, List, [], ◌∷◌, ◌++◌, length, map, Option, Ok, refl, sym, subst, arith}
use Rattle.std.specs.Prelude.{codes, decimal, ◌==◌}
use Rattle.std.specs.List.{list_any, list_all}
use Rattle.std.proofs.lemmas.Bool.{and_parts, or_parts, and_from, lt-ltb, le-leb, eqb-false, ne_eqb, not-true}
use Rattle.std.proofs.lemmas.List.{length-append}
use Rattle.toml.specs.Data.{Data, Items, no_items, item, Members}
use Rattle.slnf_plan.specs.declared.function_kind.FunctionKind.{FunctionKind}
use Rattle.slnf_plan.specs.declared.function_kind.FunctionKind.TheVariants as kinds
use Rattle.slnf_plan.specs.declared.plan.Epoch.{Epoch}
use Rattle.slnf_plan.specs.declared.plan.InstancePlan.{InstancePlan}
use Rattle.slnf_plan.specs.declared.plan.SweepPlan.{SweepPlan}
use Rattle.slnf_plan.specs.declared.plan.SweepPlan.TheVariants.{No}
use Rattle.slnf_plan.specs.declared.refusal.Cause.TheVariants.{MissingKey, OutOfRange, LaneTwice, NoBackend, ScheduleActor}
use Rattle.slnf_plan.specs.Ranges.{is_at_most, is_instance, has_instances, are_distinct, has_lanes_apart, is_sweep, sweep_count, has_actors}
use Rattle.slnf_plan.specs.Refusals.{◌>>=◌, refuse, under}
use Rattle.slnf_plan.specs.Tables.{from_to, number, truth, any_count, at_most, one_to, list_of, elements, required, optional, defaulted, table}
use Rattle.slnf_plan.specs.Plans.{instance_keys, instance_rows, on_free_lane, instance_table, instance_list, instances_row, places, active_row, stop_count, sweep_of, sweep_row, schedule_row, epoch_keys, epoch_rows, epoch_table}
use Rattle.slnf_plan.proofs.Laws.{bind_ok, under_ok, ok_is, demanded_ok, demanded_reads, defaulted_reads, optional_reads, table_ok, list_ok, list_most, list_some, list_reads, most_reads, below_reads}

-- ---- instances

instance_fits : (ms : Members) (i : InstancePlan) → instance_rows ms ≡ Ok i → is_instance i ≡ true
unfolding instance_rows
instance_fits ms i e =
    let made : ℕ → Option ℕ → Option ℕ → InstancePlan = λ lane quota stop. record { lane = lane; quota = quota; stop = stop } in
    let a = bind_ok (required (codes "lane") (from_to 0 31) ms) (λ lane. optional (codes "quota") (from_to 0 1048576) ms
    >>= λ quota. optional (codes "stop") (from_to 0 (2 ^ 40)) ms >>= λ stop. Ok (made lane quota stop)) i e in
    let b = bind_ok (optional (codes "quota") (from_to 0 1048576) ms)
    (λ quota. optional (codes "stop") (from_to 0 (2 ^ 40)) ms >>= λ stop. Ok (made a.0 quota stop)) i a.2 in
    let d = bind_ok (optional (codes "stop") (from_to 0 (2 ^ 40)) ms) (λ stop. Ok (made a.0 b.0 stop)) i b.2 in
    let same : made a.0 b.0 d.0 ≡ i = ok_is _ _ d.2 in
    let lane = demanded_reads (λ n. nat_le n 31) MissingKey
    (codes "lane") (from_to 0 31) ms a.0 (most_reads OutOfRange 0 31 32 (omega arith)) a.1 in
    let quota = optional_reads (λ n. nat_le n 1048576)
    (codes "quota") (from_to 0 1048576) ms b.0 (most_reads OutOfRange 0 1048576 1048577 (omega arith)) b.1 in
    let stop = optional_reads (λ n. nat_le n (2 ^ 40)) (codes "stop")
    (from_to 0 (2 ^ 40)) ms d.0 (most_reads OutOfRange 0 (2 ^ 40) (2 ^ 40 + 1) (omega arith)) d.1 in
    subst (λ j. is_instance j ≡ true) same (and_from (nat_le a.0 31 && is_at_most 1048576 b.0)
    (is_at_most (2 ^ 40) d.0) (and_from (nat_le a.0 31) (is_at_most 1048576 b.0) lane quota) stop)

free_ok : (b : Bool) (i j : InstancePlan) → cond b (under (codes "lane") (refuse LaneTwice)) (Ok i) ≡ Ok j → (b ≡ false) × (i ≡ j)
free_ok true i j e = absurd cc
free_ok false i j e = (refl, ok_is i j e)

-- an instance that was read fits, and its lane is free
record IsNext (earlier : List InstancePlan) (i : InstancePlan) : Type 0 where
  fits : is_instance i ≡ true
  free : list_any (λ e. e.lane == i.lane) earlier ≡ false

instance_next : (earlier : List InstancePlan) (d : Data) (i : InstancePlan) → instance_table earlier d ≡ Ok i → IsNext earlier i
unfolding instance_table
instance_next earlier d i e =
    let a = bind_ok (table instance_keys instance_rows d) (on_free_lane earlier) i e in
    let b = free_ok (list_any (λ e. e.lane == a.0.lane) earlier) a.0 i a.2 in
    let rows = table_ok instance_keys instance_rows d a.0 a.1 in
    subst (λ j. IsNext earlier j) b.1 (record { fits = instance_fits rows.0 a.0 rows.1; free = b.0 })

eqb_flip : (a b : ℕ) → eqb a b ≡ false → eqb b a ≡ false
eqb_flip a b e = ne_eqb b a (λ s. eqb-false a b e (sym s))

lanes_last : (es : List InstancePlan) (n : ℕ) (i : InstancePlan) → list_any (λ m. m == n) (map (λ e. e.lane) es) ≡ false
    → eqb i.lane n ≡ false → list_any (λ m. m == n) (map (λ e. e.lane) (es ++ i ∷ [])) ≡ false
lanes_last [] n i none here = rw here refl
lanes_last (e ∷ es) n i none here =
    let p = or_parts (eqb e.lane n) (list_any (λ m. m == n) (map (λ e. e.lane) es)) none in
    rw (p.0, lanes_last es n i p.1 here) refl

distinct_last : (es : List InstancePlan) (i : InstancePlan) → are_distinct (map (λ e. e.lane) es) ≡ true
    → list_any (λ e. e.lane == i.lane) es ≡ false → are_distinct (map (λ e. e.lane) (es ++ i ∷ [])) ≡ true
distinct_last [] i apart free = refl
distinct_last (e ∷ es) i apart free =
    let p = and_parts (not (list_any (λ m. m == e.lane) (map (λ e. e.lane) es))) (are_distinct (map (λ e. e.lane) es)) apart in
    let q = or_parts (eqb e.lane i.lane) (list_any (λ e. e.lane == i.lane) es) free in
    rw (lanes_last es e.lane i (not-true _ p.0) (eqb_flip e.lane i.lane q.0), distinct_last es i p.1 q.1) refl

elements_apart : (earlier : List InstancePlan) (ds : Items) (xs : List InstancePlan)
    → are_distinct (map (λ e. e.lane) earlier) ≡ true
    → elements instance_table earlier ds ≡ Ok xs → are_distinct (map (λ e. e.lane) xs) ≡ true
elements_apart earlier no_items xs apart e =
    subst (λ ys. are_distinct (map (λ (e : InstancePlan). e.lane) ys) ≡ true) (ok_is earlier xs e) apart
elements_apart earlier (item d ds) xs apart e =
    let a = bind_ok (under (decimal (length earlier)) (instance_table earlier d))
    (λ x. elements instance_table (earlier ++ x ∷ []) ds) xs e in
    let here = instance_next earlier d a.0 (under_ok (decimal (length earlier)) (instance_table earlier d) a.0 a.1) in
    elements_apart (earlier ++ a.0 ∷ []) ds xs (distinct_last earlier a.0 apart here.free) a.2

pub record AreInstances (xs : List InstancePlan) : Type 0 where
  pub few : length xs ≤ 32
  pub fit : list_all is_instance xs ≡ true
  pub apart : are_distinct (map (λ e. e.lane) xs) ≡ true

pub instances_keep : (ms : Members) (xs : List InstancePlan) → instances_row ms ≡ Ok xs → AreInstances xs
unfolding instances_row instance_list
instances_keep ms xs e =
    let a = demanded_ok MissingKey (codes "instances") instance_list ms xs e in
    let b = list_ok (at_most 32) instance_table a.0 xs a.1 in
    record {
      few = list_most (at_most 32) instance_table 32 a.0 xs refl a.1;
      fit = list_reads is_instance (at_most 32) instance_table a.0 xs (λ earlier d x r. (instance_next earlier d x r).fits) a.1;
      apart = elements_apart [] b.0 xs refl b.2;
    }

pub instances_row_few : (ms : Members) (xs : List InstancePlan) → instances_row ms ≡ Ok xs → length xs ≤ 32
instances_row_few ms xs e = (instances_keep ms xs e).few

-- ---- active backends

-- a balancer's are 1 to 64 places, and other functions have none
abbrev pub places_fit : FunctionKind → ℕ → List ℕ → Bool
places_fit kinds.Nat backends xs = length xs == 0
places_fit kinds.Firewall backends xs = length xs == 0
places_fit kinds.Balancer backends xs = nat_le 1 (length xs) && nat_le (length xs) 64 && list_all (λ n. nat_lt n backends) xs

-- how many backends a function may have
abbrev pub backends_fit : FunctionKind → ℕ → Type 0
backends_fit kinds.Nat backends = Unit {0}
backends_fit kinds.Firewall backends = Unit {0}
backends_fit kinds.Balancer backends = (1 ≤ backends) × (backends ≤ 64)

length-places : (n : ℕ) → length (places n) ≡ n
length-places zero = refl
length-places (suc n) = omega (arith, length-append (places n) (n ∷ []), length-places n)

below_last : (xs : List ℕ) (x limit : ℕ) → list_all (λ n. nat_lt n limit) xs ≡ true
    → x < limit → list_all (λ n. nat_lt n limit) (xs ++ x ∷ []) ≡ true
below_last [] x limit all here = rw (lt-ltb x limit here) refl
below_last (y ∷ ys) x limit all here =
    let p = and_parts (ltb y limit) (list_all (λ n. nat_lt n limit) ys) all in
    rw (p.0, below_last ys x limit p.1 here) refl

places_below : (n limit : ℕ) → n ≤ limit → list_all (λ n. nat_lt n limit) (places n) ≡ true
places_below zero limit h = refl
places_below (suc n) limit h = below_last (places n) n limit (places_below n limit (omega arith)) (omega arith)

pub active_fits : (kind : FunctionKind) (backends : ℕ) (ms : Members) (xs : List ℕ)
    → backends_fit kind backends → active_row kind backends ms ≡ Ok xs → places_fit kind backends xs ≡ true
unfolding active_row
active_fits kinds.Nat backends ms xs h e = rw (← ok_is [] xs e) refl
active_fits kinds.Firewall backends ms xs h e = rw (← ok_is [] xs e) refl
active_fits kinds.Balancer backends ms xs h e =
    let element = number OutOfRange 0 backends in
    let all : places_fit kinds.Balancer backends (places backends) ≡ true = rw (
      length-places backends,
      le-leb 1 backends h.0,
      le-leb backends 64 h.1,
      places_below backends backends (omega arith),
    ) refl in
    defaulted_reads (places_fit kinds.Balancer backends)
    (places backends) (codes "active") (list_of (one_to NoBackend 64) element) ms xs
    (λ d ys r.
    let some = list_some (one_to NoBackend 64) (λ _. element) NoBackend d ys refl r in
    let few = list_most (one_to NoBackend 64) (λ _. element) 64 d ys refl r in
    let fit = list_reads (λ n. nat_lt n backends) (one_to NoBackend 64)
    (λ _. element) d ys (λ _. below_reads OutOfRange 0 backends) r in
    rw (le-leb 1 (length ys) some, le-leb (length ys) 64 few, fit) refl)
    all e

-- ---- the sweep

abbrev pub sweep_fits : FunctionKind → SweepPlan → Bool
sweep_fits kinds.Nat sweep = is_sweep sweep
sweep_fits kinds.Firewall sweep = sweep_count sweep == 0
sweep_fits kinds.Balancer sweep = sweep_count sweep == 0

sweep_of_fits : (sweep : Bool) (stop : Option ℕ) → is_at_most (2 ^ 40) stop ≡ true → is_sweep (sweep_of sweep stop) ≡ true
sweep_of_fits true stop h = h
sweep_of_fits false stop h = refl

stop_count-le : (sweep : Bool) → stop_count sweep ≤ 2 ^ 40 + 1
stop_count-le true = omega arith
stop_count-le false = omega arith

pub sweep_row_fits : (kind : FunctionKind) (ms : Members) (s : SweepPlan) → sweep_row kind ms ≡ Ok s → sweep_fits kind s ≡ true
unfolding sweep_row
sweep_row_fits kinds.Nat ms s e =
    let a = bind_ok (defaulted false (codes "sweep") truth ms) (λ sweep. optional (codes "sweep_stop")
    (number OutOfRange 0 (stop_count sweep)) ms >>= λ stop. Ok (sweep_of sweep stop)) s e in
    let b = bind_ok (optional (codes "sweep_stop") (number OutOfRange 0 (stop_count a.0)) ms)
    (λ stop. Ok (sweep_of a.0 stop)) s a.2 in
    let stop = optional_reads (λ n. nat_le n (2 ^ 40)) (codes "sweep_stop") (number OutOfRange 0 (stop_count a.0))
    ms b.0 (most_reads OutOfRange 0 (2 ^ 40) (stop_count a.0) (stop_count-le a.0)) b.1 in
    subst (λ t. is_sweep t ≡ true) (ok_is (sweep_of a.0 b.0) s b.2) (sweep_of_fits a.0 b.0 stop)
sweep_row_fits kinds.Firewall ms s e = rw (← ok_is No s e) refl
sweep_row_fits kinds.Balancer ms s e = rw (← ok_is No s e) refl

-- ---- the schedule

pub schedule_fits : (actors : ℕ) (ms : Members) (xs : List ℕ)
    → schedule_row actors ms ≡ Ok xs → list_all (λ n. nat_lt n actors) xs ≡ true
unfolding schedule_row
schedule_fits actors ms xs e =
    let element = number ScheduleActor 0 actors in
    defaulted_reads (list_all (λ n. nat_lt n actors)) [] (codes "schedule") (list_of any_count element) ms xs
    (λ d ys r. list_reads (λ n. nat_lt n actors) any_count (λ _. element) d ys (λ _. below_reads ScheduleActor 0 actors) r) refl e

-- ---- an epoch

pub record IsEpoch (kind : FunctionKind) (backends : ℕ) (e : Epoch) : Type 0 where
  pub instances : has_instances e ≡ true
  pub lanes : has_lanes_apart e ≡ true
  pub active : places_fit kind backends e.active ≡ true
  pub sweep : sweep_fits kind e.sweep ≡ true
  pub actors : has_actors e ≡ true

rows_keep : (kind : FunctionKind) (backends : ℕ) (ms : Members) (e : Epoch)
    → backends_fit kind backends → epoch_rows kind backends ms ≡ Ok e → IsEpoch kind backends e
unfolding epoch_rows
rows_keep kind backends ms epoch h e =
    let made : List InstancePlan → List ℕ → SweepPlan
    → List ℕ → Epoch = λ xs ys s ts. record { instances = xs; active = ys; sweep = s; schedule = ts } in
    let a = bind_ok (instances_row ms) (λ xs. active_row kind backends ms >>= λ ys. sweep_row kind ms
    >>= λ s. schedule_row (length xs + sweep_count s) ms >>= λ ts. Ok (made xs ys s ts)) epoch e in
    let b = bind_ok (active_row kind backends ms) (λ ys. sweep_row kind ms
    >>= λ s. schedule_row (length a.0 + sweep_count s) ms >>= λ ts. Ok (made a.0 ys s ts)) epoch a.2 in
    let c = bind_ok (sweep_row kind ms)
    (λ s. schedule_row (length a.0 + sweep_count s) ms >>= λ ts. Ok (made a.0 b.0 s ts)) epoch b.2 in
    let d = bind_ok (schedule_row (length a.0 + sweep_count c.0) ms) (λ ts. Ok (made a.0 b.0 c.0 ts)) epoch c.2 in
    let kept = instances_keep ms a.0 a.1 in
    subst (λ x. IsEpoch kind backends x) (ok_is (made a.0 b.0 c.0 d.0) epoch d.2)
    (record {
      instances = rw (le-leb (length a.0) 32 kept.few, kept.fit) refl;
      lanes = kept.apart;
      active = active_fits kind backends ms b.0 h b.1;
      sweep = sweep_row_fits kind ms c.0 c.1;
      actors = schedule_fits (length a.0 + sweep_count c.0) ms d.0 d.1;
    })

pub epoch_keeps : (kind : FunctionKind) (backends : ℕ) (d : Data) (e : Epoch)
    → backends_fit kind backends → epoch_table kind backends d ≡ Ok e → IsEpoch kind backends e
unfolding epoch_table
epoch_keeps kind backends d epoch h e =
    let rows = table_ok (epoch_keys kind) (epoch_rows kind backends) d epoch e in
    rows_keep kind backends rows.0 epoch h rows.1
