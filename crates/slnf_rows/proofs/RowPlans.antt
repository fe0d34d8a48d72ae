-- Plans of worked runs, and what is shown of a row whose schedule and verdicts compute.
use Rattle.std.proofs.Common.{◌≡◌, ◌≤◌, ℕ, true, List, [], ◌∷◌, refl}
use Rattle.slnf_access.specs.declared.requests.Entry.{Entry}
use Rattle.slnf_access.specs.Machines.{Machine}
use Rattle.slnf_plan.specs.declared.plan.FunctionPlan.{FunctionPlan}
use Rattle.slnf_plan.specs.declared.plan.FunctionPlan.TheVariants.{Nat as NatPlan, Firewall}
use Rattle.slnf_plan.specs.declared.plan.Plan.{Plan}
use Rattle.slnf_run.specs.Setting.{Setting}
use Rattle.slnf_run.specs.Run.{IsRun}
use Rattle.slnf_run.specs.Scheduled.{usual_way, Makes, in_order as in_order_of}
use Rattle.slnf_run.specs.Verdicts.{verdicts_of}
use Rattle.slnf_box.specs.Nat.{Nat}
use Rattle.slnf_nat.specs.Flights.{NatFlight}
use Rattle.slnf_flight.specs.declared.flights.AnyFlight.{AnyFlight}
use Rattle.slnf_flight.specs.Actors.{eras_of}
use Rattle.slnf_flight.specs.Flights.{Arrival}
use Rattle.slnf_flight.specs.PlanSetting.{setting_of}
use Rattle.slnf_setting.proofs.FwRow.{ten, all_out}
use Rattle.slnf_setting.proofs.NatRow.{pool_to}
use Rattle.slnf_setting.proofs.RowParts.{is_plan, plan_of}
use Rattle.slnf_rows.specs.Bodies.{with_machine, nat_body, Strays}
use Rattle.slnf_rows.specs.Firewalls.{IsFirewall}
use Rattle.slnf_rows.specs.Nats.{IsPoolTo}
use Rattle.slnf_rows.specs.Rows.{Row, Gives}

-- a NAT with the ports from 40000 to this one
abbrev pub nat_to : (high : ℕ) → 40000 ≤ high → FunctionPlan
nat_to high in_order = NatPlan (pool_to high in_order)

pub is_pool : (high : ℕ) (in_order : 40000 ≤ high) → IsPoolTo high (nat_to high in_order)
is_pool high in_order = (pool_to high in_order, refl, refl, refl, refl, refl, refl)

-- a firewall by which all TCP may open out
abbrev pub firewall : FunctionPlan
firewall = Firewall ten (all_out ∷ [])

pub is_firewall : IsFirewall firewall
is_firewall = (
  ten,
  all_out,
  refl,
  refl,
  refl,
  record { permit = refl; outbound = refl; proto = refl; source = refl; dest = refl; low = refl; high = refl },
)

-- the function can have the row's shards, batches and epochs
abbrev pub Fits : FunctionPlan → Row → Type 0
Fits function row = is_plan function row.shards row.batch row.epochs ≡ true

-- the plan of a row, and its setting
abbrev pub row_plan : (function : FunctionPlan) (row : Row) → Fits function row → Plan
row_plan function row fits = plan_of function row.shards row.batch row.epochs fits

abbrev pub row_setting : (function : FunctionPlan) (row : Row) → Fits function row → Setting AnyFlight Arrival
row_setting function row fits = setting_of (row_plan function row fits) row.lanes

-- the row's epochs make these accesses
abbrev pub Made : Row → Setting AnyFlight Arrival → List Entry → Type 0
Made row s accesses = Makes s (usual_way (eras_of row.epochs)) 0 (λ lane. 0) s.eras [] accesses

-- what a row gives whose schedule makes its journal, with its verdicts
abbrev pub given : (IsOf : FunctionPlan → Type 0) (row : Row) (function : FunctionPlan) → IsOf function →
    (fits : Fits function row) (accesses : List Entry) → Made row (row_setting function row fits) accesses →
    row.journal ≡ in_order_of accesses → verdicts_of (row_setting function row fits) row.journal ≡ row.verdicts →
    Gives IsOf row
given IsOf row function is_of fits accesses made sorted verdicts = record {
  plan = row_plan function row fits;
  is_plan = record { function = is_of; shards = refl; batch = refl; epochs = refl };
  scheduled = record { accesses = accesses; made = made; sorted = sorted };
  verdicts = verdicts;
}

-- the same of a NAT with the ports from 40000 to this one, whose accesses are the journal
abbrev pub nat_given : (high : ℕ) (in_order : 40000 ≤ high) (row : Row) (fits : Fits (nat_to high in_order) row) →
    Made row (row_setting (nat_to high in_order) row fits) row.journal → row.journal ≡ in_order_of row.journal →
    verdicts_of (row_setting (nat_to high in_order) row fits) row.journal ≡ row.verdicts → Gives (IsPoolTo high) row
nat_given high in_order row fits made sorted verdicts =
    given (IsPoolTo high) row (nat_to high in_order) (is_pool high in_order) fits row.journal made sorted verdicts

-- what shows that a body strays which makes a journal that is no run
abbrev pub strayed : (IsOf : FunctionPlan → Type 0) (row : Row) (body : FunctionPlan → Machine AnyFlight)
    (journal : List Entry) (function : FunctionPlan) → IsOf function → (fits : Fits function row) →
    Made row (with_machine (body function) (row_setting function row fits)) journal → journal ≡ in_order_of journal →
    (IsRun (row_setting function row fits) journal → ⊥) → Strays IsOf row body journal
strayed IsOf row body journal function is_of fits made sorted no_run = record {
  plan = row_plan function row fits;
  is_plan = record { function = is_of; shards = refl; batch = refl; epochs = refl };
  made = record { accesses = journal; made = made; sorted = sorted };
  no_run = no_run;
}

abbrev pub nat_strayed : (high : ℕ) (in_order : 40000 ≤ high) (row : Row) (body : Nat → Machine NatFlight)
    (journal : List Entry) (fits : Fits (nat_to high in_order) row) →
    Made row (with_machine (nat_body body (nat_to high in_order)) (row_setting (nat_to high in_order) row fits))
    journal → journal ≡ in_order_of journal →
    (IsRun (row_setting (nat_to high in_order) row fits) journal → ⊥) →
    Strays (IsPoolTo high) row (nat_body body) journal
nat_strayed high in_order row body journal fits made sorted no_run =
    strayed (IsPoolTo high) row (nat_body body) journal (nat_to high in_order) (is_pool high in_order) fits made sorted
    no_run
