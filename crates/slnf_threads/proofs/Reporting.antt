-- What the reports of an epoch's actors come to.
use Rattle.std.proofs.Common.{◌≡◌, ◌≢◌, ℕ, ◌+◌, List, [], ◌∷◌, length, map, refl, ap, ap₂, ◌∙◌, arith}
use Rattle.std.specs.List.{AllByRecursion, range_with_len}
use Rattle.slnf_turns.specs.declared.views.View.{View}
use Rattle.slnf_store.specs.declared.stores.Store.{Store}
use Rattle.slnf_store.specs.Passes.{PassState}
use Rattle.slnf_store.specs.Stores.{IsOf}
use Rattle.slnf_flight.specs.declared.flights.AnyFlight.{AnyFlight}
use Rattle.slnf_crew.specs.declared.items.ActorItems.{ActorItems}
use Rattle.slnf_crew.specs.Errands.{items_work}
use Rattle.slnf_threads.specs.declared.reports.Desk.{Desk}
use Rattle.slnf_threads.specs.declared.reports.Report.{Report}
use Rattle.slnf_threads.specs.Crews.{EachAt, Pairwise, IsNewPass}
use Rattle.slnf_threads.specs.Passing.{after_splits}
use Rattle.slnf_threads.specs.Reports.{IsReport}
use Rattle.slnf_threads.proofs.Seating.{splits_before}

module _ (store : Store) (root : PassState) where
  abbrev pub ArePasses : ℕ → List (Desk ActorItems AnyFlight) → Type 0
  ArePasses k desks = EachAt (λ k d. IsNewPass store root k d.pass) k desks

  abbrev pub AreReports : List (Desk ActorItems AnyFlight) → List Report → Type 0
  AreReports desks reports =
      Pairwise (λ d r. IsReport items_work store d.instance d.pass r.pass r.outcome) desks reports

  number_after : (k : ℕ) (d : Desk ActorItems AnyFlight) (r : Report) → IsNewPass store root k d.pass →
      IsReport items_work store d.instance d.pass r.pass r.outcome →
      r.pass.known.number ≡ length root.known.before + k + 1
  number_after k d r new report =
      let kin : r.pass.known.number ≡ d.pass.known.number = report.kin.0 in
      let split : d.pass.known.number ≡ length (after_splits k root.known).before + 1 =
      ap (λ (v : View). v.number) new.known in
      omega (arith, kin, split, splits_before k root.known)

  -- each pass can be joined
  pub can_join : (k : ℕ) (desks : List (Desk ActorItems AnyFlight)) (reports : List Report) → ArePasses k desks →
      AreReports desks reports → AllByRecursion (λ r. IsOf store r.pass × (r.pass.known.number ≢ 0)) reports
  can_join k [] [] p h = tt
  can_join k [] (r ∷ rs) p h = absurd h
  can_join k (d ∷ ds) [] p h = absurd h
  can_join k (d ∷ ds) (r ∷ rs) p h = (
    (h.0.here, λ none. let n = number_after k d r p.0 h.0 in omega (arith, n, none)),
    can_join (k + 1) ds rs p.1 h.1,
  )

  -- their numbers are in a row
  pub numbers_in_row : (k : ℕ) (desks : List (Desk ActorItems AnyFlight)) (reports : List Report) →
      ArePasses k desks → AreReports desks reports →
      map (λ (v : View). v.number) (map (λ (r : Report). r.pass.known) reports)
      ≡ range_with_len (length root.known.before + k + 1) (length reports)
  numbers_in_row k [] [] p h = refl
  numbers_in_row k [] (r ∷ rs) p h = absurd h
  numbers_in_row k (d ∷ ds) [] p h = absurd h
  numbers_in_row k (d ∷ ds) (r ∷ rs) p h =
      let next : length root.known.before + (k + 1) + 1 ≡ length root.known.before + k + 1 + 1 = omega arith in
      ap₂ (λ n ns. n ∷ ns) (number_after k d r p.0 h.0)
      (numbers_in_row (k + 1) ds rs p.1 h.1 ∙ ap (λ n. range_with_len n (length rs)) next)
