-- The root behind an epoch: its clock, and late stamps that its passes keep.
use Rattle.std.proofs.Common.{◌≡◌, ◌⊎◌, inl, inr, ℕ, zero, suc, ◌+◌, ◌-◌, ◌^◌, ◌≤◌, max, Some, Result, Ok, Err, List, [], ◌∷◌, ◌++◌, length, map, slice_get, option_map, refl, ap, ◌∙◌, subst, arith}
use Rattle.std.specs.List.{AllByRecursion}
use Rattle.std.proofs.lemmas.Option.{same_Some, slice_get-map}
use Rattle.slnf_access.specs.declared.requests.Entry.{Entry}
use Rattle.slnf_bucket.specs.Bucket.{last_stamp}
use Rattle.slnf_bucket.specs.declared.errors.BucketError.{BucketError}
use Rattle.slnf_turns.specs.declared.views.Joined.{Joined}
use Rattle.slnf_turns.specs.declared.views.View.{View}
use Rattle.slnf_turns.specs.Views.{joined_of}
use Rattle.slnf_store.specs.declared.stores.Store.{Store}
use Rattle.slnf_store.specs.Passes.{PassState, entries_of}
use Rattle.slnf_store.specs.Stores.{shards_of}
use Rattle.slnf_instance.specs.declared.endings.Work.{Work}
use Rattle.slnf_run.proofs.Lists.{slice_get-append_right}
use Rattle.slnf_flight.specs.declared.flights.AnyFlight.{AnyFlight}
use Rattle.slnf_crew.specs.declared.items.ActorItems.{ActorItems}
use Rattle.slnf_crew.specs.Errands.{items_work}
use Rattle.slnf_threads.specs.declared.reports.Desk.{Desk}
use Rattle.slnf_threads.specs.declared.reports.Report.{Report}
use Rattle.slnf_threads.specs.Crews.{SomeSpent}
use Rattle.slnf_threads.specs.Passing.{clock_after, IsClockOf, HasLateStamp}
use Rattle.slnf_threads.specs.Reports.{IsReport, KeepsLateStamp}
use Rattle.slnf_threads.proofs.Reporting.{ArePasses, AreReports}

abbrev known_by : Report → View
known_by r = r.pass.known

abbrev clock_by : Report → ℕ
clock_by r = r.pass.clock

abbrev pub outcome_by : Report → Result Work BucketError
outcome_by r = r.outcome

-- no stamp of these lists is above the bound
abbrev pub AreBelow : ℕ → List Joined → Type 0
AreBelow bound joined =
    AllByRecursion (λ (x : Joined). AllByRecursion (λ (e : Entry). e.stamp ≤ bound) (entries_of x.listed.lines)) joined

last_most : (bound clock : ℕ) (es : List Entry) → clock ≤ bound →
    AllByRecursion (λ (e : Entry). e.stamp ≤ bound) es → last_stamp clock es ≤ bound
last_most bound clock [] l h = l
last_most bound clock (e ∷ es) l h = last_most bound e.stamp es h.0 h.1

below_left : (bound : ℕ) (xs ys : List Joined) → AreBelow bound (xs ++ ys) → AreBelow bound xs
below_left bound [] ys h = tt
below_left bound (x ∷ xs) ys h = (h.0, below_left bound xs ys h.1)

below_right : (bound : ℕ) (xs ys : List Joined) → AreBelow bound (xs ++ ys) → AreBelow bound ys
below_right bound [] ys h = h
below_right bound (x ∷ xs) ys h = below_right bound xs ys h.1

-- joins don't turn a clock back
clock_least : (low clock : ℕ) (clocks : List ℕ) → low ≤ clock → low ≤ clock_after clocks clock
clock_least low clock [] l = l
clock_least low clock (c ∷ clocks) l = clock_least low (max clock c) clocks (omega (arith, l))

clock_at : (low clock j : ℕ) (reports : List Report) (r : Report) → slice_get reports j ≡ Some r →
    low ≤ r.pass.clock → low ≤ clock_after (map clock_by reports) clock
clock_at low clock j [] r at l = absurd (cc)
clock_at low clock zero (x ∷ reports) r at l =
    let same : x.pass.clock ≡ r.pass.clock = ap clock_by (same_Some x r at) in
    clock_least low (max clock x.pass.clock) (map clock_by reports) (omega (arith, same, l))
clock_at low clock (suc j) (x ∷ reports) r at l = clock_at low (max clock x.pass.clock) j reports r at l

module _ (store : Store) (root : PassState) where
  clock_most : (bound clock k : ℕ) (desks : List (Desk ActorItems AnyFlight)) (reports : List Report) →
      ArePasses store root k desks → AreReports store root desks reports → root.clock ≤ bound → clock ≤ bound →
      AreBelow bound (map joined_of (map known_by reports)) → clock_after (map clock_by reports) clock ≤ bound
  clock_most bound clock k [] [] p h low l below = l
  clock_most bound clock k [] (r ∷ rs) p h low l below = absurd h
  clock_most bound clock k (d ∷ ds) [] p h low l below = absurd h
  clock_most bound clock k (d ∷ ds) (r ∷ rs) p h low l below =
      let began : d.pass.clock ≡ root.clock = p.0.clock in
      let is : r.pass.clock ≡ last_stamp d.pass.clock (entries_of r.pass.known.own) = h.0.clock in
      let most : last_stamp d.pass.clock (entries_of r.pass.known.own) ≤ bound =
      last_most bound d.pass.clock (entries_of r.pass.known.own) (omega (arith, began, low)) below.0 in
      clock_most bound (max clock r.pass.clock) (k + 1) ds rs p.1 h.1 low (omega (arith, is, most, l)) below.1

  -- the clock behind the epoch is one of the root's passes
  pub clock_next : (before after : View) (desks : List (Desk ActorItems AnyFlight)) (reports : List Report) →
      ArePasses store root 0 desks → AreReports store root desks reports → IsClockOf before root.clock →
      after.joined ≡ before.joined ++ map joined_of (map known_by reports) →
      IsClockOf after (clock_after (map clock_by reports) root.clock)
  clock_next before after desks reports p h is joined bound below =
      let all : AreBelow bound (before.joined ++ map joined_of (map known_by reports)) =
      subst (AreBelow bound) joined below in
      let low : root.clock ≤ bound = is bound (below_left bound before.joined _ all) in
      clock_most bound root.clock 0 desks reports p h low low (below_right bound before.joined _ all)

  spent_one : (d : Desk ActorItems AnyFlight) (pass : PassState) (outcome : Result Work BucketError)
      (outcomes : List (Result Work BucketError)) → IsReport items_work store d.instance d.pass pass outcome →
      SomeSpent (outcome ∷ outcomes) → KeepsLateStamp (shards_of store) pass ⊎ SomeSpent outcomes
  spent_one d pass (Ok work) outcomes report h = inr h
  spent_one d pass (Err refusal) outcomes report (inl h) = inl ((report.ended h.0 h.1).1)
  spent_one d pass (Err refusal) outcomes report (inr h) = inr h

  -- where stamps were spent a report's pass keeps a late one
  late_report : (desks : List (Desk ActorItems AnyFlight)) (reports : List Report) → AreReports store root desks reports →
      SomeSpent (map outcome_by reports) →
      (j : ℕ) × (r : Report) × (slice_get reports j ≡ Some r) × KeepsLateStamp (shards_of store) r.pass
  late_report [] [] h spent = absurd spent
  late_report [] (r ∷ rs) h spent = absurd h
  late_report (d ∷ ds) [] h spent = absurd h
  late_report (d ∷ ds) (r ∷ rs) h spent = elim (spent_one d r.pass r.outcome (map outcome_by rs) h.0 spent) [
    | inl late ↦ (0, r, refl, late)
    | inr rest ↦ let x = late_report ds rs h.1 rest in (suc x.0, x.1, x.2, x.3)
  ]

  pub late_next : (before after : View) (clock : ℕ) (desks : List (Desk ActorItems AnyFlight)) (reports : List Report) →
      AreReports store root desks reports → SomeSpent (map outcome_by reports) →
      after.joined ≡ before.joined ++ map joined_of (map known_by reports) →
      HasLateStamp (shards_of store) after (clock_after (map clock_by reports) clock)
  late_next before after clock desks reports h spent joined =
      let x = late_report desks reports h spent in
      by_stamp x.0 x.1 x.2 x.3
    where
      by_stamp : (j : ℕ) (r : Report) → slice_get reports j ≡ Some r → KeepsLateStamp (shards_of store) r.pass →
          HasLateStamp (shards_of store) after (clock_after (map clock_by reports) clock)
      by_stamp j r at (inl late) = inl (clock_at (2 ^ 62 - 32) clock j reports r at late)
      by_stamp j r at (inr late) =
          let there : slice_get after.joined (length before.joined + j) ≡ Some (joined_of r.pass.known) =
          ap (λ l. slice_get l (length before.joined + j)) joined
          ∙ (slice_get-append_right before.joined (map joined_of (map known_by reports)) j
          ∙ (slice_get-map joined_of (map known_by reports) j
          ∙ ap (option_map joined_of) (slice_get-map known_by reports j ∙ ap (option_map known_by) at))) in
          inr (length before.joined + j, joined_of r.pass.known, there, late.0, late.1, late.2)
