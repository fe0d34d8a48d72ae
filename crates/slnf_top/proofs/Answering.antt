-- What a command answers to bytes that are told, by how far its reading came.
use Rattle.std.proofs.Common.{◌≡◌, ◌≢◌, ◌⊎◌, ◌<◌, inl, inr, ℕ, Some, None, List, [], ◌∷◌, ◌++◌, map, refl, ap, sym, ◌∙◌, subst, arith}
use Rattle.std.specs.Prelude.{Result, Ok, Err, IfSome}
use Rattle.slnf_pcap.specs.declared.errors.PcapError.TheVariants.{NoMemory as PcapNoMemory}
use Rattle.slnf_plan.specs.declared.error.PlanError.{PlanError}
use Rattle.slnf_plan.specs.declared.error.PlanError.TheVariants.{NoMemory as PlanNoMemory}
use Rattle.slnf_plan.specs.Plain.{PlainPlan}
use Rattle.slnf_shelf.specs.declared.shelf.Call.{Call}
use Rattle.slnf_shelf.specs.Shelf.{Faults, Rose}
use Rattle.slnf_top.specs.declared.statuses.Status.{Status}
use Rattle.slnf_top.specs.declared.statuses.Status.TheVariants as status
use Rattle.slnf_top.specs.declared.inputs.Tally.{Tally}
use Rattle.slnf_top.specs.declared.products.Product.{Product}
use Rattle.slnf_top.specs.declared.products.Product.TheVariants.{Journal, Verdicts, Output}
use Rattle.slnf_top.specs.Words.{PlanWords, Command, Run, Step, Check, Box, Load}
use Rattle.slnf_top.specs.Kinds.{Kind, Whole, Formless, Refusing, Broken, Unread, Unwritten, Wanting, kind_of, HasRead}
use Rattle.slnf_top.specs.Readings.{Input, PlanFile, CaptureFile, ProductFile, captures_in, outputs_in, journal_file, products_by, run_inputs, inputs_of, name_of, reading_of, limit_of, with_plan, plan_reading, go_on, first_refusal, no_tally}
use Rattle.slnf_top.specs.Names.{capture_names}
use Rattle.slnf_top.specs.Reached.{Holds, HavePassed, MayRefuse, IsRefused, AllPassed, IsPlanOfCommand, IsOfPlan, FollowsPlan}
use Rattle.slnf_top.specs.Effects.{input_names}
use Rattle.slnf_top.specs.Inputs.{AreHeld}
use Rattle.slnf_top.specs.Written.{WroteAll, WasBroken}
use Rattle.slnf_top.specs.Outcome.{Ended, IsComplete}
use Rattle.slnf_top.proofs.Passing.{told}
use Rattle.slnf_top.proofs.ByKind.{formless_is, unread_is, unwritten_is, wanting_is, has_read_at}

-- an input that passed, and one that is refused, behind those before them
refused_first : (held : Holds) (before : List Input) (input : Input) (after : List Input) (first tally : Tally)
    (refusal : Status) (bytes : List (List ℕ)) →
    HavePassed held before first tally → AreHeld held (map name_of (before ++ input ∷ after)) bytes →
    IfSome (held (name_of input)) (λ b. reading_of input tally b ≡ Err refusal) →
    first_refusal (before ++ input ∷ after) first bytes ≡ Some refusal
refused_first held [] input after first tally refusal [] passed are gives = absurd are
refused_first held [] input after first tally refusal (b ∷ more) passed are gives =
    let at : reading_of input tally b ≡ Err refusal =
    told (λ x. reading_of input tally x ≡ Err refusal) (held (name_of input)) b are.0 gives in
    ap (go_on (λ next. first_refusal after next more)) (ap (λ (t : Tally). reading_of input t b) passed ∙ at)
refused_first held (other ∷ before) input after first tally refusal [] passed are gives = absurd are
refused_first held (other ∷ before) input after first tally refusal (b ∷ more) passed are gives =
    let at : reading_of other first b ≡ Ok passed.0 =
    told (λ x. reading_of other first x ≡ Ok passed.0) (held (name_of other)) b are.0 passed.1 in
    ap (go_on (λ next. first_refusal (before ++ input ∷ after) next more)) at
    ∙ refused_first held before input after passed.0 tally refusal more passed.2 are.1 gives

pub first_of : (held : Holds) (inputs : List Input) (refusal : Status) (bytes : List (List ℕ)) →
    IsRefused held inputs refusal → AreHeld held (map name_of inputs) bytes →
    first_refusal inputs no_tally bytes ≡ Some refusal
first_of held inputs refusal bytes is are =
    let at = is.reached in
    let there : AreHeld held (map name_of (at.before ++ is.input ∷ at.after)) bytes =
    subst (λ (all : List Input). AreHeld held (map name_of all) bytes) at.are are in
    subst (λ (all : List Input). first_refusal all no_tally bytes ≡ Some refusal) (sym at.are)
    (refused_first held at.before is.input at.after no_tally is.tally refusal bytes at.passed there is.gives)

-- no refusal carries want of memory
plan_carries : (input : Input) (tally : Tally) → MayRefuse input tally (status.PlanBad PlanNoMemory) → ⊥
plan_carries (PlanFile name) tally (inl own) =
    own.1 (let e : status.PlanBad PlanNoMemory ≡ status.PlanBad own.0 = own.2 in cc)
plan_carries (PlanFile name) tally (inr e) = cc
plan_carries (CaptureFile name) tally (inl own) = let e = own.2 in cc
plan_carries (CaptureFile name) tally (inr (inl e)) = cc
plan_carries (CaptureFile name) tally (inr (inr (inl limit))) = let e = limit.1 in cc
plan_carries (CaptureFile name) tally (inr (inr (inr limit))) = let e = limit.1 in cc
plan_carries (ProductFile product name) tally e = cc

capture_carries : (input : Input) (tally : Tally) (lane : ℕ) →
    MayRefuse input tally (status.CaptureBad lane PcapNoMemory) → ⊥
capture_carries (PlanFile name) tally lane (inl own) = let e = own.2 in cc
capture_carries (PlanFile name) tally lane (inr e) = cc
capture_carries (CaptureFile name) tally lane (inl own) =
    own.1 (let e : status.CaptureBad lane PcapNoMemory ≡ status.CaptureBad tally.lanes own.0 = own.2 in cc)
capture_carries (CaptureFile name) tally lane (inr (inl e)) = cc
capture_carries (CaptureFile name) tally lane (inr (inr (inl limit))) = let e = limit.1 in cc
capture_carries (CaptureFile name) tally lane (inr (inr (inr limit))) = let e = limit.1 in cc
capture_carries (ProductFile product name) tally lane e = cc

-- an input that is no plan
abbrev IsBehind : Input → Type 0
IsBehind (PlanFile name) = ⊥
IsBehind (CaptureFile name) = Unit {0}
IsBehind (ProductFile product name) = Unit {0}

abbrev AreBehind : List Input → Type 0
AreBehind [] = Unit {0}
AreBehind (input ∷ inputs) = IsBehind input × AreBehind inputs

captures_behind : (names : List (List ℕ)) → AreBehind (captures_in names)
captures_behind [] = tt
captures_behind (name ∷ names) = (tt, captures_behind names)

outputs_behind : (names : List (List ℕ)) → AreBehind (outputs_in names)
outputs_behind [] = tt
outputs_behind (name ∷ names) = (tt, outputs_behind names)

both_behind : (xs ys : List Input) → AreBehind xs → AreBehind ys → AreBehind (xs ++ ys)
both_behind [] ys h k = k
both_behind (x ∷ xs) ys h k = (h.0, both_behind xs ys h.1 k)

one_behind : (before : List Input) (input : Input) (after : List Input) → AreBehind (before ++ input ∷ after) →
    IsBehind input
one_behind [] input after h = h.0
one_behind (other ∷ before) input after h = one_behind before input after h.1

-- its refusal is none of a plan's
over_differ : (a b m n : ℕ) → b < a → status.OverLimit a m ≡ status.OverLimit b n → ⊥
over_differ a b m n less e = let same : a ≡ b = cc in omega arith

product_differs : (product : Product) (m n : ℕ) → status.OverLimit (limit_of product) m ≡ status.OverLimit 1 n → ⊥
product_differs Journal m n e = over_differ 5 1 m n (omega arith) e
product_differs Verdicts m n e = over_differ 6 1 m n (omega arith) e
product_differs Output m n e = over_differ 2 1 m n (omega arith) e

module _ (tally : Tally) (refusal : Status) where
  not_bad : (input : Input) → IsBehind input → MayRefuse input tally refusal → (error : PlanError) →
      refusal ≡ status.PlanBad error → ⊥
  not_bad (PlanFile name) none may error f = none
  not_bad (CaptureFile name) at (inl own) error f = let e = own.2 in cc
  not_bad (CaptureFile name) at (inr (inl e)) error f = cc
  not_bad (CaptureFile name) at (inr (inr (inl limit))) error f = let e = limit.1 in cc
  not_bad (CaptureFile name) at (inr (inr (inr limit))) error f = let e = limit.1 in cc
  not_bad (ProductFile product name) at e error f = cc

  not_over : (input : Input) → IsBehind input → MayRefuse input tally refusal → (count : ℕ) →
      refusal ≡ status.OverLimit 1 count → ⊥
  not_over (PlanFile name) none may count f = none
  not_over (CaptureFile name) at (inl own) count f = let e = own.2 in cc
  not_over (CaptureFile name) at (inr (inl e)) count f = over_differ 2 1 _ count (omega arith) (sym e ∙ f)
  not_over (CaptureFile name) at (inr (inr (inl limit))) count f =
      over_differ 3 1 limit.0 count (omega arith) (sym limit.1 ∙ f)
  not_over (CaptureFile name) at (inr (inr (inr limit))) count f =
      over_differ 4 1 limit.0 count (omega arith) (sym limit.1 ∙ f)
  not_over (ProductFile product name) at e count f = product_differs product _ count (sym e ∙ f)

  not_of_plan : (input : Input) → IsBehind input → MayRefuse input tally refusal → IsOfPlan refusal → ⊥
  not_of_plan input at may (inl own) = not_bad input at may own.0 own.1
  not_of_plan input at may (inr limit) = not_over input at may limit.0 limit.1

-- the first of some inputs is what was reached, or it passed
abbrev pub FirstOrBehind : Holds → List ℕ → Status → Type 0
FirstOrBehind held plan refusal =
    IfSome (held plan) (λ bytes. with_plan no_tally (plan_reading bytes) ≡ Err refusal)
    ⊎ (((next : Tally) × IfSome (held plan) (λ bytes. with_plan no_tally (plan_reading bytes) ≡ Ok next))
    × ((input : Input) × (tally : Tally) × IsBehind input × MayRefuse input tally refusal))

first_or_behind : (held : Holds) (plan : List ℕ) (inputs : List Input) (refusal : Status) (before : List Input)
    (input : Input) (after : List Input) (tally : Tally) → AreBehind inputs →
    PlanFile plan ∷ inputs ≡ before ++ input ∷ after → HavePassed held before no_tally tally →
    MayRefuse input tally refusal → IfSome (held (name_of input)) (λ b. reading_of input tally b ≡ Err refusal) →
    FirstOrBehind held plan refusal
first_or_behind held plan inputs refusal [] input after tally behind e passed may gives =
    let q : PlanFile plan ∷ inputs ≡ input ∷ after = e in
    let same : input ≡ PlanFile plan = cc in
    let at : IfSome (held plan) (λ b. reading_of (PlanFile plan) tally b ≡ Err refusal) =
    subst (λ (i : Input). IfSome (held (name_of i)) (λ b. reading_of i tally b ≡ Err refusal)) same gives in
    inl (subst (λ (t : Tally). IfSome (held plan) (λ b. with_plan t (plan_reading b) ≡ Err refusal)) (sym passed) at)
first_or_behind held plan inputs refusal (other ∷ before) input after tally behind e passed may gives =
    let q : PlanFile plan ∷ inputs ≡ other ∷ (before ++ input ∷ after) = e in
    let same : other ≡ PlanFile plan = cc in
    let rest : inputs ≡ before ++ input ∷ after = cc in
    let there : IfSome (held plan) (λ b. reading_of (PlanFile plan) no_tally b ≡ Ok passed.0) =
    subst (λ (i : Input). IfSome (held (name_of i)) (λ b. reading_of i no_tally b ≡ Ok passed.0)) same passed.1 in
    let at : IsBehind input = one_behind before input after (subst AreBehind rest behind) in
    inr ((passed.0, there), (input, tally, at, may))

refused_so : (held : Holds) (plan : List ℕ) (inputs : List Input) (refusal : Status) → AreBehind inputs →
    IsRefused held (PlanFile plan ∷ inputs) refusal → FirstOrBehind held plan refusal
refused_so held plan inputs refusal behind is =
    first_or_behind held plan inputs refusal is.reached.before is.input is.reached.after is.tally behind
    is.reached.are is.reached.passed is.may is.gives

-- no count rose that stays
below_self : (a b : Faults) (call : Call) (name : List ℕ) → b ≡ a → Rose call name a b → ⊥
below_self a b call name still rose =
    let same : b call name ≡ a call name = ap (λ (f : Faults). f call name) still in
    let less : a call name < b call name = rose in
    omega arith

-- How a command ended that reads a plan first, for what it reads as.
module _ (command : Command) (plan : List ℕ) (inputs : List Input) (are : inputs_of command ≡ PlanFile plan ∷ inputs)
    (behind : AreBehind inputs) (ended : Status) (a b : Faults) (held holds : Holds) (bytes : List ℕ) where
  -- it was refused, or passed
  refuses_first : Ended command ended a b held holds → kind_of ended ≡ Refusing → FirstOrBehind held plan ended
  refuses_first all e =
      refused_so held plan inputs ended behind
      (subst (λ (is : List Input). IsRefused held is ended) are (all.reached e))

  passes_first : Ended command ended a b held holds → HasRead (kind_of ended) →
      AllPassed held (PlanFile plan ∷ inputs)
  passes_first all read = subst (λ (is : List Input). AllPassed held is) are (all.passed read)

  -- a plan that passes has no refusal
  passes_so : (read : PlainPlan) → held plan ≡ Some bytes → plan_reading bytes ≡ Ok read →
      FirstOrBehind held plan ended → ¬ IsOfPlan ended
  passes_so read is reads (inl refused) plans =
      let e : with_plan no_tally (plan_reading bytes) ≡ Err ended =
      told (λ x. with_plan no_tally (plan_reading x) ≡ Err ended) (held plan) bytes is refused in
      let ok : with_plan no_tally (plan_reading bytes) ≡ Ok no_tally = ap (with_plan no_tally) reads in
      cc
  passes_so read is reads (inr later) plans =
      not_of_plan later.1.1 ended later.1.0 later.1.2 later.1.3 plans

  of_plan_refuses : IsOfPlan ended → kind_of ended ≡ Refusing
  of_plan_refuses (inl own) = ap kind_of own.1
  of_plan_refuses (inr limit) = ap kind_of limit.1

  -- a plan that is refused didn't pass
  not_passed : (refusal : Status) (next : Tally) → held plan ≡ Some bytes → plan_reading bytes ≡ Err refusal →
      IfSome (held plan) (λ x. with_plan no_tally (plan_reading x) ≡ Ok next) → ⊥
  not_passed refusal next is reads passed =
      let e : with_plan no_tally (plan_reading bytes) ≡ Ok next =
      told (λ x. with_plan no_tally (plan_reading x) ≡ Ok next) (held plan) bytes is passed in
      let bad : with_plan no_tally (plan_reading bytes) ≡ Err refusal = ap (with_plan no_tally) reads in
      cc

  refuses_so : (refusal : Status) → held plan ≡ Some bytes → plan_reading bytes ≡ Err refusal →
      FirstOrBehind held plan ended → ended ≡ refusal
  refuses_so refusal is reads (inl refused) =
      let e : with_plan no_tally (plan_reading bytes) ≡ Err ended =
      told (λ x. with_plan no_tally (plan_reading x) ≡ Err ended) (held plan) bytes is refused in
      let bad : with_plan no_tally (plan_reading bytes) ≡ Err refusal = ap (with_plan no_tally) reads in
      cc
  refuses_so refusal is reads (inr later) = absurd (not_passed refusal later.0.0 is reads later.0.1)

  -- a command that read all passed its plan
  not_read : (refusal : Status) → Ended command ended a b held holds → HasRead (kind_of ended) →
      held plan ≡ Some bytes → plan_reading bytes ≡ Err refusal → ⊥
  not_read refusal all read is reads =
      let passed = (passes_first all read).passed in
      not_passed refusal passed.0 is reads passed.1

  -- by kinds
  by_kind : (refusal : Status) (kind : Kind) → kind_of ended ≡ kind → Ended command ended a b held holds →
      held plan ≡ Some bytes → plan_reading bytes ≡ Err refusal → FollowsPlan ended (Err refusal)
  by_kind refusal Whole e all is reads = absurd (not_read refusal all (has_read_at ended Whole e tt) is reads)
  by_kind refusal Formless e all is reads = absurd (all.not_usage (formless_is ended e))
  by_kind refusal Refusing e all is reads = inl (refuses_so refusal is reads (refuses_first all e))
  by_kind refusal Broken e all is reads = absurd (not_read refusal all (has_read_at ended Broken e tt) is reads)
  by_kind refusal Unread e all is reads = inr (inl (unread_is ended e))
  by_kind refusal Unwritten e all is reads =
      absurd (not_read refusal all (has_read_at ended Unwritten e tt) is reads)
  by_kind refusal Wanting e all is reads = inr (inr (wanting_is ended e))

  by_reading : (read : Result PlainPlan Status) → plan_reading bytes ≡ read →
      Ended command ended a b held holds → held plan ≡ Some bytes → FollowsPlan ended read
  by_reading (Ok read) reads all is = λ plans.
      passes_so read is reads (refuses_first all (of_plan_refuses plans)) plans
  by_reading (Err refusal) reads all is = by_kind refusal (kind_of ended) refl all is reads

-- of a command that reads a plan and captures alone
follows_run : (command : Command) (words : PlanWords) → inputs_of command ≡ run_inputs words → (ended : Status)
    (a b : Faults) (held holds : Holds) (plan bytes : List ℕ) → Ended command ended a b held holds →
    plan ≡ words.plan → held plan ≡ Some bytes → FollowsPlan ended (plan_reading bytes)
follows_run command words reads ended a b held holds plan bytes all same is =
    by_reading command words.plan (captures_in words.captures) reads (captures_behind words.captures)
    ended a b held holds bytes (plan_reading bytes) refl all
    (subst (λ (name : List ℕ). held name ≡ Some bytes) same is)

-- what is refused for a plan follows from its bytes
pub follows_plan : (command : Command) (ended : Status) (a b : Faults) (held holds : Holds) (plan bytes : List ℕ) →
    Ended command ended a b held holds → IsPlanOfCommand command plan → held plan ≡ Some bytes →
    FollowsPlan ended (plan_reading bytes)
follows_plan (Run words) ended a b held holds plan bytes all same is =
    follows_run (Run words) words refl ended a b held holds plan bytes all same is
follows_plan (Step words) ended a b held holds plan bytes all same is =
    follows_run (Step words) words refl ended a b held holds plan bytes all same is
follows_plan (Check words) ended a b held holds plan bytes all same is =
    let captures : List Input = captures_in words.captures in
    let outputs : List (List ℕ) = capture_names words.out 0 words.captures in
    by_reading (Check words) words.plan (captures ++ products_by words.out words.captures) refl
    (both_behind captures (products_by words.out words.captures) (captures_behind words.captures)
    (tt, (tt, outputs_behind outputs)))
    ended a b held holds bytes (plan_reading bytes) refl all
    (subst (λ (name : List ℕ). held name ≡ Some bytes) same is)
follows_plan (Box words) ended a b held holds plan bytes all same is =
    let captures : List Input = captures_in words.captures in
    by_reading (Box words) words.plan (captures ++ journal_file words.out ∷ []) refl
    (both_behind captures (journal_file words.out ∷ []) (captures_behind words.captures) (tt, tt))
    ended a b held holds bytes (plan_reading bytes) refl all
    (subst (λ (name : List ℕ). held name ≡ Some bytes) same is)
follows_plan (Load words) ended a b held holds plan bytes all none is = absurd none

-- no refusal carries want of memory
pub carries_none : (command : Command) (ended : Status) (a b : Faults) (held holds : Holds) →
    Ended command ended a b held holds →
    (ended ≢ status.PlanBad PlanNoMemory) × ((lane : ℕ) → ended ≢ status.CaptureBad lane PcapNoMemory)
carries_none command ended a b held holds all = (
  λ e.
      let is = all.reached (ap kind_of e) in
      plan_carries is.input is.tally (subst (λ (s : Status). MayRefuse is.input is.tally s) e is.may),
  λ lane e.
      let is = all.reached (ap kind_of e) in
      capture_carries is.input is.tally lane (subst (λ (s : Status). MayRefuse is.input is.tally s) e is.may),
)

-- a command that did all, one to which memory was wanting, and one that named a rule
did_all : (command : Command) (ended : Status) (held holds : Holds) → kind_of ended ≡ Whole →
    WroteAll command ended held holds → IsComplete command ended
did_all (Run words) ended held holds e wrote = inl e
did_all (Step words) ended held holds e wrote = inl e
did_all (Check words) ended held holds e wrote = inl (inl wrote.0)
did_all (Box words) ended held holds e wrote = inl (inl wrote.0)
did_all (Load words) ended held holds e wrote = inl wrote.0

wanted_memory : (command : Command) (ended : Status) → ended ≡ status.NoMemory → IsComplete command ended
wanted_memory (Run words) ended e = inr e
wanted_memory (Step words) ended e = inr e
wanted_memory (Check words) ended e = inr e
wanted_memory (Box words) ended e = inr e
wanted_memory (Load words) ended e = inr e

named_rule : (command : Command) (ended : Status) (held : Holds) → WasBroken command ended held →
    IsComplete command ended
named_rule (Run words) ended held h = absurd h
named_rule (Step words) ended held h = absurd h
named_rule (Check words) ended held h = inl (inr (h.0, h.1))
named_rule (Box words) ended held h = inl (inr (h.0, h.1))
named_rule (Load words) ended held h = absurd h

-- Where no call met a fault and no input is refused the command does all, unless memory is wanting.
module _ (command : Command) (ended : Status) (a b : Faults) (held holds : Holds) (bytes : List (List ℕ)) where
  completes_by : (kind : Kind) → kind_of ended ≡ kind → Ended command ended a b held holds →
      AreHeld held (input_names command) bytes → first_refusal (inputs_of command) no_tally bytes ≡ None → b ≡ a →
      IsComplete command ended
  completes_by Whole e all are none still = did_all command ended held holds e (all.written e)
  completes_by Formless e all are none still = absurd (all.not_usage (formless_is ended e))
  completes_by Refusing e all are none still =
      let some : first_refusal (inputs_of command) no_tally bytes ≡ Some ended =
      first_of held (inputs_of command) ended bytes (all.reached e) are in
      cc
  completes_by Broken e all are none still = named_rule command ended held (all.broken e)
  completes_by Unread e all are none still =
      let rose = (all.read_fault (unread_is ended e)).rose in absurd (below_self a b _ _ still rose)
  completes_by Unwritten e all are none still =
      let rose = all.write_fault (unwritten_is ended e) in
      elim (rose.2) [
        | inl begins ↦ absurd (below_self a b _ _ still begins)
        | inr appends ↦ absurd
            (below_self a b _ _ still appends)
      ]
  completes_by Wanting e all are none still = wanted_memory command ended (wanting_is ended e)

  pub completes : Ended command ended a b held holds → AreHeld held (input_names command) bytes →
      first_refusal (inputs_of command) no_tally bytes ≡ None → b ≡ a → IsComplete command ended
  completes all are none still = completes_by (kind_of ended) refl all are none still
