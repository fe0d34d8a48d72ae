-- The plan and then the captures are read.
use Rattle.std.proofs.Common.{◌≡◌, inl, inr, ℕ, Option, List, [], ◌∷◌, map, refl, ap, subst}
use Rattle.std.specs.Prelude.{Ok, Err, IfSome}
use Rattle.slnf_shelf.specs.declared.shelf.Call.{Call}
use Rattle.slnf_shelf.specs.declared.shelf.Call.TheVariants.{Read, Begin, Append}
use Rattle.slnf_shelf.specs.Shelf.{Faults, Moves, Only, Rose, SameFiles}
use Rattle.slnf_shelf.proofs.Laws.{Moves-then, Moves-wider, Rose-after}
use Rattle.slnf_plan.specs.declared.plan.Plan.{Plan}
use Rattle.slnf_top.specs.declared.statuses.Status.{Status}
use Rattle.slnf_check.specs.declared.given.Given.{Given}
use Rattle.slnf_top.specs.declared.inputs.Captures.{Captures}
use Rattle.slnf_top.specs.declared.inputs.Tally.{Tally}
use Rattle.slnf_top.specs.Readings.{Input, PlanFile, captures_in, name_of, reading_of, no_tally}
use Rattle.slnf_top.specs.Reached.{Holds, HavePassed, IsReached, IsUnread, IsRefused}
use Rattle.slnf_top.specs.Effects.{ReadsOf}
use Rattle.slnf_top.specs.Inputs.{IsPlanOf, AreTold, AreCaptures, AreInputs}
use Rattle.slnf_top.specs.Refused.{Refuses, RefusesOne, RefusesInputs}
use Rattle.slnf_top.proofs.Passing.{told_weaker, refuses_weaker, plan_passed}

-- a read of the plan is one of the inputs, and so is one of a capture
plan_reads : (plan : List ℕ) (names : List (List ℕ)) (call : Call) (name : List ℕ) →
    Only Read plan call name → ReadsOf (plan ∷ names) call name
plan_reads plan names Read name h = inl h.1
plan_reads plan names Begin name h = let e : Begin ≡ Read = h.0 in cc
plan_reads plan names Append name h = let e : Append ≡ Read = h.0 in cc

capture_reads : (plan : List ℕ) (names : List (List ℕ)) (call : Call) (name : List ℕ) →
    ReadsOf names call name → ReadsOf (plan ∷ names) call name
capture_reads plan names Read name h = inr h
capture_reads plan names Begin name h = h
capture_reads plan names Append name h = h

pub plan_moves : (plan : List ℕ) (names : List (List ℕ)) (a b : Faults) →
    Moves (Only Read plan) a b → Moves (ReadsOf (plan ∷ names)) a b
plan_moves plan names a b moved =
    Moves-wider (Only Read plan) (ReadsOf (plan ∷ names)) a b (plan_reads plan names) moved

pub both_move : (plan : List ℕ) (names : List (List ℕ)) (a b c : Faults) → Moves (Only Read plan) a b →
    Moves (ReadsOf names) b c → Moves (ReadsOf (plan ∷ names)) a c
both_move plan names a b c moved more =
    Moves-then (ReadsOf (plan ∷ names)) a b c (plan_moves plan names a b moved)
    (Moves-wider (ReadsOf names) (ReadsOf (plan ∷ names)) b c (capture_reads plan names) more)

-- the plan was refused
pub refused_plan : (plan : List ℕ) (names : List (List ℕ)) (a b : Faults) (held : Holds) (ended : Status) →
    Refuses (Rose Read plan a b) (RefusesOne (PlanFile plan) no_tally (held plan)) ended →
    RefusesInputs held (PlanFile plan ∷ captures_in names) a b ended
refused_plan plan names a b held ended h =
    let at : IsReached held (PlanFile plan ∷ captures_in names) (PlanFile plan) no_tally =
    record { before = []; after = captures_in names; are = refl; passed = refl } in
    refuses_weaker (Rose Read plan a b) (IsUnread held (PlanFile plan ∷ captures_in names) a b)
    (RefusesOne (PlanFile plan) no_tally (held plan)) (IsRefused held (PlanFile plan ∷ captures_in names)) ended
    (λ rose. record { input = PlanFile plan; tally = no_tally; reached = at; rose = rose })
    (λ one. record { input = PlanFile plan; tally = no_tally; reached = at; may = one.0; gives = one.1 })
    h

-- what passed by what was held later passed by what was held before
pub passed_earlier : (held middle : Holds) (inputs : List Input) (first last : Tally) → SameFiles held middle →
    HavePassed middle inputs first last → HavePassed held inputs first last
passed_earlier held middle [] first last same p = p
passed_earlier held middle (input ∷ inputs) first last same p = (
  p.0,
  subst (λ (o : Option (List ℕ)). IfSome o (λ bytes. reading_of input first bytes ≡ Ok p.0)) (same (name_of input))
      p.1,
  passed_earlier held middle inputs p.0 last same p.2,
)

-- the plan passes where it is read
plan_passes : (plan : List ℕ) (held : Holds) (read : Plan) → IfSome (held plan) (IsPlanOf read) →
    IfSome (held plan) (λ bytes. reading_of (PlanFile plan) no_tally bytes ≡ Ok no_tally)
plan_passes plan held read is =
    told_weaker (IsPlanOf read) (λ bytes. reading_of (PlanFile plan) no_tally bytes ≡ Ok no_tally) (held plan)
    (λ bytes spelled. plan_passed plan bytes read no_tally spelled) is

-- a capture behind the plan
reached_behind : (plan : List ℕ) (inputs : List Input) (input : Input) (tally : Tally) (held middle : Holds)
    (read : Plan) →
    SameFiles held middle → IfSome (held plan) (IsPlanOf read) → IsReached middle inputs input tally →
    IsReached held (PlanFile plan ∷ inputs) input tally
reached_behind plan inputs input tally held middle read same is at = record {
  before = PlanFile plan ∷ at.before;
  after = at.after;
  are = ap (λ (rest : List Input). PlanFile plan ∷ rest) at.are;
  passed =
      (no_tally, plan_passes plan held read is, passed_earlier held middle at.before no_tally tally same at.passed);
}

-- a capture was refused
pub refused_behind : (plan : List ℕ) (names : List (List ℕ)) (a b c : Faults) (held middle : Holds) (read : Plan)
    (ended : Status) →
    Moves (Only Read plan) a b → SameFiles held middle → IfSome (held plan) (IsPlanOf read) →
    RefusesInputs middle (captures_in names) b c ended →
    RefusesInputs held (PlanFile plan ∷ captures_in names) a c ended
refused_behind plan names a b c held middle read ended moved same is h =
    refuses_weaker (IsUnread middle (captures_in names) b c) (IsUnread held (PlanFile plan ∷ captures_in names) a c)
    (IsRefused middle (captures_in names)) (IsRefused held (PlanFile plan ∷ captures_in names)) ended
    (λ unread. record {
      input = unread.input;
      tally = unread.tally;
      reached =
          reached_behind plan (captures_in names) unread.input unread.tally held middle read same is unread.reached;
      rose = Rose-after (Only Read plan) Read (name_of unread.input) a b c moved unread.rose;
    })
    (λ refused. record {
      input = refused.input;
      tally = refused.tally;
      reached =
          reached_behind plan (captures_in names) refused.input refused.tally held middle read same is
          refused.reached;
      may = refused.may;
      gives =
          subst (λ (o : Option (List ℕ)). IfSome o (λ bytes. reading_of refused.input refused.tally bytes ≡ Err
          ended)) (same (name_of refused.input)) refused.gives;
    })
    h

-- what was told later was told before
told_earlier : (held middle : Holds) (names : List (List ℕ)) (given : List Given) → SameFiles held middle →
    AreTold (map middle names) given → AreTold (map held names) given
told_earlier held middle [] [] same h = h
told_earlier held middle [] (g ∷ given) same h = h
told_earlier held middle (name ∷ names) [] same h = h
told_earlier held middle (name ∷ names) (g ∷ given) same h = (
  subst (λ (o : Option (List ℕ)). IfSome o (λ bytes. g.bytes ≡ bytes)) (same name) h.0,
  told_earlier held middle names given same h.1,
)

-- all was read
pub all_read : (plan : List ℕ) (names : List (List ℕ)) (held middle : Holds) (read : Plan) (captures : Captures) →
    SameFiles held middle → IfSome (held plan) (IsPlanOf read) → AreCaptures middle names captures →
    AreInputs plan names held (record { plan = read; captures = captures })
all_read plan names held middle read captures same is are = record {
  is_plan = is;
  are_told = told_earlier held middle names captures.given same are.told;
  are_read = are.read;
  tally = are.tally;
  passed = (
    no_tally,
    plan_passes plan held read is,
    passed_earlier held middle (captures_in names)
        no_tally captures.tally same are.passed,
  );
}
