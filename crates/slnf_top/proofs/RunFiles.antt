-- Files that a run made are read.
use Rattle.std.proofs.Common.{◌≡◌, inl, ℕ, ◌+◌, ◌<◌, ◌≤◌, Bool, cond, Option, List, [], ◌∷◌, ◌++◌, length, map, drop, refl, ap, sym, ◌∙◌, subst, arith, append_assoc}
use Rattle.std.specs.Prelude.{Result, Ok, Err, OnOk, IfOk, IfErr, IfSome}
use Rattle.std.proofs.lemmas.Bool.{le-leb, lt-leb}
use Rattle.std.proofs.lemmas.List.{append-nil, drop_more, drop_all}
use Rattle.slnf_shelf.specs.declared.shelf.Call.{Call}
use Rattle.slnf_shelf.specs.declared.shelf.Call.TheVariants.{Read, Begin, Append}
use Rattle.slnf_shelf.specs.Shelf.{Faults, Moves, Only, Rose, SameFiles}
use Rattle.slnf_shelf.proofs.Laws.{Moves-wider}
use Rattle.slnf_check.specs.declared.given.RunFiles.{RunFiles}
use Rattle.slnf_top.specs.declared.statuses.Status.{Status}
use Rattle.slnf_top.specs.declared.statuses.Status.TheVariants as status
use Rattle.slnf_top.specs.declared.inputs.Tally.{Tally}
use Rattle.slnf_top.specs.declared.products.Product.{Product}
use Rattle.slnf_top.specs.declared.products.Product.TheVariants.{Output}
use Rattle.slnf_top.specs.Names.{capture_name, capture_names, verdicts_name, journal_name}
use Rattle.slnf_top.specs.Readings.{Input, ProductFile, name_of, outputs_in, limit_of, most_of, product_reading, no_tally}
use Rattle.slnf_top.specs.Reached.{Holds, IsReachedFrom, IsUnreadFrom, IsRefusedFrom}
use Rattle.slnf_top.specs.Effects.{ReadsOf}
use Rattle.slnf_top.specs.Inputs.{AreTexts}
use Rattle.slnf_top.specs.Refused.{Refuses, StaysUnless, IsOver}
use Rattle.slnf_top.specs.Reads.{names_of, WerePassed, WereStopped, AreFilesOf}
use Rattle.slnf_top.proofs.Passing.{told_weaker, refuses_weaker}
use Rattle.slnf_top.proofs.Behind.{read_nothing, wanting_then, both_passed, stopped_front, stopped_back}

-- the read of one input
one_read : (input : Input) (call : Call) (name : List ℕ) → Only Read (name_of input) call name →
    ReadsOf (names_of (input ∷ [])) call name
one_read input Read name h = inl h.1
one_read input Begin name h = let e : Begin ≡ Read = h.0 in cc
one_read input Append name h = let e : Append ≡ Read = h.0 in cc

-- what a run made, within its limit and over it
within_product : (product : Product) (tally : Tally) (bytes : List ℕ) → length bytes ≤ most_of product →
    product_reading product tally bytes ≡ Ok tally
within_product product tally bytes within =
    ap (λ (b : Bool). cond b (Ok tally) (Err (status.OverLimit (limit_of product) (most_of product + 1))))
    (le-leb _ _ within)

over_product : (product : Product) (tally : Tally) (bytes : List ℕ) → most_of product < length bytes →
    product_reading product tally bytes ≡ Err (status.OverLimit (limit_of product) (most_of product + 1))
over_product product tally bytes over =
    ap (λ (b : Bool). cond b (Ok tally) (Err (status.OverLimit (limit_of product) (most_of product + 1))))
    (lt-leb _ _ over)

err_is : (s t : Status) → s ≡ t → let one : Result Tally Status = Err s in one ≡ Err t
err_is s t e = ap Err e

module _ (product : Product) (name : List ℕ) (a b : Faults) (held holds : Holds) where
  abbrev it : Input
  it = ProductFile product name

  it_moves : Moves (Only Read name) a b → Moves (ReadsOf (names_of (it ∷ []))) a b
  it_moves counts = Moves-wider (Only Read name) (ReadsOf (names_of (it ∷ []))) a b (one_read it) counts

  at_it : (tally : Tally) → IsReachedFrom tally held (it ∷ []) it tally
  at_it tally = record { before = []; after = []; are = refl; passed = refl }

  product_passed : (bytes : List ℕ) → Moves (Only Read name) a b → b ≡ a → SameFiles held holds →
      length bytes ≤ most_of product → IfSome (held name) (λ h. bytes ≡ h) → WerePassed (it ∷ []) a b held holds
  product_passed bytes counts still same within there = λ tally.
      record {
        counts = it_moves counts;
        still = still;
        same = same;
        passed = (
          tally,
          told_weaker (λ h. bytes ≡ h) (λ h. product_reading product tally h ≡ Ok tally) (held name)
              (λ h e. subst (λ (x : List ℕ). product_reading product tally x ≡ Ok tally) e
              (within_product product tally bytes within)) there,
          refl,
        );
      }

  product_stopped : (ended : Status) → Moves (Only Read name) a b → StaysUnless status.ReadFault a b ended →
      SameFiles held holds →
      Refuses (Rose Read name a b) (IsOver (limit_of product) (most_of product) (held name)) ended →
      WereStopped (it ∷ []) a b held holds ended
  product_stopped ended counts still same refused = λ tally.
      record {
        counts = it_moves counts;
        still = still;
        same = same;
        refused =
            refuses_weaker (Rose Read name a b) (IsUnreadFrom tally held (it ∷ []) a b)
            (IsOver (limit_of product) (most_of product) (held name)) (IsRefusedFrom tally held (it ∷ [])) ended
            (λ rose. record { input = it; tally = tally; reached = at_it tally; rose = rose })
            (λ over. record {
              input = it;
              tally = tally;
              reached = at_it tally;
              may = over.0;
              gives =
                  told_weaker (λ h. most_of product < length h) (λ h. product_reading product tally h ≡ Err ended)
                  (held name)
                  (λ h more. over_product product tally h more ∙ err_is _ ended (sym over.0)) over.1;
            })
            refused;
      }

  pub product_if_ok : (r : Result (List ℕ) Status) → Moves (Only Read name) a b → OnOk r (b ≡ a) →
      SameFiles held holds → IfOk r (λ bytes. length bytes ≤ most_of product) →
      IfOk r (λ bytes. IfSome (held name) (λ h. bytes ≡ h)) → OnOk r (WerePassed (it ∷ []) a b held holds)
  product_if_ok (Ok bytes) counts still same within there = product_passed bytes counts still same within there
  product_if_ok (Err e) counts still same within there = tt

  pub product_if_err : (r : Result (List ℕ) Status) → Moves (Only Read name) a b →
      IfErr r (StaysUnless status.ReadFault a b) → SameFiles held holds →
      IfErr r (Refuses (Rose Read name a b) (IsOver (limit_of product) (most_of product) (held name))) →
      IfErr r (WereStopped (it ∷ []) a b held holds)
  product_if_err (Ok bytes) counts still same refused = tt
  product_if_err (Err e) counts still same refused = product_stopped e counts still same refused

-- output captures by their names
outputs_append : (xs ys : List (List ℕ)) → outputs_in (xs ++ ys) ≡ outputs_in xs ++ outputs_in ys
outputs_append [] ys = refl
outputs_append (x ∷ xs) ys = ap (λ (rest : List Input). ProductFile Output x ∷ rest) (outputs_append xs ys)

-- How far the reading of outputs has come: those of these names are left.
pub record OutputsSoFar (a b : Faults) (held holds : Holds) (names rest texts : List (List ℕ)) : Type 0 where
  pub done : List (List ℕ)
  pub split : names ≡ done ++ rest
  pub passed : WerePassed (outputs_in done) a b held holds
  pub told : (more : List (List ℕ)) → AreTexts (map held rest) more → AreTexts (map held names) (texts ++ more)

pub outputs_start : (a : Faults) (held : Holds) (names texts : List (List ℕ)) → texts ≡ [] →
    OutputsSoFar a a held held names names texts
outputs_start a held names texts none = record {
  done = [];
  split = refl;
  passed = read_nothing a held;
  told = λ more t. subst (λ (ts : List (List ℕ)). AreTexts (map held names) (ts ++ more)) (sym none) t;
}

module _ (a b c : Faults) (held half holds : Holds) (names rest texts : List (List ℕ)) (name : List ℕ)
    (far : OutputsSoFar a b held half names (name ∷ rest) texts) where
  abbrev one : Input
  one = ProductFile Output name

  all_outputs : outputs_in names ≡ outputs_in far.done ++ (one ∷ outputs_in rest)
  all_outputs = ap outputs_in far.split ∙ outputs_append far.done (name ∷ rest)

  -- one wasn't read
  pub outputs_stopped : (ended : Status) → WereStopped (one ∷ []) b c half holds ended →
      WereStopped (outputs_in names) a c held holds ended
  outputs_stopped ended r =
      subst (λ (is : List Input). WereStopped is a c held holds ended) (sym all_outputs)
      (stopped_back (outputs_in far.done) (one ∷ outputs_in rest) a b c held half holds ended far.passed
      (stopped_front (one ∷ []) (outputs_in rest) b c half holds ended r))

  -- one was read, and memory was wanting
  pub outputs_wanting : WerePassed (one ∷ []) b c half holds →
      WereStopped (outputs_in names) a c held holds status.NoMemory
  outputs_wanting p = outputs_stopped status.NoMemory (wanting_then (one ∷ []) b c half holds p)

  -- one was read
  pub outputs_next : (text : List ℕ) (after : List (List ℕ)) → WerePassed (one ∷ []) b c half holds →
      IfSome (half name) (λ h. text ≡ h) → after ≡ texts ++ text ∷ [] → OutputsSoFar a c held holds names rest after
  outputs_next text after p there pushed =
      let before : IfSome (held name) (λ h. text ≡ h) =
      subst (λ (o : Option (List ℕ)). IfSome o (λ h. text ≡ h)) ((far.passed no_tally).same name) there in
      record {
        done = far.done ++ name ∷ [];
        split = far.split ∙ sym (append_assoc far.done (name ∷ []) rest);
        passed =
            subst (λ (is : List Input). WerePassed is a c held holds) (sym (outputs_append far.done (name ∷ [])))
            (both_passed (outputs_in far.done) (one ∷ []) a b c held half holds far.passed p);
        told =
            λ more t. subst (AreTexts (map held names))
            (sym (ap (λ (xs : List (List ℕ)). xs ++ more) pushed ∙ append_assoc texts (text ∷ []) more))
            (far.told (text ∷ more) (before, t));
      }

-- the names of the outputs of a lane and those behind it
names_next : (out : List ℕ) (captures : List (List ℕ)) (lane : ℕ) → lane < length captures →
    capture_names out lane (drop lane captures)
    ≡ capture_name out lane ∷ capture_names out (lane + 1) (drop (lane + 1) captures)
names_next out captures lane within = ap (capture_names out lane) (drop_more captures lane [] within)

module _ (a b : Faults) (held holds : Holds) (out : List ℕ) (captures texts : List (List ℕ)) (lane : ℕ) where
  abbrev pub FromLane : Type 0
  FromLane =
      OutputsSoFar a b held holds (capture_names out 0 captures) (capture_names out lane (drop lane captures)) texts

  pub at_lane : lane < length captures → FromLane →
      OutputsSoFar a b held holds (capture_names out 0 captures)
      (capture_name out lane ∷ capture_names out (lane + 1) (drop (lane + 1) captures)) texts
  at_lane within far =
      subst (λ (rest : List (List ℕ)). OutputsSoFar a b held holds (capture_names out 0 captures) rest texts)
      (names_next out captures lane within) far

  -- all were read
  last_lane : length captures ≤ lane → FromLane →
      OutputsSoFar a b held holds (capture_names out 0 captures) [] texts
  last_lane over far =
      subst (λ (rest : List (List ℕ)). OutputsSoFar a b held holds (capture_names out 0 captures) rest texts)
      (ap (capture_names out lane) (drop_all lane captures over)) far

  pub outputs_passed : length captures ≤ lane → FromLane →
      WerePassed (outputs_in (capture_names out 0 captures)) a b held holds
  outputs_passed over far =
      let last = last_lane over far in
      subst (λ (ns : List (List ℕ)). WerePassed (outputs_in ns) a b held holds)
      (sym (last.split ∙ append-nil last.done)) last.passed

  pub outputs_told : (same : List (List ℕ)) → same ≡ texts → length captures ≤ lane → FromLane →
      AreTexts (map held (capture_names out 0 captures)) same
  outputs_told same is over far =
      let last = last_lane over far in
      subst (AreTexts (map held (capture_names out 0 captures))) (append-nil texts ∙ sym is) (last.told [] tt)

-- one more lane
module _ (a b c : Faults) (held half holds : Holds) (out : List ℕ) (captures texts : List (List ℕ)) (lane : ℕ)
    (within : lane < length captures) (far : FromLane a b held half out captures texts lane) where
  abbrev all_names : List (List ℕ)
  all_names = capture_names out 0 captures

  abbrev rest_names : List (List ℕ)
  rest_names = capture_names out (lane + 1) (drop (lane + 1) captures)

  abbrev this : List Input
  this = ProductFile Output (capture_name out lane) ∷ []

  pub stopped_in : (ended : Status) → WereStopped this b c half holds ended →
      WereStopped (outputs_in all_names) a c held holds ended
  stopped_in ended r =
      outputs_stopped a b c held half holds all_names rest_names texts (capture_name out lane)
      (at_lane a b held half out captures texts lane within far) ended r

  pub wanting_in : WerePassed this b c half holds →
      WereStopped (outputs_in all_names) a c held holds status.NoMemory
  wanting_in p =
      outputs_wanting a b c held half holds all_names rest_names texts (capture_name out lane)
      (at_lane a b held half out captures texts lane within far) p

  pub next_in : (text : List ℕ) (after : List (List ℕ)) → WerePassed this b c half holds →
      IfSome (half (capture_name out lane)) (λ h. text ≡ h) → after ≡ texts ++ text ∷ [] →
      FromLane a c held holds out captures after (lane + 1)
  next_in text after p there pushed =
      outputs_next a b c held half holds all_names rest_names texts (capture_name out lane)
      (at_lane a b held half out captures texts lane within far) text after p there pushed

-- texts that were told later were told before
texts_earlier : (held middle : Holds) (names texts : List (List ℕ)) → SameFiles held middle →
    AreTexts (map middle names) texts → AreTexts (map held names) texts
texts_earlier held middle [] [] same h = h
texts_earlier held middle [] (text ∷ texts) same h = h
texts_earlier held middle (name ∷ names) [] same h = h
texts_earlier held middle (name ∷ names) (text ∷ texts) same h = (
  subst (λ (o : Option (List ℕ)). IfSome o (λ bytes. text ≡ bytes)) (same name) h.0,
  texts_earlier held middle names texts same h.1,
)

text_earlier : (held middle : Holds) (name text : List ℕ) → SameFiles held middle →
    IfSome (middle name) (λ bytes. text ≡ bytes) → IfSome (held name) (λ bytes. text ≡ bytes)
text_earlier held middle name text same h =
    subst (λ (o : Option (List ℕ)). IfSome o (λ bytes. text ≡ bytes)) (same name) h

pub files_earlier : (out : List ℕ) (captures : List (List ℕ)) (held middle : Holds) (files : RunFiles) →
    SameFiles held middle → AreFilesOf out captures middle files → AreFilesOf out captures held files
files_earlier out captures held middle files same h = record {
  journal = text_earlier held middle (journal_name out) files.journal same h.journal;
  verdicts = text_earlier held middle (verdicts_name out) files.verdicts same h.verdicts;
  outputs = texts_earlier held middle (capture_names out 0 captures) files.outputs same h.outputs;
}

-- what was read held what it holds
pub passed_same : (inputs : List Input) (a b : Faults) (held holds : Holds) → WerePassed inputs a b held holds →
    SameFiles held holds
passed_same inputs a b held holds p = (p no_tally).same

-- all three kinds were told, one behind the other
pub files_told : (out : List ℕ) (captures : List (List ℕ)) (held half middle : Holds) (files : RunFiles) →
    SameFiles held half → SameFiles half middle →
    IfSome (held (journal_name out)) (λ bytes. files.journal ≡ bytes) →
    IfSome (half (verdicts_name out)) (λ bytes. files.verdicts ≡ bytes) →
    AreTexts (map middle (capture_names out 0 captures)) files.outputs → AreFilesOf out captures held files
files_told out captures held half middle files same then_same journal verdicts outputs = record {
  journal = journal;
  verdicts = text_earlier held half (verdicts_name out) files.verdicts same verdicts;
  outputs =
      texts_earlier held half (capture_names out 0 captures) files.outputs same
      (texts_earlier half middle (capture_names out 0 captures) files.outputs then_same outputs);
}

-- as many outputs as captures
names_length : (out : List ℕ) (lane : ℕ) (captures : List (List ℕ)) →
    length (capture_names out lane captures) ≡ length captures
names_length out lane [] = refl
names_length out lane (capture ∷ captures) =
    let q : length (capture_names out (lane + 1) captures) ≡ length captures =
    names_length out (lane + 1) captures in
    omega arith

texts_length : (held : Holds) (names texts : List (List ℕ)) → AreTexts (map held names) texts →
    length texts ≡ length names
texts_length held [] [] h = refl
texts_length held [] (text ∷ texts) h = absurd h
texts_length held (name ∷ names) [] h = absurd h
texts_length held (name ∷ names) (text ∷ texts) h =
    let q : length texts ≡ length names = texts_length held names texts h.1 in omega arith

pub outputs_count : (out : List ℕ) (captures : List (List ℕ)) (held : Holds) (files : RunFiles) →
    AreFilesOf out captures held files → length files.outputs ≡ length captures
outputs_count out captures held files h =
    texts_length held (capture_names out 0 captures) files.outputs h.outputs ∙ names_length out 0 captures
