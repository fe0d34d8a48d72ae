-- Inputs that are read behind others.
use Rattle.std.proofs.Common.{◌≡◌, inl, inr, ℕ, Option, List, [], ◌∷◌, ◌++◌, refl, ap, sym, ◌∙◌, subst, append_assoc}
use Rattle.std.specs.Prelude.{Err, IfSome}
use Rattle.slnf_shelf.specs.declared.shelf.Call.{Call}
use Rattle.slnf_shelf.specs.declared.shelf.Call.TheVariants.{Read, Begin, Append}
use Rattle.slnf_shelf.specs.Shelf.{Faults, Moves}
use Rattle.slnf_shelf.proofs.Laws.{Moves-still, Moves-then, Moves-wider, Rose-after}
use Rattle.slnf_top.specs.declared.statuses.Status.{Status}
use Rattle.slnf_top.specs.declared.statuses.Status.TheVariants as status
use Rattle.slnf_top.specs.declared.inputs.Tally.{Tally}
use Rattle.slnf_top.specs.Readings.{Input, name_of, reading_of}
use Rattle.slnf_top.specs.Reached.{Holds, IsReachedFrom, IsUnreadFrom, IsRefusedFrom}
use Rattle.slnf_top.specs.Effects.{IsAmong, ReadsOf}
use Rattle.slnf_top.specs.Reads.{names_of, WereRead, WereRefused, WerePassed, WereStopped}
use Rattle.slnf_top.proofs.Passing.{refuses_weaker}
use Rattle.slnf_top.proofs.Reading.{passed_then}
use Rattle.slnf_top.proofs.AllRead.{passed_earlier}

-- the name of one of some inputs is one of theirs and others'
among_front : (xs ys : List Input) (name : List ℕ) → IsAmong (names_of xs) name → IsAmong (names_of (xs ++ ys)) name
among_front [] ys name h = absurd h
among_front (x ∷ xs) ys name (inl e) = inl e
among_front (x ∷ xs) ys name (inr h) = inr (among_front xs ys name h)

among_back : (xs ys : List Input) (name : List ℕ) → IsAmong (names_of ys) name → IsAmong (names_of (xs ++ ys)) name
among_back [] ys name h = h
among_back (x ∷ xs) ys name h = inr (among_back xs ys name h)

reads_front : (xs ys : List Input) (call : Call) (name : List ℕ) → ReadsOf (names_of xs) call name →
    ReadsOf (names_of (xs ++ ys)) call name
reads_front xs ys Read name h = among_front xs ys name h
reads_front xs ys Begin name h = h
reads_front xs ys Append name h = h

reads_back : (xs ys : List Input) (call : Call) (name : List ℕ) → ReadsOf (names_of ys) call name →
    ReadsOf (names_of (xs ++ ys)) call name
reads_back xs ys Read name h = among_back xs ys name h
reads_back xs ys Begin name h = h
reads_back xs ys Append name h = h

front_moves : (xs ys : List Input) (a b : Faults) → Moves (ReadsOf (names_of xs)) a b →
    Moves (ReadsOf (names_of (xs ++ ys))) a b
front_moves xs ys a b moved =
    Moves-wider (ReadsOf (names_of xs)) (ReadsOf (names_of (xs ++ ys))) a b (reads_front xs ys) moved

both_move : (xs ys : List Input) (a b c : Faults) → Moves (ReadsOf (names_of xs)) a b →
    Moves (ReadsOf (names_of ys)) b c → Moves (ReadsOf (names_of (xs ++ ys))) a c
both_move xs ys a b c moved more =
    Moves-then (ReadsOf (names_of (xs ++ ys))) a b c (front_moves xs ys a b moved)
    (Moves-wider (ReadsOf (names_of ys)) (ReadsOf (names_of (xs ++ ys))) b c (reads_back xs ys) more)

-- an input among the first ones, and one among those behind
reached_front : (xs ys : List Input) (first : Tally) (held : Holds) (input : Input) (tally : Tally) →
    IsReachedFrom first held xs input tally → IsReachedFrom first held (xs ++ ys) input tally
reached_front xs ys first held input tally at = record {
  before = at.before;
  after = at.after ++ ys;
  are = ap (λ (zs : List Input). zs ++ ys) at.are ∙ append_assoc at.before (input ∷ at.after) ys;
  passed = at.passed;
}

module _ (xs ys : List Input) (first middle : Tally) (a b c : Faults) (held half holds : Holds)
    (p : WereRead xs first middle a b held half) where
  reached_back : (input : Input) (tally : Tally) → IsReachedFrom middle half ys input tally →
      IsReachedFrom first held (xs ++ ys) input tally
  reached_back input tally at = record {
    before = xs ++ at.before;
    after = at.after;
    are = ap (λ (zs : List Input). xs ++ zs) at.are ∙ sym (append_assoc xs at.before (input ∷ at.after));
    passed =
        passed_then held xs at.before first middle tally p.passed
        (passed_earlier held half at.before middle tally p.same at.passed);
  }

  -- those behind were read too
  pub read_then : (last : Tally) → WereRead ys middle last b c half holds →
      WereRead (xs ++ ys) first last a c held holds
  read_then last q = record {
    counts = both_move xs ys a b c p.counts q.counts;
    still = q.still ∙ p.still;
    same = λ name. q.same name ∙ p.same name;
    passed =
        passed_then held xs ys first middle last p.passed (passed_earlier held half ys middle last p.same q.passed);
  }

  -- one of those behind was refused
  pub refused_back : (ended : Status) → WereRefused ys middle b c half holds ended →
      WereRefused (xs ++ ys) first a c held holds ended
  refused_back ended r = record {
    counts = both_move xs ys a b c p.counts r.counts;
    still = λ not. r.still not ∙ p.still;
    same = λ name. r.same name ∙ p.same name;
    refused =
        refuses_weaker (IsUnreadFrom middle half ys b c) (IsUnreadFrom first held (xs ++ ys) a c)
        (IsRefusedFrom middle half ys) (IsRefusedFrom first held (xs ++ ys)) ended
        (λ unread. record {
          input = unread.input;
          tally = unread.tally;
          reached = reached_back unread.input unread.tally unread.reached;
          rose = Rose-after (ReadsOf (names_of xs)) Read (name_of unread.input) a b c p.counts unread.rose;
        })
        (λ refused. record {
          input = refused.input;
          tally = refused.tally;
          reached = reached_back refused.input refused.tally refused.reached;
          may = refused.may;
          gives =
              subst (λ (o : Option (List ℕ)). IfSome o (λ bytes. reading_of refused.input refused.tally bytes ≡ Err
              ended)) (p.same (name_of refused.input)) refused.gives;
        })
        r.refused;
  }

-- one of the first ones was refused
pub refused_front : (xs ys : List Input) (first : Tally) (a b : Faults) (held holds : Holds) (ended : Status) →
    WereRefused xs first a b held holds ended → WereRefused (xs ++ ys) first a b held holds ended
refused_front xs ys first a b held holds ended r = record {
  counts = front_moves xs ys a b r.counts;
  still = r.still;
  same = r.same;
  refused =
      refuses_weaker (IsUnreadFrom first held xs a b) (IsUnreadFrom first held (xs ++ ys) a b)
      (IsRefusedFrom first held xs) (IsRefusedFrom first held (xs ++ ys)) ended
      (λ unread. record {
        input = unread.input;
        tally = unread.tally;
        reached = reached_front xs ys first held unread.input unread.tally unread.reached;
        rose = unread.rose;
      })
      (λ refused. record {
        input = refused.input;
        tally = refused.tally;
        reached = reached_front xs ys first held refused.input refused.tally refused.reached;
        may = refused.may;
        gives = refused.gives;
      })
      r.refused;
}

-- nothing was read, and then memory was wanting
pub read_nothing : (a : Faults) (held : Holds) → WerePassed [] a a held held
read_nothing a held = λ tally.
    record { counts = Moves-still (ReadsOf []) a; still = refl; same = λ name. refl; passed = refl }

pub wanting_first : (inputs : List Input) (a : Faults) (held : Holds) →
    WereStopped inputs a a held held status.NoMemory
wanting_first inputs a held = λ tally.
    record {
      counts = Moves-still (ReadsOf (names_of inputs)) a;
      still = λ not. refl;
      same = λ name. refl;
      refused = tt;
    }

pub wanting_then : (inputs : List Input) (a b : Faults) (held holds : Holds) → WerePassed inputs a b held holds →
    WereStopped inputs a b held holds status.NoMemory
wanting_then inputs a b held holds p = λ tally.
    let r = p tally in record { counts = r.counts; still = λ not. r.still; same = r.same; refused = tt }

-- what run files were read, and what was refused of them, behind others of them
pub both_passed : (xs ys : List Input) (a b c : Faults) (held half holds : Holds) → WerePassed xs a b held half →
    WerePassed ys b c half holds → WerePassed (xs ++ ys) a c held holds
both_passed xs ys a b c held half holds p q = λ tally.
    read_then xs ys tally tally a b c held half holds (p tally) tally (q tally)

pub stopped_front : (xs ys : List Input) (a b : Faults) (held holds : Holds) (ended : Status) →
    WereStopped xs a b held holds ended → WereStopped (xs ++ ys) a b held holds ended
stopped_front xs ys a b held holds ended r = λ tally.
    refused_front xs ys tally a b held holds ended (r tally)

pub stopped_back : (xs ys : List Input) (a b c : Faults) (held half holds : Holds) (ended : Status) →
    WerePassed xs a b held half → WereStopped ys b c half holds ended → WereStopped (xs ++ ys) a c held holds ended
stopped_back xs ys a b c held half holds ended p r = λ tally.
    refused_back xs ys tally tally a b c held half holds (p tally) ended (r tally)
