-- Captures that are read one after another.
use Rattle.std.proofs.Common.{◌≡◌, inl, inr, ℕ, ◌+◌, ◌<◌, ◌≤◌, Option, List, [], ◌∷◌, ◌++◌, length, map, drop, get_or, refl, ap, sym, ◌∙◌, subst, arith, append_assoc, length-append}
use Rattle.std.specs.Prelude.{Ok, IfSome}
use Rattle.std.proofs.lemmas.List.{append-nil, drop_more, drop_all}
use Rattle.slnf_shelf.specs.declared.shelf.Call.{Call}
use Rattle.slnf_shelf.specs.declared.shelf.Call.TheVariants.{Read, Begin, Append}
use Rattle.slnf_shelf.specs.Shelf.{Faults, Moves, Only, Rose, SameFiles}
use Rattle.slnf_shelf.proofs.Laws.{Moves-still, Moves-then, Moves-wider, Rose-after}
use Rattle.slnf_flight.specs.declared.lanes.Lane.{Lane}
use Rattle.slnf_flight.specs.Lanes.{packet_count}
use Rattle.slnf_top.specs.declared.statuses.Status.{Status}
use Rattle.slnf_check.specs.declared.given.Given.{Given}
use Rattle.slnf_top.specs.declared.inputs.NextLane.{NextLane}
use Rattle.slnf_top.specs.declared.inputs.Tally.{Tally}
use Rattle.slnf_top.specs.Readings.{Input, CaptureFile, captures_in, capture_reading, no_tally}
use Rattle.slnf_top.specs.Reached.{Holds, HavePassed, IsReached, IsUnread, IsRefused}
use Rattle.slnf_top.specs.Effects.{IsAmong, ReadsOf}
use Rattle.slnf_check.specs.Given.{AreRead}
use Rattle.slnf_top.specs.Inputs.{AreTold, IsTally, IsNext, AreCaptures}
use Rattle.slnf_top.specs.Refused.{Refuses, RefusesOne, RefusesInputs}
use Rattle.slnf_top.proofs.Passing.{told_weaker, refuses_weaker}
use Rattle.slnf_top.proofs.Runs.{length_packets_of}

-- inputs that passed, and then others
pub passed_then : (held : Holds) (inputs others : List Input) (first middle last : Tally) →
    HavePassed held inputs first middle → HavePassed held others middle last →
    HavePassed held (inputs ++ others) first last
passed_then held [] others first middle last p q = subst (λ (t : Tally). HavePassed held others t last) (sym p) q
passed_then held (input ∷ inputs) others first middle last p q =
    (p.0, p.1, passed_then held inputs others p.0 middle last p.2 q)

-- captures by their names
pub captures_append : (names more : List (List ℕ)) →
    captures_in (names ++ more) ≡ captures_in names ++ captures_in more
captures_append [] more = refl
captures_append (name ∷ names) more = ap (λ (rest : List Input). CaptureFile name ∷ rest) (captures_append names more)

-- How far the reading has come: the captures of these names are left to read.
pub record ReadsSoFar (before now : Faults) (held holds : Holds) (names rest : List (List ℕ)) (given : List Given)
    (lanes : List Lane) (tally : Tally) : Type 0 where
  pub moves : Moves (ReadsOf names) before now
  pub still : now ≡ before
  pub files : SameFiles held holds
  pub done : List (List ℕ)
  pub split : names ≡ done ++ rest
  pub passed : HavePassed held (captures_in done) no_tally tally
  pub among : (name : List ℕ) → IsAmong rest name → IsAmong names name
  pub read : (gs : List Given) (ls : List Lane) → AreRead gs ls → AreRead (given ++ gs) (lanes ++ ls)
  pub told : (gs : List Given) → AreTold (map held rest) gs → AreTold (map held names) (given ++ gs)
  pub counted : IsTally tally lanes
  pub place : length lanes + length rest ≡ length names

pub reads_start : (before : Faults) (held : Holds) (names : List (List ℕ)) →
    ReadsSoFar before before held held names names [] [] no_tally
reads_start before held names = record {
  moves = Moves-still (ReadsOf names) before;
  still = refl;
  files = λ name. refl;
  done = [];
  split = refl;
  passed = refl;
  among = λ name n. n;
  read = λ gs ls r. r;
  told = λ gs t. t;
  counted = record { places = refl; bytes = omega arith; packets = refl; few = omega arith };
  place = omega arith;
}

-- the same where nothing was pushed yet
pub reads_begin : (before : Faults) (held : Holds) (names : List (List ℕ)) (given : List Given) (lanes : List Lane) →
    given ≡ [] → lanes ≡ [] → ReadsSoFar before before held held names names given lanes no_tally
reads_begin before held names given lanes no_capture no_lane =
    let front : ReadsSoFar before before held held names names given [] no_tally =
    subst (λ (gs : List Given). ReadsSoFar before before held held names names gs [] no_tally) (sym no_capture)
    (reads_start before held names) in
    subst (λ (ls : List Lane). ReadsSoFar before before held held names names given ls no_tally) (sym no_lane) front

-- the read of one is among those of all
one_of : (names rest : List (List ℕ)) (name : List ℕ) →
    ((other : List ℕ) → IsAmong (name ∷ rest) other → IsAmong names other) →
    (call : Call) (other : List ℕ) → Only Read name call other → ReadsOf names call other
one_of names rest name among Read other h = among other (inl h.1)
one_of names rest name among Begin other h = let e : Begin ≡ Read = h.0 in cc
one_of names rest name among Append other h = let e : Append ≡ Read = h.0 in cc

-- one more at the end
read_more : (given gs : List Given) (lanes ls : List Lane) (g : Given) (l : Lane) →
    AreRead (given ++ (g ∷ gs)) (lanes ++ (l ∷ ls)) → AreRead ((given ++ g ∷ []) ++ gs) ((lanes ++ l ∷ []) ++ ls)
read_more given gs lanes ls g l h =
    let front : AreRead ((given ++ g ∷ []) ++ gs) (lanes ++ (l ∷ ls)) =
    subst (λ (xs : List Given). AreRead xs (lanes ++ (l ∷ ls))) (sym (append_assoc given (g ∷ []) gs)) h in
    subst (λ (xs : List Lane). AreRead ((given ++ g ∷ []) ++ gs) xs) (sym (append_assoc lanes (l ∷ []) ls)) front

told_more : (told : List (Option (List ℕ))) (given gs : List Given) (g : Given) →
    AreTold told (given ++ (g ∷ gs)) → AreTold told ((given ++ g ∷ []) ++ gs)
told_more told given gs g h = subst (AreTold told) (sym (append_assoc given (g ∷ []) gs)) h

count_more : (lanes : List Lane) (lane : Lane) →
    packet_count (lanes ++ lane ∷ []) ≡ packet_count lanes + length lane.packets
count_more [] lane = omega arith
count_more (other ∷ lanes) lane =
    let q : packet_count (lanes ++ lane ∷ []) ≡ packet_count lanes + length lane.packets = count_more lanes lane in
    omega arith

tally_next : (tally : Tally) (lanes : List Lane) (next : NextLane) → IsTally tally lanes → IsNext tally next →
    IsTally next.tally (lanes ++ next.lane ∷ [])
tally_next tally lanes next is read =
    let place : next.tally.lanes ≡ tally.lanes + 1 = ap (λ (t : Tally). t.lanes) read.counted in
    let packets : next.tally.packets ≡ tally.packets + length next.given.capture.packets =
    ap (λ (t : Tally). t.packets) read.counted in
    let same : length next.lane.packets ≡ length next.given.capture.packets =
    ap length read.read.views ∙ length_packets_of next.given.bytes next.given.capture in
    let more : packet_count (lanes ++ next.lane ∷ []) ≡ packet_count lanes + length next.lane.packets =
    count_more lanes next.lane in
    let longer : length (lanes ++ next.lane ∷ []) ≡ length lanes + 1 = length-append lanes (next.lane ∷ []) in
    let lanes_are : tally.lanes ≡ length lanes = is.places in
    let packets_are : tally.packets ≡ packet_count lanes = is.packets in
    record { places = omega arith; bytes = read.bytes; packets = omega arith; few = read.packets }

module _ (before now after : Faults) (held holds : Holds) (names rest : List (List ℕ)) (name : List ℕ)
    (given : List Given) (lanes : List Lane) (tally : Tally) where
  pub moves_next : ReadsSoFar before now held holds names (name ∷ rest) given lanes tally →
      Moves (Only Read name) now after → Moves (ReadsOf names) before after
  moves_next far moved =
      Moves-then (ReadsOf names) before now after far.moves
      (Moves-wider (Only Read name) (ReadsOf names) now after (one_of names rest name far.among) moved)

  -- the reading has come to the next name
  reached_next : ReadsSoFar before now held holds names (name ∷ rest) given lanes tally →
      IsReached held (captures_in names) (CaptureFile name) tally
  reached_next far = record {
    before = captures_in far.done;
    after = captures_in rest;
    are = ap captures_in far.split ∙ captures_append far.done (name ∷ rest);
    passed = far.passed;
  }

  -- one capture was refused
  pub refused_next : (ended : Status) → ReadsSoFar before now held holds names (name ∷ rest) given lanes tally →
      Refuses (Rose Read name now after) (RefusesOne (CaptureFile name) tally (holds name)) ended →
      RefusesInputs held (captures_in names) before after ended
  refused_next ended far refused =
      refuses_weaker (Rose Read name now after) (IsUnread held (captures_in names) before after)
      (RefusesOne (CaptureFile name) tally (holds name)) (IsRefused held (captures_in names)) ended
      (λ rose. record {
        input = CaptureFile name;
        tally = tally;
        reached = reached_next far;
        rose = Rose-after (ReadsOf names) Read name before now after far.moves rose;
      })
      (λ one. record {
        input = CaptureFile name;
        tally = tally;
        reached = reached_next far;
        may = one.0;
        gives = (subst (λ (o : Option (List ℕ)). RefusesOne (CaptureFile name) tally o ended) (far.files name) one).1;
      })
      refused

  pub reads_next : (later : Holds) (next : NextLane) →
      ReadsSoFar before now held holds names (name ∷ rest) given lanes tally → Moves (Only Read name) now after →
      after ≡ now → SameFiles holds later → IfSome (holds name) (λ bytes. next.given.bytes ≡ bytes) →
      IsNext tally next →
      ReadsSoFar before after held later names rest (given ++ next.given ∷ []) (lanes ++ next.lane ∷ []) next.tally
  reads_next later next far moved same_faults same here read =
      let there : IfSome (held name) (λ bytes. next.given.bytes ≡ bytes) =
      subst (λ (o : Option (List ℕ)). IfSome o (λ bytes. next.given.bytes ≡ bytes)) (far.files name) here in
      let passed : IfSome (held name) (λ bytes. capture_reading tally bytes ≡ Ok next.tally) =
      told_weaker (λ bytes. next.given.bytes ≡ bytes) (λ bytes. capture_reading tally bytes ≡ Ok next.tally)
      (held name)
      (λ bytes e. subst (λ (b : List ℕ). capture_reading tally b ≡ Ok next.tally) e read.passed) there in
      let one : HavePassed held (captures_in (name ∷ [])) tally next.tally = (next.tally, passed, refl) in
      let both : HavePassed held (captures_in far.done ++ captures_in (name ∷ [])) no_tally next.tally =
      passed_then held (captures_in far.done) (captures_in (name ∷ [])) no_tally tally next.tally far.passed one in
      let count : length lanes + length (name ∷ rest) ≡ length names = far.place in
      let longer : length (lanes ++ next.lane ∷ []) ≡ length lanes + 1 = length-append lanes (next.lane ∷ []) in
      record {
        moves = moves_next far moved;
        still = same_faults ∙ far.still;
        files = λ other. same other ∙ far.files other;
        done = far.done ++ name ∷ [];
        split = far.split ∙ sym (append_assoc far.done (name ∷ []) rest);
        passed =
            subst (λ (is : List Input). HavePassed held is no_tally next.tally)
            (sym (captures_append far.done (name ∷ []))) both;
        among = λ other n. far.among other (inr n);
        read =
            λ gs ls r. read_more given gs lanes ls next.given next.lane
            (far.read (next.given ∷ gs) (next.lane ∷ ls) (read.read, r));
        told = λ gs t. told_more (map held names) given gs next.given (far.told (next.given ∷ gs) (there, t));
        counted = tally_next tally lanes next far.counted read;
        place = omega arith;
      }

-- all captures were read
pub reads_end : (before now : Faults) (held holds : Holds) (names : List (List ℕ)) (given : List Given)
    (lanes : List Lane) (tally : Tally) →
    ReadsSoFar before now held holds names [] given lanes tally →
    AreCaptures held names (record { given = given; lanes = lanes; tally = tally })
reads_end before now held holds names given lanes tally far =
    let read : AreRead (given ++ []) (lanes ++ []) = far.read [] [] tt in
    let front : AreRead given (lanes ++ []) =
    subst (λ (xs : List Given). AreRead xs (lanes ++ [])) (append-nil given) read in
    record {
      read = subst (λ (xs : List Lane). AreRead given xs) (append-nil lanes) front;
      told = subst (AreTold (map held names)) (append-nil given) (far.told [] tt);
      tally = far.counted;
      passed =
          subst (λ (ns : List (List ℕ)). HavePassed held (captures_in ns) no_tally tally)
          (sym (far.split ∙ append-nil far.done)) far.passed;
    }

-- the next name is the one in hand
module _ {X : Type 0} (f : X → List ℕ) (xs : List X) (i : ℕ) (x : X) (name : List ℕ) (before now after : Faults)
    (held holds : Holds) (names : List (List ℕ)) (given : List Given) (lanes : List Lane) (tally : Tally) where
  reads_at : i < length xs → x ≡ get_or xs i x → name ≡ f x →
      ReadsSoFar before now held holds names (map f (drop i xs)) given lanes tally →
      ReadsSoFar before now held holds names (name ∷ map f (drop (i + 1) xs)) given lanes tally
  reads_at within is same far =
      let rest : map f (drop i xs) ≡ name ∷ map f (drop (i + 1) xs) =
      ap (map f) (drop_more xs i x within) ∙ ap (λ y. f y ∷ map f (drop (i + 1) xs)) (sym is)
      ∙ ap (λ (n : List ℕ). n ∷ map f (drop (i + 1) xs)) (sym same) in
      subst (λ (ns : List (List ℕ)). ReadsSoFar before now held holds names ns given lanes tally) rest far

  pub moves_at : i < length xs → x ≡ get_or xs i x → name ≡ f x →
      ReadsSoFar before now held holds names (map f (drop i xs)) given lanes tally →
      Moves (Only Read name) now after → Moves (ReadsOf names) before after
  moves_at within is same far moved =
      moves_next before now after held holds names (map f (drop (i + 1) xs)) name given lanes tally
      (reads_at within is same far) moved

  pub next_at : (later : Holds) (more : List Given) (others : List Lane) (next : NextLane) →
      i < length xs → x ≡ get_or xs i x → name ≡ f x →
      ReadsSoFar before now held holds names (map f (drop i xs)) given lanes tally →
      Moves (Only Read name) now after →
      after ≡ now → SameFiles holds later → IfSome (holds name) (λ bytes. next.given.bytes ≡ bytes) →
      IsNext tally next →
      more ≡ given ++ next.given ∷ [] → others ≡ lanes ++ next.lane ∷ [] →
      ReadsSoFar before after held later names (map f (drop (i + 1) xs)) more others next.tally
  next_at later more others next within is same far moved same_faults files here read pushed pushed_lane =
      let rest : List (List ℕ) = map f (drop (i + 1) xs) in
      let at : ReadsSoFar before after held later names rest (given ++ next.given ∷ []) (lanes ++ next.lane ∷ [])
      next.tally =
      reads_next before now after held holds names rest name given lanes tally later next
      (reads_at within is same far) moved same_faults files here read in
      let front : ReadsSoFar before after held later names rest more (lanes ++ next.lane ∷ []) next.tally =
      subst (λ (gs : List Given). ReadsSoFar before after held later names rest gs (lanes ++ next.lane ∷ [])
      next.tally)
      (sym pushed) at in
      subst (λ (ls : List Lane). ReadsSoFar before after held later names rest more ls next.tally) (sym pushed_lane)
      front

  pub refused_in : (ended : Status) → i < length xs → x ≡ get_or xs i x → name ≡ f x →
      ReadsSoFar before now held holds names (map f (drop i xs)) given lanes tally →
      Refuses (Rose Read name now after) (RefusesOne (CaptureFile name) tally (holds name)) ended →
      RefusesInputs held (captures_in names) before after ended
  refused_in ended within is same far refused =
      refused_next before now after held holds names (map f (drop (i + 1) xs)) name given lanes tally ended
      (reads_at within is same far) refused

-- all names were gone through
pub reads_over : {X : Type 0} (f : X → List ℕ) (xs : List X) (i : ℕ) (before now : Faults) (held holds : Holds)
    (names : List (List ℕ)) (given same : List Given) (lanes others : List Lane) (tally : Tally) →
    length xs ≤ i → same ≡ given → others ≡ lanes →
    ReadsSoFar before now held holds names (map f (drop i xs)) given lanes tally →
    AreCaptures held names (record { given = same; lanes = others; tally = tally })
reads_over f xs i before now held holds names given same lanes others tally over is are far =
    let none : map f (drop i xs) ≡ [] = ap (map f) (drop_all i xs over) in
    let last : ReadsSoFar before now held holds names [] given lanes tally =
    subst (λ (ns : List (List ℕ)). ReadsSoFar before now held holds names ns given lanes tally) none far in
    let read : AreCaptures held names (record { given = given; lanes = lanes; tally = tally }) =
    reads_end before now held holds names given lanes tally last in
    let front : AreCaptures held names (record { given = same; lanes = lanes; tally = tally }) =
    subst (λ (gs : List Given). AreCaptures held names (record { given = gs; lanes = lanes; tally = tally }))
    (sym is) read in
    subst (λ (ls : List Lane). AreCaptures held names (record { given = same; lanes = ls; tally = tally }))
    (sym are) front
