-- Turns one after another, and rounds.
use Rattle.std.proofs.Common.{◌≡◌, inl, inr, ℕ, zero, suc, ◌+◌, ◌<◌, ◌≤◌, ◌==◌, Bool, true, false, Some, None, List, [], ◌∷◌, ◌++◌, drop, remove, get_or, length, slice_get, refl, sym, ap, ◌∙◌, subst, arith}
use Rattle.std.proofs.Math.Seq.{drop-cons}
use Rattle.std.proofs.Math.ListN.{drop_of_length-le}
use Rattle.std.specs.List.{range_with_len, repeat}
use Rattle.std.proofs.lemmas.Bool.Decides.{nat_tests}
use Rattle.std.proofs.lemmas.List.{nil_from_length}
use Rattle.std.proofs.lemmas.Option.{slice_get_within}
use Rattle.slnf_access.specs.declared.requests.Entry.{Entry}
use Rattle.slnf_run.specs.Setting.{Actor, Setting}
use Rattle.slnf_run.specs.Parts.{at_lane}
use Rattle.slnf_run.specs.Scheduled.{by_rounds, wanted, with_access, turn_of, turn, round, NobodyWants}
use Rattle.slnf_run.proofs.Passing.{drop_from}
use Rattle.slnf_shards.specs.Shards.{spent}
use Rattle.slnf_instance.specs.Items.{Workload}
use Rattle.slnf_instance.specs.Instances.{Acting}
use Rattle.slnf_orch.specs.Actors.{AreLeft, Stage, AtWork, way_in, wanted_at, turn_in, turns_in, IsEnded, NobodyWantsIn, AreStanding, IsTurnAt, IsRound, AreDone, IsIdleAt, AreIdle}
use Rattle.slnf_orch.proofs.Live.{all_left, left_weaker, left_still, left_without, none_left}
use Rattle.slnf_orch.proofs.Standing.{ended_still}

-- a vector that is empty
pub none_at_end : {X : Type 0} (xs : List X) (n : ℕ) (empty : Bool) → n ≡ length xs → empty ≡ (n == 0) →
    empty ≡ true → xs ≡ []
none_at_end xs n empty len is true_is =
    let zero : n ≡ 0 = grind (arith, nat_tests) in nil_from_length xs (omega arith)

-- where none is left, all have ended
pub all_idle : {G F : Type 0} (instances : List (Acting G F)) → AreLeft (IsIdleAt instances) 0 (length instances) [] →
    AreIdle instances
all_idle instances h = λ k i there.
    let inside : k < length instances = slice_get_within instances k i there in
    none_left (IsIdleAt instances) 0 (length instances) k h (omega arith) (omega arith) i there

-- what a turn more spends
pub spends_more : (first now next : List (List Entry)) (made : ℕ) → (made ≡ 0 → now ≡ first) →
    (0 < made → spent first < spent now) → spent now < spent next → spent first < spent next
spends_more first now next zero kept more turn = subst (λ l. spent l < spent next) (kept refl) turn
spends_more first now next (suc made) kept more turn =
    let before : spent first < spent now = more (omega arith) in omega arith

-- what is behind a place of a list that is taken out
pub drop_remove : {X : Type 0} (xs : List X) (k : ℕ) → k < length xs → drop k (remove xs k) ≡ drop (k + 1) xs
drop_remove [] k l = absurd (omega arith)
drop_remove (x ∷ xs) zero l = refl
drop_remove (x ∷ xs) (suc k) l =
    let q : suc (k + 1) ≡ suc k + 1 = omega arith in
    drop_remove xs k (omega arith) ∙ ap (λ n. drop n (x ∷ xs)) q

-- where none of these actors wants an access, nobody does
nobody : {F A : Type 0} (s : Setting F A) (places : ℕ → ℕ) (m : List Entry) (base : ℕ) (actors : List Actor) →
    ((k : ℕ) (actor : Actor) → slice_get actors k ≡ Some actor →
    wanted s by_rounds m (base + k) (at_lane places actor) actor ≡ None) →
    NobodyWants s by_rounds places m base actors
nobody s places m base [] h = tt
nobody s places m base (actor ∷ actors) h =
    let first : base + 0 ≡ base = omega arith in (
      subst (λ i. wanted s by_rounds m i (at_lane places actor) actor ≡ None) first (h 0 actor refl),
      nobody s places m (base + 1) actors (λ k a there.
          let next : base + suc k ≡ base + 1 + k = omega arith in
          subst (λ i. wanted s by_rounds m i (at_lane places a) a ≡ None) next (h (suc k) a there)),
    )

module _ {F : Type 0} (stage : Stage F) where
  -- turns in two parts
  pub turns-append : (xs ys : List ℕ) (m : List Entry) → turns_in stage (xs ++ ys) m
      ≡ turns_in stage ys (turns_in stage xs m)
  turns-append [] ys m = refl
  turns-append (x ∷ xs) ys m = turns-append xs ys (turn_in stage m x)

  -- one turn less is left of a list of turns
  turns_step : (numbers : List ℕ) (i : ℕ) (m : List Entry) → i < length numbers →
      turns_in stage (drop (i + 1) numbers) (turn_in stage m (get_or numbers i 0))
      ≡ turns_in stage (drop i numbers) m
  turns_step numbers i m l =
      let next : suc i ≡ i + 1 = omega arith in
      let front : drop i numbers ≡ get_or numbers i 0 ∷ drop (i + 1) numbers =
      drop-cons numbers i 0 l ∙ ap (λ k. get_or numbers i 0 ∷ drop k numbers) next in
      ap (λ ns. turns_in stage ns m) (sym front)

  -- a turn in which nothing is wanted makes nothing
  idle_turn : (m : List Entry) (number : ℕ) → IsEnded stage m number → turn_in stage m number ≡ m
  idle_turn m number h = go (slice_get stage.era.actors number) h
    where
      go : (o : _) → ((actor : Actor) → o ≡ Some actor → wanted_at stage m number actor ≡ None) →
          turn_of stage.setting (way_in stage) stage.base stage.places m number o ≡ m
      go None k = refl
      go (Some actor) k = ap (with_access stage.setting (way_in stage) m (stage.base + number)) (k actor refl)

  -- turns of those that have ended make nothing
  pub skip_turns : (from count : ℕ) (live : List ℕ) (m : List Entry) → AreLeft (IsEnded stage m) from count live →
      turns_in stage live m ≡ turns_in stage (range_with_len from count) m
  skip_turns from zero [] m h = refl
  skip_turns from zero (number ∷ live) m h = absurd h
  skip_turns from (suc count) [] m h =
      skip_turns (from + 1) count [] m h.1
      ∙ ap (turns_in stage (range_with_len (from + 1) count)) (sym (idle_turn m from h.0))
  skip_turns from (suc count) (number ∷ live) m (inl h) =
      ap (λ n. turns_in stage live (turn_in stage m n)) (sym h.0)
      ∙ skip_turns (from + 1) count live (turn_in stage m from)
      (left_weaker (IsEnded stage m) (IsEnded stage (turn_in stage m from)) (from + 1) count live
      (λ k l. ended_still stage m k from (λ q. omega arith)) h.1)
  skip_turns from (suc count) (number ∷ live) m (inr h) =
      skip_turns (from + 1) count (number ∷ live) m h.1
      ∙ ap (turns_in stage (range_with_len (from + 1) count)) (sym (idle_turn m from h.0))

  -- where none is left, nobody wants an access
  pub nobody_left : (m : List Entry) → AreLeft (IsEnded stage m) 0 (length stage.era.actors) [] →
      NobodyWantsIn stage m
  nobody_left m h =
      nobody stage.setting stage.places m stage.base stage.era.actors (λ k actor there.
      let inside : k < length stage.era.actors = slice_get_within stage.era.actors k actor there in
      none_left (IsEnded stage m) 0 (length stage.era.actors) k h (omega arith) (omega arith) actor there)

module _ {G F : Type 0} (work : G → Workload F) (stage : Stage F) (m : List Entry) where
  -- Turns by these numbers are under way: the rest of them makes what all make.
  pub record HaveTurned (numbers : List ℕ) (i : ℕ) (w : AtWork G F) : Type 0 where
    pub list : List Entry
    pub stands : AreStanding work stage list w
    pub left : turns_in stage (drop i numbers) list ≡ turns_in stage numbers m

  pub turned-first : (numbers : List ℕ) (w : AtWork G F) → AreStanding work stage m w → HaveTurned numbers 0 w
  turned-first numbers w h = record { list = m; stands = h; left = refl }

  pub turned-next : (numbers : List ℕ) (i : ℕ) (w after : AtWork G F) (made : Bool) → i < length numbers →
      HaveTurned numbers i w → ((list : List Entry) → AreStanding work stage list w →
      IsTurnAt work stage list (get_or numbers i 0) after made) → HaveTurned numbers (i + 1) after
  turned-next numbers i w after made l h turn = record {
    list = turn_in stage h.list (get_or numbers i 0);
    stands = (turn h.list h.stands).stands;
    left = turns_step stage numbers i h.list l ∙ h.left;
  }

  pub turned-last : (numbers : List ℕ) (i : ℕ) (w : AtWork G F) → length numbers ≤ i → HaveTurned numbers i w →
      AreStanding work stage (turns_in stage numbers m) w
  turned-last numbers i w l h =
      let is : h.list ≡ turns_in stage numbers m =
      sym (ap (λ ns. turns_in stage ns h.list) (drop_of_length-le numbers l)) ∙ h.left in
      subst (λ list. AreStanding work stage list w) is h.stands

  -- A round is under way: the turns of those that are left from this place on make what the whole round makes.
  pub record GoRound (place : ℕ) (live : List ℕ) (w : AtWork G F) : Type 0 where
    pub list : List Entry
    pub stands : AreStanding work stage list w
    pub rest : turns_in stage (drop place live) list ≡ turns_in stage (round stage.era) m
    pub left : AreLeft (IsEnded stage list) 0 (length stage.era.actors) live

  pub round-first : (live : List ℕ) (w : AtWork G F) → AreStanding work stage m w →
      AreLeft (IsEnded stage m) 0 (length stage.era.actors) live → GoRound 0 live w
  round-first live w stands left = record {
    list = m;
    stands = stands;
    rest = skip_turns stage 0 (length stage.era.actors) live m left;
    left = left;
  }

  module _ (place number : ℕ) (live : List ℕ) (w after : AtWork G F) (there : slice_get live place ≡ Some number)
      (h : GoRound place live w) where
    -- what a turn leaves of the turns
    rest_after : turns_in stage (drop (place + 1) live) (turn_in stage h.list number)
        ≡ turns_in stage (round stage.era) m
    rest_after =
        let next : suc place ≡ place + 1 = omega arith in
        ap (λ k. turns_in stage (drop k live) (turn_in stage h.list number)) (sym next)
        ∙ (ap (λ ns. turns_in stage ns h.list) (sym (drop_from live place number there)) ∙ h.rest)

    left_after : AreLeft (IsEnded stage (turn_in stage h.list number)) 0 (length stage.era.actors) live
    left_after =
        left_still (IsEnded stage h.list) (IsEnded stage (turn_in stage h.list number)) 0 (length stage.era.actors) live
        place number there (λ k. ended_still stage h.list k number) h.left

    -- a turn that makes an access
    pub round-next : ((list : List Entry) → AreStanding work stage list w →
        IsTurnAt work stage list number after true) → GoRound (place + 1) live after
    round-next turn = record {
      list = turn_in stage h.list number;
      stands = (turn h.list h.stands).stands;
      rest = rest_after;
      left = left_after;
    }

    -- and one that makes none
    pub round-without : (less : List ℕ) → less ≡ remove live place → ((list : List Entry) →
        AreStanding work stage list w → IsTurnAt work stage list number after false) → GoRound place less after
    round-without less less_is turn =
        let one : IsTurnAt work stage h.list number after false = turn h.list h.stands in
        let next : List Entry = turn_in stage h.list number in
        let ended : IsEnded stage next number =
        subst (λ list. IsEnded stage list number) (sym (idle_turn stage h.list number (one.idle refl)))
        (one.idle refl) in
        record {
          list = next;
          stands = one.stands;
          rest = ap (λ l. turns_in stage (drop place l) next) less_is
              ∙ (ap (λ ns. turns_in stage ns next)
              (drop_remove live place (slice_get_within live place number there)) ∙ rest_after);
          left = subst (AreLeft (IsEnded stage next) 0 (length stage.era.actors)) (sym less_is)
              (left_without (IsEnded stage next) 0 (length stage.era.actors) live place number there ended left_after);
        }

  pub round-last : (place : ℕ) (live : List ℕ) (w : AtWork G F) → length live ≤ place → GoRound place live w →
      IsRound work stage m w live
  round-last place live w l h =
      let is : h.list ≡ turns_in stage (round stage.era) m =
      sym (ap (λ ns. turns_in stage ns h.list) (drop_of_length-le live l)) ∙ h.rest in
      record {
        stands = subst (λ list. AreStanding work stage list w) is h.stands;
        left = subst (λ list. AreLeft (IsEnded stage list) 0 (length stage.era.actors) live) is h.left;
      }

  -- Rounds are under way: what more of them make here, some number of them makes of the first accesses.
  pub record HaveGone (live : List ℕ) (w : AtWork G F) : Type 0 where
    pub list : List Entry
    pub stands : AreStanding work stage list w
    pub left : AreLeft (IsEnded stage list) 0 (length stage.era.actors) live
    pub more : (r : ℕ) → (q : ℕ) × (turns_in stage (repeat r (round stage.era)) list
        ≡ turns_in stage (repeat q (round stage.era)) m)

  pub gone-first : (live : List ℕ) (w : AtWork G F) → live ≡ range_with_len 0 (length w.instances) →
      AreStanding work stage m w → HaveGone live w
  gone-first live w all h = record {
    list = m;
    stands = h;
    left = subst (AreLeft (IsEnded stage m) 0 (length stage.era.actors))
        (ap (range_with_len 0) (sym h.count) ∙ sym all) (all_left (IsEnded stage m) 0 (length stage.era.actors));
    more = λ r. (r, refl);
  }

  pub gone-next : (live next : List ℕ) (w after : AtWork G F) → HaveGone live w → ((list : List Entry) →
      AreStanding work stage list w → AreLeft (IsEnded stage list) 0 (length stage.era.actors) live →
      IsRound work stage list after next) → HaveGone next after
  gone-next live next w after h go =
      let one : IsRound work stage h.list after next = go h.list h.stands h.left in
      record {
        list = turns_in stage (round stage.era) h.list;
        stands = one.stands;
        left = one.left;
        more = λ r.
            let all = h.more (suc r) in (
              all.0,
              sym (turns-append stage (round stage.era) (repeat r (round stage.era)) h.list) ∙ all.1,
            );
      }

  pub gone-last : (live : List ℕ) (w : AtWork G F) → live ≡ [] → HaveGone live w → AreDone work stage m w
  gone-last live w none h =
      let all = h.more 0 in
      record {
        rounds = all.0;
        stands = subst (λ list. AreStanding work stage list w) all.1 h.stands;
        nothing = subst (NobodyWantsIn stage) all.1 (nobody_left stage h.list
            (subst (AreLeft (IsEnded stage h.list) 0 (length stage.era.actors)) none h.left));
      }
