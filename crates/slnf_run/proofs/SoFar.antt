-- What holds of a schedule's accesses so far: they grow by the rule of runs, and no stamp and no clock is above their
-- number.
use Rattle.std.proofs.Common.{◌≡◌, ℕ, zero, suc, ◌+◌, ◌-◌, ◌≤◌, ◌<◌, ◌==◌, List, [], ◌∷◌, ◌++◌, Some, length, map, drop, slice_get, refl, sym, ap, ap₂, ◌∙◌, subst, subst₂, arith, append_assoc, zero-add, add-zero, length-append}
use Rattle.std.specs.List.{repeat, AllByRecursion}
use Rattle.std.proofs.lemmas.List.{length-map}
use Rattle.slnf_access.specs.declared.requests.Entry.{Entry}
use Rattle.slnf_run.specs.Setting.{Era, Setting, base_of, era_of}
use Rattle.slnf_run.specs.Parts.{part_of, places_after, Post, posts_from, posts_of}
use Rattle.slnf_run.specs.Scheduled.{Way, usual_way, turns, round}
use Rattle.slnf_run.specs.Made.{Grown, IsMade, IsLaid, IsStamped, IsLawful, clock_of, clock, of_shard, last_stamp, is_of_earlier}
use Rattle.slnf_run.specs.SoFar.{Passes, HavePassed, IsSoFar, HoldsSoFar}
use Rattle.slnf_run.proofs.Growth.{Extends, extends_weaker, extends_then, extends_same, grown_weaker}
use Rattle.slnf_run.proofs.Pairing.{each-weaker, each-filter}
use Rattle.slnf_run.proofs.Parting.{places_after-same, post_of}
use Rattle.slnf_run.proofs.PartPosts.{part_of-later, post_in}
use Rattle.slnf_run.proofs.Stamps.{greatest_below, made_legal_from}
use Rattle.slnf_run.proofs.Turns.{IsWithin, turns_reach, turns_within}
use Rattle.slnf_run.proofs.Epochs.{Stands, IsNextWithin, IsInHand, next_kept, era_of-first, era_of-later}
use Rattle.slnf_run.proofs.GrowthRule.{IsNext}
use Rattle.slnf_run.proofs.Scheduling.{stamped_kept, made_of_laid}
use Rattle.slnf_run.proofs.Ways.{usual_lawful}
use Rattle.slnf_run.proofs.Offering.{IsOffering, offering_of_grown}
use Rattle.slnf_run.proofs.Passing.{drop_from, era_of-before, passed_base}

-- the last stamp is within a bound of all
last_below : (bound : ℕ) (es : List Entry) → AllByRecursion (λ e. e.stamp ≤ bound) es → last_stamp es ≤ bound
last_below bound [] h = omega arith
last_below bound (e ∷ []) h = h.0
last_below bound (e ∷ f ∷ es) h = last_below bound (f ∷ es) h.1

-- and so is each clock
clock_below : (epoch : ℕ → ℕ) (bound i : ℕ) (es : List Entry) → AllByRecursion (λ e. e.stamp ≤ bound) es →
    clock epoch es i ≤ bound
clock_below epoch bound i es h =
    go (part_of i es) (each-filter (λ e. e.stamp ≤ bound) (λ e. e.incarnation == i) es h)
  where
    go : (part : List Entry) → AllByRecursion (λ e. e.stamp ≤ bound) part → clock_of epoch es i part ≤ bound
    go [] k = greatest_below (is_of_earlier epoch i) bound es h
    go (e ∷ part) k = last_below bound (e ∷ part) k

-- What is below a bound of all stamps: clocks of actors and of shards.
pub record AreWithin (epoch : ℕ → ℕ) (bound : ℕ) (m : List Entry) : Type 0 where
  pub clocks : (incarnation : ℕ) → clock epoch m incarnation ≤ bound
  pub shards : (shard : ℕ) → last_stamp (of_shard shard m) ≤ bound

pub are_within : (epoch : ℕ → ℕ) (bound : ℕ) (m : List Entry) → AllByRecursion (λ e. e.stamp ≤ bound) m →
    AreWithin epoch bound m
are_within epoch bound m h = record {
  clocks = λ i. clock_below epoch bound i m h;
  shards = λ shard. last_below bound (of_shard shard m)
      (each-filter (λ e. e.stamp ≤ bound) (λ e. e.shard == shard) m h);
}

-- An epoch is to begin, in a list with these posts of all incarnations: where it stands among them.
record IsReady {F A : Type 0} (s : Setting F A) (r : List Entry) (number base : ℕ) (places : ℕ → ℕ)
    (es : List Entry) : Type 0 where
  stands : Stands s (posts_of s r) base es
  earlier : List Post
  size : length earlier ≡ base
  era : (i : ℕ) → base ≤ i → era_of s.eras i ≡ era_of (drop number s.eras) (i - base) + number
  whole : posts_of s r ≡ earlier ++ posts_from s r number base places (drop number s.eras)

module _ {F A : Type 0} (s : Setting F A) (way : Way) where
  -- an epoch's turns leave the parts of earlier incarnations
  turns_leave : (base : ℕ) (places : ℕ → ℕ) (era : Era) (numbers : List ℕ) (es m : List Entry) → m
      ≡ turns s way base places era numbers es → (i : ℕ) → i < base → part_of i m ≡ part_of i es
  turns_leave base places era numbers es m turned i l =
      ap (part_of i) turned
      ∙ part_of-later i base es (turns s way base places era numbers es) l
      (extends_weaker (λ es e. IsWithin base (length era.actors) e) (λ es e. base ≤ e.incarnation)
      (λ es e k. k.from) es (turns s way base places era numbers es)
      (turns_within s way base places era numbers es))

  module _ (lawful : IsLawful (era_of s.eras) way) (r : List Entry) where
    -- the posts of an epoch that begins, and its number
    in_hand : (number base : ℕ) (places : ℕ → ℕ) (es : List Entry) (era : Era) → slice_get s.eras number ≡ Some era →
        IsReady s r number base places es → IsInHand s (posts_of s r) number base places era.actors
    in_hand number base places es era at ready =
        let to_come : List Era = drop (suc number) s.eras in
        let split : drop number s.eras ≡ era ∷ to_come = drop_from s.eras number era at in
        let later : List Post = posts_from s r (number + 1) (base + length era.actors)
        (places_after s r base places era) to_come in
        let here : List Post = map (post_of number places) era.actors in
        let whole : posts_of s r ≡ ready.earlier ++ (here ++ later) = ready.whole
        ∙ ap (λ eras. ready.earlier ++ posts_from s r number base places eras) split in
        record {
          posted = λ k actor there.
              ap (λ l. slice_get l (base + k)) whole
              ∙ (ap (λ n. slice_get (ready.earlier ++ (here ++ later)) (n + k)) (sym ready.size)
              ∙ post_in ready.earlier number places era.actors later k actor there);
          era = λ i from upto. ready.era i from ∙ (ap (λ eras. era_of eras (i - base) + number) split
              ∙ (ap (λ n. n + number) (era_of-first era to_come (i - base) (omega arith)) ∙ zero-add number));
        }

    -- its turns go on by the rule
    turns_stand : (number base : ℕ) (places : ℕ → ℕ) (es : List Entry) (era : Era) (numbers : List ℕ) →
        slice_get s.eras number ≡ Some era → IsReady s r number base places es →
        Stands s (posts_of s r) (base + length era.actors) (turns s way base places era numbers es)
    turns_stand number base places es era numbers at ready =
        let count : ℕ = length era.actors in
        (turns_reach s way base places era (Stands s (posts_of s r) (base + count))
        (IsNextWithin s (posts_of s r) base count) numbers es
        (next_kept s way lawful (posts_of s r) number base places era.actors
        (in_hand number base places es era at ready))
        (record {
          grown = ready.stands.grown;
          short = ready.stands.short;
          before =
              each-weaker (λ e. e.incarnation < base) (λ e. e.incarnation < base + count)
              (λ e l. let k : e.incarnation < base = l in omega arith) es ready.stands.before;
        })).lasts

    -- the next epoch is ready where this one has passed
    ready_next : (number base : ℕ) (places : ℕ → ℕ) (es m : List Entry) (era : Era) (numbers : List ℕ) →
        slice_get s.eras number ≡ Some era → IsReady s r number base places es → m
        ≡ turns s way base places era numbers es →
        ((i : ℕ) → i < base + length era.actors → part_of i r ≡ part_of i m) →
        IsReady s r (suc number) (base + length era.actors) (places_after s m base places era) m
    ready_next number base places es m era numbers at ready turned same =
        let count : ℕ = length era.actors in
        let to_come : List Era = drop (suc number) s.eras in
        let split : drop number s.eras ≡ era ∷ to_come = drop_from s.eras number era at in
        let here : List Post = map (post_of number places) era.actors in
        let later : ℕ → (ℕ → ℕ) → List Post = λ n q. posts_from s r n (base + count) q to_come in
        let lanes : places_after s r base places era ≡ places_after s m base places era =
        places_after-same s r m base places era same in
        let next : number + 1 ≡ suc number = omega arith in
        record {
          stands = subst (Stands s (posts_of s r) (base + count)) (sym turned)
              (turns_stand number base places es era numbers at ready);
          earlier = ready.earlier ++ here;
          size = length-append ready.earlier here
              ∙ ap₂ (λ a b. a + b) ready.size (length-map era.actors (post_of number places));
          era = λ i from.
              let a : i - base - count ≡ i - (base + count) = omega arith in
              ready.era i (omega arith)
              ∙ (ap (λ eras. era_of eras (i - base) + number) split
              ∙ (ap (λ n. n + number) (era_of-later era to_come (i - base) (omega arith)
              ∙ ap (λ n. era_of to_come n + 1) a)
              ∙ (omega arith)));
          whole = ready.whole ∙ (ap (λ eras. ready.earlier ++ posts_from s r number base places eras) split
              ∙ (ap₂ (λ n q. ready.earlier ++ (here ++ later n q)) next lanes
              ∙ sym (append_assoc ready.earlier here (later (suc number) (places_after s m base places era)))));
        }

    -- where epochs have passed, the next one is ready
    ready : (number base : ℕ) (places : ℕ → ℕ) (es : List Entry) → HavePassed s way number base places es →
        ((i : ℕ) → i < base → part_of i r ≡ part_of i es) → IsReady s r number base places es
    ready zero base places es h same =
        let none : places ≡ (λ lane. 0) = λ i lane. h.1 lane i in
        subst (IsReady s r 0 base places) (sym h.2)
        (subst₂ (λ b p. IsReady s r 0 b p []) (sym h.0) (sym none)
        (record {
          stands = record { grown = tt; before = tt; short = tt };
          earlier = [];
          size = refl;
          era = λ i from. let a : i ≡ i - 0 = omega arith in
              ap (era_of s.eras) a ∙ sym (add-zero (era_of s.eras (i - 0)));
          whole = refl;
        }))
    ready (suc number) base places m h same =
        let first : ℕ = h.0 in
        let from : ℕ → ℕ = h.1 in
        let era : Era = h.2 in
        let passes : Passes s way first from era h.3 m = h.6 in
        let numbers : List ℕ = era.schedule ++ repeat passes.rounds (round era) in
        let size : base ≡ first + length era.actors = h.7 in
        let far : places ≡ places_after s m first from era = λ i lane. h.8 lane i in
        let before : IsReady s r number first from h.3 = ready number first from h.3 h.4
        (λ i l. same i (omega arith) ∙ turns_leave first from era numbers h.3 m passes.turned i l) in
        subst₂ (λ b p. IsReady s r (suc number) b p m) (sym size) (sym far)
        (ready_next number first from h.3 m era numbers h.5 before passes.turned
        (λ i l. same i (omega arith)))

  -- Where epochs have passed, all accesses are of incarnations before the next, and of earlier epochs.
  pub passed_before : IsLawful (era_of s.eras) way → (number base : ℕ) (places : ℕ → ℕ) (m : List Entry) →
      HavePassed s way number base places m → AllByRecursion (λ e. e.incarnation < base) m
  passed_before lawful number base places m h = (ready lawful m number base places m h (λ i l. refl)).stands.before

  pub passed_latest : IsLawful (era_of s.eras) way → (number base : ℕ) (places : ℕ → ℕ) (m : List Entry) →
      HavePassed s way number base places m → AllByRecursion (λ e. era_of s.eras e.incarnation < number) m
  passed_latest lawful number base places m h =
      let first : base ≡ base_of s.eras number = passed_base s way number base places m h in
      each-weaker (λ e. e.incarnation < base) (λ e. era_of s.eras e.incarnation < number)
      (λ e l. let k : e.incarnation < base = l in era_of-before s.eras number e.incarnation (omega arith)) m
      (passed_before lawful number base places m h)

  module _ (lawful : IsLawful (era_of s.eras) way) (number base : ℕ) (places : ℕ → ℕ) (m : List Entry)
      (h : IsSoFar s way number base places m) where
    stands_so_far : Stands s (posts_of s m) (base + length h.era.actors) m
    stands_so_far =
        subst (Stands s (posts_of s m) (base + length h.era.actors)) (sym h.turned)
        (turns_stand lawful m number base places h.begun h.era h.numbers h.at
        (ready lawful m number base places h.begun h.passed
        (turns_leave base places h.era h.numbers h.begun m h.turned)))

    -- The accesses so far grow by the rule of runs.
    pub grown_so_far : Grown (IsNext s (posts_of s m)) [] m
    grown_so_far = stands_so_far.grown

    pub offering_so_far : IsOffering s m
    offering_so_far = offering_of_grown s m grown_so_far

    -- What holds of them.
    pub holds_so_far : HoldsSoFar s m
    holds_so_far =
        let laid : Grown (IsLaid (era_of s.eras) s.shards) [] m =
        grown_weaker (IsNext s (posts_of s m)) (IsLaid (era_of s.eras) s.shards) (λ es e k. k.made) [] m grown_so_far in
        let within : AreWithin (era_of s.eras) (length m) m =
        are_within (era_of s.eras) (length m) m stands_so_far.short in
        record {
          laid = laid;
          legal = made_legal_from (era_of s.eras) s.shards [] m laid;
          paths = offering_so_far.paths;
          stamps = stands_so_far.short;
          clocks = within.clocks;
          shards = within.shards;
        }

  -- turns make stamps of the way
  turns_stamped : (base : ℕ) (places : ℕ → ℕ) (era : Era) (numbers : List ℕ) (es : List Entry) →
      Extends (IsStamped way.stamp) [] es →
      Extends (IsStamped way.stamp) [] (turns s way base places era numbers es)
  turns_stamped base places era numbers es h =
      extends_then (IsStamped way.stamp) [] es (turns s way base places era numbers es) h
      (turns_reach s way base places era (λ es. Unit {0}) (IsStamped way.stamp) numbers es
      (stamped_kept s way base places era.actors) tt).extends

  -- and so do whole epochs
  passed_stamped : (number base : ℕ) (places : ℕ → ℕ) (m : List Entry) → HavePassed s way number base places m →
      Extends (IsStamped way.stamp) [] m
  passed_stamped zero base places m h = subst (Extends (IsStamped way.stamp) []) (sym h.2)
      (extends_same (IsStamped way.stamp) [])
  passed_stamped (suc number) base places m h =
      let passes : Passes s way h.0 h.1 h.2 h.3 m = h.6 in
      subst (Extends (IsStamped way.stamp) []) (sym passes.turned)
      (turns_stamped h.0 h.1 h.2 (h.2.schedule ++ repeat passes.rounds (round h.2)) h.3
      (passed_stamped number h.0 h.1 h.3 h.4))

  pub stamped_so_far : (number base : ℕ) (places : ℕ → ℕ) (m : List Entry) → IsSoFar s way number base places m →
      Grown (IsStamped way.stamp) [] m
  stamped_so_far number base places m h =
      let ext : Extends (IsStamped way.stamp) [] m = subst (Extends (IsStamped way.stamp) []) (sym h.turned)
      (turns_stamped base places h.era h.numbers h.begun (passed_stamped number base places h.begun h.passed)) in
      subst (Grown (IsStamped way.stamp) []) (sym ext.whole) ext.grown

-- In the usual way they are as they are made.
pub made_so_far : {F A : Type 0} (s : Setting F A) (number base : ℕ) (places : ℕ → ℕ) (m : List Entry) →
    IsSoFar s (usual_way s.eras) number base places m → Grown (IsMade (era_of s.eras) s.shards) [] m
made_so_far s number base places m h =
    made_of_laid s.eras s.shards [] m
    (holds_so_far s (usual_way s.eras) (usual_lawful s.eras) number base places m h).laid
    (stamped_so_far s (usual_way s.eras) number base places m h)
