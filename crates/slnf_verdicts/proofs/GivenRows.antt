-- What the actors of a run gave to a lane's packets, one epoch after another, is the verdict of each packet.
use Rattle.std.proofs.Common.{◌≡◌, inl, inr, ℕ, suc, zero, ◌+◌, ◌-◌, ◌<◌, ◌≤◌, Bool, true, false, ◌&&◌, nat_lt, if◌then◌else◌, Option, Some, None, List, [], ◌∷◌, ◌++◌, length, map, slice_get, refl, sym, ap, ◌∙◌, arith, append-nil, length-append}
use Rattle.std.specs.List.{range_with_len}
use Rattle.std.proofs.lemmas.Bool.{cases_lt, cond-true, cond-false}
use Rattle.std.proofs.lemmas.Bool.Decides.{nat_tests}
use Rattle.std.proofs.lemmas.List.FromFn.{length-map-range_with_len}
use Rattle.slnf_base.specs.declared.packets.Verdict.{Verdict}
use Rattle.slnf_access.specs.declared.requests.Entry.{Entry}
use Rattle.slnf_run.specs.Setting.{Actor, Era, Setting, is_on}
use Rattle.slnf_run.specs.OneBox.{HasLanesOnce}
use Rattle.slnf_run.specs.Jobs.{verdict_in, taken_in, job_of}
use Rattle.slnf_run.specs.Parts.{part_of, offers_of, taken_of, at_lane, taken_on, places_after, Post, posts_from, taken_at}
use Rattle.slnf_run.specs.Verdicts.{verdict_by, takes, verdict_among, verdict_of}
use Rattle.slnf_run.proofs.OfferRows.{has_item, range_has_item, has_in_range}
use Rattle.slnf_run.proofs.TakenRows.{taken_in_row}
use Rattle.slnf_run.proofs.LanePosts.{on_lane, at_of_lane}
use Rattle.slnf_verdicts.specs.Given.{verdicts_in, given_in, given_from, or_left, filled}
use Rattle.slnf_verdicts.proofs.Numbers.{map_same}

-- an element of the first of two lists, and of the second
front_at : {X : Type 0} (xs ys : List X) (k : ℕ) → k < length xs → slice_get (xs ++ ys) k ≡ slice_get xs k
front_at [] ys k l = absurd (omega arith)
front_at (x ∷ xs) ys zero l = refl
front_at (x ∷ xs) ys (suc k) l = front_at xs ys k (omega arith)

back_at : {X : Type 0} (xs ys : List X) (k n : ℕ) → n ≡ length xs + k → slice_get (xs ++ ys) n ≡ slice_get ys k
back_at [] ys k n is = let q : n ≡ k = omega arith in ap (slice_get ys) q
back_at (x ∷ xs) ys k zero is = absurd (omega arith)
back_at (x ∷ xs) ys k (suc n) is = back_at xs ys k n (omega arith)

-- an element of a map over a range
map_at : {X : Type 0} (f : ℕ → X) (a n k : ℕ) → k < n → slice_get (map f (range_with_len a n)) k ≡ Some (f (a + k))
map_at f a zero k l = absurd (omega arith)
map_at f a (suc n) zero l = let q : a ≡ a + 0 = omega arith in ap (λ m. Some (f m)) q
map_at f a (suc n) (suc k) l =
    let q : a + 1 + k ≡ a + suc k = omega arith in
    map_at f (a + 1) n k (omega arith) ∙ ap (λ m. Some (f m)) q

module _ {F A : Type 0} (s : Setting F A) (es : List Entry) (lane : ℕ) where
  -- the part of an incarnation
  abbrev parts : ℕ → List Entry
  parts i = part_of i es

  -- what one actor gave
  abbrev own_given : ℕ → ℕ → Actor → List Verdict
  own_given at i actor = verdicts_in (job_of s i at actor) (parts i)

  own_count : (at i : ℕ) (actor : Actor) → length (own_given at i actor)
      ≡ length (taken_in (job_of s i at actor) (parts i))
  own_count at i actor =
      length-map-range_with_len (verdict_in (job_of s i at actor) (parts i)) (job_of s i at actor).at
      (length (taken_in (job_of s i at actor) (parts i)))

  -- an instance of the lane takes its packets from its place on
  at_is : (at i : ℕ) (actor : Actor) → is_on lane actor ≡ true → (job_of s i at actor).at ≡ at
  at_is at i actor on = ap (λ (o : Option ℕ). elim o [ None ↦ 0 | Some own ↦ at ]) (on_lane lane actor on)

  -- the post of an actor
  abbrev post : ℕ → ℕ → Actor → Post
  post number at actor = record { actor = actor; era = number; at = at }

  -- an actor of another lane takes none of this one
  takes_off : (number at i n : ℕ) (actor : Actor) → is_on lane actor ≡ false →
      takes s es i (post number at actor) lane n ≡ false
  takes_off number at i n actor off =
      ap (λ b. b && has_item n (taken_at s es i (post number at actor))) off

  takes_own : (number at i n : ℕ) (actor : Actor) → is_on lane actor ≡ true → at ≤ n →
      n - at < length (own_given at i actor) → takes s es i (post number at actor) lane n ≡ true
  takes_own number at i n actor on from upto =
      let count : length (own_given at i actor) ≡ length (taken_at s es i (post number at actor)) =
      own_count at i actor in
      ap (λ b. b && has_item n (taken_at s es i (post number at actor))) on
      ∙ range_has_item n at (length (taken_at s es i (post number at actor))) (taken_at s es i (post number at actor))
      (taken_in_row s es lane i (post number at actor) on) from (omega arith)

  takes_not : (number at i n : ℕ) (actor : Actor) → is_on lane actor ≡ true → at ≤ n →
      length (own_given at i actor) ≤ n - at → takes s es i (post number at actor) lane n ≡ false
  takes_not number at i n actor on from over =
      ap (λ b. b && has_item n (taken_at s es i (post number at actor))) on
      ∙ go (has_item n (taken_at s es i (post number at actor))) refl
    where
      go : (b : Bool) → has_item n (taken_at s es i (post number at actor)) ≡ b → b ≡ false
      go false has = refl
      go true has =
          let count : length (own_given at i actor) ≡ length (taken_at s es i (post number at actor)) =
          own_count at i actor in
          let range = has_in_range n at (length (taken_at s es i (post number at actor)))
          (taken_at s es i (post number at actor)) (taken_in_row s es lane i (post number at actor) on) has in
          let upto : n < at + length (taken_at s es i (post number at actor)) = range.1 in
          absurd (omega arith)

  -- its verdict of a packet that it took
  own_verdict : (number at i n : ℕ) (actor : Actor) → is_on lane actor ≡ true → at ≤ n →
      n - at < length (own_given at i actor) →
      verdict_by s es i (post number at actor) n ≡ or_left (slice_get (own_given at i actor) (n - at))
  own_verdict number at i n actor on from upto =
      let count : length (own_given at i actor) ≡ length (taken_in (job_of s i at actor) (parts i)) =
      own_count at i actor in
      let place : (job_of s i at actor).at ≡ at = at_is at i actor on in
      let q : n ≡ (job_of s i at actor).at + (n - at) = omega arith in
      ap (λ m. verdict_in (job_of s i at actor) (parts i) m) q
      ∙ ap or_left (sym (map_at (verdict_in (job_of s i at actor) (parts i)) (job_of s i at actor).at
      (length (taken_in (job_of s i at actor) (parts i))) (n - at) (omega arith)))

  -- none of these actors is on the lane
  abbrev NoneOn : List Actor → Type 0
  NoneOn actors = (k : ℕ) (a : Actor) → slice_get actors k ≡ Some a → is_on lane a ≡ true → ⊥

  rest_none : (actor : Actor) (actors : List Actor) → NoneOn (actor ∷ actors) → NoneOn actors
  rest_none actor actors none_ k a at on = none_ (suc k) a at on

  no_suc : (k : ℕ) → 0 ≡ suc k → ⊥
  no_suc k is = omega arith

  once_none : (actor : Actor) (actors : List Actor) → HasLanesOnce (actor ∷ actors) → is_on lane actor ≡ true →
      NoneOn actors
  once_none actor actors once on k a at there = no_suc k (once lane 0 (suc k) actor a refl at on there)

  once_rest : (actor : Actor) (actors : List Actor) → HasLanesOnce (actor ∷ actors) → HasLanesOnce actors
  once_rest actor actors once l i k a b at_a at_b on_a on_b =
      let q : suc i ≡ suc k = once l (suc i) (suc k) a b at_a at_b on_a on_b in omega arith

  -- where none is on the lane, nothing is given
  given_none : (at i : ℕ) (actors : List Actor) → NoneOn actors → given_in s parts lane at i actors ≡ []
  given_none at i [] none_ = refl
  given_none at i (actor ∷ actors) none_ = go (is_on lane actor) refl
      (given_none at (i + 1) actors (rest_none actor actors none_))
    where
      go : (b : Bool) → is_on lane actor ≡ b → given_in s parts lane at (i + 1) actors ≡ [] →
          (if b then own_given at i actor else []) ++ given_in s parts lane at (i + 1) actors ≡ []
      go false off rest = rest
      go true on rest = absurd (none_ 0 actor refl on)

  -- as much is given as is taken
  given_count : (at i : ℕ) (places : ℕ → ℕ) (actors : List Actor) → places lane ≡ at →
      taken_on s es i places lane actors ≡ length (given_in s parts lane at i actors)
  given_count at i places [] is = refl
  given_count at i places (actor ∷ actors) is =
      go (is_on lane actor) refl (given_count at (i + 1) places actors is)
    where
      go : (b : Bool) → is_on lane actor ≡ b →
          taken_on s es (i + 1) places lane actors ≡ length (given_in s parts lane at (i + 1) actors) →
          (if b then length (taken_of actor (parts i) (offers_of s i (at_lane places actor) actor)) else 0)
          + taken_on s es (i + 1) places lane actors
          ≡ length ((if b then own_given at i actor else []) ++ given_in s parts lane at (i + 1) actors)
      go false off rest =
          let taken : ℕ = taken_on s es (i + 1) places lane actors in
          let q : 0 + taken ≡ taken = omega arith in
          q ∙ rest
      go true on rest =
          let place : at_lane places actor ≡ at = at_of_lane places lane actor on ∙ is in
          let own : length (taken_of actor (parts i) (offers_of s i (at_lane places actor) actor))
          ≡ length (own_given at i actor) =
          ap (λ p. length (taken_in (job_of s i p actor) (parts i))) place ∙ sym (own_count at i actor) in
          let both : length (own_given at i actor ++ given_in s parts lane at (i + 1) actors)
          ≡ length (own_given at i actor) + length (given_in s parts lane at (i + 1) actors) =
          length-append (own_given at i actor) (given_in s parts lane at (i + 1) actors) in
          omega arith

  -- the posts of an epoch's actors
  abbrev posts_in : ℕ → (ℕ → ℕ) → List Actor → List Post
  posts_in number places actors =
      map (λ actor. record { actor = actor; era = number; at = at_lane places actor }) actors

  module _ (number : ℕ) (places : ℕ → ℕ) (n : ℕ) (later : List Post) (from : places lane ≤ n) where
    -- where none is on the lane, the packet goes by
    goes_by : (i : ℕ) (actors : List Actor) → NoneOn actors →
        verdict_among s es lane n i (posts_in number places actors ++ later)
        ≡ verdict_among s es lane n (i + length actors) later
    goes_by i [] none_ = let q : i ≡ i + 0 = omega arith in ap (λ k. verdict_among s es lane n k later) q
    goes_by i (actor ∷ actors) none_ =
        go (is_on lane actor) refl (goes_by (i + 1) actors (rest_none actor actors none_))
      where
        go : (b : Bool) → is_on lane actor ≡ b →
            verdict_among s es lane n (i + 1) (posts_in number places actors ++ later)
            ≡ verdict_among s es lane n (i + 1 + length actors) later →
            verdict_among s es lane n i (posts_in number places (actor ∷ actors) ++ later)
            ≡ verdict_among s es lane n (i + length (actor ∷ actors)) later
        go true on rest = absurd (none_ 0 actor refl on)
        go false off rest =
            let q : i + 1 + length actors ≡ i + suc (length actors) = omega arith in
            cond-false (takes s es i (post number (at_lane places actor) actor) lane n)
            (verdict_by s es i (post number (at_lane places actor) actor) n)
            (verdict_among s es lane n (i + 1) (posts_in number places actors ++ later))
            (takes_off number (at_lane places actor) i n actor off)
            ∙ rest
            ∙ ap (λ k. verdict_among s es lane n k later) q

    -- an epoch gives the packet its verdict, or it goes by
    abbrev in_epoch : List Verdict → Verdict → Verdict
    in_epoch given next =
        if nat_lt (n - places lane) (length given) then or_left (slice_get given (n - places lane)) else next

    epoch_gives : (i : ℕ) (actors : List Actor) → HasLanesOnce actors →
        verdict_among s es lane n i (posts_in number places actors ++ later)
        ≡ in_epoch (given_in s parts lane (places lane) i actors)
        (verdict_among s es lane n (i + length actors) later)
    epoch_gives i [] once =
        let q : i ≡ i + 0 = omega arith in
        let over : nat_lt (n - places lane) 0 ≡ false = grind (arith, nat_tests) in
        ap (λ k. verdict_among s es lane n k later) q
        ∙ sym (cond-false (nat_lt (n - places lane) 0) (or_left (slice_get [] (n - places lane)))
        (verdict_among s es lane n (i + 0) later) over)
    epoch_gives i (actor ∷ actors) once =
        go (is_on lane actor) refl (epoch_gives (i + 1) actors (once_rest actor actors once))
      where
        mine : Post
        mine = post number (at_lane places actor) actor

        behind : List Post
        behind = posts_in number places actors ++ later

        after : Verdict
        after = verdict_among s es lane n (i + length (actor ∷ actors)) later

        next : i + 1 + length actors ≡ i + suc (length actors)
        next = omega arith

        go : (b : Bool) → is_on lane actor ≡ b →
            verdict_among s es lane n (i + 1) behind
            ≡ in_epoch (given_in s parts lane (places lane) (i + 1) actors)
            (verdict_among s es lane n (i + 1 + length actors) later) →
            verdict_among s es lane n i (mine ∷ behind)
            ≡ in_epoch ((if b then own_given (places lane) i actor else []) ++ given_in s parts lane (places lane)
            (i + 1) actors) after
        go false off others =
            cond-false (takes s es i mine lane n) (verdict_by s es i mine n)
            (verdict_among s es lane n (i + 1) behind)
            (takes_off number (at_lane places actor) i n actor off)
            ∙ others
            ∙ ap (λ k. in_epoch (given_in s parts lane (places lane) (i + 1) actors)
            (verdict_among s es lane n k later)) next
        go true on others =
            let rest : NoneOn actors = once_none actor actors once on in
            let given : List Verdict = own_given (places lane) i actor in
            let place : at_lane places actor ≡ places lane = at_of_lane places lane actor on in
            let all : given ++ given_in s parts lane (places lane) (i + 1) actors ≡ given =
            ap (λ l. given ++ l) (given_none (places lane) (i + 1) actors rest) ∙ append-nil given in
            elim (cases_lt (n - places lane) (length given)) [
              | inl upto ↦
                  let test : nat_lt (n - places lane) (length given) ≡ true = grind (arith, nat_tests) in
                  ap (λ p. verdict_among s es lane n i (post number p actor ∷ behind)) place
                  ∙ cond-true (takes s es i (post number (places lane) actor) lane n)
                  (verdict_by s es i (post number (places lane) actor) n) (verdict_among s es lane n (i + 1) behind)
                  (takes_own number (places lane) i n actor on from upto)
                  ∙ own_verdict number (places lane) i n actor on from upto
                  ∙ sym (cond-true (nat_lt (n - places lane) (length given))
                  (or_left (slice_get given (n - places lane))) after test)
                  ∙ ap (λ l. in_epoch l after) (sym all)
              | inr over ↦
                  let test : nat_lt (n - places lane) (length given) ≡ false = grind (arith, nat_tests) in
                  ap (λ p. verdict_among s es lane n i (post number p actor ∷ behind)) place
                  ∙ cond-false (takes s es i (post number (places lane) actor) lane n)
                  (verdict_by s es i (post number (places lane) actor) n) (verdict_among s es lane n (i + 1) behind)
                  (takes_not number (places lane) i n actor on from over)
                  ∙ goes_by (i + 1) actors rest
                  ∙ ap (λ k. verdict_among s es lane n k later) next
                  ∙ sym (cond-false (nat_lt (n - places lane) (length given))
                  (or_left (slice_get given (n - places lane))) after test)
                  ∙ ap (λ l. in_epoch l after) (sym all)
            ]

  -- no lane stands twice in an epoch of these
  abbrev pub AllOnce : List Era → Type 0
  AllOnce eras = (number : ℕ) (era : Era) → slice_get eras number ≡ Some era → HasLanesOnce era.actors

  -- the verdict of a packet that no epoch took so far
  given_behind : (number base : ℕ) (places : ℕ → ℕ) (at n : ℕ) (eras : List Era) → AllOnce eras → places lane ≡ at →
      at ≤ n → verdict_among s es lane n base (posts_from s es number base places eras)
      ≡ or_left (slice_get (given_from s parts lane at base eras) (n - at))
  given_behind number base places at n [] once is from = refl
  given_behind number base places at n (era ∷ eras) once is from =
      let given : List Verdict = given_in s parts lane at base era.actors in
      let rest : List Verdict = given_from s parts lane (at + length given) (base + length era.actors) eras in
      let later : List Post = posts_from s es (number + 1) (base + length era.actors)
      (places_after s es base places era) eras in
      let place : places_after s es base places era lane ≡ at + length given =
      ap (λ p. p + taken_on s es base places lane era.actors) is
      ∙ ap (λ k. at + k) (given_count at base places era.actors is) in
      let l : places lane ≤ n = omega arith in
      epoch_gives number places n later l base era.actors (once 0 era refl)
      ∙ ap (λ p. if nat_lt (n - p) (length (given_in s parts lane p base era.actors))
      then or_left (slice_get (given_in s parts lane p base era.actors) (n - p))
      else verdict_among s es lane n (base + length era.actors) later) is
      ∙ elim (cases_lt (n - at) (length given)) [
        | inl upto ↦
            let test : nat_lt (n - at) (length given) ≡ true = grind (arith, nat_tests) in
            cond-true (nat_lt (n - at) (length given)) (or_left (slice_get given (n - at)))
            (verdict_among s es lane n (base + length era.actors) later) test
            ∙ ap or_left (sym (front_at given rest (n - at) upto))
        | inr over ↦
            let test : nat_lt (n - at) (length given) ≡ false = grind (arith, nat_tests) in
            let q : n - at ≡ length given + (n - (at + length given)) = omega arith in
            cond-false (nat_lt (n - at) (length given)) (or_left (slice_get given (n - at)))
            (verdict_among s es lane n (base + length era.actors) later) test
            ∙ given_behind (number + 1) (base + length era.actors) (places_after s es base places era)
            (at + length given) n eras (λ k other there. once (suc k) other there) place (omega arith)
            ∙ ap or_left (sym (back_at given rest (n - (at + length given)) (n - at) q))
      ]

  -- the verdict of each packet is what was given to it
  pub given_is : (n : ℕ) → AllOnce s.eras →
      verdict_of s es lane n ≡ or_left (slice_get (given_from s parts lane 0 0 s.eras) n)
  given_is n once =
      let q : n - 0 ≡ n = omega arith in
      given_behind 0 0 (λ lane. 0) 0 n s.eras once refl (omega arith)
      ∙ ap (λ k. or_left (slice_get (given_from s parts lane 0 0 s.eras) k)) q

  pub filled_is : (count : ℕ) → AllOnce s.eras →
      filled (given_from s parts lane 0 0 s.eras) count ≡ map (verdict_of s es lane) (range_with_len 0 count)
  filled_is count once =
      map_same (λ n. or_left (slice_get (given_from s parts lane 0 0 s.eras) n)) (verdict_of s es lane) 0 count
      (λ n from upto. sym (given_is n once))
