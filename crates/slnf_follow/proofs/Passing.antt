-- An epoch's beginning and its end.
use Rattle.std.proofs.Common.{◌≡◌, inl, inr, ℕ, zero, suc, ◌+◌, ◌<◌, ◌≤◌, Bool, true, false, nat_lt, if◌then◌else◌, Option, Some, None, option_map, List, [], ◌∷◌, length, take, replicate, get_or, slice_get, refl, sym, ap, ◌∙◌, subst, subst₂, arith}
use Rattle.std.proofs.lemmas.Bool.{cases_lt, lt-ltb, ltb-true}
use Rattle.std.proofs.lemmas.List.{take_all}
use Rattle.std.proofs.lemmas.Option.{same_Some, none-some}
use Rattle.slnf_access.specs.declared.requests.Entry.{Entry}
use Rattle.slnf_run.specs.Setting.{Era, Setting}
use Rattle.slnf_run.specs.Made.{Grown}
use Rattle.slnf_instance.specs.Items.{Workload}
use Rattle.slnf_local.specs.declared.broken.Broken.{Broken}
use Rattle.slnf_local.specs.declared.broken.Broken.TheVariants.{Unexpected, Unended}
use Rattle.slnf_local.specs.Local.{IsExpected, EachOver}
use Rattle.slnf_local.specs.Hands.{Hand as Held, is_no_batch}
use Rattle.slnf_local.specs.Followers.{Follower, actors_in, actors_at, all_over, taken_in, next_epoch, IsFollowed}
use Rattle.slnf_local.specs.Passes.{first_open, eras_from, or_else, finish}
use Rattle.slnf_local.specs.Tells.{IsFirstOpen, Ends, Lapses}
use Rattle.slnf_local.proofs.Following.{followed_first, followed_later, followed_next, followed_end, nothing_at_end}
use Rattle.slnf_local.proofs.Ending.{finishes}
use Rattle.slnf_hand.specs.Hands.{Followed}
use Rattle.slnf_follow.specs.Follows.{come_to, AreHands, open_from, with_hands, at_epoch, Follows, IsStuck, broken_at, behind}
use Rattle.slnf_follow.proofs.Standing.{lengths, open_same, all_over_same}

eras_there : (number : ℕ) (eras : List Era) (era : Era) → slice_get eras number ≡ Some era →
    eras_from number eras ≡ era ∷ eras_from (suc number) eras
eras_there number [] era h = absurd (cc)
eras_there zero (x ∷ eras) era h = ap (λ y. y ∷ eras) (same_Some x era h)
eras_there (suc number) (x ∷ eras) era h = eras_there number eras era h

-- nothing is behind the end
pub none_past : {X : Type 0} (xs : List X) (k : ℕ) → slice_get xs k ≡ None → length xs ≤ k
none_past [] k h = omega arith
none_past (x ∷ xs) zero h = absurd (cc)
none_past (x ∷ xs) (suc k) h = let r : length xs ≤ k = none_past xs k h in omega arith

-- an entry that isn't expected is the first
first_break : {F A : Type 0} (s : Setting F A) (entries : List Entry) (done : ℕ) (e : Entry) →
    Grown (IsExpected s) [] (take done entries) → slice_get entries done ≡ Some e →
    (IsExpected s (take done entries) e → ⊥) → Lapses s entries (Some (Unexpected (done + 1)))
first_break s entries done e grown at denied =
    (done, refl, record { entry = e; there = at; grown = grown; broken = denied })

module _ {F A G : Type 0} (work : G → Workload F) (s : Setting F A) (entries : List Entry) (number base done : ℕ)
    (places : ℕ → ℕ) (hands : List (Followed G F)) (era : Era) (at : slice_get s.eras number ≡ Some era)
    (h : Follows work s (take done entries) number base places hands) where
  abbrev follower : Follower F
  follower = with_hands number base places h.helds

  actors_are : actors_at s.eras number ≡ era.actors
  actors_are = ap actors_in at

  hands_are : AreHands work s places base era.actors h.helds hands
  hands_are = subst (λ actors. AreHands work s places base actors h.helds hands) actors_are h.hands_are

  pub count_is : length hands ≡ length era.actors
  count_is = lengths work s places base era.actors h.helds hands hands_are

  over_is : all_over era.actors h.helds ≡ is_no_batch (open_from 0 hands)
  over_is = all_over_same work s places 0 base era.actors h.helds hands hands_are

  -- an actor is the first that hasn't ended
  opens : (first : ℕ) → open_from 0 hands ≡ Some first → IsFirstOpen s (take done entries) (base + first)
  opens first is =
      let zero_base : base + 0 ≡ base = omega arith in
      let told : first_open base era.actors h.helds ≡ Some (base + first) =
      open_same work s places base 0 base era.actors h.helds hands zero_base hands_are
      ∙ ap (option_map (λ k. base + k)) is in
      subst (Ends s (take done entries))
      (ap (λ o. or_else o (finish s (eras_from (suc number) s.eras) (next_epoch s follower))) told)
      (finishes s (take done entries) (era ∷ eras_from (suc number) s.eras) follower h.followed
      (eras_there number s.eras era at))

  -- a later entry isn't expected while an actor hasn't ended
  stuck_open : (first : ℕ) (e : Entry) → open_from 0 hands ≡ Some first → base + length hands ≤ e.incarnation →
      IsExpected s (take done entries) e → ⊥
  stuck_open first e is later expected =
      let count : length hands ≡ length era.actors = count_is in
      let over : all_over era.actors h.helds ≡ true =
      followed_later s (take done entries) follower e era h.followed at (omega arith) expected in
      let no : all_over era.actors h.helds ≡ false = over_is ∙ ap is_no_batch is in
      absurd (cc)

  module _ (stuck : (e : Entry) → slice_get entries done ≡ Some e →
      IsStuck s (take done entries) (base + length hands) e) where
    -- the next entry isn't expected
    unexpected : (first : Option ℕ) (e : Entry) → open_from 0 hands ≡ first → slice_get entries done ≡ Some e →
        (broken : Broken) → broken_at first (Some e) base (base + length hands) done ≡ Some broken →
        Lapses s entries (Some broken)
    unexpected (Some first) e is there broken h2 =
        subst (λ b. Lapses s entries (Some b)) (same_Some (Unexpected (done + 1)) broken h2)
        (first_break s entries done e h.followed.grown there
        (λ expected. elim (cases_lt e.incarnation (base + length hands)) [
          | inl below ↦ stuck e there below expected
          | inr later ↦ stuck_open first e is (omega arith) expected
        ]))
    unexpected None e is there broken h2 = go (nat_lt e.incarnation (base + length hands)) refl h2
      where
        go : (b : Bool) → nat_lt e.incarnation (base + length hands) ≡ b →
            (if b then Some (Unexpected (done + 1)) else None) ≡ Some broken → Lapses s entries (Some broken)
        go true q r =
            subst (λ b. Lapses s entries (Some b)) (same_Some (Unexpected (done + 1)) broken r)
            (first_break s entries done e h.followed.grown there
            (stuck e there (ltb-true e.incarnation (base + length hands) q)))
        go false q r = absurd (none-some broken r)

    -- an actor hasn't ended at the end
    unended : (first : Option ℕ) → open_from 0 hands ≡ first → slice_get entries done ≡ None → (broken : Broken) →
        broken_at first None base (base + length hands) done ≡ Some broken → Lapses s entries (Some broken)
    unended (Some first) is past broken h2 =
        let all : take done entries ≡ entries = take_all done entries (none_past entries done past) in
        subst (λ b. Lapses s entries (Some b)) (same_Some (Unended (base + first)) broken h2) (
          subst (Grown (IsExpected s) []) all h.followed.grown,
          subst (λ es. IsFirstOpen s es (base + first)) all
              (opens first is),
        )
    unended None is past broken h2 = absurd (none-some broken h2)

    -- what is broken in the epoch
    pub breaks : (broken : Broken) →
        broken_at (open_from 0 hands) (slice_get entries done) base (base + length hands) done ≡ Some broken →
        Lapses s entries (Some broken)
    breaks broken = go (slice_get entries done) refl
      where
        go : (o : Option Entry) → slice_get entries done ≡ o →
            broken_at (open_from 0 hands) o base (base + length hands) done ≡ Some broken →
            Lapses s entries (Some broken)
        go (Some e) there = unexpected (open_from 0 hands) e refl there broken
        go None past = unended (open_from 0 hands) refl past broken

  none_open : (first : Option ℕ) (o : Option Entry) → broken_at first o base (base + length hands) done ≡ None →
      is_no_batch first ≡ true
  none_open (Some first) (Some e) q = absurd (none-some (Unexpected (done + 1)) (sym q))
  none_open (Some first) None q = absurd (none-some (Unended (base + first)) (sym q))
  none_open None o q = refl

  -- where nothing is, the next epoch is in hand
  pub goes_on : (next : ℕ → ℕ) →
      broken_at (open_from 0 hands) (slice_get entries done) base (base + length hands) done ≡ None →
      ((helds : List (Held F)) → AreHands work s places base era.actors helds hands → (lane : ℕ) →
      next lane ≡ places lane + taken_in s base places lane era.actors helds) →
      IsFollowed s (take done entries) (at_epoch s (number + 1) (base + length hands) next)
  goes_on next is taken =
      let over : all_over era.actors h.helds ≡ true = over_is
      ∙ none_open (open_from 0 hands) (slice_get entries done) is in
      let far : (λ lane. places lane + taken_in s base places lane (actors_at s.eras number) h.helds) ≡ next =
      λ i lane. (ap (λ actors. places lane + taken_in s base places lane actors h.helds) actors_are
      ∙ sym (taken h.helds hands_are lane)) i in
      let end : base + length (actors_at s.eras number) ≡ base + length hands =
      ap (λ n. base + n) (ap length actors_are ∙ sym count_is) in
      subst₂ (λ b (p : ℕ → ℕ). IsFollowed s (take done entries) (at_epoch s (number + 1) b p)) end far
      (followed_next s (take done entries) follower era h.followed at over)

-- behind the last epoch
pub ends : {F A : Type 0} (s : Setting F A) (entries : List Entry) (number base done : ℕ) (places : ℕ → ℕ) →
    IsFollowed s (take done entries) (at_epoch s number base places) → length s.eras ≤ number → done ≤ length entries →
    Lapses s entries (behind done (length entries))
ends s entries number base done places h past upto = go (nat_lt done (length entries)) refl
  where
    go : (b : Bool) → nat_lt done (length entries) ≡ b →
        Lapses s entries (if b then Some (Unexpected (done + 1)) else None)
    go true q =
        let e : (x : Entry) × (slice_get entries done ≡ Some x) =
        entry_there entries done (ltb-true done (length entries) q) in
        first_break s entries done e.0 h.grown e.1
        (nothing_at_end s (take done entries) (at_epoch s number base places) e.0 h past)
      where
        entry_there : (es : List Entry) (k : ℕ) → k < length es → (x : Entry) × (slice_get es k ≡ Some x)
        entry_there [] k l = absurd (omega arith)
        entry_there (x ∷ es) zero l = (x, refl)
        entry_there (x ∷ es) (suc k) l = entry_there es k (omega arith)
    go false q =
        let same : done ≡ length entries = elim (cases_lt done (length entries)) [
          | inl l ↦ (let yes : nat_lt done (length entries) ≡ true = lt-ltb done (length entries) l in absurd (cc))
          | inr l ↦ omega arith
        ] in
        let all : take done entries ≡ entries = take_all done entries (omega arith) in (
          subst (Grown (IsExpected s) []) all h.grown,
          subst (EachOver s) all (followed_end s (take done entries) (at_epoch s number base places) h past),
        )

-- before the first epoch
pub sets_out : {F A : Type 0} (s : Setting F A) (places : List ℕ) → ((lane : ℕ) → come_to places lane ≡ 0) →
    IsFollowed s [] (at_epoch s 0 0 (come_to places))
sets_out s places none =
    let zeros : (λ (lane : ℕ). 0) ≡ come_to places = λ i lane. sym (none lane) i in
    subst (λ p. IsFollowed s [] (at_epoch s 0 0 p)) zeros (followed_first s)

get_same : (n k z : ℕ) → get_or (replicate n z) k z ≡ z
get_same zero k z = refl
get_same (suc n) zero z = refl
get_same (suc n) (suc k) z = get_same n k z

pub none_at : (n : ℕ) (places : List ℕ) → places ≡ replicate n 0 → (lane : ℕ) → come_to places lane ≡ 0
none_at n places is lane = ap (λ l. get_or l lane 0) is ∙ get_same n lane 0
