-- What a setting's epochs make grows by the rule of runs, and leaves each actor with its work done.
use Rattle.std.proofs.Common.{◌≡◌, inl, inr, ℕ, suc, ◌+◌, ◌-◌, ◌%◌, Bool, ◌<◌, ◌≤◌, true, nat_lt, List, [], ◌∷◌, ◌++◌, Some, None, length, map, slice_get, refl, sym, ap, ◌∙◌, subst, subst₂, append_assoc, ap₂, le_of_eq, add-zero, zero-add, arith, length-append}
use Rattle.std.specs.List.{repeat, AllByRecursion}
use Rattle.std.proofs.lemmas.Bool.{cases_lt, cases_Bool, both_ways, cond-true, cond-false, lt-ltb, le-ltb}
use Rattle.std.proofs.lemmas.List.{length-map}
use Rattle.std.proofs.lemmas.Option.{slice_get_within}
use Rattle.slnf_access.specs.declared.requests.Entry.{Entry}
use Rattle.slnf_access.specs.declared.requests.Ask.{Ask}
use Rattle.slnf_access.specs.Map.{key_of}
use Rattle.slnf_access.specs.Machines.{IsAsked}
use Rattle.slnf_run.specs.Setting.{Actor, Era, Setting, era_of}
use Rattle.slnf_run.specs.Parts.{part_of, at_lane, places_after, Post, posts_from, posts_of, is_stopped, offers_at}
use Rattle.slnf_run.specs.Run.{IsBelowStop, IsDone}
use Rattle.slnf_run.specs.Scheduled.{Wish, Way, wanted, entry_after, turns, round, NobodyWants, Makes}
use Rattle.slnf_run.specs.Made.{Grown, IsLawful}
use Rattle.slnf_run.proofs.Growth.{grown-append}
use Rattle.slnf_run.proofs.Pairing.{each-weaker, each-push}
use Rattle.slnf_run.proofs.Parting.{all_ended-same, places_after-same, post_of}
use Rattle.slnf_run.proofs.Lists.{EveryAt, every_at-append}
use Rattle.slnf_run.proofs.Wishes.{IsNextAccess, wanted_tells, wants_nothing}
use Rattle.slnf_run.proofs.Turns.{IsKept, IsWithin, turns_reach, makes_from}
use Rattle.slnf_run.proofs.PartPosts.{part_of-later, post_in}
use Rattle.slnf_run.proofs.Stops.{within_stop-none, below_stop}
use Rattle.slnf_run.proofs.GrowthRule.{IsNext, grown_within_stop}

-- incarnations of the first epoch, and of later ones
pub era_of-first : (era : Era) (eras : List Era) (i : ℕ) → i < length era.actors → era_of (era ∷ eras) i ≡ 0
era_of-first era eras i l = cond-true (nat_lt i (length era.actors)) 0 (era_of eras (i - length era.actors) + 1)
    (lt-ltb i (length era.actors) l)

pub era_of-later : (era : Era) (eras : List Era) (i : ℕ) → length era.actors ≤ i → era_of (era ∷ eras) i
    ≡ era_of eras (i - length era.actors) + 1
era_of-later era eras i l = cond-false (nat_lt i (length era.actors)) 0 (era_of eras (i - length era.actors) + 1)
    (le-ltb i (length era.actors) l)

-- epochs rise with incarnations
era_of-rises : (eras : List Era) (i k : ℕ) → i ≤ k → era_of eras i ≤ era_of eras k
era_of-rises [] i k l = omega arith
era_of-rises (era ∷ eras) i k l =
    elim (cases_lt i (length era.actors)) [
      | inl first ↦ let a : era_of (era ∷ eras) i ≡ 0 = era_of-first era eras i first in rw a (omega arith)
      | inr later ↦
          let a : era_of (era ∷ eras) i ≡ era_of eras (i - length era.actors) + 1 = era_of-later era eras i later in
          let b : era_of (era ∷ eras) k ≡ era_of eras (k - length era.actors) + 1 =
          era_of-later era eras k (omega arith) in
          let c : era_of eras (i - length era.actors) ≤ era_of eras (k - length era.actors) =
          era_of-rises eras (i - length era.actors) (k - length era.actors) (omega arith) in
          rw (a, b) (omega arith)
    ]

-- The list so far in an epoch with so many incarnations before its end: it grew by the rule.
pub record Stands {F A : Type 0} (s : Setting F A) (posts : List Post) (end : ℕ) (es : List Entry) : Type 0 where
  pub grown : Grown (IsNext s posts) [] es
  pub before : AllByRecursion (λ e. e.incarnation < end) es
  pub short : AllByRecursion (λ e. e.stamp ≤ length es) es

-- An entry that is next, and one of an epoch's.
pub record IsNextWithin {F A : Type 0} (s : Setting F A) (posts : List Post) (base count : ℕ) (es : List Entry)
    (e : Entry) : Type 0 where
  pub next : IsNext s posts es e
  pub within : IsWithin base count e
  pub short : e.stamp ≤ length es + 1

-- The epoch in hand: where its actors' posts stand, and the number of their epoch.
pub record IsInHand {F A : Type 0} (s : Setting F A) (posts : List Post) (number base : ℕ) (places : ℕ → ℕ)
    (actors : List Actor) : Type 0 where
  pub posted : (k : ℕ) (actor : Actor) → slice_get actors k ≡ Some actor → slice_get posts (base + k)
      ≡ Some (post_of number places actor)
  pub era : (i : ℕ) → base ≤ i → i < base + length actors → era_of s.eras i ≡ number

epoch_so_far : {F A : Type 0} (s : Setting F A) (number base count k : ℕ) →
    ((i : ℕ) → base ≤ i → i < base + count → era_of s.eras i ≡ number) → k < count → (e : Entry) →
    e.incarnation < base + count → era_of s.eras e.incarnation ≤ era_of s.eras (base + k)
epoch_so_far s number base count k h l e m =
    elim (cases_lt e.incarnation base) [
      | inl earlier ↦ era_of-rises s.eras e.incarnation (base + k) (omega arith)
      | inr same ↦ le_of_eq (h e.incarnation same m ∙ sym (h (base + k) (omega arith) (omega arith)))
    ]

-- an access that an actor of the epoch wants is next
next_of_wanted : {F A : Type 0} (s : Setting F A) (way : Way) → IsLawful (era_of s.eras) way →
    (posts : List Post) (number base : ℕ) (places : ℕ → ℕ) (actors : List Actor) (es : List Entry) (k : ℕ)
    (actor : Actor) (ask : Ask) → IsInHand s posts number base places actors →
    Stands s posts (base + length actors) es → slice_get actors k ≡ Some actor →
    wanted s way.comes_before es (base + k) (at_lane places actor) actor ≡ Some ask →
    IsNext s posts es (entry_after s way es (base + k) ask)
next_of_wanted s way lawful posts number base places actors es k actor ask hand stands at e =
    let l : k < length actors = slice_get_within actors k actor at in
    let access : IsNextAccess s es (base + k) (at_lane places actor) actor ask =
    wanted_tells s way.comes_before (lawful.before, lawful.behind) es (base + k)
    (at_lane places actor) actor ask e in
    record {
      made = record {
        above = lawful.above es (base + k) (key_of ask.request % s.shards) stands.short;
        shard = refl;
        reply = refl;
        epochs = each-weaker (λ f. f.incarnation < base + length actors)
            (λ f. era_of s.eras f.incarnation ≤ era_of s.eras (base + k))
            (λ f m. epoch_so_far s number base (length actors) k hand.era l f m) es stands.before;
      };
      asked = subst (λ stand. IsAsked (s.scene.machine (base + k)) stand (entry_after s way es (base + k) ask))
          (sym access.flies) access.request;
      post = post_of number places actor;
      posted = hand.posted k actor at;
      offered = access.offered;
      below =
          below_stop actor (part_of (base + k) es) access.running
          (grown_within_stop s posts (base + k) (post_of number places actor) [] es
          (hand.posted k actor at) stands.grown (within_stop-none actor));
      earlier = access.earlier;
    }

short_push : (es : List Entry) (e : Entry) → AllByRecursion (λ f. f.stamp ≤ length es) es → e.stamp ≤ length es + 1 →
    AllByRecursion (λ f. f.stamp ≤ length (es ++ e ∷ [])) (es ++ e ∷ [])
short_push es e h k =
    let size : length (es ++ e ∷ []) ≡ length es + 1 = length-append es (e ∷ []) in
    each-push (λ f. f.stamp ≤ length (es ++ e ∷ [])) es e
    (each-weaker (λ f. f.stamp ≤ length es) (λ f. f.stamp ≤ length (es ++ e ∷ []))
    (λ f l. let n : f.stamp ≤ length es = l in omega arith) es h) (omega arith)

pub next_kept : {F A : Type 0} (s : Setting F A) (way : Way) → IsLawful (era_of s.eras) way →
    (posts : List Post) (number base : ℕ) (places : ℕ → ℕ) (actors : List Actor) →
    IsInHand s posts number base places actors →
    IsKept s way base places actors (Stands s posts (base + length actors))
    (IsNextWithin s posts base (length actors))
next_kept s way lawful posts number base places actors hand = record {
  allowed = λ es k actor ask stands at e.
      let l : k < length actors = slice_get_within actors k actor at in
      record {
        next = next_of_wanted s way lawful posts number base places actors es k actor ask hand stands at e;
        within = record { from = omega arith; upto = omega arith };
        short = lawful.within es (base + k) (key_of ask.request % s.shards) stands.short;
      };
  lasts = λ es e stands q. record {
    grown = grown-append (IsNext s posts) [] es (e ∷ []) stands.grown (q.next, tt);
    before = each-push (λ f. f.incarnation < base + length actors) es e stands.before q.within.upto;
    short = short_push es e stands.short q.short;
  };
}

-- an actor that wants nothing has done its work, also in a list that has the same part of it
done_of_nothing : {F A : Type 0} (s : Setting F A) (c : Wish → Wish → Bool) (posts : List Post) (es m : List Entry)
    (incarnation : ℕ) (post : Post) → Grown (IsNext s posts) [] es → slice_get posts incarnation ≡ Some post →
    part_of incarnation es ≡ part_of incarnation m → wanted s c es incarnation post.at post.actor ≡ None →
    IsDone s m incarnation post
done_of_nothing s c posts es m incarnation post grown posted same e =
    elim (cases_Bool (is_stopped post.actor (part_of incarnation es))) [
      | inl stopped ↦ inl (subst (λ part. is_stopped post.actor part ≡ true) same stopped)
      | inr running ↦ elim (wants_nothing s c es incarnation post.at post.actor e) [
        | inl stopped ↦ absurd (both_ways (is_stopped post.actor (part_of incarnation es)) running stopped)
        | inr ended ↦
            inr (
              subst (IsBelowStop post.actor) same
                  (below_stop post.actor (part_of incarnation es) running
                  (grown_within_stop s posts incarnation post [] es posted grown (within_stop-none post.actor))),
              all_ended-same s incarnation es m (offers_at s incarnation post) same ended,
            )
      ]
    ]

-- where nobody of an epoch wants anything, all its actors have done their work
done_of_nobody : {F A : Type 0} (s : Setting F A) (c : Wish → Wish → Bool) (posts : List Post) (es m : List Entry)
    (number : ℕ) (places : ℕ → ℕ) (incarnation : ℕ) (actors : List Actor) → Grown (IsNext s posts) [] es →
    ((k : ℕ) (actor : Actor) → slice_get actors k ≡ Some actor → slice_get posts (incarnation + k)
    ≡ Some (post_of number places actor)) → ((i : ℕ) → i < incarnation + length actors → part_of i es ≡ part_of i m) →
    NobodyWants s c places es incarnation actors →
    EveryAt (IsDone s m) incarnation (map (post_of number places) actors)
done_of_nobody s c posts es m number places incarnation [] grown posted same nobody = tt
done_of_nobody s c posts es m number places incarnation (actor ∷ actors) grown posted same nobody = (
  done_of_nothing s c posts es m incarnation (post_of number places actor) grown
      (subst (λ i. slice_get posts i ≡ Some (post_of number places actor)) (add-zero incarnation)
      (posted 0 actor refl))
      (same incarnation (omega arith)) nobody.0,
  done_of_nobody s c posts es m number places (incarnation + 1) actors grown
      (λ k later at.
      let q : incarnation + suc k ≡ incarnation + 1 + k = omega arith in
      subst (λ i. slice_get posts i ≡ Some (post_of number places later)) q (posted (suc k) later at))
      (λ i l. same i (omega arith)) nobody.1,
)

-- what epochs to come make grows by the rule of runs, and leaves their actors with their work done
epochs_grow : {F A : Type 0} (s : Setting F A) (way : Way) → IsLawful (era_of s.eras) way →
    (posts : List Post) (eras : List Era) (earlier : List Post) (number base : ℕ) (places : ℕ → ℕ)
    (es m : List Entry) → Makes s way base places eras es m → length earlier ≡ base →
    ((i : ℕ) → base ≤ i → era_of s.eras i ≡ era_of eras (i - base) + number) → Stands s posts base es → posts
    ≡ earlier ++ posts_from s m number base places eras → Grown (IsNext s posts) [] m
    × EveryAt (IsDone s m) base (posts_from s m number base places eras)
epochs_grow s way lawful posts [] earlier number base places es m h len offset stands p =
    (subst (Grown (IsNext s posts) []) (sym h) stands.grown, tt)
epochs_grow s way lawful posts (era ∷ eras) earlier number base places es m h len offset stands p =
    let after : List Entry = turns s way base places era (era.schedule ++ repeat h.0 (round era)) es in
    let count : ℕ = length era.actors in
    let here : List Post = map (post_of number places) era.actors in
    let same : (i : ℕ) → i < base + count → part_of i after ≡ part_of i m =
    λ i l. sym (part_of-later i (base + count) after m l
    (makes_from s way eras (base + count) (places_after s after base places era) after m h.1.1)) in
    let lanes : places_after s m base places era ≡ places_after s after base places era =
    places_after-same s m after base places era (λ i l. sym (same i l)) in
    let later : (ℕ → ℕ) → List Post = λ q. posts_from s m (number + 1) (base + count) q eras in
    let hand : IsInHand s posts number base places era.actors = record {
      posted = λ k actor at.
          ap (λ l. slice_get l (base + k)) p
          ∙ (ap (λ n. slice_get (earlier ++ (here ++ later (places_after s m base places era))) (n + k)) (sym len)
          ∙ post_in earlier number places era.actors (later (places_after s m base places era)) k actor at);
      era = λ i from upto. offset i from ∙ (ap (λ n. n + number) (era_of-first era eras (i - base) (omega arith))
          ∙ zero-add number);
    } in
    let standing : Stands s posts (base + count) after =
    (turns_reach s way base places era (Stands s posts (base + count)) (IsNextWithin s posts base count) (era.schedule
    ++ repeat h.0 (round era)) es
    (next_kept s way lawful posts number base places era.actors hand)
    (record {
      grown = stands.grown;
      short = stands.short;
      before =
          each-weaker (λ e. e.incarnation < base) (λ e. e.incarnation < base + count)
          (λ e l. let k : e.incarnation < base = l in omega arith) es stands.before;
    })).lasts in
    let length_here : length here ≡ count = length-map era.actors (post_of number places) in
    let rest : Grown (IsNext s posts) [] m × EveryAt (IsDone s m) (base + count)
    (later (places_after s after base places era)) =
    epochs_grow s way lawful posts eras (earlier ++ here) (number + 1) (base + count)
    (places_after s after base places era) after m h.1.1
    (length-append earlier here ∙ ap₂ (λ a b. a + b) len length_here)
    (λ i from.
    let a : i - base - count ≡ i - (base + count) = omega arith in
    offset i (omega arith)
    ∙ (ap (λ n. n + number) (era_of-later era eras (i - base) (omega arith) ∙ ap (λ n. era_of eras n + 1) a)
    ∙ (omega arith)))
    standing
    (p ∙ (ap (λ q. earlier ++ (here ++ later q)) lanes
    ∙ sym (append_assoc earlier here (later (places_after s after base places era))))) in (
      rest.0,
      every_at-append (IsDone s m) base here (later (places_after s m base places era))
          (done_of_nobody s way.comes_before posts after m number places base era.actors standing.grown hand.posted
          same h.1.0)
          (subst₂ (λ n q. EveryAt (IsDone s m) (base + n) (later q)) (sym length_here) (sym lanes) rest.1),
    )

-- the accesses that a setting's schedule makes grow by the rule of runs, and leave each actor with its work done
pub makes_run : {F A : Type 0} (s : Setting F A) (way : Way) → IsLawful (era_of s.eras) way → (m : List Entry) →
    Makes s way 0 (λ lane. 0) s.eras [] m → Grown (IsNext s (posts_of s m)) [] m
    × EveryAt (IsDone s m) 0 (posts_of s m)
makes_run s way lawful m h =
    epochs_grow s way lawful (posts_of s m) s.eras [] 0 0 (λ lane. 0) [] m h refl
    (λ i from. let a : i ≡ i - 0 = omega arith in ap (era_of s.eras) a ∙ sym (add-zero (era_of s.eras (i - 0))))
    (record { grown = tt; before = tt; short = tt }) refl
