-- What a run is, and that nothing leaks in it, doesn't depend on what boxes see.
use Rattle.std.proofs.Common.{◌≡◌, inl, inr, ℕ, ◌+◌, ◌<◌, Some, List, [], ◌∷◌, ◌++◌, length, map, slice_get, if◌then◌else◌, refl, ap, sym, ◌∙◌, subst}
use mathlib.Core.Path.{fun_ext}
use Rattle.std.specs.List.{AllByRecursion}
use Rattle.slnf_access.specs.declared.requests.Entry.{Entry}
use Rattle.slnf_run.specs.Setting.{Actor, Era, Setting, is_on}
use Rattle.slnf_run.specs.Cases.{viewed}
use Rattle.slnf_run.specs.Parts.{Offer, part_of, offers_of, taken_of, at_lane, taken_on, places_after, Post, posts_from, posts_of, offers_at, batch_of}
use Rattle.slnf_run.specs.Run.{AllEnded, EarlierEnded, IsDone, IsRun}
use Rattle.slnf_box.specs.Nat.{Nat}
use Rattle.slnf_nat.specs.LeaksNothing.{IsSweepAt, IsFinishedAt, LeaksNothing}

module _ {G A B : Type 0} (view : B → A) (s : Setting G B) where
  -- the setting, of whose arrivals one sees only this
  abbrev pub viewed_setting : Setting G A
  viewed_setting = record {
    shards = s.shards;
    batch = s.batch;
    lanes = s.lanes;
    sweep_items = s.sweep_items;
    eras = s.eras;
    scene = viewed view s.scene;
  }

  taken_same : (es : List Entry) (places : ℕ → ℕ) (lane i : ℕ) (actors : List Actor) →
      taken_on viewed_setting es i places lane actors ≡ taken_on s es i places lane actors
  taken_same es places lane i [] = refl
  taken_same es places lane i (actor ∷ actors) =
      ap (λ n. (if is_on lane actor then length (taken_of actor (part_of i es)
      (offers_of s i (at_lane places actor) actor)) else 0) + n) (taken_same es places lane (i + 1) actors)

  places_same : (es : List Entry) (base : ℕ) (places : ℕ → ℕ) (era : Era) →
      places_after viewed_setting es base places era ≡ places_after s es base places era
  places_same es base places era =
      fun_ext (λ lane. ap (λ n. places lane + n) (taken_same es places lane base era.actors))

  from_same : (es : List Entry) (number base : ℕ) (places : ℕ → ℕ) (eras : List Era) →
      posts_from viewed_setting es number base places eras ≡ posts_from s es number base places eras
  from_same es number base places [] = refl
  from_same es number base places (era ∷ eras) =
      ap (λ posts. map (λ actor. record { actor = actor; era = number; at = at_lane places actor }) era.actors ++ posts)
      (ap (λ next. posts_from viewed_setting es (number + 1) (base + length era.actors) next eras)
      (places_same es base places era)
      ∙ from_same es (number + 1) (base + length era.actors) (places_after s es base places era) eras)

  -- its posts are the same
  posts_same : (es : List Entry) → posts_of viewed_setting es ≡ posts_of s es
  posts_same es = from_same es 0 0 (λ lane. 0) s.eras

  posted : (es : List Entry) (i : ℕ) (post : Post) → slice_get (posts_of viewed_setting es) i ≡ Some post →
      slice_get (posts_of s es) i ≡ Some post
  posted es i post at = ap (λ posts. slice_get posts i) (sym (posts_same es)) ∙ at

  all_ended : (i : ℕ) (es : List Entry) (offers : List Offer) → AllEnded s i es offers →
      AllEnded viewed_setting i es offers
  all_ended i es [] h = tt
  all_ended i es (offer ∷ offers) h = (h.0, all_ended i es offers h.1)

  earlier_ended : (i : ℕ) (es : List Entry) (batch : ℕ) (offers : List Offer) → EarlierEnded s i es batch offers →
      EarlierEnded viewed_setting i es batch offers
  earlier_ended i es batch [] h = tt
  earlier_ended i es batch (offer ∷ offers) h = (h.0, earlier_ended i es batch offers h.1)

  done_same : (es : List Entry) (i : ℕ) (post : Post) → IsDone s es i post → IsDone viewed_setting es i post
  done_same es i post (inl stopped) = inl stopped
  done_same es i post (inr whole) = inr (whole.0, all_ended i es (offers_at s i post) whole.1)

  -- a run of the one is a run of the other
  pub run_viewed : (es : List Entry) → IsRun s es → IsRun viewed_setting es
  run_viewed es run = record {
    in_order = run.in_order;
    in_shards = run.in_shards;
    legal = run.legal;
    of_actors =
        subst (λ (posts : List Post). AllByRecursion (λ (e : Entry). e.incarnation < length posts) es)
        (sym (posts_same es)) run.of_actors;
    paths = run.paths;
    done = λ i post at. done_same es i post (run.done i post (posted es i post at));
    by_epoch = run.by_epoch;
    offered = λ i post at. run.offered i post (posted es i post at);
    by_batch = λ before later e post split at.
        earlier_ended e.incarnation before (batch_of e.item (offers_at s e.incarnation post))
        (offers_at s e.incarnation post)
        (run.by_batch before later e post split (posted es e.incarnation post at));
  }

  sweep_same : (es : List Entry) (i : ℕ) → IsSweepAt s es i → IsSweepAt viewed_setting es i
  sweep_same es i sweep = record {
    post = sweep.post;
    posted = ap (λ posts. slice_get posts i) (posts_same es) ∙ sweep.posted;
    no_lane = sweep.no_lane;
  }

  finished_same : (es : List Entry) (i : ℕ) → IsFinishedAt s es i → IsFinishedAt viewed_setting es i
  unfolding sweep_same
  finished_same es i done = record { sweep = sweep_same es i done.sweep; finished = done.finished }

  -- and where nothing leaks in the one, nothing leaks in the other
  pub leaks_viewed : (nat : Nat) (es : List Entry) → LeaksNothing nat (λ cells. cells) viewed_setting es →
      LeaksNothing nat (λ cells. cells) s es
  leaks_viewed nat es r = record {
    through = r.through;
    tidy = λ i t done. r.tidy i t (finished_same es i done);
    alone = λ i t era done. r.alone i t era (finished_same es i done);
    settled = λ i t era done through own running.
        r.settled i t era (finished_same es i done) through own
        (λ j post at. running j post (posted es j post at));
    backed = r.backed;
    careful = λ before later e split sweep. r.careful before later e split (sweep_same es e.incarnation sweep);
    own = λ before later e split sweep. r.own before later e split (sweep_same es e.incarnation sweep);
  }
