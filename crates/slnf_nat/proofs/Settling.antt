-- In a run, no item of an epoch hangs behind it whose actors aren't stopped.
use Rattle.std.proofs.Common.{◌≡◌, ◌⊎◌, inl, inr, ℕ, zero, suc, ◌+◌, ◌-◌, ◌<◌, ◌≤◌, nat_lt, Bool, true, false, cond, ◌==◌, Option, Some, None, List, [], ◌∷◌, length, take, drop, slice_get, refl, ap, sym, ◌∙◌, subst, arith, take-append-drop}
use Rattle.std.proofs.lemmas.Bool.{eq-eqb, ltb-true}
use Rattle.slnf_base.specs.declared.addresses.Pair.{Pair}
use Rattle.slnf_base.specs.declared.packets.Proto.{Proto}
use Rattle.slnf_access.specs.declared.requests.Entry.{Entry}
use Rattle.slnf_access.specs.Machines.{Stand, Flies, Ends, HasEnded, stand_after}
use Rattle.slnf_run.specs.Run.{AllEnded, IsDone, IsOffered, IsRun}
use Rattle.slnf_run.specs.Scene.{own_of, stand_of}
use Rattle.slnf_run.specs.Setting.{Era, Setting, era_of, base_of}
use Rattle.slnf_run.specs.Parts.{part_of, Offer, is_stopped, Post, posts_of, offers_at}
use Rattle.slnf_run.proofs.DecidedOnce.{stand_of-append}
use Rattle.slnf_box.specs.Nat.{Nat}
use Rattle.slnf_box.specs.NatBox.{NatArrival}
use Rattle.slnf_nat.specs.Flights.{NatFlight}
use Rattle.slnf_nat.specs.Machine.{nat_machine}
use Rattle.slnf_nat.specs.NatScene.{nat_scene}
use Rattle.slnf_nat.specs.Kept.{SomeEntry}
use Rattle.slnf_nat.specs.Leaks.{IsThrough, Hangs, IsSettled}
use Rattle.slnf_nat.specs.LeaksNothing.{IsNatSetting}
use Rattle.slnf_nat.proofs.Lists.{some_entry-more, some_entry-each}
use Rattle.slnf_nat.proofs.Leaks.{own_or_none, not_at_first}
use Rattle.slnf_nat.proofs.LeaksOfRun.{ended_as, none_of}
use Rattle.slnf_access.proofs.Elements.{each-weaker}
use Rattle.std.specs.List.{AllByRecursion}

-- what each entry of a part has, an entry of it has
offered_there : (i k : ℕ) (P : ℕ → Type 0) (es : List Entry) → SomeEntry (λ f. (f.incarnation ≡ i) × (f.item ≡ k)) es
    → AllByRecursion (λ f. P f.item) (part_of i es) → P k
offered_there i k P [] h all = absurd h
offered_there i k P (e ∷ es) (inl h) all =
    let t : (e.incarnation == i) ≡ true = eq-eqb _ _ h.0 in
    subst P h.1 (subst (λ b. AllByRecursion (λ f. P f.item) (cond b (e ∷ part_of i es) (part_of i es))) t all).0
offered_there i k P (e ∷ es) (inr h) all = offered_there i k P es h (rest (e.incarnation == i) all)
  where
    rest : (b : Bool) → AllByRecursion (λ f. P f.item) (cond b (e ∷ part_of i es) (part_of i es))
        → AllByRecursion (λ f. P f.item) (part_of i es)
    rest true h = h.1
    rest false h = h

-- an offered item has ended where all have
ended_offer : {G : Type 0} (s : Setting G NatArrival) (i k : ℕ) (es : List Entry) (offers : List Offer)
    → IsOffered k offers → AllEnded s i es offers → HasEnded (stand_of s.scene i k es)
ended_offer s i k es [] h all = absurd h
ended_offer s i k es (offer ∷ offers) (inl same) all = subst (λ n. HasEnded (stand_of s.scene i n es)) same all.0
ended_offer s i k es (offer ∷ offers) (inr h) all = ended_offer s i k es offers h all.1

-- an incarnation at or above an epoch's base is of no earlier epoch
at_least : (eras : List Era) (number j : ℕ) (era : Era) → slice_get eras number ≡ Some era → base_of eras number ≤ j
    → number ≤ era_of eras j
at_least [] zero j era there low = omega arith
at_least [] (suc number) j era there low = absurd (nothing there)
  where
    nothing : slice_get [] (suc number) ≡ Some era → ⊥
    nothing h = cc
at_least (own ∷ eras) zero j era there low = omega arith
at_least (own ∷ eras) (suc number) j era there low =
    go (λ h. at_least eras number (j - length own.actors) era there h) (nat_lt j (length own.actors)) refl
  where
    go : (base_of eras number ≤ j - length own.actors → number ≤ era_of eras (j - length own.actors)) → (b : Bool)
        → nat_lt j (length own.actors) ≡ b → suc number ≤ cond b 0 (era_of eras (j - length own.actors) + 1)
    go again true w = let less : j < length own.actors = ltb-true j (length own.actors) w in absurd (omega arith)
    go again false w =
        let rest : base_of eras number ≤ j - length own.actors = omega arith in
        let r : number ≤ era_of eras (j - length own.actors) = again rest in
        omega arith

-- an item that has ended doesn't hang
not_ended : (nat : Nat) (proto : Proto) (port inside : Pair) (since : ℕ) (st : Stand NatFlight) → HasEnded st
    → Hangs nat proto port inside since st → ⊥
not_ended nat proto port inside since (Flies flight) ended h = ended
not_ended nat proto port inside since (Ends end) ended h = h

module _ {G : Type 0} (s : Setting G NatArrival) (into : NatFlight → G) (nat : Nat) (begins : ℕ → ℕ → Stand NatFlight)
    (es : List Entry) (is : IsNatSetting s into nat begins es) (run : IsRun s es) where
  -- No actor of this epoch is stopped.
  pub settles : (number t : ℕ) (era : Era) → slice_get s.eras number ≡ Some era
      → IsThrough (era_of s.eras) number es t
      → ((j : ℕ) (post : Post) → slice_get (posts_of s es) j ≡ Some post
      → era_of s.eras j ≡ number → is_stopped post.actor (part_of j es) ≡ false)
      → IsSettled nat begins (base_of s.eras number) (take t es)
  settles number t era there through running i k proto port inside since high hangs = go (own_or_none i k (take t es))
    where
      go : (own_of i k (take t es) ≡ []) ⊎ SomeEntry (λ f. (f.incarnation ≡ i) × (f.item ≡ k)) (take t es) → ⊥
      go (inl none) =
          not_at_first nat proto port inside since (begins i k) (is.firsts i k)
          (subst (Hangs nat proto port inside since) (ap (stand_after (nat_machine nat) (begins i k)) none) hangs)
      go (inr has) = by (slice_get (posts_of s es) i) refl
        where
          upto : era_of s.eras i ≤ number
          upto = some_entry-each (λ f. (f.incarnation ≡ i) × (f.item ≡ k))
              (λ f. era_of s.eras f.incarnation ≤ number) (era_of s.eras i ≤ number) (take t es) has through.front
              (λ f own le. subst (λ n. era_of s.eras n ≤ number) own.0 le)

          own_epoch : era_of s.eras i ≡ number
          own_epoch = let low : number ≤ era_of s.eras i = at_least s.eras number i era there high in omega (arith, upto)

          whole_has : SomeEntry (λ f. (f.incarnation ≡ i) × (f.item ≡ k)) es
          whole_has = subst (SomeEntry (λ f. (f.incarnation ≡ i) × (f.item ≡ k))) (take-append-drop t es)
              (some_entry-more (λ f. (f.incarnation ≡ i) × (f.item ≡ k)) (take t es) (drop t es) has)

          posted : i < length (posts_of s es)
          posted = some_entry-each (λ f. (f.incarnation ≡ i) × (f.item ≡ k))
              (λ f. f.incarnation < length (posts_of s es)) (i < length (posts_of s es)) es whole_has run.of_actors
              (λ f own less. subst (λ n. n < length (posts_of s es)) own.0 less)

          no_later : AllByRecursion (λ f. f.incarnation ≡ i → ⊥) (drop t es)
          no_later = each-weaker (λ f. number < era_of s.eras f.incarnation) (λ f. f.incarnation ≡ i → ⊥)
              (λ f more same. let e : era_of s.eras f.incarnation ≡ era_of s.eras i = ap (era_of s.eras) same in
              omega (arith, upto)) (drop t es) through.back

          stands : stand_of (nat_scene nat begins) i k es ≡ stand_of (nat_scene nat begins) i k (take t es)
          stands =
              ap (stand_of (nat_scene nat begins) i k) (sym (take-append-drop t es))
              ∙ stand_of-append (nat_scene nat begins) i k (take t es) (drop t es)
              ∙ ap (stand_after (nat_machine nat) (stand_of (nat_scene nat begins) i k (take t es)))
              (none_of i k (drop t es) no_later)

          ended : (post : Post) → slice_get (posts_of s es) i ≡ Some post → HasEnded (stand_of s.scene i k es) → ⊥
          ended post at done =
              not_ended nat proto port inside since _ (subst HasEnded stands (ended_as into
              (nat_machine nat) (s.scene.machine i) (is.image.machine i) (begins i k) (own_of i k es) (subst (λ st.
              HasEnded (stand_after (s.scene.machine i) st (own_of i k es))) (is.image.begins i k) done))) hangs

          by_done : (post : Post) → slice_get (posts_of s es) i ≡ Some post → IsDone s es i post → ⊥
          by_done post at (inl stopped) =
              let no : is_stopped post.actor (part_of i es) ≡ false = running i post at own_epoch in
              cc
          by_done post at (inr done) = ended post at (ended_offer s i k es (offers_at s i post) (offered_there i k
              (λ item. IsOffered item (offers_at s i post)) es whole_has (run.offered i post at)) done.1)

          by : (o : Option Post) → slice_get (posts_of s es) i ≡ o → ⊥
          by None at = nothing (posts_of s es) i posted at
            where
              nothing : (posts : List Post) (n : ℕ) → n < length posts → slice_get posts n ≡ None → ⊥
              nothing [] n less h = omega arith
              nothing (post ∷ posts) zero less h = cc
              nothing (post ∷ posts) (suc n) less h = nothing posts n (omega arith) h
          by (Some post) at = by_done post at (run.done i post at)
