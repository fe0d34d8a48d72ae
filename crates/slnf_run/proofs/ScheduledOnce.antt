-- A setting's schedule makes one list, however many further rounds are counted.
use Rattle.std.proofs.Common.{◌≡◌, inl, inr, ℕ, suc, zero, ◌+◌, ◌-◌, ◌≤◌, List, [], ◌∷◌, ◌++◌, Option, Some, None, length, slice_get, refl, sym, ap, ◌∙◌, subst, append_assoc, zero-add, suc-add, arith}
use Rattle.std.specs.List.{repeat}
use Rattle.std.proofs.lemmas.Bool.{cases_lt}
use Rattle.slnf_access.specs.declared.requests.Entry.{Entry}
use Rattle.slnf_run.specs.Setting.{Actor, Era, Setting}
use Rattle.slnf_run.specs.Parts.{at_lane, places_after}
use Rattle.slnf_run.specs.Scheduled.{Way, wanted, with_access, turn_of, turn, turns, round, NobodyWants, Makes, IsScheduled, in_order}
use Rattle.slnf_run.proofs.Lists.{EveryAt, every_at}

module _ {F A : Type 0} (s : Setting F A) (way : Way) where
  turns-append : (base : ℕ) (places : ℕ → ℕ) (era : Era) (xs ys : List ℕ) (es : List Entry) →
      turns s way base places era (xs ++ ys) es ≡ turns s way base places era ys (turns s way base places era xs es)
  turns-append base places era [] ys es = refl
  turns-append base places era (x ∷ xs) ys es =
      turns-append base places era xs ys (turn s way base places era es x)

  -- the actor wants nothing at its place
  abbrev WantsNothing : (ℕ → ℕ) → List Entry → ℕ → Actor → Type 0
  WantsNothing places es i actor = wanted s way.comes_before es i (at_lane places actor) actor ≡ None

  nobody_at : (places : ℕ → ℕ) (es : List Entry) (incarnation : ℕ) (actors : List Actor) →
      NobodyWants s way.comes_before places es incarnation actors → EveryAt (WantsNothing places es) incarnation actors
  nobody_at places es incarnation [] h = tt
  nobody_at places es incarnation (actor ∷ actors) h = (h.0, nobody_at places es (incarnation + 1) actors h.1)

  idle_turn : (base : ℕ) (places : ℕ → ℕ) (actors : List Actor) (es : List Entry) (number : ℕ) (o : Option Actor) →
      NobodyWants s way.comes_before places es base actors → slice_get actors number ≡ o →
      turn_of s way base places es number o ≡ es
  idle_turn base places actors es number None h e = refl
  idle_turn base places actors es number (Some actor) h e =
      ap (with_access s way es (base + number))
      (every_at (WantsNothing places es) base actors number actor (nobody_at places es base actors h) e)

  -- turns add nothing where nobody wants anything
  idle_turns : (base : ℕ) (places : ℕ → ℕ) (era : Era) (numbers : List ℕ) (es : List Entry) →
      NobodyWants s way.comes_before places es base era.actors → turns s way base places era numbers es ≡ es
  idle_turns base places era [] es h = refl
  idle_turns base places era (number ∷ numbers) es h =
      let e : turn s way base places era es number ≡ es =
      idle_turn base places era.actors es number (slice_get era.actors number) h refl in
      ap (turns s way base places era numbers) e ∙ idle_turns base places era numbers es h

  -- the list after the schedule's numbers and so many rounds
  abbrev after_rounds : ℕ → (ℕ → ℕ) → Era → List Entry → ℕ → List Entry
  after_rounds base places era es rounds =
      turns s way base places era (era.schedule ++ repeat rounds (round era)) es

  repeat-add : (m n : ℕ) (xs : List ℕ) → repeat (m + n) xs ≡ repeat m xs ++ repeat n xs
  repeat-add zero n xs = rw zero-add
  repeat-add (suc m) n xs =
      rw suc-add (ap (λ l. xs ++ l) (repeat-add m n xs) ∙ sym (append_assoc xs (repeat m xs) (repeat n xs)))

  -- further rounds add nothing
  further_rounds : (base : ℕ) (places : ℕ → ℕ) (era : Era) (es : List Entry) (m n : ℕ) → m ≤ n →
      NobodyWants s way.comes_before places (after_rounds base places era es m) base era.actors →
      after_rounds base places era es n ≡ after_rounds base places era es m
  further_rounds base places era es m n l h =
      let numbers : List ℕ = era.schedule in
      let q : n ≡ m + (n - m) = omega arith in
      ap (λ k. turns s way base places era (numbers ++ repeat k (round era)) es) q
      ∙ (ap (λ r. turns s way base places era (numbers ++ r) es) (repeat-add m (n - m) (round era))
      ∙ (ap (λ r. turns s way base places era r es)
      (sym (append_assoc numbers (repeat m (round era)) (repeat (n - m) (round era))))
      ∙ (turns-append base places era (numbers ++ repeat m (round era)) (repeat (n - m) (round era)) es
      ∙ idle_turns base places era (repeat (n - m) (round era)) (after_rounds base places era es m) h)))

  -- what epochs make is one list
  makes_once : (eras : List Era) (base : ℕ) (places : ℕ → ℕ) (es m n : List Entry) →
      Makes s way base places eras es m → Makes s way base places eras es n → m ≡ n
  makes_once [] base places es m n h k = h ∙ sym k
  makes_once (era ∷ eras) base places es m n h k =
      let after : ℕ → List Entry = after_rounds base places era es in
      let same : after k.0 ≡ after h.0 = elim (cases_lt k.0 h.0) [
        | inl l ↦ sym (further_rounds base places era es k.0 h.0 (omega arith) k.1.0)
        | inr l ↦ further_rounds base places era es h.0 k.0 l h.1.0
      ] in
      makes_once eras (base + length era.actors) (places_after s (after h.0) base places era) (after h.0) m n h.1.1
      (subst (λ l. Makes s way (base + length era.actors) (places_after s l base places era) eras l n) same k.1.1)

  -- a setting's schedule has one journal
  pub scheduled_is_one : (j k : List Entry) → IsScheduled s way j → IsScheduled s way k → j ≡ k
  scheduled_is_one j k h i =
      h.sorted
      ∙ (ap in_order (makes_once s.eras 0 (λ lane. 0) [] h.accesses i.accesses h.made i.made) ∙ sym i.sorted)
