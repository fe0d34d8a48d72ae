-- What the turns of an epoch make: each access of theirs is one that an actor of the epoch wants.
use Rattle.std.proofs.Common.{◌≡◌, ℕ, ◌+◌, ◌<◌, ◌≤◌, List, [], ◌∷◌, ◌++◌, Option, Some, None, length, slice_get, refl, sym, subst, arith}
use Rattle.std.specs.List.{repeat}
use Rattle.std.proofs.lemmas.Option.{slice_get_within}
use Rattle.slnf_access.specs.declared.requests.Entry.{Entry}
use Rattle.slnf_access.specs.declared.requests.Ask.{Ask}
use Rattle.slnf_run.specs.Setting.{Actor, Era, Setting}
use Rattle.slnf_run.specs.Parts.{at_lane, places_after}
use Rattle.slnf_run.specs.Scheduled.{Way, wanted, entry_after, with_access, turn_of, turn, turns, round, Makes}
use Rattle.slnf_run.proofs.Growth.{Extends, extends_same, extends_one, extends_then, extends_weaker}

-- A rule that each access of an epoch's turns keeps, where what is needed for it lasts.
pub record IsKept {F A : Type 0} (s : Setting F A) (way : Way) (base : ℕ) (places : ℕ → ℕ) (actors : List Actor)
    (Lasts : List Entry → Type 0) (Q : List Entry → Entry → Type 0) : Type 0 where
  pub allowed : (es : List Entry) (number : ℕ) (actor : Actor) (ask : Ask) → Lasts es → slice_get actors number
      ≡ Some actor → wanted s way.comes_before es (base + number) (at_lane places actor) actor ≡ Some ask →
      Q es (entry_after s way es (base + number) ask)
  pub lasts : (es : List Entry) (e : Entry) → Lasts es → Q es e → Lasts (es ++ e ∷ [])

-- A list that extends another by a rule, with what lasts.
pub record Reaches (Lasts : List Entry → Type 0) (Q : List Entry → Entry → Type 0) (es m : List Entry) : Type 0 where
  pub extends : Extends Q es m
  pub lasts : Lasts m

access_reaches : {F A : Type 0} (s : Setting F A) (way : Way) (base : ℕ) (places : ℕ → ℕ) (actors : List Actor)
    (Lasts : List Entry → Type 0) (Q : List Entry → Entry → Type 0) (es : List Entry) (number : ℕ) (actor : Actor)
    (o : Option Ask) → IsKept s way base places actors Lasts Q → Lasts es → slice_get actors number ≡ Some actor →
    wanted s way.comes_before es (base + number) (at_lane places actor) actor ≡ o →
    Reaches Lasts Q es (with_access s way es (base + number) o)
access_reaches s way base places actors Lasts Q es number actor None kept h k e =
    record { extends = extends_same Q es; lasts = h }
access_reaches s way base places actors Lasts Q es number actor (Some ask) kept h k e =
    let q : Q es (entry_after s way es (base + number) ask) = kept.allowed es number actor ask h k e in
    record {
      extends = extends_one Q es (entry_after s way es (base + number) ask) q;
      lasts =
          kept.lasts es (entry_after s way es (base + number) ask) h q;
    }

turn_reaches : {F A : Type 0} (s : Setting F A) (way : Way) (base : ℕ) (places : ℕ → ℕ) (actors : List Actor)
    (Lasts : List Entry → Type 0) (Q : List Entry → Entry → Type 0) (es : List Entry) (number : ℕ)
    (o : Option Actor) → IsKept s way base places actors Lasts Q → Lasts es → slice_get actors number ≡ o →
    Reaches Lasts Q es (turn_of s way base places es number o)
turn_reaches s way base places actors Lasts Q es number None kept h e =
    record { extends = extends_same Q es; lasts = h }
turn_reaches s way base places actors Lasts Q es number (Some actor) kept h e =
    access_reaches s way base places actors Lasts Q es number actor
    (wanted s way.comes_before es (base + number) (at_lane places actor) actor) kept h e refl

-- turns keep it
pub turns_reach : {F A : Type 0} (s : Setting F A) (way : Way) (base : ℕ) (places : ℕ → ℕ) (era : Era)
    (Lasts : List Entry → Type 0) (Q : List Entry → Entry → Type 0) (numbers : List ℕ) (es : List Entry) →
    IsKept s way base places era.actors Lasts Q → Lasts es →
    Reaches Lasts Q es (turns s way base places era numbers es)
turns_reach s way base places era Lasts Q [] es kept h = record { extends = extends_same Q es; lasts = h }
turns_reach s way base places era Lasts Q (number ∷ numbers) es kept h =
    let one : Reaches Lasts Q es (turn s way base places era es number) =
    turn_reaches s way base places era.actors Lasts Q es number (slice_get era.actors number) kept h refl in
    let rest : Reaches Lasts Q (turn s way base places era es number)
    (turns s way base places era numbers (turn s way base places era es number)) =
    turns_reach s way base places era Lasts Q numbers (turn s way base places era es number) kept one.lasts in
    record {
      extends = extends_then Q es (turn s way base places era es number)
          (turns s way base places era numbers (turn s way base places era es number)) one.extends rest.extends;
      lasts = rest.lasts;
    }

-- the entry is one of so many incarnations from this one on
pub record IsWithin (base count : ℕ) (e : Entry) : Type 0 where
  pub from : base ≤ e.incarnation
  pub upto : e.incarnation < base + count

-- accesses of an epoch are of its incarnations
within_kept : {F A : Type 0} (s : Setting F A) (way : Way) (base : ℕ) (places : ℕ → ℕ) (actors : List Actor) →
    IsKept s way base places actors (λ es. Unit {0}) (λ es e. IsWithin base (length actors) e)
within_kept s way base places actors = record {
  allowed = λ es number actor ask h k e.
      let l : number < length actors = slice_get_within actors number actor k in
      record { from = omega arith; upto = omega arith };
  lasts = λ es e h k. tt;
}

pub turns_within : {F A : Type 0} (s : Setting F A) (way : Way) (base : ℕ) (places : ℕ → ℕ) (era : Era)
    (numbers : List ℕ) (es : List Entry) → Extends (λ es e. IsWithin base (length era.actors) e) es
    (turns s way base places era numbers es)
turns_within s way base places era numbers es =
    (turns_reach s way base places era (λ es. Unit {0}) (λ es e. IsWithin base (length era.actors) e) numbers es
    (within_kept s way base places era.actors) tt).extends

-- what epochs make extends the list with which they begin, by entries of their incarnations
pub makes_from : {F A : Type 0} (s : Setting F A) (way : Way) (eras : List Era) (base : ℕ) (places : ℕ → ℕ)
    (es m : List Entry) → Makes s way base places eras es m → Extends (λ es e. base ≤ e.incarnation) es m
makes_from s way [] base places es m h = subst (λ l. Extends (λ es e. base ≤ e.incarnation) es l) (sym h)
    (extends_same (λ es e. base ≤ e.incarnation) es)
makes_from s way (era ∷ eras) base places es m h =
    let after : List Entry = turns s way base places era (era.schedule ++ repeat h.0 (round era)) es in
    extends_then (λ es e. base ≤ e.incarnation) es after m
    (extends_weaker (λ es e. IsWithin base (length era.actors) e) (λ es e. base ≤ e.incarnation)
    (λ es e k. k.from) es after
    (turns_within s way base places era (era.schedule ++ repeat h.0 (round era)) es))
    (extends_weaker (λ es e. base + length era.actors ≤ e.incarnation) (λ es e. base ≤ e.incarnation)
    (λ es e k. let l : base + length era.actors ≤ e.incarnation = k in omega arith) after m
    (makes_from s way eras (base + length era.actors) (places_after s after base places era) after m h.1.1))
