-- How the items of an epoch's actor begin, by the epoch's number and the actor's.
use Rattle.std.proofs.Common.{◌≡◌, ℕ, zero, suc, ◌+◌, ◌-◌, ◌<◌, true, false, nat_lt, Option, Some, None, List, [], ◌∷◌, ◌++◌, length, slice_get, refl, ap, ◌∙◌, arith}
use Rattle.std.proofs.lemmas.Bool.{cond-true, cond-false}
use Rattle.std.proofs.lemmas.Bool.Decides.{nat_tests}
use Rattle.std.proofs.lemmas.Option.{slice_get_within}
use Rattle.slnf_base.specs.declared.packets.Packet.{Packet}
use Rattle.slnf_access.specs.declared.functions.Start.{Start}
use Rattle.slnf_access.specs.Machines.{Stand}
use Rattle.slnf_run.specs.Setting.{Actor, Era, era_of, base_of, actors_of, own_base}
use Rattle.slnf_flight.specs.declared.lanes.Lane.{Lane}
use Rattle.slnf_flight.specs.Begins.{lane_begins, actor_begins, begins_of}

-- the epoch of an incarnation
pub era_at : (eras : List Era) (number k : ℕ) (era : Era) → slice_get eras number ≡ Some era → k < length era.actors
    → era_of eras (base_of eras number + k) ≡ number
era_at [] number k era at l = absurd (cc)
era_at (first ∷ eras) zero k era at l =
    let e : length first.actors ≡ length era.actors = ap
    (λ (o : Option Era). elim o [ None ↦ 0 | Some x ↦ length x.actors ]) at in
    let inside : nat_lt (0 + k) (length first.actors) ≡ true = grind (arith, nat_tests) in
    cond-true (nat_lt (0 + k) (length first.actors)) 0 _ inside
era_at (first ∷ eras) (suc number) k era at l =
    let behind : nat_lt (length first.actors + base_of eras number + k) (length first.actors)
    ≡ false = grind (arith, nat_tests) in
    let rest : length first.actors + base_of eras number + k - length first.actors
    ≡ base_of eras number + k = omega arith in
    let q : number + 1 ≡ suc number = omega arith in
    cond-false (nat_lt (length first.actors + base_of eras number + k) (length first.actors)) 0 _ behind
    ∙ (ap (λ i. era_of eras i + 1) rest ∙ (ap (λ n. n + 1) (era_at eras number k era at l) ∙ q))

slice_get-front : {X : Type 0} (xs ys : List X) (k : ℕ) → k < length xs → slice_get (xs ++ ys) k ≡ slice_get xs k
slice_get-front [] ys k l = absurd (omega arith)
slice_get-front (x ∷ xs) ys zero l = refl
slice_get-front (x ∷ xs) ys (suc k) l = slice_get-front xs ys k (omega arith)

slice_get-back : {X : Type 0} (xs ys : List X) (k n : ℕ) → n ≡ length xs + k → slice_get (xs ++ ys) n ≡ slice_get ys k
slice_get-back [] ys k n e = let q : n ≡ k = omega arith in ap (slice_get ys) q
slice_get-back (x ∷ xs) ys k zero e = absurd (omega arith)
slice_get-back (x ∷ xs) ys k (suc n) e = slice_get-back xs ys k n (omega arith)

-- the actor of an incarnation
pub actor_there : (eras : List Era) (number k : ℕ) (era : Era) → slice_get eras number ≡ Some era
    → k < length era.actors → slice_get (actors_of eras) (base_of eras number + k) ≡ slice_get era.actors k
actor_there [] number k era at l = absurd (cc)
actor_there (first ∷ eras) zero k era at l =
    let e : length first.actors ≡ length era.actors = ap
    (λ (o : Option Era). elim o [ None ↦ 0 | Some x ↦ length x.actors ]) at in
    let q : 0 + k ≡ k = omega arith in
    ap (slice_get (first.actors ++ actors_of eras)) q
    ∙ (slice_get-front first.actors (actors_of eras) k (omega arith)
    ∙ ap (λ (o : Option Era). elim o [ None ↦ None | Some x ↦ slice_get x.actors k ]) at)
actor_there (first ∷ eras) (suc number) k era at l =
    slice_get-back first.actors (actors_of eras) (base_of eras number + k)
    (length first.actors + base_of eras number + k) (omega arith)
    ∙ actor_there eras number k era at l

module _ (eras : List Era) (number k : ℕ) (era : Era) (actor : Actor) (at : slice_get eras number ≡ Some era)
    (there : slice_get era.actors k ≡ Some actor) where
  -- its epoch's base is the epoch's
  pub own_base_is : own_base eras (base_of eras number + k) ≡ base_of eras number
  own_base_is = ap (base_of eras) (era_at eras number k era at (slice_get_within era.actors k actor there))

  -- its items begin as those of its lane, or as a sweep's
  pub begins_at : {F : Type 0} (lanes : List Lane) (starts : ℕ → ℕ → Packet → Start F) (sweeps : ℕ → ℕ → Stand F)
      (item : ℕ)
      → begins_of eras lanes starts sweeps (base_of eras number + k) item
      ≡ lane_begins lanes (starts (base_of eras number + k))
      (sweeps (base_of eras number + k)) item actor.lane
  begins_at lanes starts sweeps item =
      ap (actor_begins lanes (starts (base_of eras number + k)) (sweeps (base_of eras number + k)) item)
      (actor_there eras number k era at (slice_get_within era.actors k actor there) ∙ there)
