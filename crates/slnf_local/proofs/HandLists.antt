-- The hands of an epoch's actors, one after another.
use Rattle.std.proofs.Common.{◌≡◌, ℕ, zero, suc, ◌+◌, ◌<◌, ◌≤◌, Bool, true, false, IsTrue, if◌then◌else◌, List, [], ◌∷◌, ◌++◌, Some, slice_get, set, refl, sym, ap, ap₂, ◌∙◌, subst, subst₂, arith, add-zero}
use Rattle.std.proofs.lemmas.Option.{same_Some}
use Rattle.slnf_access.specs.declared.requests.Entry.{Entry}
use Rattle.slnf_run.specs.Setting.{Actor, Setting, is_on}
use Rattle.slnf_run.specs.Parts.{part_of, taken_on}
use Rattle.slnf_run.proofs.Parting.{post_of}
use Rattle.slnf_local.specs.Local.{IsOver}
use Rattle.slnf_local.specs.Hands.{hand_of, hand_is_over}
use Rattle.slnf_local.specs.Followers.{hands_of, hands_first, all_over, taken_in}
use Rattle.slnf_local.proofs.Hands.{hand_of-other, hand_of-first, over_of_hand, hand_of_over, taken_of_hand}

-- the hand of one actor
pub hands_get : {F A : Type 0} (s : Setting F A) (es : List Entry) (number incarnation : ℕ) (places : ℕ → ℕ)
    (actors : List Actor) (k : ℕ) (actor : Actor) → slice_get actors k ≡ Some actor →
    slice_get (hands_of s es number incarnation places actors) k
    ≡ Some (hand_of s es (incarnation + k) (post_of number places actor))
hands_get s es number incarnation places [] k actor h = absurd (cc)
hands_get s es number incarnation places (a ∷ actors) zero actor h =
    ap₂ (λ i x. Some (hand_of s es i (post_of number places x))) (sym (add-zero incarnation)) (same_Some a actor h)
hands_get s es number incarnation places (a ∷ actors) (suc k) actor h =
    let q : incarnation + 1 + k ≡ incarnation + suc k = omega arith in
    hands_get s es number (incarnation + 1) places actors k actor h
    ∙ ap (λ i. Some (hand_of s es i (post_of number places actor))) q

-- an entry of an incarnation before these leaves their hands
hands_others : {F A : Type 0} (s : Setting F A) (es : List Entry) (e : Entry) (number incarnation : ℕ)
    (places : ℕ → ℕ) (actors : List Actor) → e.incarnation < incarnation →
    hands_of s (es ++ e ∷ []) number incarnation places actors ≡ hands_of s es number incarnation places actors
hands_others s es e number incarnation places [] l = refl
hands_others s es e number incarnation places (a ∷ actors) l =
    ap₂ (λ x xs. x ∷ xs) (hand_of-other s es e incarnation (post_of number places a) (λ q. omega arith))
    (hands_others s es e number (incarnation + 1) places actors (omega arith))

-- and one of theirs changes one hand
pub hands_set : {F A : Type 0} (s : Setting F A) (es : List Entry) (e : Entry) (number incarnation : ℕ) (places : ℕ → ℕ)
    (actors : List Actor) (k : ℕ) (actor : Actor) → slice_get actors k ≡ Some actor →
    e.incarnation ≡ incarnation + k →
    hands_of s (es ++ e ∷ []) number incarnation places actors
    ≡ set (hands_of s es number incarnation places actors) k
    (hand_of s (es ++ e ∷ []) e.incarnation (post_of number places actor))
hands_set s es e number incarnation places [] k actor h w = absurd (cc)
hands_set s es e number incarnation places (a ∷ actors) zero actor h w =
    let q : incarnation ≡ e.incarnation = omega arith in
    ap₂ (λ x xs. x ∷ xs)
    (ap₂ (λ i x. hand_of s (es ++ e ∷ []) i (post_of number places x)) q (same_Some a actor h))
    (hands_others s es e number (incarnation + 1) places actors (omega arith))
hands_set s es e number incarnation places (a ∷ actors) (suc k) actor h w =
    ap₂ (λ x xs. x ∷ xs)
    (hand_of-other s es e incarnation (post_of number places a) (λ q. omega arith))
    (hands_set s es e number (incarnation + 1) places actors k actor h (omega arith))

both_over : (a b : Bool) → (if a then b else false) ≡ true → (a ≡ true) × (b ≡ true)
both_over true b h = (refl, h)
both_over false b h = absurd (cc)

over_both : (a b : Bool) → a ≡ true → b ≡ true → (if a then b else false) ≡ true
over_both true b h k = k
over_both false b h k = absurd (cc)

-- all actors with these hands have ended exactly where each has
pub hands_over : {F A : Type 0} (s : Setting F A) (es : List Entry) (number incarnation : ℕ) (places : ℕ → ℕ)
    (actors : List Actor) → IsTrue (all_over actors (hands_of s es number incarnation places actors)) →
    (k : ℕ) (actor : Actor) → slice_get actors k ≡ Some actor →
    IsOver s es (incarnation + k) (post_of number places actor)
hands_over s es number incarnation places [] h k actor at = absurd (cc)
hands_over s es number incarnation places (a ∷ actors) h zero actor at =
    subst₂ (λ i x. IsOver s es i (post_of number places x)) (sym (add-zero incarnation)) (same_Some a actor at)
    (over_of_hand s es incarnation (post_of number places a)
    (both_over (hand_is_over a (hand_of s es incarnation (post_of number places a)))
    (all_over actors (hands_of s es number (incarnation + 1) places actors)) h).0)
hands_over s es number incarnation places (a ∷ actors) h (suc k) actor at =
    let q : incarnation + 1 + k ≡ incarnation + suc k = omega arith in
    subst (λ i. IsOver s es i (post_of number places actor)) q
    (hands_over s es number (incarnation + 1) places actors
    (both_over (hand_is_over a (hand_of s es incarnation (post_of number places a)))
    (all_over actors (hands_of s es number (incarnation + 1) places actors)) h).1 k actor at)

pub over_hands : {F A : Type 0} (s : Setting F A) (es : List Entry) (number incarnation : ℕ) (places : ℕ → ℕ)
    (actors : List Actor) → ((k : ℕ) (actor : Actor) → slice_get actors k
    ≡ Some actor → IsOver s es (incarnation + k) (post_of number places actor)) → IsTrue
    (all_over actors (hands_of s es number incarnation places actors))
over_hands s es number incarnation places [] h = refl
over_hands s es number incarnation places (a ∷ actors) h =
    over_both (hand_is_over a (hand_of s es incarnation (post_of number places a)))
    (all_over actors (hands_of s es number (incarnation + 1) places actors))
    (hand_of_over s es incarnation (post_of number places a)
    (subst (λ i. IsOver s es i (post_of number places a)) (add-zero incarnation) (h 0 a refl)))
    (over_hands s es number (incarnation + 1) places actors
    (λ k actor at. let q : incarnation + suc k ≡ incarnation + 1 + k =
    omega arith in subst (λ i. IsOver s es i (post_of number places actor)) q (h (suc k) actor at)))

-- how many packets they took
pub taken_in_hands : {F A : Type 0} (s : Setting F A) (es : List Entry) (number incarnation : ℕ) (places : ℕ → ℕ)
    (lane : ℕ) (actors : List Actor) →
    taken_in s incarnation places lane actors (hands_of s es number incarnation places actors)
    ≡ taken_on s es incarnation places lane actors
taken_in_hands s es number incarnation places lane [] = refl
taken_in_hands s es number incarnation places lane (a ∷ actors) =
    ap₂ (λ m n. (if is_on lane a then m else 0) + n)
    (taken_of_hand s es incarnation (post_of number places a))
    (taken_in_hands s es number (incarnation + 1) places lane actors)

-- the hands of actors without entries
pub hands_of_none : {F A : Type 0} (s : Setting F A) (es : List Entry) (number incarnation : ℕ) (places : ℕ → ℕ)
    (actors : List Actor) → ((i : ℕ) → incarnation ≤ i → part_of i es ≡ []) →
    hands_of s es number incarnation places actors ≡ hands_first s incarnation places actors
hands_of_none s es number incarnation places [] h = refl
hands_of_none s es number incarnation places (a ∷ actors) h =
    ap₂ (λ x xs. x ∷ xs)
    (hand_of-first s es incarnation (post_of number places a) (h incarnation (omega arith)))
    (hands_of_none s es number (incarnation + 1) places actors (λ i l. h i (omega arith)))
