-- The verdicts of all packets, by a ledger that tells of those that were taken.
use Rattle.std.proofs.Common.{◌≡◌, inl, inr, ℕ, suc, zero, ◌+◌, ◌-◌, ◌<◌, ◌≤◌, ◌^◌, Bool, true, false, if◌then◌else◌, Some, List, [], ◌∷◌, length, map, slice_get, refl, sym, ap, ◌∙◌, subst, arith, add-zero}
use Rattle.std.specs.Prelude.{replicate}
use Rattle.std.specs.List.{range_with_len}
use Rattle.std.proofs.lemmas.Bool.{cases_lt}
use Rattle.std.proofs.lemmas.List.{length-append, length-replicate, drop_all}
use Rattle.std.proofs.lemmas.Option.{same_Some}
use Rattle.slnf_base.specs.declared.packets.Verdict.{Verdict}
use Rattle.slnf_base.specs.declared.packets.Verdict.TheVariants.{Left}
use Rattle.slnf_access.specs.declared.requests.Entry.{Entry}
use Rattle.slnf_plan.specs.declared.plan.Plan.{Plan}
use Rattle.slnf_run.specs.Setting.{Setting}
use Rattle.slnf_run.specs.Parts.{posts_from}
use Rattle.slnf_run.specs.Verdicts.{verdict_of, verdict_among, verdicts_of, verdicts_from, is_left, left_of, left_in}
use Rattle.slnf_flight.specs.declared.flights.AnyFlight.{AnyFlight}
use Rattle.slnf_flight.specs.declared.lanes.Lane.{Lane}
use Rattle.slnf_flight.specs.Actors.{eras_of}
use Rattle.slnf_flight.specs.Flights.{Arrival}
use Rattle.slnf_flight.specs.Lanes.{or_no_packets, packets_on, packet_count, lane_sizes}
use Rattle.slnf_flight.specs.PlanSetting.{setting_of}
use Rattle.slnf_ledger.specs.Ledger.{verdicts_at, places_in, IsFitting, filled, filled_from}
use Rattle.slnf_ledger.specs.Told.{IsToldSoFar}
use Rattle.slnf_ledger.proofs.Told.{at_left, at_right}

of_replicate : {X : Type 0} (count n : ℕ) (x y : X) → slice_get (replicate count x) n ≡ Some y → y ≡ x
of_replicate zero n x y h = absurd (cc)
of_replicate (suc count) zero x y h = sym (same_Some x y h)
of_replicate (suc count) (suc n) x y h = of_replicate count n x y h

-- a list that has at each number what f gives
map_of_gets : {X : Type 0} (f : ℕ → X) (number : ℕ) (xs : List X) →
    ((n : ℕ) (x : X) → slice_get xs n ≡ Some x → x ≡ f (number + n)) →
    map f (range_with_len number (length xs)) ≡ xs
map_of_gets f number [] h = refl
map_of_gets f number (x ∷ xs) h =
    let q : number + 0 ≡ number = omega arith in
    ap (λ y. y ∷ map f (range_with_len (number + 1) (length xs))) (sym (h 0 x refl ∙ ap f q))
    ∙ ap (λ l. x ∷ l) (map_of_gets f (number + 1) xs
    (λ n y there. let p : number + suc n ≡ number + 1 + n = omega arith in h (suc n) y there ∙ ap f p))

-- the verdicts of a lane
filled_is : {F A : Type 0} (s : Setting F A) (es : List Entry) (lane count : ℕ) (verdicts : List Verdict) →
    length verdicts ≤ count →
    ((n : ℕ) (v : Verdict) → slice_get verdicts n ≡ Some v → v ≡ verdict_of s es lane n) →
    ((n : ℕ) → length verdicts ≤ n → verdict_of s es lane n ≡ Left) →
    filled verdicts count ≡ map (verdict_of s es lane) (range_with_len 0 count)
filled_is s es lane count verdicts most given rest =
    let others : List Verdict = replicate (count - length verdicts) Left in
    let all : List Verdict = filled verdicts count in
    let n : length all ≡ length verdicts + length others = length-append verdicts others in
    let k : length others ≡ count - length verdicts = length-replicate (count - length verdicts) Left in
    let whole : length all ≡ count = omega arith in
    sym (map_of_gets (verdict_of s es lane) 0 all
    (λ n v there. let q : 0 + n ≡ n = omega arith in
    elim (cases_lt n (length verdicts)) [
      | inl l ↦ given n v (sym (at_left verdicts others n l) ∙ there) ∙ ap (verdict_of s es lane) (sym q)
      | inr l ↦
          of_replicate (count - length verdicts) (n - length verdicts) Left v (sym (at_right verdicts others n l) ∙ there)
          ∙ (sym (rest n l) ∙ ap (verdict_of s es lane) (sym q))
    ]))
    ∙ ap (λ c. map (verdict_of s es lane) (range_with_len 0 c)) whole

-- and of these lanes
filled_all : {F A : Type 0} (s : Setting F A) (es : List Entry) (ledger : List (List Verdict)) (lane : ℕ)
    (lanes : List Lane) →
    ((k : ℕ) (there : Lane) → slice_get lanes k ≡ Some there → places_in ledger (lane + k) ≤ length there.packets) →
    ((l n : ℕ) (v : Verdict) → slice_get (verdicts_at ledger l) n ≡ Some v → v ≡ verdict_of s es l n) →
    ((l n : ℕ) → places_in ledger l ≤ n → verdict_of s es l n ≡ Left) →
    filled_from ledger lane lanes ≡ verdicts_from s es lane (lane_sizes lanes)
filled_all s es ledger lane [] fits given rest = refl
filled_all s es ledger lane (there ∷ lanes) fits given rest =
    let first : places_in ledger lane ≤ length there.packets =
    subst (λ l. places_in ledger l ≤ length there.packets) (add-zero lane) (fits 0 there refl) in
    ap (λ row. row ∷ filled_from ledger (lane + 1) lanes)
    (filled_is s es lane (length there.packets) (verdicts_at ledger lane) first (given lane) (rest lane))
    ∙ ap (λ rows. map (verdict_of s es lane) (range_with_len 0 (length there.packets)) ∷ rows)
    (filled_all s es ledger (lane + 1) lanes
    (λ k x at. let q : lane + suc k ≡ lane + 1 + k = omega arith in
    subst (λ l. places_in ledger l ≤ length x.packets) q (fits (suc k) x at)) given rest)

-- a lane that is there has its packets
fits_at : (ledger : List (List Verdict)) (lanes : List Lane) → IsFitting lanes ledger → (k : ℕ) (there : Lane) →
    slice_get lanes k ≡ Some there → places_in ledger (0 + k) ≤ length there.packets
fits_at ledger lanes fits k there at =
    let q : 0 + k ≡ k = omega arith in
    let mine : packets_on lanes k ≡ there.packets = ap or_no_packets at in
    let fit : places_in ledger k ≤ length (packets_on lanes k) = fits k in
    subst (λ l. places_in ledger l ≤ length there.packets) (sym q)
    (subst (λ l. places_in ledger k ≤ length l) mine fit)

-- no epoch is left: the ledger has the verdicts of all packets, and those that it hasn't are left
pub verdicts_told : (plan : Plan) (lanes : List Lane) (GoesOn : List Entry → Type 0) (number base : ℕ)
    (ledger : List (List Verdict)) → length (eras_of plan.epochs) ≤ number → IsFitting lanes ledger →
    IsToldSoFar (setting_of plan lanes) GoesOn number base ledger → (es : List Entry) → GoesOn es →
    filled_from ledger 0 lanes ≡ verdicts_of (setting_of plan lanes) es
verdicts_told plan lanes GoesOn number base ledger no_more fits told es goes =
    let s : Setting AnyFlight Arrival = setting_of plan lanes in
    filled_all s es ledger 0 lanes (fits_at ledger lanes fits)
    (λ l n v there. told.given es goes l n v there)
    (λ l n k. told.rest es goes l n k
    ∙ ap (λ eras. verdict_among s es l n base (posts_from s es number base (places_in ledger) eras))
    (drop_all number (eras_of plan.epochs) no_more))

-- the packets that are left are no more than there are
one_more : (b : Bool) (m n : ℕ) → m ≤ n → (if b then 1 else 0) + m ≤ suc n
one_more true m n l = omega arith
one_more false m n l = omega arith

left_most : (verdicts : List Verdict) → left_of verdicts ≤ length verdicts
left_most [] = omega arith
left_most (verdict ∷ verdicts) =
    one_more (is_left verdict) (left_of verdicts) (length verdicts) (left_most verdicts)

filled_length : (verdicts : List Verdict) (count : ℕ) → length verdicts ≤ count →
    length (filled verdicts count) ≡ count
filled_length verdicts count most =
    let n : length (filled verdicts count) ≡ length verdicts + length (replicate (count - length verdicts) Left) =
    length-append verdicts (replicate (count - length verdicts) Left) in
    let k : length (replicate (count - length verdicts) Left) ≡ count - length verdicts =
    length-replicate (count - length verdicts) Left in
    omega arith

left_filled : (ledger : List (List Verdict)) (lane : ℕ) (lanes : List Lane) →
    ((k : ℕ) (there : Lane) → slice_get lanes k ≡ Some there → places_in ledger (lane + k) ≤ length there.packets) →
    left_in (filled_from ledger lane lanes) ≤ packet_count lanes
left_filled ledger lane [] fits = omega arith
left_filled ledger lane (there ∷ lanes) fits =
    let mine : List Verdict = filled (verdicts_at ledger lane) (length there.packets) in
    let first : places_in ledger lane ≤ length there.packets =
    subst (λ l. places_in ledger l ≤ length there.packets) (add-zero lane) (fits 0 there refl) in
    let most : left_of mine ≤ length mine = left_most mine in
    let count : length mine ≡ length there.packets =
    filled_length (verdicts_at ledger lane) (length there.packets) first in
    let rest : left_in (filled_from ledger (lane + 1) lanes) ≤ packet_count lanes =
    left_filled ledger (lane + 1) lanes
    (λ k x at. let q : lane + suc k ≡ lane + 1 + k = omega arith in
    subst (λ l. places_in ledger l ≤ length x.packets) q (fits (suc k) x at)) in
    omega arith

pub left_few : (ledger : List (List Verdict)) (lanes : List Lane) → IsFitting lanes ledger →
    packet_count lanes ≤ 1048576 → left_in (filled_from ledger 0 lanes) < 2 ^ 64
left_few ledger lanes fits few =
    let most : left_in (filled_from ledger 0 lanes) ≤ packet_count lanes =
    left_filled ledger 0 lanes (fits_at ledger lanes fits) in
    omega arith
