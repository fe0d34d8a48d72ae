-- Each decided packet of the NAT has a place, and the box gives it its verdict there.
use Rattle.std.proofs.Common.{◌≡◌, ℕ, zero, suc, Bool, true, false, cond, ◌&&◌, Some, List, [], ◌∷◌, slice_get, refl, ap, ◌∙◌}
use Rattle.std.proofs.lemmas.Option.{same_Some}
use Rattle.slnf_access.specs.declared.requests.Entry.{Entry}
use Rattle.slnf_access.specs.Machines.{Stand}
use Rattle.slnf_run.specs.Scene.{is_of}
use Rattle.slnf_run.specs.Visits.{Decision, decision_at}
use Rattle.slnf_run.specs.Boxes.{content_after}
use Rattle.slnf_run.proofs.DecidedOnce.{is_decision, is_of-itself}
use Rattle.slnf_run.proofs.Placed.{box_verdict}
use Rattle.slnf_box.specs.Nat.{Nat}
use Rattle.slnf_box.specs.NatBox.{nat_verdict, nat_box}
use Rattle.slnf_nat.specs.Flights.{NatFlight}
use Rattle.slnf_nat.specs.StoredFlows.{IsSameFlows}
use Rattle.slnf_nat.specs.NatScene.{is_no_flow, is_in, nat_place, nat_arrival, nat_scene}
use Rattle.slnf_nat.specs.Given.{IsNat, IsNatList}
use Rattle.slnf_nat.proofs.Firsts.{nat_steady, nat_own_places}
use Rattle.slnf_nat.proofs.Explained.{nat_explained}
use Rattle.slnf_run.specs.Looks.{first_of as first_own, first_of_own as first_with}

-- an item with an entry has a first one
first_there : (i k : ℕ) (es : List Entry) (d : ℕ) (f : Entry) → slice_get es d ≡ Some f → is_of i k f ≡ true
    → (p : Entry) × (slice_get es (first_own i k es) ≡ Some p)
first_there i k [] d f at own = absurd (cc)
first_there i k (e ∷ es) d f at own = go (is_of i k e) refl d at (λ n h. first_there i k es n f h own)
  where
    go : (b : Bool) → is_of i k e ≡ b → (n : ℕ) → slice_get (e ∷ es) n ≡ Some f
        → ((n : ℕ) → slice_get es n ≡ Some f → (p : Entry) × (slice_get es (first_own i k es) ≡ Some p))
        → (p : Entry) × (slice_get (e ∷ es) (cond b 0 (suc (first_own i k es))) ≡ Some p)
    go true w n h later = (e, refl)
    go false w zero h later = let same : is_of i k e ≡ true = ap (is_of i k) (same_Some e f h) ∙ own in absurd (cc)
    go false w (suc n) h later = later n h

-- each decided packet has a place
pub nat_placed : (nat : Nat) (begins : ℕ → ℕ → Stand NatFlight) (es : List Entry) (d : ℕ) (x : Decision NatFlight)
    → decision_at (nat_scene nat begins) es d ≡ Some x
    → (p : Entry) × (slice_get es (nat_place es d x.first x.verdict) ≡ Some p)
nat_placed nat begins es d x decided = go (is_in x.first && is_no_flow x.verdict)
  where
    go : (b : Bool) → (p : Entry) × (slice_get es (cond b (first_with es d (slice_get es d)) d) ≡ Some p)
    go true =
        let r = is_decision (nat_scene nat begins) es d x decided in
        let there : (p : Entry) × (slice_get es (first_own r.0.incarnation r.0.item es) ≡ Some p) =
        first_there r.0.incarnation r.0.item es d r.0 r.1.at (is_of-itself r.0) in
        (there.0, ap (λ o. slice_get es (first_with es d o)) r.1.at ∙ there.1)
    go false = let r = is_decision (nat_scene nat begins) es d x decided in (r.0, r.1.at)

-- The box gives each decided packet its verdict at its place.
pub nat_verdicts : (nat : Nat) (is_nat : IsNat nat) (base_at : ℕ → ℕ) (begins : ℕ → ℕ → Stand NatFlight)
    (es : List Entry) → IsNatList nat base_at begins es → (d : ℕ) (x : Decision NatFlight)
    → decision_at (nat_scene nat begins) es d ≡ Some x
    → (p : Entry) × (slice_get es (nat_place es d x.first x.verdict) ≡ Some p)
    × (nat_verdict nat (content_after (nat_scene nat begins) (nat_box nat) es (nat_place es d x.first x.verdict))
    (nat_arrival x.first p) ≡ x.verdict)
nat_verdicts nat is_nat base_at begins es given d x decided =
    let r = nat_placed nat begins es d x decided in (
      r.0,
      r.1,
      box_verdict (nat_scene nat begins) (nat_box nat) IsSameFlows es d x r.0 (λ i. nat_steady nat)
          (nat_own_places nat begins es) (nat_explained nat is_nat base_at begins es given) decided r.1,
    )
