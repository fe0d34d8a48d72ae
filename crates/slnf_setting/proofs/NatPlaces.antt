-- The NAT's places look back.
use Rattle.std.proofs.Common.{◌≡◌, ℕ, Bool, false, cond, Option, Some, None, List, slice_get, refl}
use Rattle.slnf_base.specs.declared.packets.Verdict.{Verdict}
use Rattle.slnf_access.specs.declared.requests.Entry.{Entry}
use Rattle.slnf_access.specs.Machines.{Stand}
use Rattle.slnf_run.specs.Looks.{first_of_own}
use Rattle.slnf_run.specs.OneBox.{HasPlaces}
use Rattle.slnf_run.proofs.Whole.{places_looking}
use Rattle.slnf_box.specs.Nat.{Nat}
use Rattle.slnf_nat.specs.Flights.{NatFlight}
use Rattle.slnf_nat.specs.NatScene.{looks_back, nat_scene}
use Rattle.slnf_flight.specs.Flights.{nat_flight}
use Rattle.slnf_run.specs.Cases.{case_place, case_scene}
use Rattle.slnf_flight.specs.PlanSetting.{nat_case}

-- which packets have their first entry as their place, as a case
abbrev any_looks_back : Option NatFlight → Verdict → Bool
any_looks_back None verdict = false
any_looks_back (Some first) verdict = looks_back first verdict

pub nat_places : (nat : Nat) (begins : ℕ → ℕ → Stand NatFlight) (es : List Entry)
    → HasPlaces (case_scene nat_case (nat_scene nat begins)) es
nat_places nat begins es =
    places_looking (case_scene nat_case (nat_scene nat begins))
    (λ first verdict. any_looks_back (nat_flight first) verdict) es
    (λ es number first verdict. go es number verdict (nat_flight first))
  where
    go : (es : List Entry) (number : ℕ) (verdict : Verdict) (own : Option NatFlight)
        → case_place (nat_scene nat begins) es number own verdict ≡ cond (any_looks_back own verdict)
        (first_of_own es number (slice_get es number)) number
    go es number verdict None = refl
    go es number verdict (Some first) = refl
