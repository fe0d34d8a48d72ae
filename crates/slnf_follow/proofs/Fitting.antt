-- No lane comes farther than its packets.
use Rattle.std.proofs.Common.{◌≡◌, ℕ, zero, suc, ◌+◌, ◌-◌, ◌≤◌, Some, List, [], ◌∷◌, length, slice_get, slice_index, refl, arith}
use Rattle.slnf_access.specs.declared.requests.Entry.{Entry}
use Rattle.slnf_run.specs.Setting.{Era, Setting}
use Rattle.slnf_run.specs.Parts.{taken_on, places_after}
use Rattle.slnf_run.specs.OneBox.{HasLanesOnce}
use Rattle.slnf_flight.specs.declared.lanes.Lane.{Lane}
use Rattle.slnf_flight.specs.Lanes.{packets_on, packet_count}
use Rattle.slnf_crew.proofs.Fitting.{taken_fits}
use Rattle.slnf_local.specs.Followers.{places_at}

module _ {F A : Type 0} (s : Setting F A) (es : List Entry) where
  -- epoch by epoch
  pub places_fit : (eras : List Era) (base : ℕ) (places : ℕ → ℕ) (number : ℕ) →
      ((n : ℕ) (era : Era) → slice_get eras n ≡ Some era → HasLanesOnce era.actors) →
      ((lane : ℕ) → places lane ≤ slice_index s.lanes lane) → (lane : ℕ) →
      places_at s es base places eras number lane ≤ slice_index s.lanes lane
  places_fit eras base places zero once fits lane = fits lane
  places_fit [] base places (suc number) once fits lane = fits lane
  places_fit (era ∷ eras) base places (suc number) once fits lane =
      places_fit eras (base + length era.actors) (places_after s es base places era) number
      (λ n e at. once (suc n) e at)
      (λ l.
      let most : taken_on s es base places l era.actors ≤ slice_index s.lanes l - places l =
      taken_fits s es places l base era.actors (once 0 era refl) in
      let before : places l ≤ slice_index s.lanes l = fits l in omega arith) lane

-- a lane has no more packets than all together
pub packets_most : (lanes : List Lane) (lane : ℕ) → length (packets_on lanes lane) ≤ packet_count lanes
packets_most [] lane = omega arith
packets_most (l ∷ lanes) zero = omega arith
packets_most (l ∷ lanes) (suc lane) =
    let rest : length (packets_on lanes lane) ≤ packet_count lanes = packets_most lanes lane in omega arith
