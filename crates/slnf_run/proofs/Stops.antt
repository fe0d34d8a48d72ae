-- Stops: a part never passes its actor's stop.
use Rattle.std.proofs.Common.{◌≡◌, ◌+◌, ◌≤◌, false, List, [], ◌∷◌, ◌++◌, Some, None, length, arith, zero-le}
use Rattle.std.proofs.lemmas.Bool.{eqb-false}
use Rattle.std.proofs.lemmas.List.{length_push}
use Rattle.slnf_access.specs.declared.requests.Entry.{Entry}
use Rattle.slnf_run.specs.Setting.{Actor}
use Rattle.slnf_run.specs.Parts.{is_stopped}
use Rattle.slnf_run.specs.Run.{IsBelowStop}

-- the part has at most as many entries as the actor's stop, if it has one
abbrev pub IsWithinStop : Actor → List Entry → Type 0
IsWithinStop actor part = elim (actor.stop) [ None ↦ Unit {0} | Some stop ↦ length part ≤ stop ]

-- the empty part is
pub within_stop-none : (actor : Actor) → IsWithinStop actor []
within_stop-none actor =
    elim (actor.stop) as (λ stop. IsWithinStop (record { lane = actor.lane; quota = actor.quota; stop = stop }) []) [
      | None ↦ tt
      | Some stop ↦ zero-le
    ]

-- where the actor isn't stopped, its part is below its stop
pub below_stop : (actor : Actor) (part : List Entry) → is_stopped actor part ≡ false → IsWithinStop actor part →
    IsBelowStop actor part
below_stop actor part =
    elim (actor.stop) as (λ stop. is_stopped (record { lane = actor.lane; quota = actor.quota; stop = stop }) part
    ≡ false → IsWithinStop (record { lane = actor.lane; quota = actor.quota; stop = stop }) part →
    IsBelowStop (record { lane = actor.lane; quota = actor.quota; stop = stop }) part) [
      | None ↦ λ running h. tt
      | Some stop ↦ λ running h. let k : length part ≡ stop → ⊥ = eqb-false (length part) stop running in omega arith
    ]

-- a part that is below its stop takes one more entry
pub within_stop-more : (actor : Actor) (part : List Entry) (e : Entry) → IsBelowStop actor part →
    IsWithinStop actor (part ++ e ∷ [])
within_stop-more actor part e =
    elim (actor.stop) as (λ stop. IsBelowStop (record { lane = actor.lane; quota = actor.quota; stop = stop }) part →
    IsWithinStop (record { lane = actor.lane; quota = actor.quota; stop = stop }) (part ++ e ∷ [])) [
      | None ↦ λ h. tt
      | Some stop ↦ λ h. let l : length (part ++ e ∷ []) ≡ length part + 1 = length_push part e in omega arith
    ]
