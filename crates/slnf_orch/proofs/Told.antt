-- What the ledger tells behind an epoch.
use Rattle.std.proofs.Common.{◌≡◌, ℕ, ◌+◌, ◌<◌, ◌≤◌, if◌then◌else◌, Some, List, [], ◌∷◌, ◌++◌, length, slice_get, refl, sym, ap, ◌∙◌, arith, append-nil}
use Rattle.std.specs.List.{repeat}
use Rattle.slnf_base.specs.declared.packets.Verdict.{Verdict}
use Rattle.slnf_access.specs.declared.requests.Entry.{Entry}
use Rattle.slnf_run.specs.Setting.{Actor, Era, Setting, is_on}
use Rattle.slnf_run.specs.Made.{Grown}
use Rattle.slnf_run.specs.Parts.{part_of, places_after}
use Rattle.slnf_run.specs.Scheduled.{usual_way, turns, round}
use Rattle.slnf_run.specs.OneBox.{HasLanesOnce}
use Rattle.slnf_run.specs.SoFar.{Passes}
use Rattle.slnf_run.proofs.Growth.{Extends}
use Rattle.slnf_run.proofs.Parting.{part_of-append, part_of-other}
use Rattle.slnf_run.proofs.Turns.{IsWithin, turns_within}
use Rattle.slnf_instance.specs.Ends.{verdicts_in}
use Rattle.slnf_ledger.specs.Ledger.{verdicts_at, places_in}
use Rattle.slnf_ledger.specs.Told.{IsToldSoFar}
use Rattle.slnf_orch.specs.Passing.{SameBefore}
use Rattle.slnf_ledger.proofs.Giving.{job_there, given_on}
use Rattle.slnf_ledger.proofs.Told.{told_next, places_next}

-- entries of later incarnations are none of an earlier one
none_earlier : (base count i : ℕ) (done tail : List Entry) → i < base →
    Grown (λ es e. IsWithin base count e) done tail → part_of i tail ≡ []
none_earlier base count i done [] l h = refl
none_earlier base count i done (e ∷ tail) l h =
    let from : base ≤ e.incarnation = h.0.from in
    part_of-other i e tail (λ q. omega arith) ∙ none_earlier base count i (done ++ e ∷ []) tail l h.1

-- an epoch leaves the parts of earlier ones as they were
pub epoch_keeps : {F A : Type 0} (s : Setting F A) (base i : ℕ) (places : ℕ → ℕ) (era : Era) (numbers : List ℕ)
    (es : List Entry) → i < base → part_of i (turns s (usual_way s.eras) base places era numbers es) ≡ part_of i es
epoch_keeps s base i places era numbers es l =
    let x : Extends (λ es e. IsWithin base (length era.actors) e) es
    (turns s (usual_way s.eras) base places era numbers es) =
    turns_within s (usual_way s.eras) base places era numbers es in
    ap (part_of i) x.whole
    ∙ (part_of-append i es x.tail
    ∙ (ap (λ l. part_of i es ++ l) (none_earlier base (length era.actors) i es x.tail l x.grown)
    ∙ append-nil (part_of i es)))

module _ {F A : Type 0} (s : Setting F A) where
  -- what is given depends on the actors' own parts
  given_same : (es fs : List Entry) (places : ℕ → ℕ) (lane i bound : ℕ) (actors : List Actor) →
      ((k : ℕ) → k < bound → part_of k es ≡ part_of k fs) → i + length actors ≤ bound →
      given_on s es places lane i actors ≡ given_on s fs places lane i actors
  given_same es fs places lane i bound [] same l = refl
  given_same es fs places lane i bound (actor ∷ actors) same l =
      ap (λ part. (if is_on lane actor then verdicts_in (job_there s places i actor) part else [])
      ++ given_on s es places lane (i + 1) actors) (same i (omega arith))
      ∙ ap (λ rest. (if is_on lane actor then verdicts_in (job_there s places i actor) (part_of i fs) else []) ++ rest)
      (given_same es fs places lane (i + 1) bound actors same (omega arith))

  module _ (number base : ℕ) (era : Era) (es fs : List Entry) (ledger after : List (List Verdict))
      (at : slice_get s.eras number ≡ Some era)
      (passes : Passes s (usual_way s.eras) base (places_in ledger) era es fs)
      (given : (lane : ℕ) → verdicts_at after lane
      ≡ verdicts_at ledger lane ++ given_on s fs (places_in ledger) lane base era.actors) where
    -- what the actors gave, in a list that goes on from there
    given_later : (all : List Entry) (lane : ℕ) → SameBefore (base + length era.actors) fs all →
        verdicts_at after lane ≡ verdicts_at ledger lane ++ given_on s all (places_in ledger) lane base era.actors
    given_later all lane same = given lane ∙ ap (λ l. verdicts_at ledger lane ++ l)
        (given_same fs all (places_in ledger) lane base (base + length era.actors) era.actors
        (λ k l. sym (same k l)) (omega arith))

    before_epoch : (all : List Entry) → SameBefore (base + length era.actors) fs all → SameBefore base es all
    before_epoch all same i l =
        same i (omega arith)
        ∙ (ap (part_of i) passes.turned
        ∙ epoch_keeps s base i (places_in ledger) era (era.schedule ++ repeat passes.rounds (round era)) es l)

    -- how far lanes have come
    pub places_behind : (all : List Entry) → SameBefore (base + length era.actors) fs all →
        places_after s all base (places_in ledger) era ≡ places_in after
    places_behind = places_next s number base era (SameBefore base es) (SameBefore (base + length era.actors) fs) ledger
        after at before_epoch (λ all same lane. given_later all lane same)

    -- the ledger tells of the packets that were taken up to now
    pub told_behind : IsToldSoFar s (SameBefore base es) number base ledger → HasLanesOnce era.actors →
        IsToldSoFar s (SameBefore (base + length era.actors) fs) (number + 1) (base + length era.actors) after
    told_behind = told_next s number base era (SameBefore base es) (SameBefore (base + length era.actors) fs) ledger after
        at before_epoch (λ all same lane. given_later all lane same)
