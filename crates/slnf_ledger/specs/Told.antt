-- What the ledger tells of a run so far.
use Rattle.std.specs.Prelude.{◌≡◌, ℕ, ◌≤◌, Some, List, drop, slice_get}
use Rattle.slnf_base.specs.declared.packets.Verdict.{Verdict}
use Rattle.slnf_access.specs.declared.requests.Entry.{Entry}
use Rattle.slnf_run.specs.Setting.{Setting}
use Rattle.slnf_run.specs.Parts.{posts_from}
use Rattle.slnf_run.specs.Verdicts.{verdict_of, verdict_among}
use Rattle.slnf_ledger.specs.Ledger.{verdicts_at, places_in}

-- The ledger has the verdicts of the packets that were taken before the epoch with this number, whose first incarnation
-- is `base`, as they are in each list that goes on from there; those of other packets are said by the posts of later
-- epochs.
pub record IsToldSoFar {F A : Type 0} (s : Setting F A) (GoesOn : List Entry → Type 0) (number base : ℕ)
    (ledger : List (List Verdict)) : Type 0 where
  pub given : (all : List Entry) → GoesOn all → (lane n : ℕ) (v : Verdict) →
      slice_get (verdicts_at ledger lane) n ≡ Some v → v ≡ verdict_of s all lane n
  pub rest : (all : List Entry) → GoesOn all → (lane n : ℕ) → places_in ledger lane ≤ n →
      verdict_of s all lane n
      ≡ verdict_among s all lane n base (posts_from s all number base (places_in ledger) (drop number s.eras))
