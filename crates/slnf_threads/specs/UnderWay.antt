-- A run of a plan on the shared store, between two epochs and at its end.
use Rattle.std.specs.Prelude.{◌≡◌, ℕ, ◌*◌, ◌≤◌, List, length}
use Rattle.slnf_plan.specs.declared.plan.Plan.{Plan}
use Rattle.slnf_turns.specs.Passes.{AllJoined, IsRoot}
use Rattle.slnf_store.specs.Stores.{IsOf, shards_of}
use Rattle.slnf_flight.specs.declared.lanes.Lane.{Lane}
use Rattle.slnf_flight.specs.PlanSetting.{setting_of}
use Rattle.slnf_threads.specs.declared.plans.Run.{Run}
use Rattle.slnf_ledger.specs.Ledger.{places_in, IsFitting}
use Rattle.slnf_ledger.specs.Told.{IsToldSoFar}
use Rattle.slnf_threads.specs.Passing.{AgreesBefore, HavePassed, AreAtWork, IsClockOf, HasLateStamp}

-- The store is the plan's, and all passes that were split from its root were joined.
pub record IsGathered (plan : Plan) (run : Run) : Type 0 where
  pub here : IsOf run.store run.root
  pub shards : plan.shards ≡ shards_of run.store
  pub root : IsRoot run.root.known
  pub joined : AllJoined run.root.known
  pub clock : IsClockOf run.root.known run.root.clock

-- The epochs before the one with this number have passed. The ledger has the verdicts of the packets that were taken, as
-- each journal tells them whose parts are the lists of the passes, and no lane has come farther than its packets.
pub record IsUnderWay (plan : Plan) (lanes : List Lane) (number : ℕ) (run : Run) : Type 0 where
  pub gathered : IsGathered plan run
  pub passed : HavePassed (setting_of plan lanes) number run.base (places_in run.ledger) run.root.known
  pub told : IsToldSoFar (setting_of plan lanes) (AgreesBefore run.base run.root.known) number run.base run.ledger
  pub fits : IsFitting lanes run.ledger
  pub lanes_are : length run.ledger ≡ 32
  pub base : run.base ≤ 33 * number

-- Stamps are said to be spent: each actor of the incarnations before `upto` has worked so far, and a late stamp is kept.
pub record IsStuck (plan : Plan) (lanes : List Lane) (run : Run) : Type 0 where
  pub gathered : IsGathered plan run
  pub upto : ℕ
  pub at_work : AreAtWork (setting_of plan lanes) upto run.root.known
  pub late : HasLateStamp plan.shards run.root.known run.root.clock

-- All epochs have passed.
pub record HaveAllPassed (plan : Plan) (lanes : List Lane) (run : Run) : Type 0 where
  pub number : ℕ
  pub no_more : length plan.epochs ≤ number
  pub under_way : IsUnderWay plan lanes number run
