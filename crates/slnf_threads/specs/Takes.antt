-- Several replies that an actor takes one after another.
use Rattle.std.specs.Prelude.{ℕ, ◌+◌, ◌-◌, ◌^◌, ◌<◌, ◌≤◌, min, Option, Some, None, List, [], ◌∷◌, length}
use Rattle.slnf_access.specs.declared.requests.Entry.{Entry}
use Rattle.slnf_access.specs.declared.requests.Ask.{Ask}
use Rattle.slnf_access.specs.declared.requests.Reply.{Reply}
use Rattle.slnf_access.specs.Map.{CanReply}
use Rattle.slnf_run.specs.Jobs.{Job}
use Rattle.slnf_instance.specs.Items.{Workload}
use Rattle.slnf_instance.specs.Instances.{Acting, StandsBy, IsAnswer}

-- up to its stop, if there is one, an actor makes at least so many accesses
abbrev pub IsWithin : Option ℕ → ℕ → Type 0
IsWithin None made = Unit {0}
IsWithin (Some stop) made = made ≤ stop

-- the stop is a number of 64 bits
abbrev pub IsWord : Option ℕ → Type 0
IsWord None = Unit {0}
IsWord (Some stop) = stop < 2 ^ 64

-- how many accesses are left to an actor that has made so many, of at most so many in one turn
abbrev pub left_at : ℕ → Option ℕ → ℕ → ℕ
left_at most None made = most
left_at most (Some stop) made = min (stop - made) most

-- these replies can be those to the first of these asks, and make these entries of them
abbrev pub AreAnswers : List Ask → List Reply → List Entry → Type 0
AreAnswers asks [] [] = Unit {0}
AreAnswers asks [] (e ∷ es) = ⊥
AreAnswers asks (reply ∷ replies) [] = ⊥
AreAnswers [] (reply ∷ replies) (e ∷ es) = ⊥
AreAnswers (ask ∷ asks) (reply ∷ replies) (e ∷ es) =
    CanReply ask.request reply × IsAnswer (Some ask) reply e × AreAnswers asks replies es

-- The actor stands by these entries of its own, and these are replies to its next accesses, which make more entries of
-- them before it is to stop.
pub record CanTake {G F : Type 0} (work : G → Workload F) (job : Job F) (own : List Entry) (i : Acting G F)
    (replies : List Reply) (more : List Entry) : Type 0 where
  pub stands : StandsBy work job own i
  pub answers : AreAnswers i.rest replies more
  pub within : IsWithin job.stop (length own + length replies)
