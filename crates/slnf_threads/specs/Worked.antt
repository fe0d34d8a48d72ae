-- The entries that an actor makes, by its job alone.
use Rattle.std.specs.Prelude.{◌≡◌, None, List, [], ◌∷◌, ◌++◌}
use Rattle.slnf_access.specs.declared.requests.Entry.{Entry}
use Rattle.slnf_run.specs.Jobs.{Job, by_rounds, wanted_in}
use Rattle.slnf_instance.specs.Instances.{IsAnswer}

-- each of these entries is the access that the job wants after the actor's own entries before it, with its reply
abbrev pub IsWorked : {F : Type 0} → Job F → List Entry → List Entry → Type 0
IsWorked job own [] = Unit {0}
IsWorked job own (e ∷ es) = IsAnswer (wanted_in by_rounds job own) e.reply e × IsWorked job (own ++ e ∷ []) es

-- these are all entries of an actor with this job, which has ended after them
abbrev pub HasWorked : {F : Type 0} → Job F → List Entry → Type 0
HasWorked job own = IsWorked job [] own × (wanted_in by_rounds job own ≡ None)
