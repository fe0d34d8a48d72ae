-- Items at work: what they do, and where one stands, as code says it.
use Rattle.std.specs.Prelude.{ℕ}
use Rattle.slnf_access.specs.Machines.{Machine, Stand, Flies, Ends}
use Rattle.slnf_instance.specs.declared.items.Standing.{Standing}
use Rattle.slnf_instance.specs.declared.items.Standing.TheVariants.{Flying, Ended}

-- A workload: the machine of its items, how each of them begins, and how many there are.
pub record Workload (F : Type 0) : Type 0 where
  pub machine : Machine F
  pub begins : ℕ → Stand F
  pub count : ℕ

-- where an item stands, as code says it
abbrev pub stand_of_standing : {F : Type 0} → Standing F → Stand F
stand_of_standing (Flying flight) = Flies flight
stand_of_standing (Ended verdict) = Ends verdict
