-- How the items of a NAT's sweeps begin.
use Rattle.std.specs.Prelude.{ℕ, List}
use Rattle.slnf_base.specs.declared.plans.Pool.{Pool}
use Rattle.slnf_access.specs.Machines.{Stand}
use Rattle.slnf_run.specs.Setting.{Era, own_base}
use Rattle.slnf_nat.specs.Flights.{NatFlight}
use Rattle.slnf_nat.specs.Starts.{sweep_item}

-- how an incarnation's item begins, with the base of its epoch
abbrev pub nat_sweeps : Pool → List Era → ℕ → ℕ → Stand NatFlight
nat_sweeps pool eras incarnation item = sweep_item pool (own_base eras incarnation) item
