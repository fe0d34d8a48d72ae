-- the merged list is a run, with the stamps of the clocks
use Rattle.slnf_flight.specs.PlanSetting.{setting_of}
use Rattle.slnf_threads.proofs.Law.{run_of_parts}
use Rattle.slnf_threads.proofs.theorems.parts_are_runs.Goals as goal

pub returns-clause-runs : goal.returns-clause-runs
returns-clause-runs c plan lanes root histories merged closed same order parts =
    (run_of_parts (setting_of plan lanes) root histories merged closed same order parts).0

pub returns-clause-stamps : goal.returns-clause-stamps
returns-clause-stamps c plan lanes root histories merged closed same order parts =
    (run_of_parts (setting_of plan lanes) root histories merged closed same order parts).1
