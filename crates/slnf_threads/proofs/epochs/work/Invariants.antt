-- what the pass's own list is so far
use Rattle.std.proofs.Common.{◌≡◌, ◌^◌, ◌-◌, min, [], length}
use Rattle.slnf_bucket.specs.Bucket.{last_stamp}
use Rattle.slnf_turns.specs.Passes.{KeepsKin}
use Rattle.slnf_store.specs.Passes.{own_entries}
use Rattle.slnf_store.specs.Stores.{IsOf}
use Rattle.slnf_instance.specs.Instances.{StandsBy}
use Rattle.slnf_threads.specs.Reports.{job_by}
use Rattle.slnf_threads.specs.Worked.{IsWorked}
use Rattle.slnf_threads.proofs.epochs.work.Given as goal

abbrev pub invariant-loop : goal.invariant-loop
invariant-loop g l = record {
  here : IsOf l.store l.pass;
  kin : KeepsKin l.fn.pass.known l.pass.known;
  clock : l.pass.clock ≡ last_stamp l.fn.pass.clock (own_entries l.pass);
  errand : l.instance.errand ≡ l.fn.instance.errand;
  worked : IsWorked (job_by g.T.Items.work l.fn.instance) [] (own_entries l.pass);
  stands : StandsBy g.T.Items.work (job_by g.T.Items.work l.fn.instance) (own_entries l.pass) l.instance;
  made : l.made ≡ min (length (own_entries l.pass)) (2 ^ 64 - 1);
}
