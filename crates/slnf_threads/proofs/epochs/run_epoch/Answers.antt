-- the actor has ended
use Rattle.std.proofs.Common.{◌≡◌, Some}
use Rattle.slnf_store.specs.Passes.{own_entries}
use Rattle.slnf_instance.specs.Ends.{ending_in}
use Rattle.slnf_threads.specs.Reports.{job_by}
use Rattle.slnf_threads.proofs.Working.{ending_kept, none_wanted}
use Rattle.slnf_threads.proofs.epochs.run_epoch.Goals as goal

pub returns-in-Ok : goal.returns-in-Ok
returns-in-Ok g c =
    let old = c.args.desk.instance in
    let new = c.work.new.instance in
    let own = own_entries c.work.new.pass in
    let job = job_by g.T.Items.work old in
    let stands = c.work.ensures.stands in
    let ended : Some c.finish.result.ending ≡ ending_in job old.errand.quota own =
    ending_kept job old.errand new.errand own c.finish.result.ending c.work.ensures.errand
    (c.finish.ensures.ending job own stands) in
    record {
      here = c.work.ensures.here;
      kin = c.work.ensures.kin;
      clock = c.work.ensures.clock;
      worked = c.work.ensures.worked;
      stands = (new, stands);
      ended = record {
        none = none_wanted job old.errand.quota own c.finish.result.ending ended;
        ending = ended;
        verdicts = c.finish.ensures.verdicts job own stands;
      };
    }
