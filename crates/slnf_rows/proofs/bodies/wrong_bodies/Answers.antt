use Rattle.slnf_rows.proofs.WrongRuns.{own_claim, kept_claim, record_first, one_candidate, skipped_read, any_claim, any_flow, new_version, write_over}
use Rattle.slnf_rows.proofs.bodies.wrong_bodies.Goals as goal

pub returns : goal.returns
returns c = record {
  own_claim = own_claim;
  kept_claim = kept_claim;
  record_first = record_first;
  one_candidate = one_candidate;
  skipped_read = skipped_read;
  any_claim = any_claim;
  any_flow = any_flow;
  new_version = new_version;
  write_over = write_over;
}
