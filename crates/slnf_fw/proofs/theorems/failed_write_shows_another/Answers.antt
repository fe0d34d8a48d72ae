use Rattle.slnf_fw.proofs.Failures.{fw_failures}
use Rattle.slnf_fw.proofs.theorems.failed_write_shows_another.Goals as goal

pub returns : goal.returns
returns c = fw_failures
