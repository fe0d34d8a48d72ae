use Rattle.slnf_fw.proofs.Bounds.{fw_bounded}
use Rattle.slnf_fw.proofs.theorems.firewall_bound.Goals as goal

pub returns : goal.returns
returns c = fw_bounded
