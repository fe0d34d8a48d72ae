use Rattle.slnf_fw.proofs.Refines.{fw_explained}
use Rattle.slnf_fw.proofs.theorems.firewall_is_one_box.Goals as goal

pub returns-clause-one_box : goal.returns-clause-one_box
returns-clause-one_box c = fw_explained
