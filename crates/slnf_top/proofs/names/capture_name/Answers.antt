use Rattle.std.proofs.Common.{rules, append_assoc}
use Rattle.slnf_top.proofs.names.capture_name.Goals as goal

pub returns : goal.returns
returns c = search (rules, append_assoc)
