use Rattle.slnf_gen.proofs.CaptureLaws as laws
use Rattle.slnf_gen.proofs.packets.law_of_headers.Goals as goal

pub returns : goal.returns
returns c = laws.law_of_headers
