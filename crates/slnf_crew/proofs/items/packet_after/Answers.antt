-- a packet goes on as the machine's flight
use Rattle.std.proofs.Common.{ap, ◌∙◌}
use Rattle.slnf_access.specs.Machines.{stand_of_step}
use Rattle.slnf_crew.proofs.Functions.{goes_same}
use Rattle.slnf_crew.proofs.items.packet_after.Goals as goal

pub returns : goal.returns
returns c = c.stepped.ensures ∙ (ap stand_of_step c.after.ensures
    ∙ goes_same c.args.function.now c.args.flight c.args.reply c.know_packet.ensures)
