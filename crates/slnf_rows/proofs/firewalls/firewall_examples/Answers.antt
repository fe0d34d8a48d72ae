use Rattle.slnf_rows.proofs.FirewallRuns.{connection, lone, replaces}
use Rattle.slnf_rows.proofs.firewalls.firewall_examples.Goals as goal

pub returns : goal.returns
returns c = record {
  whole_connection = connection;
  lone_ack = lone;
  two_replaces = replaces;
}
