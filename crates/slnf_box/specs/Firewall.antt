-- What an ordinary firewall keeps.
use Rattle.slnf_box.specs.FwBox.{Conns}
use Rattle.slnf_box.specs.declared.firewall.FwBox.{FwBox}
use Rattle.slnf_box.specs.Conns.{conn_at}

-- what is kept of each connection
abbrev pub conns_of : FwBox → Conns
conns_of box = conn_at box.conns
