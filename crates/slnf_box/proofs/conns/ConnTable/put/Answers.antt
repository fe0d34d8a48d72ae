use Rattle.std.proofs.Common.{ap, ◌∙◌}
use Rattle.slnf_run.specs.Tables.{with_value}
use Rattle.slnf_box.specs.FwBox.{is_same_conn}
use Rattle.slnf_box.specs.Conns.{conn_at}
use Rattle.slnf_box.proofs.Links.{put_conns}
use Rattle.slnf_box.proofs.conns.ConnTable.put.Goals as goal

pub returns-clause-ok : goal.returns-clause-ok
returns-clause-ok c =
    put_conns c.self.inside.conns.entries c.insert.new.self.entries c.link_of.result c.args.key c.args.tracked
    c.link_of.ensures c.in_ok-insert.ensures.updates.0
    ∙ ap (λ entries. with_value is_same_conn (conn_at entries) c.args.key c.args.tracked) c.self.view_is
