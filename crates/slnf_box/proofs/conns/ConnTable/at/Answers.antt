use Rattle.std.proofs.Common.{ap, ◌∙◌}
use Rattle.std.specs.Map.{lookup}
use Rattle.std.specs.BTreeMap.{is_at}
use Rattle.slnf_box.specs.Conns.{conn_at}
use Rattle.slnf_box.proofs.Links.{link_cmp, found_at}
use Rattle.slnf_box.proofs.conns.ConnTable.at.Goals as goal

pub returns : goal.returns
returns c =
    c.copied.ensures ∙ c.get.ensures.value
    ∙ ap (λ k. lookup (is_at (link_cmp k)) c.self.inside.conns.entries) c.link_of.ensures
    ∙ found_at c.self.inside.conns.entries c.args.key
    ∙ ap (λ entries. conn_at entries c.args.key) c.self.view_is
