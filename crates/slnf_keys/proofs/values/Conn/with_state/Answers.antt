-- a state's connection is the one with its range's proofs
use Rattle.std.proofs.Common.{◌≡◌, sym, rules}
use Rattle.slnf_keys.proofs.Conns.{conn_with-state}
use Rattle.slnf_keys.proofs.values.Conn.with_state.Goals as goal

pub returns-in-Ok-1-to-8 : goal.returns-in-Ok-1-to-8
returns-in-Ok-1-to-8 c =
    let same : c.args.state ≡ c.in-Ok-1-to-8.state = search rules in
    rw same (sym (conn_with-state _ _ _ _))
