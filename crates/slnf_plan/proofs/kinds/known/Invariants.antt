use Rattle.std.proofs.Common.{◌≡◌, map, string_bytes}
use Rattle.std.specs.Prelude.{find}
use Rattle.toml.specs.View.{table_view}
use Rattle.slnf_plan.specs.Tables.{is_unlisted, names}
use Rattle.slnf_plan.proofs.kinds.known.Given as goal

abbrev pub invariant-loop-key : goal.invariant-loop-key
invariant-loop-key l =
    let listed = map (λ k. k.now) l.listed in
    find (is_unlisted listed) (map string_bytes l.key-iterator) ≡ find (is_unlisted listed) (names (table_view l.table))
