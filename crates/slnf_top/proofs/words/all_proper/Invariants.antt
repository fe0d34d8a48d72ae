-- all are where those that are left are
use Rattle.std.proofs.Common.{◌≡◌, drop, map}
use Rattle.std.specs.Prelude.{string_bytes}
use Rattle.std.specs.List.{list_all}
use Rattle.slnf_top.specs.Words.{is_proper}
use Rattle.slnf_top.proofs.words.all_proper.Given as goal

abbrev pub invariant-loop-word : goal.invariant-loop-word
invariant-loop-word l =
    list_all is_proper (map string_bytes (drop l.word-index l.words)) ≡ list_all is_proper (map string_bytes l.words)
