use Rattle.std.proofs.Common.{◌≡◌, ◌≤◌, length, map, arith}
use Rattle.std.specs.Prelude.{string_bytes}
use Rattle.slnf_check.proofs.Sizes.{length_map}
use Rattle.slnf_top.proofs.Passing.{are_captures_is}
use Rattle.slnf_top.proofs.words.are_captures.Goals as goal

pub returns-then-words-le32 : goal.returns-then-words-le32
returns-then-words-le32 c =
    let words = map string_bytes c.args.words.now in
    let count : length words ≡ length c.args.words.now = length_map string_bytes c.args.words.now in
    let some : 1 ≤ length c.args.words.now = c.if-words-le32.true.0 in
    let few : length c.args.words.now ≤ 32 = c.if-words-le32.true.1 in
    are_captures_is words c.all_proper.result (omega arith) (omega arith) c.all_proper.ensures
