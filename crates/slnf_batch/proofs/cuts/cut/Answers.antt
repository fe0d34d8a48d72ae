-- the first repeated key ends the longest prefix
use Rattle.std.proofs.Common.{◌≡◌, ◌≤◌, None, length, get_or, take, arith}
use Rattle.std.proofs.lemmas.List.{get_or_default}
use Rattle.slnf_batch.specs.Cut.{KeysDiffer}
use Rattle.slnf_batch.proofs.Cutting.{KeysDiffer-more, repeat_ends, joining_is}
use Rattle.slnf_batch.proofs.cuts.cut.Goals as goal

pub loop-place-preserved : goal.loop-place-preserved
loop-place-preserved c =
    let firsts = c.args.firsts.now in
    let place = c.loop-place.place in
    let at = get_or_default firsts place None (get_or firsts place None) c.loop-place-test.true in
    KeysDiffer-more firsts place _ c.loop-place-test.true at
    (λ stands. let repeated = c.is_repeated.ensures.1 stands in cc) c.loop-place.invariant

pub returns-then-is_repeated : goal.returns-then-is_repeated
returns-then-is_repeated c =
    let firsts = c.args.firsts.now in
    let place = c.loop-place.place in
    let inside = c.loop-place-test.true in
    let at = get_or_default firsts place None (get_or firsts place None) inside in
    let within : place ≤ length firsts = omega arith in
    let longest = repeat_ends firsts place _ inside at (c.is_repeated.ensures.0 c.if-is_repeated.true) in
    record {
      within = within;
      differ = c.loop-place.invariant;
      longest = longest;
      batch = λ limit room. joining_is limit firsts place room within c.loop-place.invariant longest;
    }

pub returns-clause-batch : goal.returns-clause-batch
returns-clause-batch c limit room =
    let firsts = c.args.firsts.now in
    let place : c.loop-place.place ≡ length firsts = omega arith in
    let whole : KeysDiffer (take (length firsts) firsts) = rw (← place) c.loop-place.invariant in
    joining_is limit firsts (length firsts) room (omega arith) whole (λ count within differ. within)
