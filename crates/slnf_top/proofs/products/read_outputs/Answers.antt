use Rattle.std.proofs.Common.{◌≡◌, length, map, arith}
use Rattle.std.specs.Prelude.{string_bytes}
use Rattle.std.proofs.lemmas.Result.{err_from_is_err_and}
use Rattle.slnf_top.specs.Names.{capture_names}
use Rattle.slnf_check.proofs.Sizes.{length_map}
use Rattle.slnf_top.proofs.RunFiles.{outputs_start, stopped_in, wanting_in, next_in, outputs_passed, outputs_told}
use Rattle.slnf_top.proofs.products.read_outputs.Goals as goal

pub loop-lane-init : goal.loop-lane-init
loop-lane-init g c =
    outputs_start (g.S.Shelf.faults c.args.shelf.now) (g.S.Shelf.holds c.args.shelf.now)
    (capture_names c.args.out.now 0 (map string_bytes c.args.captures.now)) c.new-outputs.result.items
    c.new-outputs.ensures.items

pub returns-in_err-read_output-clause-refused : goal.returns-in_err-read_output-clause-refused
returns-in_err-read_output-clause-refused g c =
    let captures = map string_bytes c.args.captures.now in
    let count : length captures ≡ length c.args.captures.now = length_map string_bytes c.args.captures.now in
    let p = err_from_is_err_and c.from_residual.result c.from_residual.ensures.1 in
    rw (p.1, p.2) (stopped_in (g.S.Shelf.faults c.args.shelf.now) (g.S.Shelf.faults c.loop-lane.shelf)
    (g.S.Shelf.faults c.read_output.new.shelf) (g.S.Shelf.holds c.args.shelf.now) (g.S.Shelf.holds c.loop-lane.shelf)
    (g.S.Shelf.holds c.read_output.new.shelf) c.args.out.now captures c.loop-lane.outputs.items c.loop-lane.lane
    (omega (arith, c.loop-lane-test.true)) c.loop-lane.invariant c.in_err-read_output.field-0.0
    c.in_err-read_output.ensures.refused)

pub returns-in_err-push-clause-refused : goal.returns-in_err-push-clause-refused
returns-in_err-push-clause-refused g c =
    let captures = map string_bytes c.args.captures.now in
    let count : length captures ≡ length c.args.captures.now = length_map string_bytes c.args.captures.now in
    let p = err_from_is_err_and c.from_residual-in_err-push.result c.from_residual-in_err-push.ensures.1 in
    rw (p.1, p.2) (wanting_in (g.S.Shelf.faults c.args.shelf.now) (g.S.Shelf.faults c.loop-lane.shelf)
    (g.S.Shelf.faults c.read_output.new.shelf) (g.S.Shelf.holds c.args.shelf.now) (g.S.Shelf.holds c.loop-lane.shelf)
    (g.S.Shelf.holds c.read_output.new.shelf) c.args.out.now captures c.loop-lane.outputs.items c.loop-lane.lane
    (omega (arith, c.loop-lane-test.true)) c.loop-lane.invariant c.in_ok-read_output.ensures.read)

pub loop-lane-preserved : goal.loop-lane-preserved
loop-lane-preserved g c =
    let captures = map string_bytes c.args.captures.now in
    let count : length captures ≡ length c.args.captures.now = length_map string_bytes c.args.captures.now in
    next_in (g.S.Shelf.faults c.args.shelf.now) (g.S.Shelf.faults c.loop-lane.shelf)
    (g.S.Shelf.faults c.read_output.new.shelf) (g.S.Shelf.holds c.args.shelf.now) (g.S.Shelf.holds c.loop-lane.shelf)
    (g.S.Shelf.holds c.read_output.new.shelf) c.args.out.now captures c.loop-lane.outputs.items c.loop-lane.lane
    (omega (arith, c.loop-lane-test.true)) c.loop-lane.invariant c.in_ok-read_output.field-0
    c.push.new.self.items c.in_ok-read_output.ensures.read c.in_ok-read_output.ensures.told
    c.in_ok-push.ensures.items

pub returns-clause-read : goal.returns-clause-read
returns-clause-read g c =
    let captures = map string_bytes c.args.captures.now in
    let count : length captures ≡ length c.args.captures.now = length_map string_bytes c.args.captures.now in
    outputs_passed (g.S.Shelf.faults c.args.shelf.now) (g.S.Shelf.faults c.loop-lane.shelf)
    (g.S.Shelf.holds c.args.shelf.now) (g.S.Shelf.holds c.loop-lane.shelf) c.args.out.now captures
    c.loop-lane.outputs.items c.loop-lane.lane (omega (arith, c.loop-lane-test.false)) c.loop-lane.invariant

pub returns-clause-told : goal.returns-clause-told
returns-clause-told g c =
    let captures = map string_bytes c.args.captures.now in
    let count : length captures ≡ length c.args.captures.now = length_map string_bytes c.args.captures.now in
    outputs_told (g.S.Shelf.faults c.args.shelf.now) (g.S.Shelf.faults c.loop-lane.shelf)
    (g.S.Shelf.holds c.args.shelf.now) (g.S.Shelf.holds c.loop-lane.shelf) c.args.out.now captures
    c.loop-lane.outputs.items c.loop-lane.lane c.from_vec.result c.from_vec.ensures
    (omega (arith, c.loop-lane-test.false)) c.loop-lane.invariant
