use Rattle.std.proofs.Common.{map, arith}
use Rattle.std.specs.Prelude.{string_bytes}
use Rattle.std.proofs.lemmas.Result.{err_from_is_err_and}
use Rattle.slnf_top.proofs.Reading.{reads_begin, moves_at, next_at, refused_in, reads_over}
use Rattle.slnf_top.proofs.inputs.read_captures.Goals as goal

pub loop-name-init : goal.loop-name-init
loop-name-init g c =
    reads_begin (g.S.Shelf.faults c.args.shelf.now) (g.S.Shelf.holds c.args.shelf.now)
    (map string_bytes c.args.names.now)
    c.new-given.result.items c.new-lanes.result.items c.new-given.ensures.items c.new-lanes.ensures.items

pub returns-in_err-next-clause-counts : goal.returns-in_err-next-clause-counts
returns-in_err-next-clause-counts g c =
    moves_at string_bytes c.args.names.now c.loop-name.name-index c.name-item.result c.as_str.result.now
    (g.S.Shelf.faults c.args.shelf.now) (g.S.Shelf.faults c.loop-name.shelf) (g.S.Shelf.faults c.read_next.new.shelf)
    (g.S.Shelf.holds c.args.shelf.now) (g.S.Shelf.holds c.loop-name.shelf) (map string_bytes c.args.names.now)
    c.loop-name.given.items c.loop-name.lanes.items c.loop-name.tally
    (omega (arith, c.loop-name-test.true)) c.name-item.is c.as_str.ensures.value c.loop-name.invariant
    c.read_next.ensures.counts

pub returns-in_err-push-clause-counts : goal.returns-in_err-push-clause-counts
returns-in_err-push-clause-counts g c =
    moves_at string_bytes c.args.names.now c.loop-name.name-index c.name-item.result c.as_str.result.now
    (g.S.Shelf.faults c.args.shelf.now) (g.S.Shelf.faults c.loop-name.shelf) (g.S.Shelf.faults c.read_next.new.shelf)
    (g.S.Shelf.holds c.args.shelf.now) (g.S.Shelf.holds c.loop-name.shelf) (map string_bytes c.args.names.now)
    c.loop-name.given.items c.loop-name.lanes.items c.loop-name.tally
    (omega (arith, c.loop-name-test.true)) c.name-item.is c.as_str.ensures.value c.loop-name.invariant
    c.read_next.ensures.counts

pub returns-in_err-push-2-clause-counts : goal.returns-in_err-push-2-clause-counts
returns-in_err-push-2-clause-counts g c =
    moves_at string_bytes c.args.names.now c.loop-name.name-index c.name-item.result c.as_str.result.now
    (g.S.Shelf.faults c.args.shelf.now) (g.S.Shelf.faults c.loop-name.shelf) (g.S.Shelf.faults c.read_next.new.shelf)
    (g.S.Shelf.holds c.args.shelf.now) (g.S.Shelf.holds c.loop-name.shelf) (map string_bytes c.args.names.now)
    c.loop-name.given.items c.loop-name.lanes.items c.loop-name.tally
    (omega (arith, c.loop-name-test.true)) c.name-item.is c.as_str.ensures.value c.loop-name.invariant
    c.read_next.ensures.counts

pub returns-in_err-next-clause-refused : goal.returns-in_err-next-clause-refused
returns-in_err-next-clause-refused g c =
    let p = err_from_is_err_and c.from_residual.result c.from_residual.ensures.1 in
    rw (p.1, p.2) (refused_in string_bytes c.args.names.now c.loop-name.name-index c.name-item.result
    c.as_str.result.now
    (g.S.Shelf.faults c.args.shelf.now) (g.S.Shelf.faults c.loop-name.shelf) (g.S.Shelf.faults c.read_next.new.shelf)
    (g.S.Shelf.holds c.args.shelf.now) (g.S.Shelf.holds c.loop-name.shelf) (map string_bytes c.args.names.now)
    c.loop-name.given.items c.loop-name.lanes.items c.loop-name.tally c.in_err-next.field-0.0
    (omega (arith, c.loop-name-test.true)) c.name-item.is c.as_str.ensures.value c.loop-name.invariant
    c.in_err-next.ensures.refused)

pub loop-name-preserved : goal.loop-name-preserved
loop-name-preserved g c =
    next_at string_bytes c.args.names.now c.loop-name.name-index c.name-item.result c.as_str.result.now
    (g.S.Shelf.faults c.args.shelf.now) (g.S.Shelf.faults c.loop-name.shelf) (g.S.Shelf.faults c.read_next.new.shelf)
    (g.S.Shelf.holds c.args.shelf.now) (g.S.Shelf.holds c.loop-name.shelf) (map string_bytes c.args.names.now)
    c.loop-name.given.items c.loop-name.lanes.items c.loop-name.tally
    (g.S.Shelf.holds c.read_next.new.shelf) c.push.new.self.items c.push-in-loop-name.new.self.items c.in_ok-next.next
    (omega (arith, c.loop-name-test.true)) c.name-item.is c.as_str.ensures.value c.loop-name.invariant
    c.read_next.ensures.counts c.in_ok-next.ensures.no_fault c.read_next.ensures.files c.in_ok-next.ensures.told
    c.in_ok-next.ensures.next c.in_ok-push.ensures.items c.in_ok-push-2.ensures.items

pub returns-clause-read : goal.returns-clause-read
returns-clause-read g c =
    reads_over string_bytes c.args.names.now c.loop-name.name-index (g.S.Shelf.faults c.args.shelf.now)
    (g.S.Shelf.faults c.loop-name.shelf)
    (g.S.Shelf.holds c.args.shelf.now) (g.S.Shelf.holds c.loop-name.shelf) (map string_bytes c.args.names.now)
    c.loop-name.given.items c.from_vec.result c.loop-name.lanes.items c.from_vec-2.result c.loop-name.tally
    (omega (arith, c.loop-name-test.false)) c.from_vec.ensures c.from_vec-2.ensures c.loop-name.invariant
