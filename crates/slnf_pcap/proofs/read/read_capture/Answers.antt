use Rattle.std.proofs.Common.{◌∙◌, sym, ap, Err}
use Rattle.std.proofs.lemmas.Result.{err_from_is_err_and}
use Rattle.slnf_pcap.proofs.Laws.{capture_of-no_header, capture_of-no_records, capture_of-whole}
use Rattle.slnf_pcap.proofs.read.read_capture.Goals as goal

pub returns-in_err-header-clause-err : goal.returns-in_err-header-clause-err
returns-in_err-header-clause-err c =
    let p = err_from_is_err_and c.from_residual.result c.from_residual.ensures.1 in
    rw p.1 (λ _. capture_of-no_header c.args.bytes.now c.in_err-header.field-0.0 (sym c.in_err-header.ensures) ∙ ap Err (sym p.2))

pub returns-in_err-packets-clause-err : goal.returns-in_err-packets-clause-err
returns-in_err-packets-clause-err c =
    let p = err_from_is_err_and c.from_residual-in_err-packets.result c.from_residual-in_err-packets.ensures.1 in
    rw p.1 (λ other. capture_of-no_records c.args.bytes.now c.in_ok-header.header c.in_err-packets.field-0.0
    (sym c.in_ok-header.ensures)
    (c.in_err-packets.ensures.err (λ e. other (p.2 ∙ e))) ∙ ap Err (sym p.2))

pub returns-clause-ok : goal.returns-clause-ok
returns-clause-ok c =
    rw c.from_vec.ensures (capture_of-whole c.args.bytes.now c.in_ok-header.header c.in_ok-packets.packets.items
    (sym c.in_ok-header.ensures) c.in_ok-packets.ensures.ok)
