use Rattle.std.proofs.Common.{◌≡◌, ◌≤◌, ◌<◌, ◌∙◌, ◌-◌, ◌+◌, ◌∷◌, [], suc, length, take, drop, vec_len, Err, sym, ap, arith}
use Rattle.std.proofs.lemmas.List.{length-drop}
use Rattle.std.proofs.lemmas.List.Elements.{All-append}
use Rattle.std.proofs.lemmas.Result.{err_from_is_err_and}
use Rattle.slnf_pcap.specs.Captures.{LiesIn}
use Rattle.slnf_pcap.proofs.Steps.{rest-slice, step-end, step-too_many, step-broken, step-record, parts-more, All-one}
use Rattle.slnf_pcap.proofs.read.read_records.Goals as goal

pub returns-then-len-eq-MOST_RECORDS-clause-err : goal.returns-then-len-eq-MOST_RECORDS-clause-err
returns-then-len-eq-MOST_RECORDS-clause-err c = λ _.
    let full : 1048576 - vec_len c.loop-at.packets ≡ 0 = omega arith in
    sym c.loop-at.invariant.rest ∙ step-too_many c.args.big (1048576 - vec_len c.loop-at.packets)
    c.loop-at.at c.args.bytes.now c.loop-at.packets.items full c.loop-at-test.true

pub returns-in_err-packet-clause-err : goal.returns-in_err-packet-clause-err
returns-in_err-packet-clause-err c =
    let p = err_from_is_err_and c.from_residual.result c.from_residual.ensures.1 in
    let room : 0 < 1048576 - vec_len c.loop-at.packets = omega arith in
    rw p.1 (λ _. sym c.loop-at.invariant.rest
    ∙ step-broken c.args.big (1048576 - vec_len c.loop-at.packets) c.loop-at.at c.args.bytes.now
    c.loop-at.packets.items c.in_err-packet.field-0.0 room c.loop-at-test.true (sym c.in_err-packet.ensures.value)
    ∙ ap Err (sym p.2))

pub loop-at-preserved : goal.loop-at-preserved
loop-at-preserved c =
    let at = c.loop-at.at in
    let packet = c.in_ok-packet.packet in
    let bytes = c.args.bytes.now in
    let pushed = c.in_ok-push.ensures.items in
    let left : 1048576 - vec_len c.loop-at.packets ≡ suc (1048576 - vec_len c.push.new.self) =
    omega (arith, c.in_ok-push.ensures.len) in
    let size : length (take (length bytes - at) (drop at bytes)) ≡ length bytes - at =
    ap length (rest-slice at bytes) ∙ length-drop at bytes in
    let place : at + (16 + packet.len) ≤ length bytes = omega (arith, c.in_ok-packet.ensures.whole, size) in
    record {
      place = place;
      few = omega (arith, c.in_ok-push.ensures.len);
      rest = rw pushed (step-record c.args.big (1048576 - vec_len c.loop-at.packets) (1048576 - vec_len c.push.new.self)
          at bytes c.loop-at.packets.items packet left c.loop-at-test.true (sym c.in_ok-packet.ensures.value)
          ∙ c.loop-at.invariant.rest);
      lie = rw pushed (All-append (LiesIn bytes) c.loop-at.packets.items (packet ∷ []) c.loop-at.invariant.lie
          (All-one (LiesIn bytes) packet
          (record { whole = omega (arith, c.in_ok-packet.ensures.place); short = c.in_ok-packet.ensures.short })));
      parts = rw pushed
          (parts-more at bytes c.loop-at.packets.items packet c.in_ok-packet.ensures.place c.loop-at.invariant.parts);
    }

pub returns-clause-ok : goal.returns-clause-ok
returns-clause-ok c =
    sym c.loop-at.invariant.rest ∙ step-end c.args.big
    (1048576 - vec_len c.loop-at.packets) c.loop-at.at c.args.bytes.now c.loop-at.packets.items c.loop-at-test.false
