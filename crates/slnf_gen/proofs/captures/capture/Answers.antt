-- each record is that of the next number and the next word
use Rattle.std.proofs.Common.{◌≡◌, ◌∙◌, ◌++◌, ap, arith}
use Rattle.std.specs.List.{flat_map, range_with_len}
use Rattle.slnf_gen.specs.Packets.{file_header}
use Rattle.slnf_gen.specs.Captures.{drawn_record, capture_from}
use Rattle.slnf_gen.proofs.Laws.{state_after-none, state_after-next, records-more}
use Rattle.slnf_gen.proofs.captures.capture.Goals as goal

pub loop-number-init : goal.loop-number-init
unfolding file_header
loop-number-init c = record {
  bytes = c.in_ok-extend_from_slice.ensures.items ∙ ap (λ l. l ++ file_header) c.in_ok-bytes.ensures.items;
  drawn = state_after-none 0 _ (omega arith);
}

pub loop-number-preserved : goal.loop-number-preserved
loop-number-preserved c =
    let so = c.loop-number.invariant in
    let step = c.next_word.ensures in
    record {
      bytes = records-more _ _ _ _ _ _ so.drawn (ap (λ p. p.0) step) so.bytes c.in_ok-push_record.ensures;
      drawn = ap (λ p. p.1) step ∙ state_after-next _ _ _ so.drawn;
    }

pub returns-clause-bytes : goal.returns-clause-bytes
unfolding capture_from
returns-clause-bytes c =
    let all : c.loop-number.number ≡ c.args.packets = omega arith in
    c.loop-number.invariant.bytes ∙ ap (λ n. file_header ++ flat_map (drawn_record c.args.words.now) (range_with_len 0 n)) all
