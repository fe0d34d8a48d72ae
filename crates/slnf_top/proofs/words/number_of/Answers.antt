use Rattle.std.proofs.Common.{◌≡◌, ◌+◌, ◌∙◌, true, ap, sym, arith}
use Rattle.std.specs.Prelude.{Ok, Err}
use Rattle.slnf_journal.specs.Fields.{is_decimal}
use Rattle.slnf_top.proofs.Numbers.{not_decimal, parsed_number, unparsed_number}
use Rattle.slnf_top.proofs.words.number_of.Goals as goal

pub returns-then-not-is_decimal-clause-value : goal.returns-then-not-is_decimal-clause-value
returns-then-not-is_decimal-clause-value c =
    not_decimal c.args.least (c.args.most + 1) c.args.word.now
    (ap is_decimal (sym c.as_bytes.ensures.value) ∙ sym c.is_decimal.ensures ∙ c.if-not-is_decimal.true)

pub returns-in-Ok-clause-value : goal.returns-in-Ok-clause-value
returns-in-Ok-clause-value c =
    let digits : is_decimal c.args.word.now ≡ true =
    ap is_decimal (sym c.as_bytes.ensures.value) ∙ sym c.is_decimal.ensures ∙ c.if-not-is_decimal.false in
    let is = c.in-Ok.is in
    let read : c.parse.result ≡ Ok c.in-Ok.number = cc in
    c.within.ensures.value
    ∙ parsed_number c.args.least (c.args.most + 1) c.in-Ok.number c.args.word.now c.parse.result digits
    c.parse.ensures.value.0 read

pub returns-in-Err-clause-value : goal.returns-in-Err-clause-value
returns-in-Err-clause-value c =
    let digits : is_decimal c.args.word.now ≡ true =
    ap is_decimal (sym c.as_bytes.ensures.value) ∙ sym c.is_decimal.ensures ∙ c.if-not-is_decimal.false in
    let is = c.in-Err.is in
    let read : c.parse.result ≡ Err c.in-Err.field-0 = cc in
    unparsed_number c.args.least (c.args.most + 1) c.in-Err.field-0 c.args.word.now c.parse.result digits
    (omega (arith, c.ranges.most.fits)) c.parse.ensures.value.0 read
