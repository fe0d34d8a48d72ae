use Rattle.std.proofs.Common.{sym, ◌∙◌, arith}
use Rattle.slnf_journal.proofs.Numbers.{not_decimal, too_long}
use Rattle.slnf_journal.proofs.fields.parse_number.Goals as goal
use Rattle.slnf_journal.proofs.fields.parse_number.Goals.{then-not-is_decimal-via-then-not-is_decimal, then-not-is_decimal-via-else-not-is_decimal+then-field-gt-MOST_DIGITS}

pub returns-then-not-is_decimal-clause-value : goal.returns-then-not-is_decimal-clause-value
returns-then-not-is_decimal-clause-value c =
    elim c.then-not-is_decimal.branch [
      | then-not-is_decimal-via-then-not-is_decimal w ↦
          not_decimal c.args.least c.args.end c.args.field.now (sym c.is_decimal.ensures ∙ w.if-not-is_decimal.true)
      | then-not-is_decimal-via-else-not-is_decimal+then-field-gt-MOST_DIGITS w ↦
          too_long c.args.least c.args.end c.args.field.now c.requires (omega (arith, w.if-field-gt-MOST_DIGITS.true))
    ]
