-- the number so far, and the digits that are left, are the whole number
use Rattle.std.proofs.Common.{◌≡◌, ◌<◌, ◌^◌, drop, true}
use Rattle.std.specs.Str.{all_ascii_digits}
use Rattle.slnf_journal.specs.Fields.{decimal_value}
use Rattle.slnf_journal.proofs.fields.decimal_value.Given as goal

abbrev pub invariant-loop-byte : goal.invariant-loop-byte
invariant-loop-byte l = record {
  digits : all_ascii_digits (drop l.byte-index l.field) ≡ true;
  whole : decimal_value l.number (drop l.byte-index l.field) ≡ decimal_value 0 l.field;
  small : l.number < 10 ^ l.byte-index;
}
