-- the number so far, and the digits that are left, are the whole number
use Rattle.std.proofs.Common.{◌≡◌, ◌<◌, ◌^◌, drop}
use Rattle.slnf_journal.specs.Fields.{are_hex_digits, hex_value}
use Rattle.slnf_journal.proofs.fields.parse_hex.Given as goal

abbrev pub invariant-loop-byte : goal.invariant-loop-byte
invariant-loop-byte l = record {
  digits : are_hex_digits (drop l.byte-index l.field) ≡ are_hex_digits l.field;
  whole : hex_value l.number (drop l.byte-index l.field) ≡ hex_value 0 l.field;
  small : l.number < 16 ^ l.byte-index;
}
