use Rattle.std.proofs.Common.{◌≡◌, take}
use Rattle.std.specs.Str.Parse.{AllDigits, digits_value}
use Rattle.decimal_text.specs.Reading.{capped}
use Rattle.decimal_text.proofs.digits.read_capped.Given as goal

abbrev pub invariant-loop-byte : goal.invariant-loop-byte
invariant-loop-byte l = record {
  digits : AllDigits 10 (take l.byte-index l.text);
  number : l.number ≡ capped (digits_value 10 (take l.byte-index l.text));
}
