use Rattle.std.proofs.Common.{◌≡◌, ◌-◌, ◌++◌, length, drop}
use Rattle.decimal_text.specs.Digits.{fixed_digits}
use Rattle.decimal_text.proofs.text.last_digits.Given as goal

abbrev pub invariant-loop-written : goal.invariant-loop-written
invariant-loop-written l = record {
  size : length l.digits ≡ 18;
  decimals : fixed_digits (l.count - l.written) l.rest ++ drop (18 - l.written) l.digits ≡ fixed_digits l.count l.fn.value;
}
