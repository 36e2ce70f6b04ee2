use Rattle.std.proofs.Common.{ℕ, ◌+◌, ◌≤◌, take}
use Rattle.std.specs.Str.Parse.{AllDigits, digits_value_after}
use Rattle.decimal_text.specs.Reading.{IsSignificand}
use Rattle.decimal_text.proofs.digits.read_digits.Given as goal

abbrev pub invariant-loop-i : goal.invariant-loop-i
invariant-loop-i l = record {
  digits : AllDigits 10 (take l.i l.text);
  zeros : l.significand.zeros ≤ l.fn.before.zeros + l.i;
  number : (m : ℕ) → IsSignificand l.fn.before m → IsSignificand l.significand (digits_value_after 10 m (take l.i l.text));
}
