use Rattle.std.proofs.Common.{◌≡◌, ◌+◌, ◌-◌, ◌/◌, ◌%◌, ◌^◌, [], ◌∷◌, ◌++◌, length, take, drop}
use Rattle.decimal_text.specs.Digits.{fixed_digits}
use Rattle.decimal_text.proofs.text.write12.Given as goal

abbrev pub invariant-loop-written : goal.invariant-loop-written
invariant-loop-written l = record {
  size : length l.text ≡ 14;
  whole_and_point : take 2 l.text ≡ (48 + l.fn.units / 10 ^ 12) ∷ 46 ∷ [];
  decimals :
      fixed_digits (12 - l.written) l.rest ++ drop (14 - l.written) l.text
      ≡ fixed_digits 12 (l.fn.units % 10 ^ 12);
}
