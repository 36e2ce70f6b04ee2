use Rattle.std.proofs.Common.{◌-◌, ℕ, ◌+◌, ◌^◌, ◌<◌, length, arith, ap, sym, min, ◌∙◌}
use Rattle.std.proofs.lemmas.Int.Digits.{digits_more}
use Rattle.std.specs.Str.Parse.{IsNumeral}
use Rattle.decimal_text.proofs.DigitRuns.{digit_below, digits_value_after-more, capped_more}
use Rattle.decimal_text.proofs.digits.read_capped.Goals as goal

pub returns-in_err-digit : goal.returns-in_err-digit
returns-in_err-digit c =
    let not_digit = c.in_err-digit.ensures in
    let none : (IsNumeral 10 c.args.text.now) → ⊥ =
    λ numeral. not_digit (digit_below c.args.text.now c.loop-byte.byte-index numeral.1 (omega arith))
    in
    rw c.from_residual.ensures none

pub loop-byte-preserved : goal.loop-byte-preserved
loop-byte-preserved c =
    let digit = c.in_ok-digit.ensures in
    let within : c.loop-byte.byte-index < length c.args.text.now = omega arith in
    record {
      digits = digits_more 10 c.args.text.now c.loop-byte.byte-index within c.loop-byte.invariant.digits digit.0;
      number =
          c.saturating_add-number.ensures
          ∙ ap (λ (d : ℕ). min (c.saturating_mul.result + d) (2 ^ 64 - 1)) c.from.ensures
          ∙ capped_more c.loop-byte.number _ _ c.in_ok-digit.digit c.saturating_mul.result c.loop-byte.invariant.number
          c.saturating_mul.ensures
          (digits_value_after-more 0 c.args.text.now c.loop-byte.byte-index c.in_ok-digit.digit within (sym digit.1));
    }
