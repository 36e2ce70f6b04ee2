use Rattle.std.proofs.Common.{◌<◌, take, length, arith, sym, subst}
use Rattle.std.proofs.lemmas.Int.Digits.{digits_more}
use Rattle.std.specs.Str.Parse.{digits_value_after}
use Rattle.decimal_text.specs.Reading.{IsSignificand}
use Rattle.decimal_text.proofs.DigitRuns.{digits_value_after-more}
use Rattle.decimal_text.proofs.digits.read_digits.Goals as goal

pub loop-i-preserved : goal.loop-i-preserved
loop-i-preserved c =
    let text = c.args.text.now in
    let i = c.loop-i.i in
    let digit = c.in-Some.ensures in
    let within : c.loop-i.i < length c.args.text.now = omega arith in
    record {
      digits = digits_more 10 text i within c.loop-i.invariant.digits digit.0;
      zeros = omega (arith, c.loop-i.invariant.zeros, c.push-significand.ensures.zeros);
      number = λ m h.
          subst (IsSignificand c.push-significand.result)
          (sym (digits_value_after-more m text i c.in-Some.digit within (sym digit.1)))
          (c.push-significand.ensures.number (digits_value_after 10 m (take i text)) (c.loop-i.invariant.number m h));
    }
