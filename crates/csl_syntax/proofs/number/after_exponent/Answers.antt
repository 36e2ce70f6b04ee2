use Rattle.csl_syntax.proofs.Scans.{answer_with, with_sign, no_digits_after_sign, without_sign, no_digits_after_letter}
use Rattle.csl_syntax.proofs.number.after_exponent.Goals as goal

pub returns-in-Some : goal.returns-in-Some
returns-in-Some c =
    let letter = c.in_ok-signed.ensures in
    let sign = c.in-Some.ensures in
    answer_with c.after_digits.result (no_digits_after_sign c.args.bytes.now c.in_ok-signed.signed.now letter c.in-Some.digits.now sign)
    (λ rest. with_sign c.args.bytes.now c.in_ok-signed.signed.now letter c.in-Some.digits.now rest.now sign) c.after_digits.ensures

pub returns-in-None : goal.returns-in-None
returns-in-None c =
    let letter = c.in_ok-signed.ensures in
    answer_with c.after_digits-in-None.result (no_digits_after_letter c.args.bytes.now c.in_ok-signed.signed.now letter c.in-None.ensures)
    (λ rest. without_sign c.args.bytes.now c.in_ok-signed.signed.now letter rest.now) c.after_digits-in-None.ensures
