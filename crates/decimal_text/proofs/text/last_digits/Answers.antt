use Rattle.std.proofs.Common.{◌≡◌, ℕ, ◌+◌, ◌-◌, ◌++◌, List, drop, subst, rules, arith, ◌∙◌}
use Rattle.decimal_text.specs.Digits.{fixed_digits}
use Rattle.decimal_text.proofs.FixedDigits.{one_digit_back}
use Rattle.decimal_text.proofs.text.last_digits.Goals as goal

-- once all digits are written, nothing stands before them
all_written : (text digits : List ℕ) (rest written count : ℕ) → written ≡ count
    → fixed_digits (count - written) rest ++ drop (18 - written) text ≡ digits → drop (18 - count) text ≡ digits
all_written text digits rest written count e d =
    let none : count - written ≡ 0 = omega arith in
    let only : drop (18 - written) text ≡ digits = subst (λ k. fixed_digits k rest ++ drop (18 - written) text ≡ digits) none d in
    subst (λ k. drop (18 - k) text ≡ digits) e only

pub loop-written-preserved : goal.loop-written-preserved
loop-written-preserved c =
    let i = c.loop-written.written in
    record {
      size = search rules;
      decimals =
          one_digit_back (c.args.count - (i + 1)) (c.args.count - i) (18 - 1 - i) (18 - (i + 1))
          (18 - i) c.loop-written.rest c.loop-written.digits (omega arith) (omega arith) (omega arith) (omega arith)
          ∙ c.loop-written.invariant.decimals;
    }

pub returns : goal.returns
returns c =
    all_written c.loop-written.digits (fixed_digits c.args.count c.args.value) c.loop-written.rest c.loop-written.written c.args.count
    (omega arith) c.loop-written.invariant.decimals
