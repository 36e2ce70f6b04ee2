use Rattle.std.proofs.Common.{◌≡◌, ℕ, List, take, drop, ◌+◌, ◌-◌, ◌/◌, ◌%◌, ◌^◌, ◌<◌, [], ◌∷◌, ◌++◌, ap, sym, rules, arith, ◌∙◌}
use Rattle.std.proofs.lemmas.List.{take-set-le, take-append-drop}
use Rattle.std.proofs.lemmas.Fmt.{decimal_digit}
use Rattle.decimal_text.specs.Digits.{fixed_digits}
use Rattle.decimal_text.proofs.FixedDigits.{one_digit_back}
use Rattle.decimal_text.proofs.text.write12.Goals as goal

-- once 12 digits are written, they follow what stands before them
all_written : (text before digits : List ℕ) (written rest : ℕ) → written ≡ 12 → take 2 text ≡ before
    → fixed_digits (12 - written) rest ++ drop (14 - written) text ≡ digits → text ≡ before ++ digits
all_written text before digits written rest w b d =
    sym (take-append-drop 2 text) ∙ ap (λ h. h ++ drop 2 text) b ∙ ap (λ t. before ++ t) (rw w at d)

pub loop-written-preserved : goal.loop-written-preserved
loop-written-preserved c =
    let i = c.loop-written.written in
    record {
      size = search rules;
      whole_and_point =
          rw
          (take-set-le 2 c.loop-written.text (13 - i) (48 + c.loop-written.rest % 10) (omega arith))
          c.loop-written.invariant.whole_and_point;
      decimals =
          one_digit_back (12 - (i + 1)) (12 - i) (13 - i) (14 - (i + 1)) (14 - i) c.loop-written.rest c.loop-written.text (omega arith)
          (omega arith) (omega arith) (omega arith)
          ∙ c.loop-written.invariant.decimals;
    }

pub returns : goal.returns
returns c =
    let whole = c.args.units / 10 ^ 12 in
    let small : whole < 10 = omega arith in
    let digits = fixed_digits 12 (c.args.units % 10 ^ 12) in
    all_written c.loop-written.text ((48 + whole) ∷ 46 ∷ []) digits c.loop-written.written c.loop-written.rest
    (omega arith) c.loop-written.invariant.whole_and_point c.loop-written.invariant.decimals
    ∙ ap (λ ds. ds ++ 46 ∷ digits) (sym (decimal_digit whole small))
