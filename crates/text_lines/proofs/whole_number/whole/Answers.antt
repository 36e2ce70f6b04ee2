use Rattle.std.proofs.Common.{◌≡◌, ℕ, zero, suc, ◌+◌, ◌*◌, ◌-◌, ◌^◌, ◌<◌, min, List, [], ◌∷◌, length, get_or, take, sym, subst, ap, ◌∙◌}
use Rattle.std.proofs.Common.{arith}
use Rattle.std.proofs.lemmas.Int.Digits.{digits_more, digits_value_more}
use Rattle.std.specs.Char.{digit_value}
use Rattle.std.specs.Str.Parse.{AllDigits, digits_value}
use Rattle.text_lines.specs.WholeNumber.{IsWhole}
use Rattle.text_lines.proofs.whole_number.whole.Goals as goal

-- each of the digits is one
digit_at : (ds : List ℕ) (i : ℕ) → AllDigits 10 ds → i < length ds → digit_value (get_or ds i 0) < 10
digit_at [] i h l = absurd (omega arith)
digit_at (c ∷ cs) zero h l = h.0
digit_at (c ∷ cs) (suc i) h l = digit_at cs i h.1 (omega arith)

-- a digit more of a number that is known up to a limit
known_more : (limit number value digit times plus : ℕ) → limit < 2 ^ 63 → digit < 10 → number ≡ min value (limit + 1)
    → times ≡ min (number * 10) (2 ^ 64 - 1) → plus ≡ min (times + digit) (2 ^ 64 - 1)
    → min plus (limit + 1) ≡ min (value * 10 + digit) (limit + 1)
known_more limit number value digit times plus l d n t p = omega arith

pub returns-in_err-digit : goal.returns-in_err-digit
returns-in_err-digit c =
    let within : c.loop-byte.byte-index < length c.args.word.now = omega arith in
    let none : (IsWhole c.args.word.now) → ⊥ = λ whole.
    c.in_err-digit.ensures.value
    (subst (λ z. digit_value z < 10) (sym c.from.ensures) (digit_at c.args.word.now c.loop-byte.byte-index whole.1 within)) in
    rw c.from_residual.ensures none

pub loop-byte-preserved : goal.loop-byte-preserved
loop-byte-preserved c =
    let word = c.args.word.now in
    let i = c.loop-byte.byte-index in
    let within : c.loop-byte.byte-index < length c.args.word.now = omega arith in
    let digit = c.in_ok-digit.ensures.value in
    let same : c.in_ok-digit.digit ≡ digit_value (get_or word i 0) = digit.1 ∙ ap digit_value c.from.ensures in
    let value : digits_value 10 (take i word) * 10 + c.in_ok-digit.digit ≡ digits_value 10 (take (i + 1) word)
    = ap (λ z. digits_value 10 (take i word) * 10 + z) same ∙ sym (digits_value_more 10 word i within) in
    let longer : c.saturating_add-longer.result ≡ min (c.saturating_mul.result + c.in_ok-digit.digit) (2 ^ 64 - 1)
    = c.saturating_add-longer.ensures ∙ ap (λ (z : ℕ). min (c.saturating_mul.result + z) (2 ^ 64 - 1)) c.from-in-loop-byte.ensures in
    record {
      digits = digits_more 10 word i within c.loop-byte.invariant.digits (subst (λ z. digit_value z < 10) c.from.ensures digit.0);
      number =
          c.min-number.ensures
          ∙ known_more c.args.limit c.loop-byte.number
          (digits_value 10 (take i word)) c.in_ok-digit.digit c.saturating_mul.result c.saturating_add-longer.result c.requires
          (subst (λ z. z < 10) (sym digit.1) digit.0) c.loop-byte.invariant.number c.saturating_mul.ensures longer
          ∙ ap (λ z. min z (c.args.limit + 1)) value;
    }
