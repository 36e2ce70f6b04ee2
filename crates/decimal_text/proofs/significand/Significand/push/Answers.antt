use Rattle.std.proofs.Common.{◌+◌, ◌*◌, ◌%◌, ◌^◌, ◌<◌, ◌≡◌, ◌≢◌, ℕ, ap, arith, ◌∙◌, add-one, pow-suc}
use Rattle.decimal_text.specs.Reading.{up_to_limit}
use Rattle.decimal_text.proofs.FixedDigits.{ten_pos}
use Rattle.decimal_text.proofs.Known.{known_times, known_plus}
use Rattle.decimal_text.proofs.significand.Significand.push.Goals as goal

one_more_zero : (h z m d : ℕ) → m ≡ h * 10 ^ z → d ≡ 0 → m * 10 + d ≡ h * 10 ^ (z + 1)
one_more_zero h z m d e n =
    omega (arith, e, n, ap (λ p. h * p) (ap (λ k. 10 ^ k) (add-one z) ∙ pow-suc 10 z))

pub returns-then-digit-eq0-clause-number : goal.returns-then-digit-eq0-clause-number
returns-then-digit-eq0-clause-number c m h = record {
  digits = h.digits;
  number = one_more_zero h.digits c.args.self.zeros m c.args.digit h.number (omega arith);
  known = h.known;
  last = h.last;
}

new_last : (h z m d : ℕ) → m ≡ h * 10 ^ z → m * 10 + d ≡ (h * 10 ^ (z + 1) + d) * 10 ^ 0
new_last h z m d e =
    omega (arith, e, ap (λ p. h * p) (ap (λ k. 10 ^ k) (add-one z) ∙ pow-suc 10 z))

ends_with : (h z d : ℕ) → d < 10 → d ≢ 0 → (h * 10 ^ (z + 1) + d) % 10 ≢ 0
ends_with h z d l n e =
    omega (arith, e, ap (λ p. h * p) (ap (λ k. 10 ^ k) (add-one z) ∙ pow-suc 10 z))

pushed : (g h k front d r : ℕ) → g ≡ up_to_limit h → front ≡ up_to_limit (g * 10 ^ k) → r ≡ up_to_limit (front + d)
    → r ≡ up_to_limit (h * 10 ^ k + d)
pushed g h k front d r e f s = s ∙ known_plus front (h * 10 ^ k) d (f ∙ known_times g h (10 ^ k) e (ten_pos k))

pub returns-clause-number : goal.returns-clause-number
returns-clause-number c m h =
    let z = c.args.self.zeros in
    record {
      digits = h.digits * 10 ^ (z + 1) + c.args.digit;
      number = new_last h.digits z m c.args.digit h.number;
      known =
          pushed c.args.self.digits h.digits (z + 1) c.shifted-front.result c.args.digit c.min.result h.known
          (c.shifted-front.ensures ∙ ap (λ (k : ℕ). up_to_limit (c.args.self.digits * 10 ^ (k + 1))) c.from.ensures)
          (c.min.ensures ∙ ap (λ (d : ℕ). up_to_limit (c.shifted-front.result + d)) c.from-2.ensures);
      last = λ _. ends_with h.digits z c.args.digit (omega arith) (omega arith);
    }
