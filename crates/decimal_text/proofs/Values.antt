-- A word stands for one number at most, and each number's word for some.
use Rattle.std.proofs.Common.{◌≡◌, ℕ, zero, suc, ◌+◌, ◌*◌, ◌/◌, ◌%◌, ◌^◌, ◌≢◌, ◌⊎◌, length, inl, inr, ap, refl, sym, subst, ◌∙◌, arith}
use Rattle.std.proofs.Common.{pow-suc}
use Rattle.std.proofs.Math.Nat.{eq_of_mul-eq-mul_right}
use Rattle.decimal_text.specs.DecimalNumber.{DecimalNumber, IsNormal, IsNormalFormOf}
use Rattle.decimal_text.specs.NumberValue.{IsValueOf, mantissa_number, tens_up, tens_down, AWordHasOneValue, EachNumberHasAValue}
use Rattle.decimal_text.specs.Spelling.{decimals_of}
use Rattle.decimal_text.proofs.FixedDigits.{ten_pos}
use Rattle.decimal_text.proofs.Grammar.{spelling_unique}
use Rattle.decimal_text.proofs.NormalForms.{normal_form_unique}

-- both are the number n / l
crosswise : (n l c x d y : ℕ) → n * x ≡ c * l → n * y ≡ d * l → c * y * l ≡ d * x * l
crosswise n l c x d y a b = omega (arith, ap (λ z. z * y) a, ap (λ z. z * x) b)

pub one_form : (m u l : ℕ) (d e : DecimalNumber) → IsNormalFormOf m u l d → IsNormalFormOf m u l e → d ≡ e
one_form m u l d e a b =
    normal_form_unique d e a.normal b.normal
    (eq_of_mul-eq-mul_right (10 ^ l) (ten_pos l) _ _ (crosswise (m * 10 ^ u) (10 ^ l) d.c (10 ^ d.x) e.c (10 ^ e.x) a.same b.same))

pub one_value : AWordHasOneValue
one_value word d e a b =
    let value = subst (λ s. IsValueOf s e) (spelling_unique word b.spelling a.spelling b.spelled a.spelled) b.value in
    one_form _ _ _ d e a.value value

abbrev form : ℕ → ℕ → DecimalNumber
form c x = record { c = c; x = x }

tens_or_not : (c : ℕ) → (c % 10 ≡ 0) ⊎ (c % 10 ≢ 0)
tens_or_not c = Prim.grind arith

-- the normal form of c / 10^x
reduced : (c x : ℕ) → (d : DecimalNumber) × IsNormal d × (c * 10 ^ d.x ≡ d.c * 10 ^ x)
reduced c zero = (form c 0, λ l. absurd (omega arith), refl)
reduced c (suc x) =
    elim (tens_or_not c) [
      | inl tens ↦
          let less = reduced (c / 10) x in
          let d = less.0 in
          let split : c ≡ c / 10 * 10 = omega arith in
          (d, less.1, ap (λ z. z * 10 ^ d.x) split ∙ times (c / 10) (10 ^ d.x) d.c (10 ^ x) less.2 ∙ ap (λ z. d.c * z) (sym (pow-suc 10 x)))
      | inr last ↦ (form c (suc x), λ _. last, refl)
    ]
  where
    times : (q p c r : ℕ) → q * p ≡ c * r → q * 10 * p ≡ c * (r * 10)
    times q p c r e = omega (arith, e)

pub some_value : EachNumberHasAValue
some_value word n =
    let s = n.0 in
    let least = reduced (mantissa_number s.mantissa * 10 ^ tens_up s.exponent) (length (decimals_of s.mantissa) + tens_down s.exponent) in
    (least.0, record { spelling = s; spelled = n.1; value = record { normal = least.1; same = least.2 } })
