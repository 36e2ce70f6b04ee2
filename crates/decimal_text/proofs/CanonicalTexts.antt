-- A decimal's text stands for it.
use Rattle.std.proofs.Common.{◌≡◌, ℕ, ◌+◌, ◌*◌, ◌/◌, ◌%◌, ◌^◌, ◌<◌, ◌≢◌, ◌⊎◌, inl, inr, ◌==◌, true, false, if◌then◌else◌, Some, None, []}
use Rattle.std.proofs.Common.{◌∷◌, ◌++◌, length, ap, sym, subst, ◌∙◌, arith, append-nil}
use Rattle.std.proofs.Math.Nat.{div-le_self}
use Rattle.std.proofs.lemmas.Bool.Decides.{nat_tests}
use Rattle.std.proofs.lemmas.Fmt.{decimal_is_IsNumeral}
use Rattle.std.proofs.lemmas.Nat.{div-add-mod', mod_below}
use Rattle.std.specs.Fmt.{decimal}
use Rattle.std.specs.Str.Parse.{digits_value, digits_value_after}
use Rattle.decimal_text.specs.Digits.{fixed_digits}
use Rattle.decimal_text.specs.DecimalNumber.{DecimalNumber, IsShortDecimal}
use Rattle.decimal_text.specs.NumberValue.{StandsFor}
use Rattle.decimal_text.specs.Text.{canonical_text, point_text}
use Rattle.decimal_text.proofs.FixedDigits.{ten_pos, length-fixed_digits, AllDigits-fixed_digits, digits_value-fixed_digits}
use Rattle.decimal_text.proofs.DigitRuns.{digits_value_after-append, digits_value_after-value}

abbrev form : ℕ → ℕ → DecimalNumber
form c x = record { c = c; x = x }

-- digits and no point
whole_stands : (c : ℕ) → c < 2 ^ 64 → StandsFor (decimal c) (form c 0)
whole_stands c l =
    let digits = decimal_is_IsNumeral c l in
    record {
      spelling = record { mantissa = record { whole = decimal c; decimals = None }; exponent = None };
      spelled = record {
        text = sym (append-nil (decimal c ++ []) ∙ append-nil (decimal c));
        parts = record {
          mantissa = record { whole = digits.0.1; decimals = tt; some = omega (arith, digits.0.0) };
          exponent = tt;
        };
      };
      value = record {
        normal = λ some. absurd (omega arith);
        same = omega (arith, ap (digits_value 10) (append-nil (decimal c)), digits.1);
      };
    }

quotient_below : (c p : ℕ) → c < 2 ^ 64 → c / p < 2 ^ 64
quotient_below c p l = omega (arith, div-le_self c p)

-- the digits on both sides of the point write c
both_sides : (c x : ℕ) → c < 2 ^ 64 → digits_value 10 (decimal (c / 10 ^ x) ++ fixed_digits x (c % 10 ^ x)) ≡ c
both_sides c x l =
    let high = c / 10 ^ x in
    let low = c % 10 ^ x in
    let split : c ≡ high * 10 ^ x + low = omega (arith, div-add-mod' c (10 ^ x)) in
    let whole = decimal_is_IsNumeral high (quotient_below c (10 ^ x) l) in
    digits_value_after-append 0 (decimal high) (fixed_digits x low)
    ∙ ap (λ n. digits_value_after 10 n (fixed_digits x low)) whole.1
    ∙ digits_value_after-value high (fixed_digits x low)
    ∙ ap (λ k. high * 10 ^ k + digits_value 10 (fixed_digits x low)) (length-fixed_digits x low)
    ∙ ap (λ v. high * 10 ^ x + v) (digits_value-fixed_digits x low (mod_below c (10 ^ x) (ten_pos x)))
    ∙ sym split

point_stands : (c x : ℕ) → c < 2 ^ 64 → (0 < x → c % 10 ≢ 0) → StandsFor (point_text c x) (form c x)
point_stands c x l n =
    let high = c / 10 ^ x in
    let low = c % 10 ^ x in
    let whole = decimal_is_IsNumeral high (quotient_below c (10 ^ x) l) in
    record {
      spelling = record { mantissa = record { whole = decimal high; decimals = Some (fixed_digits x low) }; exponent = None };
      spelled = record {
        text = sym (append-nil (decimal high ++ 46 ∷ fixed_digits x low));
        parts = record {
          mantissa = record { whole = whole.0.1; decimals = AllDigits-fixed_digits x low; some = omega (arith, whole.0.0) };
          exponent = tt;
        };
      };
      value = record {
        normal = n;
        same =
            ap (λ m. m * 10 ^ 0 * 10 ^ x) (both_sides c x l)
            ∙ times_one c (10 ^ x)
            ∙ ap (λ k. c * 10 ^ k) (sym (more_decimals x low));
      };
    }
  where
    times_one : (a p : ℕ) → a * 1 * p ≡ a * p
    times_one a p = omega arith

    more_decimals : (x v : ℕ) → length (fixed_digits x v) + 0 ≡ x
    more_decimals x v = omega (arith, length-fixed_digits x v)

is_zero : (x : ℕ) → x ≡ 0 → (x == 0) ≡ true
is_zero x e = Prim.grind (arith, nat_tests)

is_positive : (x : ℕ) → x ≢ 0 → (x == 0) ≡ false
is_positive x n = Prim.grind (arith, nat_tests)

pub text-whole : (d : DecimalNumber) → d.x ≡ 0 → canonical_text d ≡ decimal d.c
text-whole d e = ap (λ b. if b then decimal d.c else point_text d.c d.x) (is_zero d.x e)

pub text-point : (d : DecimalNumber) → d.x ≢ 0 → canonical_text d ≡ point_text d.c d.x
text-point d n = ap (λ b. if b then decimal d.c else point_text d.c d.x) (is_positive d.x n)

zero_or_positive : (x : ℕ) → (x ≡ 0) ⊎ (x ≢ 0)
zero_or_positive x = Prim.grind arith

pub text_stands : (d : DecimalNumber) → IsShortDecimal d → StandsFor (canonical_text d) d
text_stands d s =
    let below : d.c < 2 ^ 64 = omega (arith, s.below) in
    elim (zero_or_positive d.x) [
      | inl e ↦
          subst (λ t. StandsFor t d) (sym (text-whole d e))
          (subst (λ x. StandsFor (decimal d.c) (form d.c x)) (sym e) (whole_stands d.c below))
      | inr n ↦ subst (λ t. StandsFor t d) (sym (text-point d n)) (point_stands d.c d.x below s.normal)
    ]
