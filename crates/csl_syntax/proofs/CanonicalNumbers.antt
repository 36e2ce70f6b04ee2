-- A decimal's text is the text of a number token.
use Rattle.std.proofs.Common.{◌≡◌, ◌≢◌, ℕ, zero, suc, ◌/◌, ◌%◌, ◌^◌, ◌<◌, ◌⊎◌, inl, inr, true, false, None, List, [], ◌∷◌, ◌++◌, length}
use Rattle.std.proofs.Common.{refl, sym, ◌∙◌, ap, subst, arith, append-nil}
use Rattle.std.specs.Prelude.{codes}
use Rattle.std.specs.Char.{is_ascii_digit}
use Rattle.std.specs.Fmt.{decimal, digits}
use Rattle.std.specs.List.{list_all}
use Rattle.std.specs.Str.Parse.{AllDigits}
use Rattle.std.proofs.Math.Nat.{div-le_self}
use Rattle.std.proofs.lemmas.Fmt.{decimal_is_IsNumeral}
use Rattle.decimal_text.specs.Digits.{fixed_digits}
use Rattle.decimal_text.specs.DecimalNumber.{DecimalNumber, IsShortDecimal}
use Rattle.decimal_text.specs.DecimalWord.{IsDecimalWord}
use Rattle.decimal_text.specs.Text.{canonical_text, point_text}
use Rattle.decimal_text.proofs.CanonicalTexts.{text-whole, text-point, text_stands}
use Rattle.decimal_text.proofs.FixedDigits.{AllDigits-fixed_digits}
use Rattle.text_lines.specs.Name.{begins_name}
use Rattle.csl_syntax.specs.TokenText.{is_digit_or_point, IsNumberText, IsTokenBefore}
use Rattle.csl_syntax.proofs.Runs.{both_ways, and_left, and_right, and_both, same_first, digit_is_in_run, digits_are}
use Rattle.csl_syntax.proofs.LongestTokens.{EndsNumber, number_before}
use Rattle.csl_syntax.proofs.Exponents.{no_letter}
use Rattle.csl_syntax.proofs.CanonicalTokens.{nought}

-- a first byte, a digit, and then digits and points
pub record IsDigitsAndPoints (text : List ℕ) : Type 0 where
  pub first : ℕ
  pub others : List ℕ
  pub split : text ≡ first ∷ others
  pub digit : is_ascii_digit first ≡ true
  pub run : list_all is_digit_or_point text ≡ true

all-append : (xs ys : List ℕ) → list_all is_digit_or_point xs ≡ true → list_all is_digit_or_point ys ≡ true →
    list_all is_digit_or_point (xs ++ ys) ≡ true
all-append [] ys h g = g
all-append (x ∷ xs) ys h g =
    and_both (is_digit_or_point x) (list_all is_digit_or_point (xs ++ ys))
    (and_left (is_digit_or_point x) (list_all is_digit_or_point xs) h)
    (all-append xs ys (and_right (is_digit_or_point x) (list_all is_digit_or_point xs) h) g)

in_run : (ds : List ℕ) → list_all is_ascii_digit ds ≡ true → list_all is_digit_or_point ds ≡ true
in_run [] h = refl
in_run (d ∷ ds) h =
    and_both (is_digit_or_point d) (list_all is_digit_or_point ds)
    (digit_is_in_run d (and_left (is_ascii_digit d) (list_all is_ascii_digit ds) h))
    (in_run ds (and_right (is_ascii_digit d) (list_all is_ascii_digit ds) h))

nothing_below : 0 < 0 → ⊥
nothing_below h = omega (arith, h)

digits_then : (ds tail : List ℕ) → 0 < length ds → AllDigits 10 ds → list_all is_digit_or_point tail ≡ true → IsDigitsAndPoints (ds ++ tail)
digits_then [] tail l h g = absurd (nothing_below l)
digits_then (d ∷ ds) tail l h g =
    let all : list_all is_ascii_digit (d ∷ ds) ≡ true = digits_are (d ∷ ds) h in
    record {
      first = d;
      others = ds ++ tail;
      split = refl;
      digit = and_left (is_ascii_digit d) (list_all is_ascii_digit ds) all;
      run = all-append (d ∷ ds) tail (in_run (d ∷ ds) all) g;
    }

decimal_then : (c : ℕ) (tail : List ℕ) → c < 2 ^ 64 → list_all is_digit_or_point tail ≡ true → IsDigitsAndPoints (decimal c ++ tail)
decimal_then c tail l g =
    let n = decimal_is_IsNumeral c l in
    digits_then (decimal c) tail n.0.0 n.0.1 g

whole_text : (c : ℕ) → c < 2 ^ 64 → IsDigitsAndPoints (decimal c)
whole_text c l = subst IsDigitsAndPoints (append-nil (decimal c)) (decimal_then c [] l refl)

parts_text : (c x : ℕ) → c < 2 ^ 64 → IsDigitsAndPoints (point_text c x)
parts_text c x l =
    let high : c / 10 ^ x < 2 ^ 64 = omega (arith, div-le_self c (10 ^ x)) in
    decimal_then (c / 10 ^ x) (46 ∷ fixed_digits x (c % 10 ^ x)) high
    (in_run (fixed_digits x (c % 10 ^ x)) (digits_are (fixed_digits x (c % 10 ^ x)) (AllDigits-fixed_digits x (c % 10 ^ x))))

text_by : (c x : ℕ) → c < 2 ^ 64 → (x ≡ 0) ⊎ (x ≢ 0) → IsDigitsAndPoints (canonical_text record { c = c; x = x })
text_by c x l (inl e) = subst IsDigitsAndPoints (sym (text-whole record { c = c; x = x } e)) (whole_text c l)
text_by c x l (inr e) = subst IsDigitsAndPoints (sym (text-point record { c = c; x = x } e)) (parts_text c x l)

zero_or : (x : ℕ) → (x ≡ 0) ⊎ (x ≢ 0)
zero_or zero = inl refl
zero_or (suc x) = inr (λ e. omega (arith, e))

pub text_is : (d : DecimalNumber) → IsShortDecimal d → IsDigitsAndPoints (canonical_text d)
text_is d h = text_by d.c d.x (omega (arith, h.below)) (zero_or d.x)

length_is : (text : List ℕ) (b : ℕ) (s : List ℕ) → text ≡ b ∷ s → 0 < length text
length_is text b s e = omega (arith, ap length e)

abbrev plain_number : (text : List ℕ) → IsDigitsAndPoints text → IsNumberText text
plain_number text h = record {
  run = text;
  exponent = None;
  spelled = sym (append-nil text);
  some = length_is text h.first h.others h.split;
  digits_and_points = h.run;
  written = tt;
}

-- a number without an exponent, where what follows doesn't go on with it
pub plain_number_before : (text after : List ℕ) → IsDigitsAndPoints text → EndsNumber None after → IsTokenBefore (text ++ after) text after
plain_number_before text after h e = number_before (text ++ after) text after (plain_number text h) refl e

pub word_of : (d : DecimalNumber) → IsShortDecimal d → IsDecimalWord (canonical_text d) d
word_of d h = record { stands = text_stands d h; short = h }

no_letter_starts : (b l : ℕ) → begins_name b ≡ false → b ≡ l → (l ≡ 101) ⊎ (l ≡ 69) → ⊥
no_letter_starts b l h e (inl k) = both_ways (begins_name b) (ap begins_name (e ∙ k)) h
no_letter_starts b l h e (inr k) = both_ways (begins_name b) (ap begins_name (e ∙ k)) h

-- a byte that is in no number and no name ends a number
pub ends_number : (b : ℕ) (more : List ℕ) → is_digit_or_point b ≡ false → begins_name b ≡ false → EndsNumber None (b ∷ more)
ends_number b more h g = (
  λ c r e. ap is_digit_or_point (sym (same_first b c more r e)) ∙ h,
  no_letter (b ∷ more) (λ l r e k. no_letter_starts b l g (same_first b l more r e) k),
)

short_nought : IsShortDecimal nought
short_nought = record { below = omega arith; decimals = omega arith; normal = λ h. absurd (nothing_below h) }

text_of_nought : canonical_text nought ≡ codes "0"
unfolding digits
text_of_nought = refl

-- the text of 0
pub word_of_nought : IsDecimalWord (codes "0") nought
word_of_nought = subst (λ text. IsDecimalWord text nought) text_of_nought (word_of nought short_nought)

pub nought_is : IsDigitsAndPoints (codes "0")
nought_is = subst IsDigitsAndPoints text_of_nought (text_is nought short_nought)
