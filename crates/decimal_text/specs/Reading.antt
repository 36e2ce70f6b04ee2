-- What the parts of `read` know of the bytes that they have read.
use Rattle.std.specs.Prelude.{◌≡◌, ℕ, ◌+◌, ◌-◌, ◌*◌, ◌%◌, ◌^◌, ◌<◌, ◌≤◌, ◌≢◌, ◌⊎◌, min, Option, None, Result, Ok, Err, List, [], ◌∷◌, ◌++◌}
use Rattle.std.specs.Prelude.{length, take, drop, ⊤}
use Rattle.std.specs.Char.{digit_value}
use Rattle.std.specs.Str.Parse.{AllDigits, IsNumeral, digits_value}
use Rattle.decimal_text.specs.declared.number_fault.NumberFault.{NumberFault}
use Rattle.decimal_text.specs.declared.number_fault.NumberFault.TheVariants.{NotNumber, TooFine, TooBig}
use Rattle.decimal_text.specs.declared.significand.Significand.{Significand}
use Rattle.decimal_text.specs.declared.exponent.Exponent.{Exponent}
use Rattle.decimal_text.specs.declared.exponent.Exponent.TheVariants.{Up, Down}
use Rattle.decimal_text.specs.DecimalNumber.{DecimalNumber, IsShortDecimal, IsNormalFormOf}
use Rattle.decimal_text.specs.Spelling.{MantissaSpelling, mantissa_text, decimals_of, IsMantissa, Sign, sign_text, ExponentSpelling}
use Rattle.decimal_text.specs.Spelling.{exponent_text, IsExponent}
use Rattle.decimal_text.specs.NumberValue.{mantissa_number, tens_up_by, tens_up, tens_down_by, tens_down}

-- the text is empty, or its first byte is no digit
abbrev pub BeginsWithNoDigit : List ℕ → Type 0
BeginsWithNoDigit [] = ⊤
BeginsWithNoDigit (c ∷ cs) = 10 ≤ digit_value c

-- the text is empty, or its first byte is no point
abbrev pub BeginsWithNoPoint : List ℕ → Type 0
BeginsWithNoPoint [] = ⊤
BeginsWithNoPoint (c ∷ cs) = c ≢ 46

-- the text is empty, or its first byte is neither `e` nor `E`
abbrev pub BeginsWithNoLetter : List ℕ → Type 0
BeginsWithNoLetter [] = ⊤
BeginsWithNoLetter (c ∷ cs) = (c ≢ 101) × (c ≢ 69)

-- the text is `e` or `E`, and then rest
abbrev pub BeginsWithLetter : List ℕ → List ℕ → Type 0
BeginsWithLetter text rest = (text ≡ 101 ∷ rest) ⊎ (text ≡ 69 ∷ rest)

-- the first k bytes of the text are digits, and the next, if any, is none
pub record IsDigitRun (text : List ℕ) (k : ℕ) : Type 0 where
  pub within : k ≤ length text
  pub digits : AllDigits 10 (take k text)
  pub longest : BeginsWithNoDigit (drop k text)

-- n, or `10^18` where n is greater
abbrev pub up_to_limit : ℕ → ℕ
up_to_limit n = min n (10 ^ 18)

-- m is the significand's digits, which don't end with a zero, and then its zeros
pub record IsSignificand (s : Significand) (m : ℕ) : Type 0 where
  pub digits : ℕ
  pub number : m ≡ digits * 10 ^ s.zeros
  pub known : s.digits ≡ up_to_limit digits
  pub last : 0 < digits → digits % 10 ≢ 0

-- text is a mantissa and then rest, which doesn't go on with it
pub record BeginsWithMantissa (text rest : List ℕ) (s : Significand) (decimals : ℕ) : Type 0 where
  pub spelling : MantissaSpelling
  pub mantissa : IsMantissa spelling
  pub spelled : text ≡ mantissa_text spelling ++ rest
  pub digit : BeginsWithNoDigit rest
  pub point : spelling.decimals ≡ None → BeginsWithNoPoint rest
  pub number : IsSignificand s (mantissa_number spelling)
  pub count : length (decimals_of spelling) ≡ decimals

-- a mantissa stands at the head of the text
abbrev pub HasMantissa : List ℕ → Type 0
HasMantissa text = (m : MantissaSpelling) × (rest : List ℕ) × IsMantissa m × (text ≡ mantissa_text m ++ rest)

-- the whole text is an exponent, or it is empty
abbrev pub IsExponentText : List ℕ → Type 0
IsExponentText text = (e : Option ExponentSpelling) × IsExponent e × (text ≡ exponent_text e)

-- n, or the greatest number of 64 bits where n is greater
abbrev pub capped : ℕ → ℕ
capped n = min n (2 ^ 64 - 1)

-- the exponent multiplies by `10^up` and divides by `10^down`, one of which is 1
abbrev pub IsScale : Exponent → ℕ → ℕ → Type 0
IsScale (Up n) up down = (n ≡ capped up) × (down ≡ 0)
IsScale (Down n) up down = (up ≡ 0) × (n ≡ capped down)

-- up is the zeros and the tens that the exponent multiplies by, down the decimals and the tens that it divides by
abbrev pub AreTens : ℕ → ℕ → Exponent → ℕ → ℕ → Type 0
AreTens zeros decimals (Up n) up down = (up ≡ zeros + n) × (down ≡ decimals)
AreTens zeros decimals (Down n) up down = (up ≡ zeros) × (down ≡ decimals + n)

-- the whole text is a sign or none and digits
abbrev pub IsSignedDigits : List ℕ → Type 0
IsSignedDigits text = (sign : Sign) × (digits : List ℕ) × IsNumeral 10 digits × (text ≡ sign_text sign ++ digits)

-- the whole text is a sign or none and digits, and scales so
pub record IsSignedDigitsOf (text : List ℕ) (exponent : Exponent) : Type 0 where
  pub sign : Sign
  pub digits : List ℕ
  pub numeral : IsNumeral 10 digits
  pub spelled : text ≡ sign_text sign ++ digits
  pub scale : IsScale exponent (tens_up_by sign (digits_value 10 digits)) (tens_down_by sign (digits_value 10 digits))

-- the whole text is an exponent, or it is empty, and scales so
pub record IsExponentOf (text : List ℕ) (exponent : Exponent) : Type 0 where
  pub spelling : Option ExponentSpelling
  pub written : IsExponent spelling
  pub spelled : text ≡ exponent_text spelling
  pub scale : IsScale exponent (tens_up spelling) (tens_down spelling)

-- what is answered for `m * 10^up / 10^down`
abbrev pub IsAnswerFor : ℕ → ℕ → ℕ → Result DecimalNumber NumberFault → Type 0
IsAnswerFor m up down (Ok d) = IsShortDecimal d × IsNormalFormOf m up down d
IsAnswerFor m up down (Err TooFine) =
    (d : DecimalNumber) × IsNormalFormOf m up down d × (18 < d.x)
IsAnswerFor m up down (Err TooBig) =
    (d : DecimalNumber) × IsNormalFormOf m up down d × (d.x ≤ 18) × (10 ^ 18 ≤ d.c)
IsAnswerFor m up down (Err NotNumber) = ⊥
