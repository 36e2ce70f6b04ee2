-- The number that a word stands for, and what is wrong with one that no `Decimal` can be.
use Rattle.std.specs.Prelude.{◌≡◌, ℕ, ◌+◌, ◌^◌, ◌<◌, ◌≤◌, Option, Some, None, List, ◌++◌, length}
use Rattle.std.specs.Str.Parse.{digits_value}
use Rattle.decimal_text.specs.DecimalNumber.{DecimalNumber, IsNormalFormOf}
use Rattle.decimal_text.specs.Spelling.{MantissaSpelling, decimals_of, Sign, NoSign, Plus, Minus, ExponentSpelling, Spelling, IsSpelledAs}
use Rattle.decimal_text.specs.Spelling.{IsNumber}

-- the number that the mantissa's digits write without the point
abbrev pub mantissa_number : MantissaSpelling → ℕ
mantissa_number m = digits_value 10 (m.whole ++ decimals_of m)

-- the tens by which the exponent multiplies
abbrev pub tens_up_by : Sign → ℕ → ℕ
tens_up_by NoSign n = n
tens_up_by Plus n = n
tens_up_by Minus n = 0

abbrev pub tens_up : Option ExponentSpelling → ℕ
tens_up None = 0
tens_up (Some e) = tens_up_by e.sign (digits_value 10 e.digits)

-- the tens by which the exponent divides
abbrev pub tens_down_by : Sign → ℕ → ℕ
tens_down_by NoSign n = 0
tens_down_by Plus n = 0
tens_down_by Minus n = n

abbrev pub tens_down : Option ExponentSpelling → ℕ
tens_down None = 0
tens_down (Some e) = tens_down_by e.sign (digits_value 10 e.digits)

-- d is the normal form of `M * 10^(e - f)`: M the mantissa's number, f its digits after the point, and e the exponent
abbrev pub IsValueOf : Spelling → DecimalNumber → Type 0
IsValueOf s d =
    IsNormalFormOf (mantissa_number s.mantissa) (tens_up s.exponent) (length (decimals_of s.mantissa) + tens_down s.exponent) d

-- the word is a number, and d is its normal form
pub record StandsFor (word : List ℕ) (d : DecimalNumber) : Type 0 where
  pub spelling : Spelling
  pub spelled : IsSpelledAs word spelling
  pub value : IsValueOf spelling d

-- the word is a number with more than 18 decimals
pub record IsTooFine (word : List ℕ) : Type 0 where
  pub number : DecimalNumber
  pub stands : StandsFor word number
  pub fine : 18 < number.x

-- the word is a number with at most 18 decimals, whose digits are `10^18` or more
pub record IsTooBig (word : List ℕ) : Type 0 where
  pub number : DecimalNumber
  pub stands : StandsFor word number
  pub decimals : number.x ≤ 18
  pub big : 10 ^ 18 ≤ number.c

-- a word stands for one normal form at most
abbrev pub AWordHasOneValue : Type 0
AWordHasOneValue = (word : List ℕ) (d e : DecimalNumber) → StandsFor word d → StandsFor word e → d ≡ e

-- each number stands for some normal form
abbrev pub EachNumberHasAValue : Type 0
EachNumberHasAValue = (word : List ℕ) → IsNumber word → (d : DecimalNumber) × StandsFor word d
