-- Words that write decimals, and what is wrong with one that doesn't.
use Rattle.std.specs.Prelude.{ℕ, List}
use Rattle.decimal_text.specs.DecimalNumber.{DecimalNumber, IsShortDecimal}
use Rattle.decimal_text.specs.NumberValue.{StandsFor, IsTooFine, IsTooBig}
use Rattle.decimal_text.specs.Spelling.{IsNumber}
use Rattle.decimal_text.specs.declared.number_fault.NumberFault.{NumberFault}
use Rattle.decimal_text.specs.declared.number_fault.NumberFault.TheVariants.{NotNumber, TooFine, TooBig}

-- the word is a number's, and the number is d, within the limits of a decimal
pub record IsDecimalWord (word : List ℕ) (d : DecimalNumber) : Type 0 where
  pub stands : StandsFor word d
  pub short : IsShortDecimal d

-- the word has this fault as a number
abbrev pub HasNumberFault : List ℕ → NumberFault → Type 0
HasNumberFault word NotNumber = ¬ IsNumber word
HasNumberFault word TooFine = IsTooFine word
HasNumberFault word TooBig = IsTooBig word
