use Rattle.std.proofs.Common.{◌≡◌, ℕ, ◌⊎◌, inl, inr, Option, Some, None, MatchOption, List, ◌∷◌, refl, ap, ◌∙◌}
use Rattle.decimal_text.specs.declared.exponent.Exponent.{Exponent}
use Rattle.decimal_text.specs.Spelling.{ExponentSpelling, exponent_text, IsExponent}
use Rattle.decimal_text.specs.Reading.{BeginsWithLetter, IsSignedDigits, IsSignedDigitsOf, IsExponentText, IsExponentOf}
use Rattle.decimal_text.proofs.exponent.read_exponent.Goals as goal

-- the letter that begins the text
letter_of : (text rest : List ℕ) → BeginsWithLetter text rest → (letter : ℕ) × ((letter ≡ 101) ⊎ (letter ≡ 69)) × (text ≡ letter ∷ rest)
letter_of text rest (inl e) = (101, inl refl, e)
letter_of text rest (inr e) = (69, inr refl, e)

-- what follows the letter has no sign and digits
no_exponent : (text rest : List ℕ) (letter : ℕ) → text ≡ letter ∷ rest → ¬ IsSignedDigits rest → (e : Option ExponentSpelling)
    → IsExponent e → text ≡ exponent_text e → ⊥
no_exponent text rest letter t none None w s = cc
no_exponent text rest letter t none (Some e) w s = none (e.sign, e.digits, w.digits, cc)

after : (text rest : List ℕ) (letter : ℕ) (r : Option Exponent) → (letter ≡ 101) ⊎ (letter ≡ 69) → text ≡ letter ∷ rest
    → MatchOption r (¬ IsSignedDigits rest) (IsSignedDigitsOf rest) → MatchOption r (¬ IsExponentText text) (IsExponentOf text)
after text rest letter None l t none = λ e. no_exponent text rest letter t none e.0 e.1 e.2
after text rest letter (Some r) l t found = record {
  spelling = Some (record { letter = letter; sign = found.sign; digits = found.digits });
  written = record { letter = l; digits = found.numeral };
  spelled = t ∙ ap (λ cs. letter ∷ cs) found.spelled;
  scale = found.scale;
}

pub returns : goal.returns
returns c =
    let letter = letter_of c.args.text.now c.in_ok-after_letter.field-0.now c.in_ok-after_letter.ensures in
    after c.args.text.now c.in_ok-after_letter.field-0.now letter.0 c.read_signed.result letter.1 letter.2 c.read_signed.ensures
