-- Exponents at the head of bytes.
use Rattle.std.proofs.Common.{◌≡◌, ℕ, ◌<◌, ◌⊎◌, inl, inr, true, false, List, [], ◌∷◌, ◌++◌, length, refl, sym, ◌∙◌, ap, subst, arith}
use Rattle.std.specs.Char.{is_ascii_digit}
use Rattle.std.specs.List.{list_all}
use Rattle.decimal_text.specs.Spelling.{Sign, NoSign, Plus, Minus, sign_text}
use Rattle.csl_syntax.specs.Scanner.{EndsRun, BeginsWithDigits, BeginsWithExponent, HasNoExponent}
use Rattle.csl_syntax.proofs.Runs.{both_ways, and_left, same_first, same_rest, digits_are, digits_read}

abbrev pub IsLetter : ℕ → Type 0
IsLetter l = (l ≡ 101) ⊎ (l ≡ 69)

abbrev pub IsSignByte : ℕ → Type 0
IsSignByte b = (b ≡ 43) ⊎ (b ≡ 45)

-- a letter, a sign or none, and digits
exponent_of : (bytes c rest : List ℕ) (l : ℕ) (sign : Sign) → IsLetter l → bytes ≡ l ∷ (sign_text sign ++ c) → BeginsWithDigits c rest
    → BeginsWithExponent bytes rest
exponent_of bytes c rest l NoSign h e d = record {
  exponent = record { letter = l; sign = NoSign; digits = d.digits };
  written = record { letter = h; digits = (d.some, digits_read d.digits d.splits.all) };
  split = e ∙ ap (λ v. l ∷ v) d.splits.split;
  ends = d.splits.ends;
}
exponent_of bytes c rest l Plus h e d = record {
  exponent = record { letter = l; sign = Plus; digits = d.digits };
  written = record { letter = h; digits = (d.some, digits_read d.digits d.splits.all) };
  split = e ∙ ap (λ v. l ∷ 43 ∷ v) d.splits.split;
  ends = d.splits.ends;
}
exponent_of bytes c rest l Minus h e d = record {
  exponent = record { letter = l; sign = Minus; digits = d.digits };
  written = record { letter = h; digits = (d.some, digits_read d.digits d.splits.all) };
  split = e ∙ ap (λ v. l ∷ 45 ∷ v) d.splits.split;
  ends = d.splits.ends;
}

pub plain_exponent : (bytes c rest : List ℕ) (l : ℕ) → IsLetter l → bytes ≡ l ∷ c → BeginsWithDigits c rest
    → BeginsWithExponent bytes rest
plain_exponent bytes c rest l h e d = exponent_of bytes c rest l NoSign h e d

pub signed_exponent : (bytes c rest : List ℕ) (l s : ℕ) → IsLetter l → IsSignByte s → bytes ≡ l ∷ s ∷ c → BeginsWithDigits c rest
    → BeginsWithExponent bytes rest
signed_exponent bytes c rest l s h (inl g) e d = exponent_of bytes c rest l Plus h (e ∙ ap (λ v. l ∷ v ∷ c) g) d
signed_exponent bytes c rest l s h (inr g) e d = exponent_of bytes c rest l Minus h (e ∙ ap (λ v. l ∷ v ∷ c) g) d

nothing_below : 0 < 0 → ⊥
nothing_below h = omega (arith, h)

-- digits don't begin with what is none
no_digits : (ds k c : List ℕ) → 0 < length ds → list_all is_ascii_digit ds ≡ true → EndsRun is_ascii_digit c → c ≡ ds ++ k → ⊥
no_digits [] k c l h s e = nothing_below l
no_digits (d ∷ ds) k c l h s e =
    both_ways (is_ascii_digit d) (and_left (is_ascii_digit d) (list_all is_ascii_digit ds) h) (s d (ds ++ k) e)

-- after a letter stand neither digits nor a sign and digits
no_signed : (c : List ℕ) (sign : Sign) (ds k : List ℕ) → 0 < length ds → list_all is_ascii_digit ds ≡ true → EndsRun is_ascii_digit c →
    ((s : ℕ) (m : List ℕ) → IsSignByte s → c ≡ s ∷ m → EndsRun is_ascii_digit m) → c ≡ (sign_text sign ++ ds) ++ k → ⊥
no_signed c NoSign ds k l h s g e = no_digits ds k c l h s e
no_signed c Plus ds k l h s g e = no_digits ds k (ds ++ k) l h (g 43 (ds ++ k) (inl refl) e) refl
no_signed c Minus ds k l h s g e = no_digits ds k (ds ++ k) l h (g 45 (ds ++ k) (inr refl) e) refl

pub no_exponent : (bytes c : List ℕ) (l : ℕ) → bytes ≡ l ∷ c → EndsRun is_ascii_digit c
    → ((s : ℕ) (m : List ℕ) → IsSignByte s → c ≡ s ∷ m → EndsRun is_ascii_digit m) →
    HasNoExponent bytes
no_exponent bytes c l e s g x k w f =
    no_signed c x.sign x.digits k w.digits.0 (digits_are x.digits w.digits.1) s g
    (same_rest l x.letter c ((sign_text x.sign ++ x.digits) ++ k) (sym e ∙ f))

sign_no_digit : (s : ℕ) → IsSignByte s → is_ascii_digit s ≡ false
sign_no_digit s (inl e) = ap is_ascii_digit e
sign_no_digit s (inr e) = ap is_ascii_digit e

-- a letter and a sign, and then no digits
pub no_signed_exponent : (bytes c : List ℕ) (l s : ℕ) → bytes ≡ l ∷ s ∷ c → IsSignByte s → EndsRun is_ascii_digit c → HasNoExponent bytes
no_signed_exponent bytes c l s e h g =
    no_exponent bytes (s ∷ c) l e (λ b m f. ap is_ascii_digit (sym (same_first s b c m f)) ∙ sign_no_digit s h)
    (λ b m k f. subst (EndsRun is_ascii_digit) (same_rest s b c m f) g)

-- a letter, and then neither a sign nor digits
pub no_plain_exponent : (bytes c : List ℕ) (l : ℕ) → bytes ≡ l ∷ c → ((s : ℕ) (m : List ℕ) → c ≡ s ∷ m → ¬ IsSignByte s)
    → EndsRun is_ascii_digit c → HasNoExponent bytes
no_plain_exponent bytes c l e h g = no_exponent bytes c l e g (λ s m k f. absurd (h s m f k))

-- no letter
pub no_letter : (bytes : List ℕ) → ((l : ℕ) (c : List ℕ) → bytes ≡ l ∷ c → ¬ IsLetter l) → HasNoExponent bytes
no_letter bytes h x k w f = h x.letter ((sign_text x.sign ++ x.digits) ++ k) f w.letter
