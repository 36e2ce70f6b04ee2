-- Digits that are read one by one.
use Rattle.std.proofs.Common.{◌≡◌, ℕ, zero, suc, ◌+◌, ◌-◌, ◌*◌, ◌^◌, ◌<◌, min, List, [], ◌∷◌, ◌++◌, length, take, drop, get_or, ap, refl}
use Rattle.std.proofs.Common.{◌∙◌, arith, pow-suc, length-drop}
use Rattle.std.proofs.lemmas.List.{take_more, take_all}
use Rattle.std.specs.Char.{digit_value}
use Rattle.std.specs.Str.Parse.{AllDigits, digits_value_after}
use Rattle.decimal_text.specs.Reading.{capped}

-- each of the digits is one
pub digit_below : (ds : List ℕ) (i : ℕ) → AllDigits 10 ds → i < length ds → digit_value (get_or ds i 0) < 10
digit_below [] i h l = absurd (omega arith)
digit_below (c ∷ cs) zero h l = h.0
digit_below (c ∷ cs) (suc i) h l = digit_below cs i h.1 (omega arith)

-- the number of digits after others is that of both after the first
pub digits_value_after-append : (n : ℕ) (ds es : List ℕ)
    → digits_value_after 10 n (ds ++ es) ≡ digits_value_after 10 (digits_value_after 10 n ds) es
digits_value_after-append n [] es = refl
digits_value_after-append n (c ∷ cs) es = digits_value_after-append (n * 10 + digit_value c) cs es

-- one digit more
pub digits_value_after-more : (n : ℕ) (ds : List ℕ) (i d : ℕ) → i < length ds → digit_value (get_or ds i 0) ≡ d
    → digits_value_after 10 n (take (i + 1) ds) ≡ digits_value_after 10 n (take i ds) * 10 + d
digits_value_after-more n ds i d l e =
    ap (digits_value_after 10 n) (take_more ds i 0 l)
    ∙ digits_value_after-append n (take i ds) (get_or ds i 0 ∷ [])
    ∙ ap (λ z. digits_value_after 10 n (take i ds) * 10 + z) e

-- one digit more of a capped number
pub capped_more : (n v w d product : ℕ) → n ≡ capped v → product ≡ min (n * 10) (2 ^ 64 - 1) → w ≡ v * 10 + d
    → min (product + d) (2 ^ 64 - 1) ≡ capped w
capped_more n v w d product e p s = omega arith

-- digits after others stand for as many tens of those
pub digits_value_after-value : (n : ℕ) (ds : List ℕ) → digits_value_after 10 n ds ≡ n * 10 ^ length ds + digits_value_after 10 0 ds
digits_value_after-value n [] = omega arith
digits_value_after-value n (c ∷ cs) =
    let d = digit_value c in
    omega
    (arith, digits_value_after-value (n * 10 + d) cs, digits_value_after-value (0 * 10 + d) cs, ap (λ p. n * p) (pow-suc 10 (length cs)))

-- the end of a text
pub tail : (k : ℕ) (text : List ℕ) → take (length text - k) (drop k text) ≡ drop k text
tail k text = take_all (length text - k) (drop k text) (omega (arith, length-drop k text))
