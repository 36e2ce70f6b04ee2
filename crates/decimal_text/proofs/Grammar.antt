-- A word is spelled in one way at most.
use Rattle.std.proofs.Common.{◌≡◌, ℕ, ◌<◌, ◌≤◌, ◌≢◌, ◌⊎◌, inl, inr, Option, Some, None, unwrap_or, List, [], ◌∷◌, ◌++◌, ap, refl, sym}
use Rattle.std.proofs.Common.{subst, append_assoc, ◌∙◌, arith}
use Rattle.std.specs.Char.{digit_value}
use Rattle.std.specs.Str.Parse.{AllDigits, IsNumeral}
use Rattle.decimal_text.specs.Spelling.{MantissaSpelling, decimals_text, mantissa_text, IsMantissa, Sign, NoSign, Plus, Minus, sign_text}
use Rattle.decimal_text.specs.Spelling.{ExponentSpelling, exponent_text, IsWritten, IsExponent, Spelling, IsSpelledAs}
use Rattle.decimal_text.specs.Reading.{BeginsWithNoDigit, BeginsWithNoPoint}

pub no_digit_starts : (c : ℕ) (cs rest : List ℕ) → digit_value c < 10 → BeginsWithNoDigit rest → c ∷ cs ≡ rest → ⊥
no_digit_starts c cs [] d n e = cc
no_digit_starts c cs (r ∷ rs) d n e = let same : c ≡ r = cc in omega (arith, ap digit_value same)

-- a text's longest run of digits
pub run_unique : (ds es rest tail : List ℕ) → AllDigits 10 ds → AllDigits 10 es → BeginsWithNoDigit rest → BeginsWithNoDigit tail
    → ds ++ rest ≡ es ++ tail → (ds ≡ es) × (rest ≡ tail)
run_unique [] [] rest tail a b n t e = (refl, e)
run_unique [] (c ∷ cs) rest tail a b n t e = absurd (no_digit_starts c (cs ++ tail) rest b.0 n (sym e))
run_unique (c ∷ cs) [] rest tail a b n t e = absurd (no_digit_starts c (cs ++ rest) tail a.0 t e)
run_unique (c ∷ cs) (d ∷ ds) rest tail a b n t e =
    let same : c ≡ d = cc in
    let more : cs ++ rest ≡ ds ++ tail = cc in
    let below = run_unique cs ds rest tail a.1 b.1 n t more in
    ((let list : cs ≡ ds = below.0 in cc), below.1)

-- a run of digits doesn't begin with a byte that is none
numeral_starts : (ds es : List ℕ) (b : ℕ) → IsNumeral 10 ds → 10 ≤ digit_value b → ds ≡ b ∷ es → ⊥
numeral_starts [] es b n h e = cc
numeral_starts (c ∷ cs) es b n h e = no_digit_starts c cs (b ∷ es) n.1.0 h e

plus_is_not_minus : (ds es : List ℕ) → 43 ∷ ds ≡ 45 ∷ es → ⊥
plus_is_not_minus ds es e = let first : (a b : ℕ) → a ∷ ds ≡ b ∷ es → a ≡ b = λ a b h. cc in omega (arith, first 43 45 e)

signed_unique : (s t : Sign) (ds es : List ℕ) → IsNumeral 10 ds → IsNumeral 10 es → sign_text s ++ ds ≡ sign_text t ++ es
    → (s ≡ t) × (ds ≡ es)
signed_unique NoSign NoSign ds es m n e = (refl, e)
signed_unique NoSign Plus ds es m n e = absurd (numeral_starts ds es 43 m (omega arith) e)
signed_unique NoSign Minus ds es m n e = absurd (numeral_starts ds es 45 m (omega arith) e)
signed_unique Plus NoSign ds es m n e = absurd (numeral_starts es ds 43 n (omega arith) (sym e))
signed_unique Plus Plus ds es m n e = (refl, cc)
signed_unique Plus Minus ds es m n e = absurd (plus_is_not_minus ds es e)
signed_unique Minus NoSign ds es m n e = absurd (numeral_starts es ds 45 n (omega arith) (sym e))
signed_unique Minus Plus ds es m n e = absurd (plus_is_not_minus es ds (sym e))
signed_unique Minus Minus ds es m n e = (refl, cc)

abbrev exponent : ℕ → Sign → List ℕ → ExponentSpelling
exponent letter sign digits = record { letter = letter; sign = sign; digits = digits }

written_unique : (e f : ExponentSpelling) → IsWritten e → IsWritten f → exponent_text (Some e) ≡ exponent_text (Some f) → e ≡ f
written_unique e f w v s =
    let letter : e.letter ≡ f.letter = cc in
    let rest = signed_unique e.sign f.sign e.digits f.digits w.digits v.digits cc in
    ap (λ l. exponent l e.sign e.digits) letter ∙ ap (λ z. exponent f.letter z e.digits) rest.0 ∙ ap (exponent f.letter f.sign) rest.1

-- a text is one exponent at most
exponent_unique : (e f : Option ExponentSpelling) → IsExponent e → IsExponent f → exponent_text e ≡ exponent_text f → e ≡ f
exponent_unique None None w v s = refl
exponent_unique None (Some f) w v s = cc
exponent_unique (Some e) None w v s = cc
exponent_unique (Some e) (Some f) w v s = ap Some (written_unique e f w v s)

letter_is_no_digit : (c : ℕ) → (c ≡ 101) ⊎ (c ≡ 69) → 10 ≤ digit_value c
letter_is_no_digit c (inl e) = subst (λ z. 10 ≤ digit_value z) (sym e) (omega arith)
letter_is_no_digit c (inr e) = subst (λ z. 10 ≤ digit_value z) (sym e) (omega arith)

letter_is_no_point : (c : ℕ) → (c ≡ 101) ⊎ (c ≡ 69) → c ≢ 46
letter_is_no_point c (inl e) p = omega arith
letter_is_no_point c (inr e) p = omega arith

pub exponent_after_digits : (e : Option ExponentSpelling) → IsExponent e → BeginsWithNoDigit (exponent_text e)
exponent_after_digits None w = tt
exponent_after_digits (Some e) w = letter_is_no_digit e.letter w.letter

pub exponent_after_point : (e : Option ExponentSpelling) → IsExponent e → BeginsWithNoPoint (exponent_text e)
exponent_after_point None w = tt
exponent_after_point (Some e) w = letter_is_no_point e.letter w.letter

decimals_after_digits : (o : Option (List ℕ)) (rest : List ℕ) → BeginsWithNoDigit rest → BeginsWithNoDigit (decimals_text o ++ rest)
decimals_after_digits None rest n = n
decimals_after_digits (Some ds) rest n = omega arith

point_starts : (rest more : List ℕ) → BeginsWithNoPoint rest → rest ≡ 46 ∷ more → ⊥
point_starts [] more n e = cc
point_starts (c ∷ cs) more n e = n (let first : c ≡ 46 = cc in first)

decimals_unique : (o q : Option (List ℕ)) (rest tail : List ℕ) → AllDigits 10 (unwrap_or o []) → AllDigits 10 (unwrap_or q [])
    → BeginsWithNoDigit rest → (o ≡ None → BeginsWithNoPoint rest) → BeginsWithNoDigit tail → BeginsWithNoPoint tail
    → decimals_text o ++ rest ≡ decimals_text q ++ tail → (o ≡ q) × (rest ≡ tail)
decimals_unique None None rest tail a b n p m r e = (refl, e)
decimals_unique None (Some es) rest tail a b n p m r e = absurd (point_starts rest (es ++ tail) (p refl) e)
decimals_unique (Some ds) None rest tail a b n p m r e = absurd (point_starts tail (ds ++ rest) r (sym e))
decimals_unique (Some ds) (Some es) rest tail a b n p m r e =
    let same = run_unique ds es rest tail a b n m cc in
    (ap Some same.0, same.1)

abbrev mantissa : List ℕ → Option (List ℕ) → MantissaSpelling
mantissa whole decimals = record { whole = whole; decimals = decimals }

-- a text's longest mantissa
pub mantissa_unique : (m n : MantissaSpelling) (rest tail : List ℕ) → IsMantissa m → IsMantissa n → BeginsWithNoDigit rest
    → (m.decimals ≡ None → BeginsWithNoPoint rest) → BeginsWithNoDigit tail → BeginsWithNoPoint tail
    → mantissa_text m ++ rest ≡ mantissa_text n ++ tail → (m ≡ n) × (rest ≡ tail)
mantissa_unique m n rest tail a b d p t r e =
    let regrouped : m.whole ++ (decimals_text m.decimals ++ rest) ≡ n.whole ++ (decimals_text n.decimals ++ tail) =
    sym (append_assoc m.whole (decimals_text m.decimals) rest) ∙ e ∙ append_assoc n.whole (decimals_text n.decimals) tail
    in
    let whole =
    run_unique m.whole n.whole _ _ a.whole b.whole (decimals_after_digits m.decimals rest d)
    (decimals_after_digits n.decimals tail t) regrouped
    in
    let decimals = decimals_unique m.decimals n.decimals rest tail a.decimals b.decimals d p t r whole.1 in
    (ap (λ w. mantissa w m.decimals) whole.0 ∙ ap (mantissa n.whole) decimals.0, decimals.1)

abbrev spelling : MantissaSpelling → Option ExponentSpelling → Spelling
spelling m e = record { mantissa = m; exponent = e }

pub spelling_unique : (word : List ℕ) (s t : Spelling) → IsSpelledAs word s → IsSpelledAs word t → s ≡ t
spelling_unique word s t a b =
    let parts =
    mantissa_unique s.mantissa t.mantissa (exponent_text s.exponent) (exponent_text t.exponent) a.parts.mantissa b.parts.mantissa
    (exponent_after_digits s.exponent a.parts.exponent) (λ _. exponent_after_point s.exponent a.parts.exponent)
    (exponent_after_digits t.exponent b.parts.exponent) (exponent_after_point t.exponent b.parts.exponent) (sym a.text ∙ b.text)
    in
    ap (λ m. spelling m s.exponent) parts.0
    ∙ ap (spelling t.mantissa) (exponent_unique s.exponent t.exponent a.parts.exponent b.parts.exponent parts.1)
