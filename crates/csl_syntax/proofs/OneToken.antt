-- At the head of bytes stands one token at most.
use Rattle.std.proofs.Common.{◌≡◌, ℕ, suc, ◌+◌, ◌<◌, ◌≤◌, ◌⊎◌, inl, inr, Bool, true, false, ◌&&◌, not, cond, Option, Some, None, List, []}
use Rattle.std.proofs.Common.{◌∷◌, ◌++◌, length, refl, sym, ◌∙◌, ap, subst, arith}
use Rattle.std.specs.Prelude.{codes, unwrap_or}
use Rattle.std.specs.List.{list_all}
use Rattle.std.specs.Str.{bytes_eq}
use Rattle.std.specs.Str.Parse.{AllDigits}
use Rattle.std.proofs.lemmas.Bool.{cond-true}
use Rattle.decimal_text.specs.DecimalNumber.{DecimalNumber}
use Rattle.decimal_text.specs.DecimalWord.{IsDecimalWord, HasNumberFault}
use Rattle.decimal_text.specs.Spelling.{decimals_text, exponent_text}
use Rattle.decimal_text.specs.declared.number_fault.NumberFault.{NumberFault}
use Rattle.decimal_text.proofs.DecimalCases.{Writes as IsWritten, Lacks, word_case_unique}
use Rattle.text_lines.specs.Name.{is_name, is_reserved, begins_name, continues_name}
use Rattle.text_lines.specs.Words.{is_blank}
use Rattle.csl_syntax.specs.TokenText.{is_digit_or_point, IsNumberText, IsTokenText, IsTokenBefore}
use Rattle.csl_syntax.specs.Tokens.{label_number, Writes, BeginsWithToken}
use Rattle.csl_syntax.specs.declared.formula.Op.TheVariants.{Less, AtMost, More, AtLeast}
use Rattle.csl_syntax.specs.declared.token.Token.{Token}
use Rattle.csl_syntax.specs.declared.token.Token.TheVariants.{Truth, Falsehood, Name, ProbabilityWord, NextWord, UntilWord, ReservedWord}
use Rattle.csl_syntax.specs.declared.token.Token.TheVariants.{Bang, AndAnd, OrOr, OpenParen, CloseParen, OpenBrace, CloseBrace}
use Rattle.csl_syntax.specs.declared.token.Token.TheVariants.{OpenBracket, CloseBracket, Comma, Tilde, Compare, Number}
use Rattle.csl_syntax.proofs.Runs.{both_ways, and_left, same_first, same_rest, nothing_first, word_no_number, word_no_blank}
use Rattle.csl_syntax.proofs.Runs.{number_no_blank, digit_is, digit_is_in_run}
use Rattle.csl_syntax.proofs.LongestTokens.{StartsBy, word_starts, number_starts, symbol_short}

no_successor : (n : ℕ) → 0 ≡ suc n → ⊥
no_successor n h = omega (arith, h)

nothing_below : 0 < 0 + 0 → ⊥
nothing_below h = omega (arith, h)

-- texts of one length at the head of the same bytes are one
pub same_front : (w v a k : List ℕ) → w ++ a ≡ v ++ k → length w ≡ length v → (w ≡ v) × (a ≡ k)
same_front [] [] a k e h = (refl, e)
same_front [] (c ∷ v) a k e h = absurd (no_successor (length v) h)
same_front (b ∷ w) [] a k e h = absurd (no_successor (length w) (sym h))
same_front (b ∷ w) (c ∷ v) a k e h =
    let i = same_front w v a k (same_rest b c (w ++ a) (v ++ k) e) (omega (arith, h)) in
    let j : b ≡ c = same_first b c (w ++ a) (v ++ k) e in
    let l : w ≡ v = i.0 in
    (ap (λ x. x ∷ w) j ∙ ap (λ x. c ∷ x) l, i.1)

pub one_text : (bytes w v a k : List ℕ) → IsTokenBefore bytes w a → IsTokenBefore bytes v k → (w ≡ v) × (a ≡ k)
one_text bytes w v a k h g =
    let x : length v ≤ length w = h.longest v k g.stands g.fits in
    let y : length w ≤ length v = g.longest w a h.stands h.fits in
    same_front w v a k (sym h.stands ∙ g.stands) (omega (arith, x, y))

-- the first byte is a digit or a point
abbrev in_run : List ℕ → Bool
in_run [] = false
in_run (b ∷ s) = is_digit_or_point b

-- the token that a text writes, unless it is a number
abbrev fixed : List ℕ → Token
fixed w =
    cond (bytes_eq w (codes "tt")) Truth (cond (bytes_eq w (codes "ff")) Falsehood (cond (bytes_eq w (codes "P")) ProbabilityWord
    (cond (bytes_eq w (codes "X")) NextWord (cond (bytes_eq w (codes "U")) UntilWord (cond (bytes_eq w (codes "S")) ReservedWord
    (cond (bytes_eq w (codes "quit")) ReservedWord (cond (bytes_eq w (codes "!")) Bang (cond (bytes_eq w (codes "&&")) AndAnd
    (cond (bytes_eq w (codes "||")) OrOr (cond (bytes_eq w (codes "(")) OpenParen (cond (bytes_eq w (codes ")")) CloseParen
    (cond (bytes_eq w (codes "{")) OpenBrace (cond (bytes_eq w (codes "}")) CloseBrace (cond (bytes_eq w (codes "[")) OpenBracket
    (cond (bytes_eq w (codes "]")) CloseBracket (cond (bytes_eq w (codes ",")) Comma (cond (bytes_eq w (codes "~")) Tilde
    (cond (bytes_eq w (codes "<")) (Compare Less)
    (cond (bytes_eq w (codes "<=")) (Compare AtMost) (cond (bytes_eq w (codes ">")) (Compare More)
    (Compare AtLeast)))))))))))))))))))))

abbrev read_back : List (List ℕ) → List ℕ → Token
read_back labels w = cond (is_name w) (Name (label_number labels w)) (fixed w)

abbrev WritesAs : List (List ℕ) → List ℕ → Token → Type 0
WritesAs labels w t =
    ((v : DecimalNumber) × (t ≡ Number v) × IsDecimalWord w v × (in_run w ≡ true)) ⊎ ((in_run w ≡ false) × (t ≡ read_back labels w))

false_of : (b : Bool) → (b ≡ true → ⊥) → b ≡ false
false_of true h = absurd (h refl)
false_of false h = refl

name_starts : (w : List ℕ) → is_name w ≡ true → in_run w ≡ false
name_starts [] h = refl
name_starts (b ∷ s) h =
    let first : begins_name b ≡ true =
    and_left (begins_name b) (list_all continues_name s)
    (and_left (begins_name b && list_all continues_name s) (not (is_reserved (b ∷ s))) h) in
    false_of (is_digit_or_point b) (λ k. word_no_number b first k)

mantissa_starts : (whole : List ℕ) (decimals : Option (List ℕ)) (tail : List ℕ) → AllDigits 10 whole
    → 0 < length whole + length (unwrap_or decimals []) →
    in_run ((whole ++ decimals_text decimals) ++ tail) ≡ true
mantissa_starts [] None tail h l = absurd (nothing_below l)
mantissa_starts [] (Some ds) tail h l = refl
mantissa_starts (c ∷ ds) o tail h l = digit_is_in_run c (digit_is c h.0)

decimal_starts : (w : List ℕ) (v : DecimalNumber) → IsDecimalWord w v → in_run w ≡ true
decimal_starts w v h =
    let s = h.stands.spelling in
    let m = h.stands.spelled.parts.mantissa in
    ap in_run h.stands.spelled.text ∙ mantissa_starts s.mantissa.whole s.mantissa.decimals (exponent_text s.exponent) m.whole m.some

fixed_as : (labels : List (List ℕ)) (w text : List ℕ) (t : Token) → w ≡ text → in_run text ≡ false → t ≡ read_back labels text
    → WritesAs labels w t
fixed_as labels w text t e h g = inr (ap in_run e ∙ h, g ∙ ap (read_back labels) (sym e))

reserved_as : (labels : List (List ℕ)) (w : List ℕ) → (w ≡ codes "S") ⊎ (w ≡ codes "quit") → WritesAs labels w ReservedWord
reserved_as labels w (inl e) = fixed_as labels w (codes "S") ReservedWord e refl refl
reserved_as labels w (inr e) = fixed_as labels w (codes "quit") ReservedWord e refl refl

writes_as : (labels : List (List ℕ)) (w : List ℕ) (t : Token) → Writes labels w t → WritesAs labels w t
writes_as labels w Truth e = fixed_as labels w (codes "tt") Truth e refl refl
writes_as labels w Falsehood e = fixed_as labels w (codes "ff") Falsehood e refl refl
writes_as labels w (Name j) (h, e) =
    inr (name_starts w h, ap Name e ∙ sym (cond-true (is_name w) (Name (label_number labels w)) (fixed w) h))
writes_as labels w ProbabilityWord e = fixed_as labels w (codes "P") ProbabilityWord e refl refl
writes_as labels w NextWord e = fixed_as labels w (codes "X") NextWord e refl refl
writes_as labels w UntilWord e = fixed_as labels w (codes "U") UntilWord e refl refl
writes_as labels w ReservedWord e = reserved_as labels w e
writes_as labels w Bang e = fixed_as labels w (codes "!") Bang e refl refl
writes_as labels w AndAnd e = fixed_as labels w (codes "&&") AndAnd e refl refl
writes_as labels w OrOr e = fixed_as labels w (codes "||") OrOr e refl refl
writes_as labels w OpenParen e = fixed_as labels w (codes "(") OpenParen e refl refl
writes_as labels w CloseParen e = fixed_as labels w (codes ")") CloseParen e refl refl
writes_as labels w OpenBrace e = fixed_as labels w (codes "{") OpenBrace e refl refl
writes_as labels w CloseBrace e = fixed_as labels w (codes "}") CloseBrace e refl refl
writes_as labels w OpenBracket e = fixed_as labels w (codes "[") OpenBracket e refl refl
writes_as labels w CloseBracket e = fixed_as labels w (codes "]") CloseBracket e refl refl
writes_as labels w Comma e = fixed_as labels w (codes ",") Comma e refl refl
writes_as labels w Tilde e = fixed_as labels w (codes "~") Tilde e refl refl
writes_as labels w (Compare Less) e = fixed_as labels w (codes "<") (Compare Less) e refl refl
writes_as labels w (Compare AtMost) e = fixed_as labels w (codes "<=") (Compare AtMost) e refl refl
writes_as labels w (Compare More) e = fixed_as labels w (codes ">") (Compare More) e refl refl
writes_as labels w (Compare AtLeast) e = fixed_as labels w (codes ">=") (Compare AtLeast) e refl refl
writes_as labels w (Number v) h = inl (v, refl, h, decimal_starts w v h)

same_decimal : (w : List ℕ) (u v : DecimalNumber) → IsDecimalWord w u → IsDecimalWord w v → u ≡ v
same_decimal w u v h g = case_value (word_case_unique w (IsWritten u) (IsWritten v) h g)
  where
    case_value : {a b : DecimalNumber} → IsWritten a ≡ IsWritten b → a ≡ b
    case_value e = cc

one_written : (labels : List (List ℕ)) (w : List ℕ) (t u : Token) → WritesAs labels w t → WritesAs labels w u → t ≡ u
one_written labels w t u (inl (a, e, h, r)) (inl (b, f, g, s)) = e ∙ ap Number (same_decimal w a b h g) ∙ sym f
one_written labels w t u (inl (a, e, h, r)) (inr (s, f)) = absurd (both_ways (in_run w) r s)
one_written labels w t u (inr (r, e)) (inl (b, f, g, s)) = absurd (both_ways (in_run w) s r)
one_written labels w t u (inr (r, e)) (inr (s, f)) = e ∙ sym f

-- a text writes one token at most
pub one_token_of : (labels : List (List ℕ)) (w : List ℕ) (t u : Token) → Writes labels w t → Writes labels w u → t ≡ u
one_token_of labels w t u h g = one_written labels w t u (writes_as labels w t h) (writes_as labels w u g)

-- one token at most stands at the head of bytes
pub one_token : (labels : List (List ℕ)) (bytes : List ℕ) (t u : Token) (a k : List ℕ) → BeginsWithToken labels bytes t a
    → BeginsWithToken labels bytes u k → (t ≡ u) × (a ≡ k)
one_token labels bytes t u a k h g =
    let e = one_text bytes h.text g.text a k h.longest g.longest in
    let text : h.text ≡ g.text = e.0 in
    (one_token_of labels g.text t u (subst (λ w. Writes labels w t) text h.writes) g.writes, e.1)

-- no token's text begins with a blank
pub text_starts : (text : List ℕ) → IsTokenText text → StartsBy (λ b. is_blank b ≡ false) text
text_starts text (inl h) =
    let s = word_starts text h in
    record { first = s.first; others = s.others; split = s.split; is = false_of (is_blank s.first) (λ k. word_no_blank s.first s.is k) }
text_starts text (inr (inl h)) =
    let s = number_starts text h in
    record { first = s.first; others = s.others; split = s.split; is = false_of (is_blank s.first) (λ k. number_no_blank s.first s.is k) }
text_starts text (inr (inr h)) =
    let s = (symbol_short text h).0 in
    record { first = s.first; others = s.others; split = s.split; is = s.is.2 }

pub not_blank : (bytes w a : List ℕ) (b : ℕ) (m : List ℕ) → IsTokenBefore bytes w a → bytes ≡ b ∷ m → is_blank b ≡ true → ⊥
not_blank bytes w a b m h e k =
    let s = text_starts w h.fits in
    let i : s.first ≡ b = same_first s.first b (s.others ++ a) m (ap (λ x. x ++ a) (sym s.split) ∙ sym h.stands ∙ e) in
    both_ways (is_blank b) k (ap is_blank (sym i) ∙ s.is)

-- a token's text is some of the bytes
pub not_empty : (bytes w a : List ℕ) → IsTokenBefore bytes w a → bytes ≡ [] → ⊥
not_empty bytes w a h e =
    let s = text_starts w h.fits in
    nothing_first s.first (s.others ++ a) (sym e ∙ h.stands ∙ ap (λ x. x ++ a) s.split)

-- a text that begins as a number writes none where it has a number's fault
pub no_number : (labels : List (List ℕ)) (w : List ℕ) (t : Token) (fault : NumberFault) → IsNumberText w → HasNumberFault w fault
    → Writes labels w t → ⊥
no_number labels w t fault n f h = no_number_as labels w t fault n f (writes_as labels w t h)
  where
    is_in_run : (text : List ℕ) → StartsBy (λ b. is_digit_or_point b ≡ true) text → in_run text ≡ true
    is_in_run text s = ap in_run s.split ∙ s.is

    lacks : {v : DecimalNumber} {e : NumberFault} → IsWritten v ≡ Lacks e → ⊥
    lacks e = cc

    no_number_as : (labels : List (List ℕ)) (w : List ℕ) (t : Token) (fault : NumberFault) → IsNumberText w → HasNumberFault w fault
        → WritesAs labels w t → ⊥
    no_number_as labels w t fault n f (inl (v, e, h, r)) = lacks (word_case_unique w (IsWritten v) (Lacks fault) h f)
    no_number_as labels w t fault n f (inr (r, e)) = both_ways (in_run w) (is_in_run w (number_starts w n)) r
