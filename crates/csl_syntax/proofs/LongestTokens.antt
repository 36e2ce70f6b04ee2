-- When a text at the head of bytes is the longest token there.
use Rattle.std.proofs.Common.{◌≡◌, ℕ, ◌+◌, ◌<◌, ◌≤◌, ◌⊎◌, inl, inr, Bool, true, false, ◌||◌, Option, Some, None, List, [], ◌∷◌, ◌++◌}
use Rattle.std.proofs.Common.{length, refl, sym, ◌∙◌, ap, subst, arith, append_assoc, length-append}
use Rattle.std.specs.Char.{is_ascii_digit}
use Rattle.std.specs.List.{list_all, list_any}
use Rattle.std.specs.Str.{bytes_eq}
use Rattle.std.specs.Cmp.Lexicographic.{same_text}
use Rattle.decimal_text.specs.Spelling.{Sign, NoSign, Plus, Minus, sign_text, ExponentSpelling, exponent_text, IsExponent, IsWritten}
use Rattle.text_lines.specs.Name.{begins_name, continues_name}
use Rattle.text_lines.specs.Words.{is_blank}
use Rattle.csl_syntax.specs.Scanner.{EndsRun, HasNoExponent}
use Rattle.csl_syntax.specs.TokenText.{is_word, is_digit_or_point, IsNumberText, symbols, is_symbol, IsTokenText, IsTokenBefore}
use Rattle.csl_syntax.proofs.Runs.{true_is_false, both_ways, and_left, and_right, and_both, same_first, same_rest, nothing_first}
use Rattle.csl_syntax.proofs.Runs.{split_same, word_no_number, begins_continues, digits_are}

-- what a text says of its first byte, by its kind
pub record StartsBy (P : ℕ → Type 0) (text : List ℕ) : Type 0 where
  pub first : ℕ
  pub others : List ℕ
  pub split : text ≡ first ∷ others
  pub is : P first

abbrev BeginsName : ℕ → Type 0
BeginsName b = begins_name b ≡ true

abbrev InRun : ℕ → Type 0
InRun b = is_digit_or_point b ≡ true

-- the first byte of a symbol
abbrev Other : ℕ → Type 0
Other b = (begins_name b ≡ false) × (is_digit_or_point b ≡ false) × (is_blank b ≡ false)

pub word_starts : (text : List ℕ) → is_word text ≡ true → StartsBy BeginsName text
word_starts [] h = absurd (true_is_false (sym h))
word_starts (b ∷ s) h = record { first = b; others = s; split = refl; is = and_left (begins_name b) (list_all continues_name s) h }

pub word_continues : (text : List ℕ) → is_word text ≡ true → list_all continues_name text ≡ true
word_continues [] h = refl
word_continues (b ∷ s) h =
    and_both (continues_name b) (list_all continues_name s) (begins_continues b (and_left (begins_name b) (list_all continues_name s) h))
    (and_right (begins_name b) (list_all continues_name s) h)

nothing_below : 0 < 0 → ⊥
nothing_below h = omega (arith, h)

run_starts : (run tail : List ℕ) → 0 < length run → list_all is_digit_or_point run ≡ true → StartsBy InRun (run ++ tail)
run_starts [] tail h g = absurd (nothing_below h)
run_starts (b ∷ s) tail h g =
    record { first = b; others = s ++ tail; split = refl; is = and_left (is_digit_or_point b) (list_all is_digit_or_point s) g }

pub number_starts : (text : List ℕ) → IsNumberText text → StartsBy InRun text
number_starts text h = subst (StartsBy InRun) (sym h.spelled) (run_starts h.run (exponent_text h.exponent) h.some h.digits_and_points)

-- what holds of each symbol
abbrev pub AllOf : (List ℕ → Type 0) → List (List ℕ) → Type 0
AllOf P [] = Unit {0}
AllOf P (x ∷ xs) = P x × AllOf P xs

one_by : (P : List ℕ → Type 0) (text x : List ℕ) (xs : List (List ℕ)) (b : Bool) → bytes_eq text x ≡ b
    → (b || list_any (bytes_eq text) xs) ≡ true → P x →
    (list_any (bytes_eq text) xs ≡ true → P text) → P text
one_by P text x xs true e h k f = subst P (sym (same_text text x (sym e))) k
one_by P text x xs false e h k f = f h

pub one_of : (P : List ℕ → Type 0) (text : List ℕ) (xs : List (List ℕ)) → list_any (bytes_eq text) xs ≡ true → AllOf P xs → P text
one_of P text [] h k = absurd (true_is_false (sym h))
one_of P text (x ∷ xs) h (k, ks) = one_by P text x xs (bytes_eq text x) refl h k (λ g. one_of P text xs g ks)

-- a symbol has one byte or two, the first of which is neither a word's, nor a number's, nor a blank
abbrev IsShort : List ℕ → Type 0
IsShort text = StartsBy Other text × (length text ≤ 2)

one_byte : (b : ℕ) → Other b → IsShort (b ∷ [])
one_byte b h = (record { first = b; others = []; split = refl; is = h }, omega arith)

two_bytes : (b c : ℕ) → Other b → IsShort (b ∷ c ∷ [])
two_bytes b c h = (record { first = b; others = c ∷ []; split = refl; is = h }, omega arith)

all_short : AllOf IsShort symbols
all_short = (
  two_bytes 38 38 (refl, refl, refl),
  (
    two_bytes 124 124 (refl, refl, refl),
    (
      one_byte 33 (refl, refl, refl),
      (
        one_byte 40 (refl, refl, refl),
        (
          one_byte 41 (refl, refl, refl),
          (
            one_byte 123 (refl, refl, refl),
            (
              one_byte 125 (refl, refl, refl),
              (
                one_byte 91 (refl, refl, refl),
                (
                  one_byte 93 (refl, refl, refl),
                  (
                    one_byte 44 (refl, refl, refl),
                    (
                      one_byte 126 (refl, refl, refl),
                      (
                        two_bytes 60 61 (refl, refl, refl),
                        (two_bytes 62 61 (refl, refl, refl), (one_byte 60 (refl, refl, refl), (one_byte 62 (refl, refl, refl), tt))),
                      ),
                    ),
                  ),
                ),
              ),
            ),
          ),
        ),
      ),
    ),
  ),
)

pub symbol_short : (text : List ℕ) → is_symbol text ≡ true → IsShort text
symbol_short text h = one_of IsShort text symbols h all_short

-- two texts at the head of the same bytes begin with the same byte
same_start : {P Q : ℕ → Type 0} (w v a k : List ℕ) (h : StartsBy P w) (g : StartsBy Q v) → w ++ a ≡ v ++ k → h.first ≡ g.first
same_start w v a k h g e =
    same_first h.first g.first (h.others ++ a) (g.others ++ k) (sym (ap (λ x. x ++ a) h.split) ∙ e ∙ ap (λ x. x ++ k) g.split)

-- texts of two kinds aren't at the head of the same bytes
clash : {P Q : ℕ → Type 0} → ((b : ℕ) → P b → Q b → ⊥) → (w v a k : List ℕ) → StartsBy P w → StartsBy Q v → w ++ a ≡ v ++ k → ⊥
clash {P} {Q} c w v a k h g e = c g.first (subst P (same_start w v a k h g e) h.is) g.is

word_number : (b : ℕ) → BeginsName b → InRun b → ⊥
word_number b h g = word_no_number b h g

number_word : (b : ℕ) → InRun b → BeginsName b → ⊥
number_word b h g = word_no_number b g h

word_symbol : (b : ℕ) → BeginsName b → Other b → ⊥
word_symbol b h g = both_ways (begins_name b) h g.0

symbol_word : (b : ℕ) → Other b → BeginsName b → ⊥
symbol_word b h g = both_ways (begins_name b) g h.0

number_symbol : (b : ℕ) → InRun b → Other b → ⊥
number_symbol b h g = both_ways (is_digit_or_point b) h g.1

symbol_number : (b : ℕ) → Other b → InRun b → ⊥
symbol_number b h g = both_ways (is_digit_or_point b) g h.1

-- a run isn't longer than the longest one
run_length : {w v a k : List ℕ} {p : ℕ → Bool}
    → ((w ≡ v) × (a ≡ k)) ⊎ ((b : ℕ) × (m : List ℕ) × (p b ≡ true) × (k ≡ b ∷ m) × (length v < length w)) → length v ≤ length w
run_length (inl (e, g)) = omega (arith, ap length e)
run_length (inr (b, m, h, e, l)) = omega (arith, l)

word_longest : (w a v k : List ℕ) → is_word w ≡ true → EndsRun continues_name a → w ++ a ≡ v ++ k → IsTokenText v → length v ≤ length w
word_longest w a v k h s e (inl g) = run_length (split_same continues_name w v a k (word_continues w h) (word_continues v g) s e)
word_longest w a v k h s e (inr (inl g)) = absurd (clash word_number w v a k (word_starts w h) (number_starts v g) e)
word_longest w a v k h s e (inr (inr g)) = absurd (clash word_symbol w v a k (word_starts w h) ((symbol_short v g).0) e)

-- a word, where what follows doesn't go on with it
pub word_before : (bytes w a : List ℕ) → bytes ≡ w ++ a → is_word w ≡ true → EndsRun continues_name a → IsTokenBefore bytes w a
word_before bytes w a e h s = record {
  stands = e;
  fits = inl h;
  longest = λ v k g f. word_longest w a v k h s (sym e ∙ g) f;
}

symbol_by : (w a v k : List ℕ) → IsShort w → IsShort v → is_symbol v ≡ true
    → ((b : ℕ) (more : List ℕ) → a ≡ b ∷ more → is_symbol (w ++ b ∷ []) ≡ false) → w ++ a ≡ v ++ k →
    length v ≤ length w
symbol_by [] a v k h f g s e = absurd (nothing_first h.0.first h.0.others h.0.split)
symbol_by (b ∷ c ∷ w) a v k h f g s e = omega (arith, f.1)
symbol_by (b ∷ []) a [] k h f g s e = omega arith
symbol_by (b ∷ []) a (x ∷ []) k h f g s e = omega arith
symbol_by (b ∷ []) a (x ∷ y ∷ []) k h f g s e =
    let start : b ≡ x = same_first b x a (y ∷ k) e in
    let rest : a ≡ y ∷ k = same_rest b x a (y ∷ k) e in
    absurd (both_ways (is_symbol (b ∷ y ∷ [])) (subst (λ z. is_symbol (z ∷ y ∷ []) ≡ true) (sym start) g) (s y k rest))
symbol_by (b ∷ []) a (x ∷ y ∷ z ∷ v) k h f g s e = omega (arith, f.1)

-- no symbol goes on after w with the next byte
abbrev pub EndsSymbol : List ℕ → List ℕ → Type 0
EndsSymbol w a = (b : ℕ) (more : List ℕ) → a ≡ b ∷ more → is_symbol (w ++ b ∷ []) ≡ false

symbol_longest : (w a v k : List ℕ) → is_symbol w ≡ true → EndsSymbol w a → w ++ a ≡ v ++ k → IsTokenText v →
    length v ≤ length w
symbol_longest w a v k h s e (inl g) = absurd (clash symbol_word w v a k ((symbol_short w h).0) (word_starts v g) e)
symbol_longest w a v k h s e (inr (inl g)) = absurd (clash symbol_number w v a k ((symbol_short w h).0) (number_starts v g) e)
symbol_longest w a v k h s e (inr (inr g)) = symbol_by w a v k (symbol_short w h) (symbol_short v g) g s e

-- a symbol, where with the next byte it is none
pub symbol_before : (bytes w a : List ℕ) → bytes ≡ w ++ a → is_symbol w ≡ true → EndsSymbol w a → IsTokenBefore bytes w a
symbol_before bytes w a e h s = record {
  stands = e;
  fits = inr (inr h);
  longest = λ v k g f. symbol_longest w a v k h s (sym e ∙ g) f;
}

-- after the run of digits and points stands this exponent or none, a longest one
abbrev pub EndsNumber : Option ExponentSpelling → List ℕ → Type 0
EndsNumber None a = EndsRun is_digit_or_point a × HasNoExponent a
EndsNumber (Some x) a = EndsRun is_ascii_digit a

letter_no_run : (b : ℕ) → (b ≡ 101) ⊎ (b ≡ 69) → is_digit_or_point b ≡ false
letter_no_run b (inl e) = ap is_digit_or_point e
letter_no_run b (inr e) = ap is_digit_or_point e

-- what follows the run doesn't go on with it
after_run : (x : Option ExponentSpelling) (a : List ℕ) → IsExponent x → EndsNumber x a → EndsRun is_digit_or_point (exponent_text x ++ a)
after_run None a w s b more e = s.0 b more e
after_run (Some x) a w s b more e =
    ap is_digit_or_point (sym (same_first x.letter b ((sign_text x.sign ++ x.digits) ++ a) more e)) ∙ letter_no_run x.letter w.letter

sign_clash : (c d : ℕ) (ds v a k : List ℕ) → is_ascii_digit d ≡ false → list_all is_ascii_digit ds ≡ true → 0 < length ds
    → ds ++ a ≡ d ∷ (v ++ k) → ⊥
sign_clash c d [] v a k h g l e = nothing_below l
sign_clash c d (b ∷ ds) v a k h g l e =
    both_ways (is_ascii_digit b) (and_left (is_ascii_digit b) (list_all is_ascii_digit ds) g)
    (ap is_ascii_digit (same_first b d (ds ++ a) (v ++ k) e) ∙ h)

digits_longest : (ds vs a k : List ℕ) → list_all is_ascii_digit ds ≡ true → list_all is_ascii_digit vs ≡ true → EndsRun is_ascii_digit a
    → ds ++ a ≡ vs ++ k → length vs ≤ length ds
digits_longest ds vs a k h g s e = run_length (split_same is_ascii_digit ds vs a k h g s e)

signed_longest : (s t : Sign) (ds vs a k : List ℕ) → list_all is_ascii_digit ds ≡ true → list_all is_ascii_digit vs ≡ true → 0 < length ds
    → 0 < length vs → EndsRun is_ascii_digit a →
    (sign_text s ++ ds) ++ a ≡ (sign_text t ++ vs) ++ k → length (sign_text t ++ vs) ≤ length (sign_text s ++ ds)
signed_longest NoSign NoSign ds vs a k h g m n r e = digits_longest ds vs a k h g r e
signed_longest Plus Plus ds vs a k h g m n r e = omega (arith, digits_longest ds vs a k h g r (same_rest 43 43 (ds ++ a) (vs ++ k) e))
signed_longest Minus Minus ds vs a k h g m n r e = omega (arith, digits_longest ds vs a k h g r (same_rest 45 45 (ds ++ a) (vs ++ k) e))
signed_longest NoSign Plus ds vs a k h g m n r e = absurd (sign_clash 0 43 ds vs a k refl h m e)
signed_longest NoSign Minus ds vs a k h g m n r e = absurd (sign_clash 0 45 ds vs a k refl h m e)
signed_longest Plus NoSign ds vs a k h g m n r e = absurd (sign_clash 0 43 vs ds k a refl g n (sym e))
signed_longest Minus NoSign ds vs a k h g m n r e = absurd (sign_clash 0 45 vs ds k a refl g n (sym e))
signed_longest Plus Minus ds vs a k h g m n r e = let c : 43 ≡ 45 = same_first 43 45 (ds ++ a) (vs ++ k) e in omega (arith, c)
signed_longest Minus Plus ds vs a k h g m n r e = let c : 45 ≡ 43 = same_first 45 43 (ds ++ a) (vs ++ k) e in omega (arith, c)

exponent_longest : (x y : Option ExponentSpelling) (a k : List ℕ) → IsExponent x → IsExponent y → EndsNumber x a
    → exponent_text x ++ a ≡ exponent_text y ++ k →
    length (exponent_text y) ≤ length (exponent_text x)
exponent_longest x None a k w u s e = omega arith
exponent_longest None (Some y) a k w u s e = absurd (s.1 y k u e)
exponent_longest (Some x) (Some y) a k w u s e =
    omega (
      arith,
      signed_longest x.sign y.sign x.digits y.digits a k (digits_are x.digits w.digits.1) (digits_are y.digits u.digits.1) w.digits.0
          u.digits.0 s
          (same_rest x.letter y.letter ((sign_text x.sign ++ x.digits) ++ a) ((sign_text y.sign ++ y.digits) ++ k) e),
    )

no_letter_in_run : (b : ℕ) (m k : List ℕ) (y : ExponentSpelling) → IsWritten y → is_digit_or_point b ≡ true
    → exponent_text (Some y) ++ k ≡ b ∷ m → ⊥
no_letter_in_run b m k y w h e =
    both_ways (is_digit_or_point b) h
    (ap is_digit_or_point (sym (same_first y.letter b ((sign_text y.sign ++ y.digits) ++ k) m e)) ∙ letter_no_run y.letter w.letter)

number_by : (r v a k : List ℕ) (x y : Option ExponentSpelling) → IsExponent x → IsExponent y → EndsNumber x a →
    ((r ≡ v) × (exponent_text x ++ a ≡ exponent_text y ++ k))
    ⊎ ((b : ℕ) × (m : List ℕ) × (is_digit_or_point b ≡ true) × (exponent_text y ++ k ≡ b ∷ m) × (length v < length r)) →
    length v + length (exponent_text y) ≤ length r + length (exponent_text x)
number_by r v a k x y w u s (inl (e, g)) = omega (arith, ap length e, exponent_longest x y a k w u s g)
number_by r v a k x None w u s (inr (b, m, h, g, l)) = omega (arith, l)
number_by r v a k x (Some y) w u s (inr (b, m, h, g, l)) = absurd (no_letter_in_run b m k y u h g)

-- one number's text beside another at the head of the same bytes
numbers : (r v a k : List ℕ) (x y : Option ExponentSpelling) → list_all is_digit_or_point r ≡ true → list_all is_digit_or_point v ≡ true
    → IsExponent x → IsExponent y → EndsNumber x a →
    (r ++ exponent_text x) ++ a ≡ (v ++ exponent_text y) ++ k → length (v ++ exponent_text y) ≤ length (r ++ exponent_text x)
numbers r v a k x y h g w u s e =
    let split = split_same is_digit_or_point r v (exponent_text x ++ a) (exponent_text y ++ k) h g (after_run x a w s)
    (sym (append_assoc r (exponent_text x) a) ∙ e ∙ append_assoc v (exponent_text y) k) in
    omega (arith, length-append v (exponent_text y), length-append r (exponent_text x), number_by r v a k x y w u s split)

number_longest : (w a v k : List ℕ) (n : IsNumberText w) → EndsNumber n.exponent a → w ++ a ≡ v ++ k → IsTokenText v → length v ≤ length w
number_longest w a v k n s e (inl g) = absurd (clash number_word w v a k (number_starts w n) (word_starts v g) e)
number_longest w a v k n s e (inr (inr g)) = absurd (clash number_symbol w v a k (number_starts w n) ((symbol_short v g).0) e)
number_longest w a v k n s e (inr (inl g)) =
    omega (
      arith,
      ap length n.spelled,
      ap length g.spelled,
      numbers n.run g.run a k n.exponent g.exponent n.digits_and_points g.digits_and_points n.written g.written s
          (ap (λ x. x ++ a) (sym n.spelled) ∙ e ∙ ap (λ x. x ++ k) g.spelled),
    )

-- what begins as a number, where what follows doesn't go on with it
pub number_before : (bytes w a : List ℕ) (n : IsNumberText w) → bytes ≡ w ++ a → EndsNumber n.exponent a → IsTokenBefore bytes w a
number_before bytes w a n e s = record {
  stands = e;
  fits = inr (inl n);
  longest = λ v k g f. number_longest w a v k n s (sym e ∙ g) f;
}
