-- Runs of bytes that pass a test, and the bytes with which tokens begin.
use Rattle.std.proofs.Common.{◌≡◌, ℕ, ◌+◌, ◌<◌, ◌⊎◌, inl, inr, Bool, true, false, ◌&&◌, List, [], ◌∷◌, ◌++◌, length, refl, sym, ◌∙◌}
use Rattle.std.proofs.Common.{arith}
use Rattle.std.proofs.lemmas.Bool.Decides.{nat_tests}
use Rattle.std.specs.Char.{is_ascii_digit, digit_value}
use Rattle.std.specs.List.{list_all}
use Rattle.std.specs.Str.Parse.{AllDigits}
use Rattle.decimal_text.proofs.FixedDigits.{digit_of_digit_value}
use Rattle.text_lines.specs.Name.{begins_name, continues_name}
use Rattle.text_lines.specs.Words.{is_blank}
use Rattle.csl_syntax.specs.Scanner.{EndsRun}
use Rattle.csl_syntax.specs.TokenText.{is_digit_or_point}

pub true_is_false : true ≡ false → ⊥
true_is_false e = cc

-- a byte passes and doesn't
pub both_ways : (b : Bool) → b ≡ true → b ≡ false → ⊥
both_ways b h k = true_is_false (sym h ∙ k)

pub and_left : (a b : Bool) → (a && b) ≡ true → a ≡ true
and_left true b e = refl
and_left false b e = e

pub and_right : (a b : Bool) → (a && b) ≡ true → b ≡ true
and_right true b e = e
and_right false b e = cc

pub and_both : (a b : Bool) → a ≡ true → b ≡ true → (a && b) ≡ true
and_both true b e h = h
and_both false b e h = e

pub same_first : (a b : ℕ) (s r : List ℕ) → a ∷ s ≡ b ∷ r → a ≡ b
same_first a b s r e = cc

pub same_rest : (a b : ℕ) (s r : List ℕ) → a ∷ s ≡ b ∷ r → s ≡ r
same_rest a b s r e = cc

pub nothing_first : (b : ℕ) (s : List ℕ) → [] ≡ b ∷ s → ⊥
nothing_first b s e = cc

-- two runs at the head of the same bytes, the first of them a longest one
module _ (p : ℕ → Bool) where
  longer : (b c : ℕ) (w v a k : List ℕ) → b ≡ c
      → ((w ≡ v) × (a ≡ k)) ⊎ ((x : ℕ) × (m : List ℕ) × (p x ≡ true) × (k ≡ x ∷ m) × (length v < length w)) →
      ((b ∷ w ≡ c ∷ v) × (a ≡ k)) ⊎ ((x : ℕ) × (m : List ℕ) × (p x ≡ true) × (k ≡ x ∷ m) × (length (c ∷ v) < length (b ∷ w)))
  longer b c w v a k e (inl (h, g)) = inl (cc, g)
  longer b c w v a k e (inr (x, m, h, g, l)) = inr (x, m, h, g, omega (arith, l))

  pub split_same : (w v a k : List ℕ) → list_all p w ≡ true → list_all p v ≡ true → EndsRun p a → w ++ a ≡ v ++ k →
      ((w ≡ v) × (a ≡ k)) ⊎ ((b : ℕ) × (m : List ℕ) × (p b ≡ true) × (k ≡ b ∷ m) × (length v < length w))
  split_same [] [] a k h g s e = inl (refl, e)
  split_same [] (c ∷ v) a k h g s e = absurd (both_ways (p c) (and_left (p c) (list_all p v) g) (s c (v ++ k) e))
  split_same (b ∷ w) [] a k h g s e = inr (b, w ++ a, and_left (p b) (list_all p w) h, sym e, omega arith)
  split_same (b ∷ w) (c ∷ v) a k h g s e =
      longer b c w v a k (same_first b c (w ++ a) (v ++ k) e)
      (split_same w v a k (and_right (p b) (list_all p w) h) (and_right (p c) (list_all p v) g) s (same_rest b c (w ++ a) (v ++ k) e))

-- a word's first byte, a number's and a blank differ
pub word_no_number : (b : ℕ) → begins_name b ≡ true → is_digit_or_point b ≡ true → ⊥
word_no_number b h k = grind (arith, nat_tests)

pub word_no_blank : (b : ℕ) → begins_name b ≡ true → is_blank b ≡ true → ⊥
word_no_blank b h k = grind (arith, nat_tests)

pub number_no_blank : (b : ℕ) → is_digit_or_point b ≡ true → is_blank b ≡ true → ⊥
number_no_blank b h k = grind (arith, nat_tests)

pub begins_continues : (b : ℕ) → begins_name b ≡ true → continues_name b ≡ true
begins_continues b h = grind (arith, nat_tests)

pub digit_is : (c : ℕ) → digit_value c < 10 → is_ascii_digit c ≡ true
digit_is c h = let e : 48 + digit_value c ≡ c = digit_of_digit_value c h in grind (arith, nat_tests)

pub digit_reads : (c : ℕ) → is_ascii_digit c ≡ true → digit_value c < 10
digit_reads c h = grind (arith, nat_tests)

pub digit_is_in_run : (c : ℕ) → is_ascii_digit c ≡ true → is_digit_or_point c ≡ true
digit_is_in_run c h = grind (arith, nat_tests)

pub digits_are : (ds : List ℕ) → AllDigits 10 ds → list_all is_ascii_digit ds ≡ true
digits_are [] h = refl
digits_are (c ∷ ds) (h, g) = and_both (is_ascii_digit c) (list_all is_ascii_digit ds) (digit_is c h) (digits_are ds g)

pub digits_read : (ds : List ℕ) → list_all is_ascii_digit ds ≡ true → AllDigits 10 ds
digits_read [] h = tt
digits_read (c ∷ ds) h = (
  digit_reads c (and_left (is_ascii_digit c) (list_all is_ascii_digit ds) h),
  digits_read ds
      (and_right (is_ascii_digit c) (list_all is_ascii_digit ds) h),
)
