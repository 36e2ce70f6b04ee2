-- Each word writes one decimal, or has one fault as a number.
use Rattle.std.proofs.Common.{◌≡◌, ℕ, ◌^◌, ◌<◌, ◌≤◌, ◌⊎◌, inl, inr, cond, nat_lt, List, ap, refl, sym, ◌∙◌}
use Rattle.std.proofs.lemmas.Bool.{cases_lt, lt-ltb, le-ltb, cond-true, cond-false}
use Rattle.decimal_text.specs.DecimalNumber.{DecimalNumber}
use Rattle.decimal_text.specs.NumberValue.{StandsFor, IsTooFine, IsTooBig}
use Rattle.decimal_text.specs.Spelling.{IsNumber}
use Rattle.decimal_text.specs.declared.number_fault.NumberFault.{NumberFault}
use Rattle.decimal_text.specs.declared.number_fault.NumberFault.TheVariants.{NotNumber, TooFine, TooBig}
use Rattle.decimal_text.proofs.Values.{one_value, some_value}
use Rattle.decimal_text.proofs.NumberOrNot.{number_or_not}
use Rattle.decimal_text.specs.DecimalWord.{IsDecimalWord, HasNumberFault}

-- what a word is
pub data WordCase : Type 0 where
  Writes : DecimalNumber → WordCase
  Lacks : NumberFault → WordCase

abbrev pub IsWordCase : List ℕ → WordCase → Type 0
IsWordCase word (Writes d) = IsDecimalWord word d
IsWordCase word (Lacks fault) = HasNumberFault word fault

-- what the word of a number is
abbrev case_at : DecimalNumber → WordCase
case_at d = cond (nat_lt 18 d.x) (Lacks TooFine) (cond (nat_lt d.c (10 ^ 18)) (Writes d) (Lacks TooBig))

too_fine : (d : DecimalNumber) → 18 < d.x → case_at d ≡ Lacks TooFine
too_fine d h = cond-true (nat_lt 18 d.x) _ _ (lt-ltb 18 d.x h)

short : (d : DecimalNumber) → d.x ≤ 18 → d.c < 10 ^ 18 → case_at d ≡ Writes d
short d h l = cond-false (nat_lt 18 d.x) _ _ (le-ltb 18 d.x h) ∙ cond-true (nat_lt d.c (10 ^ 18)) _ _ (lt-ltb d.c (10 ^ 18) l)

too_big : (d : DecimalNumber) → d.x ≤ 18 → 10 ^ 18 ≤ d.c → case_at d ≡ Lacks TooBig
too_big d h l = cond-false (nat_lt 18 d.x) _ _ (le-ltb 18 d.x h) ∙ cond-false (nat_lt d.c (10 ^ 18)) _ _ (le-ltb d.c (10 ^ 18) l)

-- the word is a number's, and its case follows from the number; or it is none
record OfNumber (word : List ℕ) (w : WordCase) : Type 0 where
  number : DecimalNumber
  stands : StandsFor word number
  same : case_at number ≡ w

record OfNone (word : List ℕ) (w : WordCase) : Type 0 where
  none : ¬ IsNumber word
  same : w ≡ Lacks NotNumber

seen : (word : List ℕ) (w : WordCase) → IsWordCase word w → OfNumber word w ⊎ OfNone word w
seen word (Writes d) h = inl (record { number = d; stands = h.stands; same = short d h.short.decimals h.short.below })
seen word (Lacks NotNumber) h = inr (record { none = h; same = refl })
seen word (Lacks TooFine) h = inl (record { number = h.number; stands = h.stands; same = too_fine h.number h.fine })
seen word (Lacks TooBig) h = inl (record { number = h.number; stands = h.stands; same = too_big h.number h.decimals h.big })

-- a word is one of these things only
pub word_case_unique : (word : List ℕ) (v w : WordCase) → IsWordCase word v → IsWordCase word w → v ≡ w
word_case_unique word v w h k =
    elim (seen word v h) [
      | inl a ↦ elim (seen word w k) [
        | inl b ↦ sym a.same ∙ ap case_at (one_value word a.number b.number a.stands b.stands) ∙ b.same
        | inr b ↦ absurd (b.none (a.stands.spelling, a.stands.spelled))
      ]
      | inr a ↦ elim (seen word w k) [
        | inl b ↦ absurd (a.none (b.stands.spelling, b.stands.spelled))
        | inr b ↦ a.same ∙ sym b.same
      ]
    ]

-- and it is one of them
pub some_word_case : (word : List ℕ) → (w : WordCase) × IsWordCase word w
some_word_case word =
    elim (number_or_not word) [
      | inr none ↦ (Lacks NotNumber, none)
      | inl h ↦
          let v = some_value word h in
          elim (cases_lt 18 v.0.x) [
            | inl fine ↦ (Lacks TooFine, record { number = v.0; stands = v.1; fine = fine })
            | inr few ↦ elim (cases_lt v.0.c (10 ^ 18)) [
              | inl below ↦
                  (Writes v.0, record { stands = v.1; short = record { below = below; decimals = few; normal = v.1.value.normal } })
              | inr big ↦ (Lacks TooBig, record { number = v.0; stands = v.1; decimals = few; big = big })
            ]
          ]
    ]

-- what the word is
pub word_case : List ℕ → WordCase
word_case word = (some_word_case word).0

pub word_case_holds : (word : List ℕ) → IsWordCase word (word_case word)
unfolding word_case
word_case_holds word = (some_word_case word).1

pub word_case_is : (word : List ℕ) (w : WordCase) → IsWordCase word w → word_case word ≡ w
word_case_is word w h = word_case_unique word (word_case word) w (word_case_holds word) h

-- the fault of the reading of a number is the word's
pub number_fault : (word : List ℕ) (fault : NumberFault) → (fault ≡ NotNumber → ¬ IsNumber word) → (fault ≡ TooFine → IsTooFine word)
    → (fault ≡ TooBig → IsTooBig word) → HasNumberFault word fault
number_fault word NotNumber a b c = a refl
number_fault word TooFine a b c = b refl
number_fault word TooBig a b c = c refl
