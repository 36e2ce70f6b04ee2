-- Each line gives a state labels, or fails by one check.
use Rattle.std.proofs.Common.{◌≡◌, ℕ, zero, suc, ◌+◌, ◌*◌, ◌/◌, ◌^◌, ◌<◌, ◌==◌, ◌↔◌, inl, inr, IsTrue, Bool, true, false, cond, List, []}
use Rattle.std.proofs.Common.{◌∷◌, length, get_or, Decides, ap, refl, sym, subst, ◌∙◌, arith}
use Rattle.std.specs.Int.{bit_at}
use Rattle.std.specs.List.{All, Contains, list_all}
use Rattle.std.proofs.Math.Nat.{pow-suc}
use Rattle.std.proofs.lemmas.Bool.{both_ways, false_from_ne_true}
use Rattle.std.proofs.lemmas.Bool.Decides.{Decides-by_and}
use Rattle.std.proofs.lemmas.Nat.Bits.{bit_at-lt, bit_at-suc, bit_at_lowest, same_from_bits_below}
use Rattle.model_core.proofs.StateNumbers.{is_state, state_decides}
use Rattle.text_lines.specs.WholeNumber.{IsWhole, whole_value}
use Rattle.text_lines.specs.WordLines.{WordLine}
use Rattle.text_lines.specs.declared.fault.FileWhat.{FileWhat}
use Rattle.text_lines.specs.declared.fault.FileWhat.TheVariants as what
use Rattle.lab_reader.specs.LabelLines.{BeginsWithNumber}
use Rattle.lab_reader.specs.LabFault.{LineFailsBy}
use Rattle.lab_reader.specs.Reading.{IsMaskOf, GivesMask}
use Rattle.lab_reader.proofs.Masks.{bit_on, on_bit}
use Rattle.lab_reader.proofs.Marks.{one_number, same_bit}
use Rattle.lab_reader.proofs.NameCases.{among, among_decides}
use Rattle.decimal_text.proofs.NumberOrNot.{numeral_or_not}

-- ---- the number

-- the number with which a line begins, and the other words
pub data NumberCase : Type 0 where
  NoNumber : NumberCase
  Number : ℕ → List (List ℕ) → NumberCase

abbrev pub IsNumberCase : WordLine → NumberCase → Type 0
IsNumberCase line NoNumber = (number : ℕ) (others : List (List ℕ)) → ¬ BeginsWithNumber line number others
IsNumberCase line (Number number others) = BeginsWithNumber line number others

number_case_unique : (line : WordLine) (c d : NumberCase) → IsNumberCase line c → IsNumberCase line d → c ≡ d
number_case_unique line NoNumber NoNumber h k = refl
number_case_unique line NoNumber (Number n ws) h k = absurd (h n ws k)
number_case_unique line (Number m vs) NoNumber h k = absurd (k m vs h)
number_case_unique line (Number m vs) (Number n ws) h k =
    let same = one_number line m n vs ws h k in
    ap (λ z. Number z vs) same.0 ∙ ap (λ z. Number n z) same.1

some_number_case : (line : WordLine) → (c : NumberCase) × IsNumberCase line c
some_number_case line = by_words line line.words refl where
  no_words : (w : List ℕ) (ws : List (List ℕ)) → [] ≡ w ∷ ws → ⊥
  no_words w ws e = cc

  first_word : (v w : List ℕ) (vs ws : List (List ℕ)) → v ∷ vs ≡ w ∷ ws → v ≡ w
  first_word v w vs ws e = cc

  by_words : (line : WordLine) (words : List (List ℕ)) → line.words ≡ words → (c : NumberCase) × IsNumberCase line c
  by_words line [] e = (NoNumber, λ n ws b. no_words b.word ws (sym e ∙ b.words))
  by_words line (w ∷ ws) e =
      elim (numeral_or_not w) [
        | inl whole ↦ (Number (whole_value w) ws, record { word = w; words = e; whole = record { digits = whole; value = refl } })
        | inr other ↦ (NoNumber, λ n vs b. other (subst IsWhole (first_word b.word w vs ws (sym b.words ∙ e)) b.whole.digits))
      ]

number_case : WordLine → NumberCase
number_case line = (some_number_case line).0

number_case_holds : (line : WordLine) → IsNumberCase line (number_case line)
unfolding number_case
number_case_holds line = (some_number_case line).1

number_case_is : (line : WordLine) (c : NumberCase) → IsNumberCase line c → number_case line ≡ c
number_case_is line c h = number_case_unique line (number_case line) c (number_case_holds line) h

-- ---- the labels

abbrev all_among : List (List ℕ) → List (List ℕ) → Bool
all_among names labels = list_all (λ label. among names label) labels

labels_decide : (names labels : List (List ℕ)) → Decides (all_among names labels) (All (Contains names) labels)
labels_decide names labels =
    Decides-by_and (λ label. among names label) (Contains names) (λ ls. all_among names ls) (λ label. among_decides names label) refl
    (λ _ _. refl) labels

-- the mask of labels, from the first name on
unfoldable pub mask_of : List (List ℕ) → List (List ℕ) → ℕ
mask_of [] labels = 0
mask_of (name ∷ names) labels = cond (among labels name) 1 0 + 2 * mask_of names labels

low_bit : (b : Bool) (m : ℕ) → IsTrue (bit_at (cond b 1 0 + 2 * m) 0 == 1) ↔ (b ≡ true)
low_bit true m = (λ _. refl, λ _. bit_on (1 + 2 * m) 0 (bit_at_lowest (1 + 2 * m) ∙ omega arith))
low_bit false m = (λ t. absurd (omega (arith, on_bit (0 + 2 * m) 0 t, bit_at_lowest (0 + 2 * m))), λ e. cc)

high_bits : (b : Bool) (m j : ℕ) → bit_at (cond b 1 0 + 2 * m) (suc j) ≡ bit_at m j
high_bits true m j = let half : (1 + 2 * m) / 2 ≡ m = omega arith in bit_at-suc (1 + 2 * m) j ∙ ap (λ z. bit_at z j) half
high_bits false m j = let half : (0 + 2 * m) / 2 ≡ m = omega arith in bit_at-suc (0 + 2 * m) j ∙ ap (λ z. bit_at z j) half

doubled : (b : Bool) (m k : ℕ) → m < 2 ^ k → cond b 1 0 + 2 * m < 2 ^ suc k
doubled true m k h = omega (arith, pow-suc 2 k)
doubled false m k h = omega (arith, pow-suc 2 k)

pub mask_of_is : (names labels : List (List ℕ)) → IsMaskOf names labels (mask_of names labels)
unfolding mask_of
mask_of_is [] labels = record { within = omega arith; bits = λ j l. absurd (omega arith) }
mask_of_is (name ∷ names) labels =
    let h = mask_of_is names labels in
    let b = among labels name in
    let m = mask_of names labels in
    record {
      within = doubled b m (length names) h.within;
      bits = bits_are name names labels m h.bits;
    }
  where
    bits_are : (name : List ℕ) (names labels : List (List ℕ)) (m : ℕ)
        → ((j : ℕ) → j < length names → IsTrue (bit_at m j == 1) ↔ Contains labels (get_or names j []))
        → (j : ℕ) → j < length (name ∷ names)
        → IsTrue (bit_at (cond (among labels name) 1 0 + 2 * m) j == 1) ↔ Contains labels (get_or (name ∷ names) j [])
    bits_are name names labels m h zero l =
        let low = low_bit (among labels name) m in
        let is = among_decides labels name in
        (λ t. is.0 (low.0 t), λ c. low.1 (is.1 c))
    bits_are name names labels m h (suc j) l =
        let mask = cond (among labels name) 1 0 + 2 * m in
        let same : bit_at mask (suc j) ≡ bit_at m j = high_bits (among labels name) m j in
        let k = h j (omega arith) in
        (λ t. k.0 (bit_on m j (sym same ∙ on_bit mask (suc j) t)), λ c. bit_on mask (suc j) (same ∙ on_bit m j (k.1 c)))

-- labels have one mask
one_mask : (names labels : List (List ℕ)) (a b : ℕ) → IsMaskOf names labels a → IsMaskOf names labels b → a ≡ b
one_mask names labels a b h k =
    same_from_bits_below (length names) a b h.within k.within
    (λ j l. same_bit (bit_at a j) (bit_at b j) (bit_at-lt a j) (bit_at-lt b j)
    (λ on. on_bit b j ((k.bits j l).1 ((h.bits j l).0 (bit_on a j on))))
    (λ on. on_bit a j ((h.bits j l).1 ((k.bits j l).0 (bit_on b j on)))))

-- ---- the line

-- what a line of the body is
pub data LineCase : Type 0 where
  Good : ℕ → ℕ → LineCase
  Wrong : FileWhat → LineCase

abbrev pub IsLineCase : ℕ → List (List ℕ) → WordLine → LineCase → Type 0
IsLineCase n names line (Good state mask) = GivesMask n names line state mask
IsLineCase n names line (Wrong w) = LineFailsBy n names line w

-- by whether the number is a state, and whether the labels are declared
abbrev by_tests : ℕ → ℕ → Bool → Bool → LineCase
by_tests state mask false b = Wrong what.StateRange
by_tests state mask true false = Wrong what.Undeclared
by_tests state mask true true = Good state mask

abbrev by_number : ℕ → List (List ℕ) → NumberCase → LineCase
by_number n names NoNumber = Wrong what.Word
by_number n names (Number state labels) = by_tests state (mask_of names labels) (is_state n state) (all_among names labels)

pub line_case : ℕ → List (List ℕ) → WordLine → LineCase
line_case n names line = by_number n names (number_case line)

with_tests : (n : ℕ) (names : List (List ℕ)) (line : WordLine) (state : ℕ) (labels : List (List ℕ)) (a b : Bool)
    → BeginsWithNumber line state labels → is_state n state ≡ a → all_among names labels ≡ b
    → line_case n names line ≡ by_tests state (mask_of names labels) a b
unfolding line_case
with_tests n names line state labels a b h e f =
    let mask = mask_of names labels in
    ap (by_number n names) (number_case_is line (Number state labels) h)
    ∙ ap (λ z. by_tests state mask z (all_among names labels)) e
    ∙ ap (λ z. by_tests state mask a z) f

pub line_case_is : (n : ℕ) (names : List (List ℕ)) (line : WordLine) (c : LineCase) → IsLineCase n names line c
    → line_case n names line ≡ c
unfolding line_case
line_case_is n names line (Good state mask) h =
    with_tests n names line state h.labels true true h.is.begins ((state_decides n state).1 h.is.is_state)
    ((labels_decide names h.labels).1 h.is.declared)
    ∙ ap (λ z. Good state z) (one_mask names h.labels (mask_of names h.labels) mask (mask_of_is names h.labels) h.mask_is)
line_case_is n names line (Wrong what.Word) h = ap (by_number n names) (number_case_is line NoNumber h)
line_case_is n names line (Wrong what.StateRange) h =
    with_tests n names line h.state h.others false (all_among names h.others) h.begins
    (false_from_ne_true (is_state n h.state) (λ t. h.outside ((state_decides n h.state).0 t))) refl
line_case_is n names line (Wrong what.Undeclared) h =
    with_tests n names line h.state h.labels true false h.begins ((state_decides n h.state).1 h.is_state)
    (false_from_ne_true (all_among names h.labels) (λ t. h.undeclared ((labels_decide names h.labels).0 t)))
line_case_is n names line (Wrong other) h = absurd h

tests_hold : (n : ℕ) (names : List (List ℕ)) (line : WordLine) (state : ℕ) (labels : List (List ℕ)) (a b : Bool)
    → BeginsWithNumber line state labels → is_state n state ≡ a → all_among names labels ≡ b
    → IsLineCase n names line (by_tests state (mask_of names labels) a b)
tests_hold n names line state labels false b h e f =
    record { state = state; others = labels; begins = h; outside = λ s. both_ways (is_state n state) e ((state_decides n state).1 s) }
tests_hold n names line state labels true false h e f =
    record {
      state = state;
      labels = labels;
      begins = h;
      is_state = (state_decides n state).0 e;
      undeclared = λ all. both_ways
          (all_among names labels) f ((labels_decide names labels).1 all);
    }
tests_hold n names line state labels true true h e f = record {
  labels = labels;
  is = record { begins = h; is_state = (state_decides n state).0 e; declared = (labels_decide names labels).0 f };
  mask_is = mask_of_is names labels;
}

number_holds : (n : ℕ) (names : List (List ℕ)) (line : WordLine) (c : NumberCase) → IsNumberCase line c
    → IsLineCase n names line (by_number n names c)
number_holds n names line NoNumber h = h
number_holds n names line (Number state labels) h =
    tests_hold n names line state labels (is_state n state) (all_among names labels) h refl refl

pub line_case_holds : (n : ℕ) (names : List (List ℕ)) (line : WordLine) → IsLineCase n names line (line_case n names line)
unfolding line_case
line_case_holds n names line = number_holds n names line (number_case line) (number_case_holds line)
