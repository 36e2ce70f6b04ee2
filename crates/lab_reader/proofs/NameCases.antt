-- Each word is a name that can be declared, or fails by one check; and so the words of a line.
use Rattle.std.proofs.Common.{◌≡◌, ℕ, ◌<◌, ◌==◌, IsTrue, Bool, true, false, List, [], ◌∷◌, ◌++◌, length, get_or, Decides, ap, refl, sym}
use Rattle.std.proofs.Common.{subst, ◌∙◌, append_assoc, append-nil, length-append, arith}
use Rattle.std.specs.Prelude.{bytes_eq}
use Rattle.std.specs.List.{Contains, list_any}
use Rattle.std.proofs.Math.Seq.{get_or-append_seam}
use Rattle.std.proofs.lemmas.Bool.{eqb-true, eq-eqb, ne_eqb, eqb-false, false_from_ne_true, both_ways}
use Rattle.std.proofs.lemmas.Bool.Decides.{Decides-by_or}
use Rattle.std.proofs.lemmas.List.{get_or_append_left, get_or_default}
use Rattle.std.proofs.lemmas.List.Elements.{Decides-contains}
use Rattle.std.proofs.lemmas.Slice.Eq.{bytes_eq-Decides}
use Rattle.model_core.specs.declared.limits.TheConstants.{MOST_LABELS}
use Rattle.text_lines.specs.Name.{is_name}
use Rattle.text_lines.specs.declared.fault.FileWhat.{FileWhat}
use Rattle.text_lines.specs.declared.fault.FileWhat.TheVariants as what
use Rattle.lab_reader.specs.Declarations.{AreNames}
use Rattle.lab_reader.specs.LabFault.{NameFailsBy, HasFailingWord}
use Rattle.lab_reader.specs.Reading.{IsFreshName}
use Rattle.lab_reader.proofs.Declared.{HasTaken, taken_none, taken_more, taken_all, taken_fails}

-- ---- a word among words

abbrev pub among : List (List ℕ) → List ℕ → Bool
among words word = list_any (λ w. bytes_eq w word) words

pub among_decides : (words : List (List ℕ)) (word : List ℕ) → Decides (among words word) (Contains words word)
among_decides words word =
    Decides-contains words word (among words word)
    (Decides-by_or (λ w. bytes_eq w word) (λ w. w ≡ word) (λ ws. among ws word) (λ w. bytes_eq-Decides w word) refl (λ _ _. refl) words)

-- ---- a word

-- what a word is after some names
pub data NameCase : Type 0 where
  Fresh : NameCase
  Bad : FileWhat → NameCase

abbrev pub IsNameCase : List (List ℕ) → List ℕ → NameCase → Type 0
IsNameCase names word Fresh = IsFreshName names word
IsNameCase names word (Bad w) = NameFailsBy names word w

-- by whether it is a name, one of the names, and the names are full
abbrev by_tests : Bool → Bool → Bool → NameCase
by_tests false again full = Bad what.Name
by_tests true true full = Bad what.RepeatedName
by_tests true false true = Bad what.LabelsRange
by_tests true false false = Fresh

abbrev is_full : List (List ℕ) → Bool
is_full names = length names == MOST_LABELS

pub name_case : List (List ℕ) → List ℕ → NameCase
name_case names word = by_tests (is_name word) (among names word) (is_full names)

-- the tests have these answers
tests_are : (names : List (List ℕ)) (word : List ℕ) (a b c : Bool) → is_name word ≡ a → among names word ≡ b → is_full names ≡ c
    → name_case names word ≡ by_tests a b c
unfolding name_case
tests_are names word a b c e f g =
    ap (λ z. by_tests z (among names word) (is_full names)) e ∙ ap (λ z. by_tests a z (is_full names)) f ∙ ap (λ z. by_tests a b z) g

among_none : (words : List (List ℕ)) (word : List ℕ) → ¬ Contains words word → among words word ≡ false
among_none words word n = false_from_ne_true (among words word) (λ t. n ((among_decides words word).0 t))

pub name_case_is : (names : List (List ℕ)) (word : List ℕ) (c : NameCase) → IsNameCase names word c → name_case names word ≡ c
name_case_is names word Fresh h =
    tests_are names word true false false h.is_name (among_none names word h.is_new) (ne_eqb (length names) MOST_LABELS h.room)
name_case_is names word (Bad what.Name) h =
    tests_are names word false (among names word) (is_full names) (false_from_ne_true (is_name word) h) refl refl
name_case_is names word (Bad what.RepeatedName) h =
    tests_are names word true true (is_full names) h.0 ((among_decides names word).1 h.1) refl
name_case_is names word (Bad what.LabelsRange) h =
    tests_are names word true false true h.0 (among_none names word h.1) (eq-eqb (length names) MOST_LABELS h.2)
name_case_is names word (Bad other) h = absurd h

tests_hold : (names : List (List ℕ)) (word : List ℕ) (a b c : Bool) → is_name word ≡ a → among names word ≡ b → is_full names ≡ c
    → IsNameCase names word (by_tests a b c)
tests_hold names word false b c e f g = both_ways (is_name word) e
tests_hold names word true true c e f g = (e, (among_decides names word).0 f)
tests_hold names word true false true e f g =
    (e, λ h. both_ways (among names word) f ((among_decides names word).1 h), eqb-true (length names) MOST_LABELS g)
tests_hold names word true false false e f g = record {
  is_name = e;
  is_new = λ h. both_ways (among names word) f ((among_decides names word).1 h);
  room = eqb-false (length names) MOST_LABELS g;
}

pub name_case_holds : (names : List (List ℕ)) (word : List ℕ) → IsNameCase names word (name_case names word)
unfolding name_case
name_case_holds names word = tests_hold names word (is_name word) (among names word) (is_full names) refl refl refl

-- ---- words, one after another

-- what words are after some names
pub data WordsCase : Type 0 where
  Declared : List (List ℕ) → WordsCase
  Stops : FileWhat → WordsCase

abbrev pub IsWordsCase : List (List ℕ) → List (List ℕ) → WordsCase → Type 0
IsWordsCase names words (Declared now) = (now ≡ names ++ words) × AreNames now
IsWordsCase names words (Stops w) = HasFailingWord names words w

unfoldable pub run_words : List (List ℕ) → List (List ℕ) → WordsCase
run_words names [] = Declared names
run_words names (word ∷ words) =
    elim (name_case names word) [
      | Fresh ↦ run_words (names ++ word ∷ []) words
      | Bad w ↦ Stops w
    ]

run_fresh : (names : List (List ℕ)) (word : List ℕ) (words : List (List ℕ)) → name_case names word ≡ Fresh
    → run_words names (word ∷ words) ≡ run_words (names ++ word ∷ []) words
unfolding run_words
run_fresh names word words e = rw (e, run_words) refl

run_bad : (names : List (List ℕ)) (word : List ℕ) (words : List (List ℕ)) (w : FileWhat) → name_case names word ≡ Bad w
    → run_words names (word ∷ words) ≡ Stops w
unfolding run_words
run_bad names word words w e = rw (e, run_words) refl

run_none : (names : List (List ℕ)) → run_words names [] ≡ Declared names
unfolding run_words
run_none names = refl

-- of right names each can be declared after those before it
fresh_at : (names : List (List ℕ)) (word : List ℕ) (words : List (List ℕ)) → AreNames (names ++ word ∷ words) → IsFreshName names word
fresh_at names word words h =
    let long : length names < length (names ++ word ∷ words) = simp length-append (omega arith) in
    let here : get_or (names ++ word ∷ words) (length names) [] ≡ word = get_or-append_seam names word words [] in
    record {
      is_name = subst (λ z. IsTrue (is_name z)) here (h.each (length names) [] long);
      is_new = λ (k, l, e).
          let before : get_or (names ++ word ∷ words) k [] ≡ word =
          get_or_append_left names (word ∷ words) [] k l ∙ get_or_default names k [] word l ∙ e
          in
          h.distinct k (length names) [] l long (before ∙ sym here);
      room = λ full. omega (arith, h.few, full, long);
    }

-- right words are declared
pub words_front : (names earlier rest : List (List ℕ)) → AreNames (names ++ earlier)
    → run_words names (earlier ++ rest) ≡ run_words (names ++ earlier) rest
words_front names [] rest h = ap (λ z. run_words z rest) (sym (append-nil names))
words_front names (word ∷ words) rest h =
    let joined = append_assoc names (word ∷ []) words in
    run_fresh names word (words ++ rest) (name_case_is names word Fresh (fresh_at names word words h))
    ∙ words_front (names ++ word ∷ []) words rest (subst AreNames (sym joined) h)
    ∙ ap (λ z. run_words z rest) joined

pub words_declared : (names words : List (List ℕ)) → AreNames (names ++ words) → run_words names words ≡ Declared (names ++ words)
words_declared names words h =
    ap (run_words names) (sym (append-nil words)) ∙ words_front names words [] h ∙ run_none (names ++ words)

pub words_stop : (names words : List (List ℕ)) (w : FileWhat) → HasFailingWord names words w → run_words names words ≡ Stops w
words_stop names words w h =
    ap (run_words names) h.split
    ∙ words_front names h.earlier (h.word ∷ h.later) h.right
    ∙ run_bad (names ++ h.earlier) h.word h.later w (name_case_is (names ++ h.earlier) h.word (Bad w) h.fails)

-- one word more, by what it is
at_word : (names words now left : List (List ℕ)) (word : List ℕ) → HasTaken names words now (word ∷ left)
    → (HasTaken names words (now ++ word ∷ []) left → IsWordsCase names words (run_words (now ++ word ∷ []) left))
    → (c : NameCase) → name_case now word ≡ c → IsWordsCase names words (run_words now (word ∷ left))
at_word names words now left word h next Fresh is =
    let fresh : IsFreshName now word = subst (IsNameCase now word) is (name_case_holds now word) in
    subst (IsWordsCase names words) (sym (run_fresh now word left is)) (next (taken_more names words now left word h fresh))
at_word names words now left word h next (Bad w) is =
    let fails : NameFailsBy now word w = subst (IsNameCase now word) is (name_case_holds now word) in
    subst (IsWordsCase names words) (sym (run_bad now word left w is)) (taken_fails names words now left word w h fails)

-- words are what `run_words` says
words_from : (names words now left : List (List ℕ)) → HasTaken names words now left → IsWordsCase names words (run_words now left)
unfolding run_words
words_from names words now [] h = (taken_all names words now h, h.right)
words_from names words now (word ∷ left) h =
    at_word names words now left word h (words_from names words (now ++ word ∷ []) left) (name_case now word) refl

pub words_hold : (names words : List (List ℕ)) → AreNames names → IsWordsCase names words (run_words names words)
words_hold names words right = words_from names words names words (taken_none names words right)
