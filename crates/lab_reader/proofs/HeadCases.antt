-- The declarations of a file are right, or one check is the first that fails.
use Rattle.std.proofs.Common.{◌≡◌, ◌≤◌, ℕ, IsTrue, inl, inr, Bool, true, false, List, [], ◌∷◌, ◌++◌, length, Decides, ap, refl, sym, subst}
use Rattle.std.proofs.Common.{◌∙◌, append_assoc, append-nil, length-append, arith}
use Rattle.std.specs.Prelude.{codes, bytes_eq}
use Rattle.std.specs.List.{All}
use Rattle.std.proofs.lemmas.Bool.{false_from_ne_true, both_ways}
use Rattle.std.proofs.lemmas.List.{get_or_append_left}
use Rattle.std.proofs.lemmas.List.Elements.{All-head, All-tail}
use Rattle.std.proofs.lemmas.Slice.Eq.{bytes_eq-Decides}
use Rattle.text_lines.specs.Name.{is_name}
use Rattle.text_lines.specs.WordLines.{WordLine}
use Rattle.text_lines.specs.declared.fault.FileWhat.{FileWhat}
use Rattle.text_lines.specs.declared.fault.FileWhat.TheVariants as what
use Rattle.lab_reader.specs.Declarations.{IsOnly, IsClosing, AreNames, words_in, BeginsWithNames, Declares}
use Rattle.lab_reader.specs.LabFault.{HasFailingName, LinesHaveFault}
use Rattle.lab_reader.specs.Reading.{HasNames}
use Rattle.lab_reader.proofs.Heads.{opened, no_line, not_opened, names_line, names_closed, not_closed, failing_name}
use Rattle.lab_reader.proofs.NameCases.{WordsCase, Declared, Stops, IsWordsCase, run_words, words_declared, words_stop, words_hold}

-- ---- a line of one given word

abbrev only_test : List ℕ → List (List ℕ) → Bool
only_test word [] = false
only_test word (w ∷ []) = bytes_eq w word
only_test word (w ∷ v ∷ more) = false

abbrev pub is_only : List ℕ → WordLine → Bool
is_only word line = only_test word line.words

only_decides : (word : List ℕ) (words : List (List ℕ)) → Decides (only_test word words) (words ≡ word ∷ [])
only_decides word [] = (λ t. cc, λ e. cc)
only_decides word (w ∷ []) =
    (λ t. ap (λ z. z ∷ []) ((bytes_eq-Decides w word).0 t), λ e. (bytes_eq-Decides w word).1 (same_one w word e))
  where
    same_one : (v w : List ℕ) → v ∷ [] ≡ w ∷ [] → v ≡ w
    same_one v w e = cc
only_decides word (w ∷ v ∷ more) = (λ t. cc, λ e. cc)

pub is_only_decides : (word : List ℕ) (line : WordLine) → Decides (is_only word line) (IsOnly word line)
is_only_decides word line = only_decides word line.words

not_only : (word : List ℕ) (line : WordLine) → ¬ IsOnly word line → is_only word line ≡ false
not_only word line n = false_from_ne_true (is_only word line) (λ t. n ((is_only_decides word line).0 t))

-- ---- a line after the opening one

-- what a line is after some names
data StepCase : Type 0 where
  Closes : StepCase
  Goes : List (List ℕ) → StepCase
  Breaks : FileWhat → StepCase

abbrev by_words : WordsCase → StepCase
by_words (Declared now) = Goes now
by_words (Stops w) = Breaks w

abbrev by_closing : List (List ℕ) → WordLine → Bool → StepCase
by_closing names line true = Closes
by_closing names line false = by_words (run_words names line.words)

step : List (List ℕ) → WordLine → StepCase
step names line = by_closing names line (is_only (codes "#END") line)

step_closes : (names : List (List ℕ)) (line : WordLine) → IsClosing line → step names line ≡ Closes
unfolding step
step_closes names line is = ap (by_closing names line) ((is_only_decides (codes "#END") line).1 is)

step_by : (names : List (List ℕ)) (line : WordLine) (c : WordsCase) → ¬ IsClosing line → run_words names line.words ≡ c
    → step names line ≡ by_words c
unfolding step
step_by names line c other e = ap (by_closing names line) (not_only (codes "#END") line other) ∙ ap by_words e

-- ---- the lines after the opening one

-- what the declarations of a file are
pub data HeadCase : Type 0 where
  Head : List (List ℕ) → List WordLine → HeadCase
  NoHead : ℕ → FileWhat → HeadCase

abbrev pub IsHeadCase : ℕ → List WordLine → ℕ → HeadCase → Type 0
IsHeadCase n lines end (Head names body) = Declares lines names body
IsHeadCase n lines end (NoHead number w) = LinesHaveFault n lines end number w

unfoldable run_lines : ℕ → List (List ℕ) → List WordLine → HeadCase
run_lines end names [] = NoHead end what.Header
run_lines end names (line ∷ lines) =
    elim (step names line) [
      | Closes ↦ Head names lines
      | Goes now ↦ run_lines end now lines
      | Breaks w ↦ NoHead line.number w
    ]

run_closes : (end : ℕ) (names : List (List ℕ)) (line : WordLine) (lines : List WordLine) → step names line ≡ Closes
    → run_lines end names (line ∷ lines) ≡ Head names lines
unfolding run_lines
run_closes end names line lines e = rw (e, run_lines) refl

run_goes : (end : ℕ) (names now : List (List ℕ)) (line : WordLine) (lines : List WordLine) → step names line ≡ Goes now
    → run_lines end names (line ∷ lines) ≡ run_lines end now lines
unfolding run_lines
run_goes end names now line lines e = rw (e, run_lines) refl

run_breaks : (end : ℕ) (names : List (List ℕ)) (line : WordLine) (lines : List WordLine) (w : FileWhat) → step names line ≡ Breaks w
    → run_lines end names (line ∷ lines) ≡ NoHead line.number w
unfolding run_lines
run_breaks end names line lines w e = rw (e, run_lines) refl

run_ends : (end : ℕ) (names : List (List ℕ)) → run_lines end names [] ≡ NoHead end what.Header
unfolding run_lines
run_ends end names = refl

abbrev by_opening : ℕ → WordLine → List WordLine → Bool → HeadCase
by_opening end first others true = run_lines end [] others
by_opening end first others false = NoHead first.number what.Header

pub head_case : List WordLine → ℕ → HeadCase
head_case [] end = NoHead end what.Header
head_case (first ∷ others) end = by_opening end first others (is_only (codes "#DECLARATION") first)

-- ---- what the definitions say is what `head_case` says

-- the front of right names is right
names_front : (names more : List (List ℕ)) → AreNames (names ++ more) → AreNames names
names_front names more h =
    let longer : length names ≤ length (names ++ more) = simp length-append (omega arith) in
    record {
      each = λ k d l. subst (λ z. IsTrue (is_name z)) (get_or_append_left names more d k l) (h.each k d (omega arith));
      distinct =
          λ i j d l k e. h.distinct i j d l (omega arith)
          (get_or_append_left names more d i (omega arith) ∙ e ∙ sym (get_or_append_left names more d j k));
      few = omega (arith, h.few);
    }

-- lines of declarations that are right
lines_front : (end : ℕ) (names : List (List ℕ)) (front more : List WordLine) → All (λ line. ¬ IsClosing line) front
    → AreNames (names ++ words_in front) → run_lines end names (front ++ more) ≡ run_lines end (names ++ words_in front) more
lines_front end names [] more still h = ap (λ z. run_lines end z more) (sym (append-nil names))
lines_front end names (line ∷ lines) more still h =
    let joined = append_assoc names line.words (words_in lines) in
    let all : AreNames ((names ++ line.words) ++ words_in lines) = subst AreNames (sym joined) h in
    let goes : step names line ≡ Goes (names ++ line.words) =
    step_by names line (Declared (names ++ line.words)) (All-head (λ l. ¬ IsClosing l) line lines still)
    (words_declared names line.words (names_front (names ++ line.words) (words_in lines) all)) in
    run_goes end names (names ++ line.words) line (lines ++ more) goes
    ∙ lines_front end (names ++ line.words) lines more (All-tail (λ l. ¬ IsClosing l) line lines still) all
    ∙ ap (λ z. run_lines end z more) joined

-- after lines of declarations
after_names : (lines : List WordLine) (end : ℕ) (declarations others : List WordLine) → BeginsWithNames lines declarations others
    → head_case lines end ≡ run_lines end (words_in declarations) others
unfolding head_case
after_names lines end declarations others b =
    ap (λ z. head_case z end) b.split
    ∙ ap (by_opening end b.opening (declarations ++ others)) ((is_only_decides (codes "#DECLARATION") b.opening).1 b.is_opening)
    ∙ lines_front end [] declarations others b.not_closing b.names

pub head_is : (lines : List WordLine) (end : ℕ) (names : List (List ℕ)) (body : List WordLine) → Declares lines names body
    → head_case lines end ≡ Head names body
head_is lines end names body d =
    after_names lines end d.declarations (d.closing ∷ body) d.begins
    ∙ run_closes end (words_in d.declarations) d.closing body (step_closes (words_in d.declarations) d.closing d.is_closing)
    ∙ ap (λ z. Head z body) (sym d.are)

pub name_fails : (lines : List WordLine) (end number : ℕ) (w : FileWhat) → HasFailingName lines number w
    → head_case lines end ≡ NoHead number w
name_fails lines end number w h =
    let names = words_in h.declarations in
    after_names lines end h.declarations (h.line ∷ h.more) h.begins
    ∙ run_breaks end names h.line h.more w (step_by names h.line (Stops w) h.not_closing (words_stop names h.line.words w h.word))
    ∙ ap (λ z. NoHead z w) (sym h.here)

pub header_lacks : (n : ℕ) (lines : List WordLine) (end number : ℕ) → LinesHaveFault n lines end number what.Header
    → head_case lines end ≡ NoHead number what.Header
unfolding head_case
header_lacks n lines end number (inl h) = ap (λ z. head_case z end) h.none ∙ ap (λ z. NoHead z what.Header) (sym h.here)
header_lacks n lines end number (inr (inl h)) =
    ap (λ z. head_case z end) h.split
    ∙ ap (by_opening end h.first h.others) (not_only (codes "#DECLARATION") h.first h.other)
    ∙ ap (λ z. NoHead z what.Header) (sym h.here)
header_lacks n lines end number (inr (inr h)) =
    after_names lines end h.declarations [] h.begins
    ∙ run_ends end (words_in h.declarations)
    ∙ ap (λ z. NoHead z what.Header) (sym h.here)

-- ---- what `head_case` says holds

module _ (n : ℕ) (lines : List WordLine) (end : ℕ) where
  -- a line that doesn't close the declarations, by its words
  at_words : (names : List (List ℕ)) (line : WordLine) (left : List WordLine) → HasNames lines names (line ∷ left) → ¬ IsClosing line
      → ((now : List (List ℕ)) → HasNames lines now left → IsHeadCase n lines end (run_lines end now left))
      → (c : WordsCase) → run_words names line.words ≡ c → IsWordsCase names line.words c
      → IsHeadCase n lines end (run_lines end names (line ∷ left))
  at_words names line left h other next (Declared now) is k =
      subst (IsHeadCase n lines end) (sym (run_goes end names now line left (step_by names line (Declared now) other is)))
      (next now (names_line lines names now line left h other k.0 k.1))
  at_words names line left h other next (Stops w) is k =
      subst (IsHeadCase n lines end) (sym (run_breaks end names line left w (step_by names line (Stops w) other is)))
      (failing_name n lines end names line left w h other k)

  at_line : (names : List (List ℕ)) (line : WordLine) (left : List WordLine) → HasNames lines names (line ∷ left)
      → ((now : List (List ℕ)) → HasNames lines now left → IsHeadCase n lines end (run_lines end now left))
      → (b : Bool) → is_only (codes "#END") line ≡ b → IsHeadCase n lines end (run_lines end names (line ∷ left))
  at_line names line left h next true is =
      let closes : IsClosing line = (is_only_decides (codes "#END") line).0 is in
      subst (IsHeadCase n lines end) (sym (run_closes end names line left (step_closes names line closes)))
      (names_closed lines names line left h closes)
  at_line names line left h next false is =
      let right : AreNames names = subst AreNames (sym h.are) h.begins.names in
      at_words names line left h
      (λ closes. both_ways (is_only (codes "#END") line) is ((is_only_decides (codes "#END") line).1 closes)) next
      (run_words names line.words) refl (words_hold names line.words right)

  lines_hold : (names : List (List ℕ)) (left : List WordLine) → HasNames lines names left
      → IsHeadCase n lines end (run_lines end names left)
  unfolding run_lines
  lines_hold names [] h = not_closed n lines names end h
  lines_hold names (line ∷ left) h = at_line names line left h (λ now. lines_hold now left) (is_only (codes "#END") line) refl

at_first : (n : ℕ) (first : WordLine) (others : List WordLine) (end : ℕ) (b : Bool) → is_only (codes "#DECLARATION") first ≡ b
    → IsHeadCase n (first ∷ others) end (by_opening end first others b)
at_first n first others end true is =
    lines_hold n (first ∷ others) end [] others
    (opened (first ∷ others) others first ((is_only_decides (codes "#DECLARATION") first).0 is) refl)
at_first n first others end false is =
    not_opened n (first ∷ others) others first end
    (λ opens. both_ways (is_only (codes "#DECLARATION") first) is ((is_only_decides (codes "#DECLARATION") first).1 opens)) refl

pub head_holds : (n : ℕ) (lines : List WordLine) (end : ℕ) → IsHeadCase n lines end (head_case lines end)
unfolding head_case
head_holds n [] end = no_line n [] end refl
head_holds n (first ∷ others) end = at_first n first others end (is_only (codes "#DECLARATION") first) refl
