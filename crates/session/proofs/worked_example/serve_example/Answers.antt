use Rattle.std.proofs.Common.{◌≡◌, ◌∙◌, ◌++◌, [], Some, Option, List, ℕ, map, string_bytes, ap, subst}
use Rattle.outside.specs.Shelf.{Pair}
use Rattle.session.specs.Laws.{AreNamed}
use Rattle.session.specs.Outcome.{Outcome, IsOutcome, outcome_text}
use Rattle.session.specs.WorkedExample.{example_words, example_files, example_formulas}
use Rattle.session.proofs.MemoryOr.{memory_or_then, where_refused}
use Rattle.session.proofs.WorkedExample.{are_named, outcome, is_outcome, status_is, text_is, no_other}
use Rattle.session.proofs.worked_example.serve_example.Goals as goal

-- the outcome is that of objects that hold the same
outcome_of_same : (words : List (List ℕ)) (files : List Pair) (left : List ℕ) → words ≡ example_words → files ≡ example_files
    → left ≡ example_formulas
    → IsOutcome words (Some files) (Some left) (Some []) outcome
outcome_of_same words files left e f h = rw e (rw f (rw h is_outcome))

said_of_same : (words : List (List ℕ)) (files : List Pair) (left : List ℕ) (now : Option (List ℕ)) (said : Outcome)
    → words ≡ example_words → files ≡ example_files → left ≡ example_formulas → IsOutcome words (Some files) (Some left) now said
    → said ≡ outcome
said_of_same words files left now said e f h is =
    no_other now said
    (subst (λ w. IsOutcome w (Some example_files) (Some example_formulas) now said) e
    (subst (λ x. IsOutcome words (Some x) (Some example_formulas) now said) f
    (subst (λ l. IsOutcome words (Some files) (Some l) now said) h is)))

bytes_of : (a b : List ℕ) → Some a ≡ Some b → a ≡ b
bytes_of a b e = cc

named_of_same : (words : List (List ℕ)) (files : List Pair) → words ≡ example_words → files ≡ example_files → AreNamed words files
named_of_same words files e f = rw e (rw f are_named)

pub serve_surely-status-requires-clause-named : goal.serve_surely-status-requires-clause-named
serve_surely-status-requires-clause-named g c κs within =
    let words = ap (map string_bytes) c.deref.ensures.value ∙ c.in_ok-words.ensures in
    let files = ap (λ f. f.files) c.new-files.ensures ∙ c.in_ok-files.ensures in
    named_of_same _ _ words files

pub returns-clause-status : goal.returns-clause-status
returns-clause-status g c =
    let words = ap (map string_bytes) c.deref.ensures.value ∙ c.in_ok-words.ensures in
    let files = ap (λ f. f.files) c.new-files.ensures ∙ c.in_ok-files.ensures in
    let left = ap (λ f. f.left) c.new-formulas.ensures ∙ c.in_ok-to_vec.ensures.items_if_clones_equal (λ x y e. e) in
    memory_or_then c.serve_surely-status.result _ _ (λ p. p.0 ∙ status_is)
    (c.serve_surely-status.ensures.told (Some []) outcome (outcome_of_same _ _ _ words files left))

pub returns-clause-written : goal.returns-clause-written
returns-clause-written g c = λ refused.
    let words = ap (map string_bytes) c.deref.ensures.value ∙ c.in_ok-words.ensures in
    let files = ap (λ f. f.files) c.new-files.ensures ∙ c.in_ok-files.ensures in
    let left = ap (λ f. f.left) c.new-formulas.ensures ∙ c.in_ok-to_vec.ensures.items_if_clones_equal (λ x y e. e) in
    let told = where_refused c.serve_surely-status.result _ refused
    (c.serve_surely-status.ensures.told (Some []) outcome (outcome_of_same _ _ _ words files left)) in
    let same = said_of_same _ _ _ (Some c.serve_surely-status.new.formulas.left) told.1.said words files left told.1.is_outcome in
    bytes_of _ _ told.1.text ∙ ap (λ o. c.new-out.result.written ++ outcome_text o) same
    ∙ ap (λ before. before ++ outcome_text outcome) (ap (λ o. o.written) c.new-out.ensures ∙ c.new.ensures.items) ∙ text_is
