-- An answer has the brackets of the watched state that it should.
use Rattle.std.proofs.Common.{◌≡◌, List, [], ◌∷◌, length, Some, None, refl, sym, ap, subst, ◌∙◌, arith, length-append}
use Rattle.command_words.specs.declared.command.Options.{Options}
use Rattle.csl_syntax.specs.Tree.{Tree, truth, falsehood, label, negation, conjunction, disjunction, next, until}
use Rattle.model_core.specs.Model.{LabelledChain}
use Rattle.report.specs.Answer.{AnswerLists, ShownLists}
use Rattle.report.specs.declared.answer.Printed.{Printed}
use Rattle.report.specs.declared.answer.Verdict.{Verdict}
use Rattle.nested_verdict.specs.ExactAnswer.{unwatched}
use Rattle.nested_verdict.specs.FormulaAnswer.{formula_answer}
use Rattle.nested_verdict.specs.WatchedBrackets.{AreTakenOf, AreWatchedBy, IsWatched}

some_same : (a b : ShownLists) → Some a ≡ Some b → a ≡ b
some_same a b e = cc

none_never_some : (a : ShownLists) → None ≡ Some a → ⊥
none_never_some a e = cc

-- one that shows brackets has those of the watched state
pub shown_is_watched : (options : Options) (answer : AnswerLists) (verdicts : List Verdict) (shown : ShownLists)
    → answer ≡ record { verdicts = verdicts; shown = Some shown } → AreWatchedBy options shown.horizon shown.states shown.watched
    → IsWatched options answer
shown_is_watched options answer verdicts shown is h =
    subst (IsWatched options) (sym is)
    (λ x e. subst (λ (z : ShownLists). AreWatchedBy options z.horizon z.states z.watched) (some_same shown x e) h)

-- one that shows none has none
pub unshown_is_watched : (options : Options) (answer : AnswerLists) (verdicts : List Verdict)
    → answer ≡ record { verdicts = verdicts; shown = None } → IsWatched options answer
unshown_is_watched options answer verdicts is = subst (IsWatched options) (sym is) (λ x e. absurd (none_never_some x e))

none_taken : (options : Options) (states : List Printed) → AreTakenOf (unwatched options) states []
none_taken options states = record {
  counted = refl;
  taken = λ printed e. record {
    nested = λ i j d l m. absurd (omega (arith, m));
    printed_last = λ earlier w same. absurd (omega (arith, ap length same, length-append {A = Printed} earlier (w ∷ [])));
  };
}

-- and what is computed of an operand
module _ (over : LabelledChain) (options : Options) where
  abbrev pub inside : Tree → AnswerLists
  inside f = formula_answer over (unwatched options) f

  unshown : (f : Tree) → (inside f).shown ≡ None → IsWatched (unwatched options) (inside f)
  unshown f e x is = absurd (none_never_some x (sym e ∙ is))

  shown_so : (f : Tree) (shown : ShownLists) → (inside f).shown ≡ Some shown
      → AreWatchedBy (unwatched options) shown.horizon shown.states shown.watched → IsWatched (unwatched options) (inside f)
  shown_so f shown e h x is =
      subst (λ (z : ShownLists). AreWatchedBy (unwatched options) z.horizon z.states z.watched) (some_same shown x (sym e ∙ is)) h

  pub inside_watched : (f : Tree) → IsWatched (unwatched options) (inside f)
  inside_watched truth = unshown truth refl
  inside_watched falsehood = unshown falsehood refl
  inside_watched (label j) = unshown (label j) refl
  inside_watched (negation f) = unshown (negation f) refl
  inside_watched (conjunction f g) = unshown (conjunction f g) refl
  inside_watched (disjunction f g) = unshown (disjunction f g) refl
  inside_watched (next op q f) = shown_so (next op q f) _ refl refl
  inside_watched (until op q f bound g) = shown_so (until op q f bound g) _ refl (none_taken options _)
