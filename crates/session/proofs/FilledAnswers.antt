-- The computed answers with such brackets of the watched state as they may have, and answers of which all is fixed.
use Rattle.std.proofs.Common.{◌≡◌, ℕ, ◌<◌, Bool, true, false, ◌&&◌, List, [], ◌∷◌, length, replicate, get_or, Option, Some, None, option_map, refl, sym, ap, ◌∙◌, subst, subst₂, arith, length-append, inl, inr}
use Rattle.std.specs.List.{list_all}
use Rattle.std.specs.Prelude.{slice_get, slice_index_or}
use Rattle.std.proofs.lemmas.List.{get_or-replicate, length-replicate}
use Rattle.std.proofs.Math.Seq.{get_or-append_seam}
use Rattle.std.proofs.lemmas.Bool.{cases_lt}
use Rattle.std.proofs.lemmas.Option.{slice_get-get_or, slice_get_past}
use Rattle.ctmc_semantics.specs.Bracket.{Bracket, Encloses}
use Rattle.command_words.specs.Laws.{AreInRange}
use Rattle.command_words.specs.declared.command.Options.{Options}
use Rattle.csl_syntax.specs.CanonicalText.{formula_text}
use Rattle.csl_syntax.specs.Tree.{Tree}
use Rattle.model_core.specs.Model.{LabelledChain}
use Rattle.report.specs.Answer.{AnswerLists, ShownLists}
use Rattle.nested_verdict.specs.EarlyEnd.{is_decided, may_end_early}
use Rattle.nested_verdict.specs.FixedAnswer.{fixed_answer, fixed_shown, fixed_states}
use Rattle.nested_verdict.specs.FormulaAnswer.{formula_answer, first_refusal}
use Rattle.nested_verdict.specs.UnwatchedAnswer.{unwatched_shown, unwatched_answer}
use Rattle.session.specs.LineReply.{LineReply, Answered, Refused, IsFormulaReply}
use Rattle.nested_verdict.specs.WatchedBrackets.{bracket_of, AreTaken, AreWatchedBy, IsWatched}
use Rattle.nested_verdict.proofs.ExactFormulas.{formula_exact}
use Rattle.nested_verdict.proofs.FormulaAnswers.{formula_unwatched}
use Rattle.report.specs.declared.answer.Printed.{Printed}
use Rattle.report.specs.declared.answer.Verdict.{Verdict}
use Rattle.step_core.specs.declared.plan_error.PlanError.{PlanError}

-- ---- a bracket as often as it is asked for
encloses_itself : (b : Bracket) → Encloses b b
encloses_itself b = record { below = omega arith; above = omega arith }

module _ (count : ℕ) (printed : Printed) where
  repeated_at : (i : ℕ) (d : Printed) → i < length (replicate count printed) → get_or (replicate count printed) i d ≡ printed
  repeated_at i d l = get_or-replicate count i printed d (omega (arith, l, length-replicate count printed))

  pub repeated_taken : AreTaken printed (replicate count printed)
  repeated_taken = record {
    nested = λ i j d l m.
        subst₂ (λ a b. Encloses (bracket_of a) (bracket_of b)) (sym (repeated_at i d (omega (arith, l, m)))) (sym (repeated_at j d m))
        (encloses_itself (bracket_of printed));
    printed_last = λ earlier w e.
        let inside : length earlier < length (replicate count printed) =
        omega (arith, ap length e, length-append {A = Printed} earlier (w ∷ [])) in
        sym (get_or-append_seam earlier w [] printed)
        ∙ ap (λ l. get_or l (length earlier) printed) (sym e)
        ∙ repeated_at (length earlier) printed inside;
  }

-- ---- an answer with such brackets
abbrev pub nothing : Printed
nothing = record { low = 0; high = 0 }

abbrev filled_by : Options → Option ℕ → List Printed → List Printed
filled_by options None states = []
filled_by options (Some last) states = replicate options.watch (slice_index_or states options.state nothing)

abbrev filled_shown : Options → ShownLists → ShownLists
filled_shown options shown = record {
  horizon = shown.horizon;
  watched = filled_by options shown.horizon shown.states;
  states = shown.states;
}

abbrev pub filled_answer : Options → AnswerLists → AnswerLists
filled_answer options answer = record { verdicts = answer.verdicts; shown = option_map (filled_shown options) answer.shown }

shown_unwatched : (options : Options) (shown : Option ShownLists)
    → option_map unwatched_shown (option_map (filled_shown options) shown) ≡ option_map unwatched_shown shown
shown_unwatched options None = refl
shown_unwatched options (Some shown) = refl

-- it is the same but for them
filled_unwatched : (options : Options) (answer : AnswerLists) → unwatched_answer (filled_answer options answer) ≡ unwatched_answer answer
filled_unwatched options answer =
    ap (λ (s : Option ShownLists). record { verdicts = answer.verdicts; shown = s }) (shown_unwatched options answer.shown)

some_printed : (a b : Printed) → Some a ≡ Some b → a ≡ b
some_printed a b e = cc

none_printed : (a : Printed) → None ≡ Some a → ⊥
none_printed a e = cc

-- what is read of a list
pub read_here : (xs : List Printed) (s : ℕ) (printed : Printed) → slice_get xs s ≡ Some printed → slice_index_or xs s nothing ≡ printed
read_here xs s printed e =
    elim (cases_lt s (length xs)) [
      | inl l ↦ some_printed (slice_index_or xs s nothing) printed (sym (slice_get-get_or xs s nothing l) ∙ e)
      | inr g ↦ absurd (none_printed printed (sym (slice_get_past xs s g) ∙ e))
    ]

filled_so : (options : Options) (horizon : Option ℕ) (states : List Printed)
    → AreWatchedBy options horizon states (filled_by options horizon states)
filled_so options None states = refl
filled_so options (Some last) states = record {
  counted = length-replicate options.watch (slice_index_or states options.state nothing);
  taken = λ printed e.
      subst (λ w. AreTaken printed (replicate options.watch w)) (sym (read_here states options.state printed e))
      (repeated_taken options.watch printed);
}

some_same : (a b : ShownLists) → Some a ≡ Some b → a ≡ b
some_same a b e = cc

none_never_some : (a : ShownLists) → None ≡ Some a → ⊥
none_never_some a e = cc

filled_shown_so : (options : Options) (verdicts : List Verdict) (shown : Option ShownLists)
    → IsWatched options (filled_answer options (record { verdicts = verdicts; shown = shown }))
filled_shown_so options verdicts None = λ x e. absurd (none_never_some x e)
filled_shown_so options verdicts (Some shown) = λ x e.
    subst (λ (z : ShownLists). AreWatchedBy options z.horizon z.states z.watched) (some_same (filled_shown options shown) x e)
    (filled_so options shown.horizon shown.states)

-- ---- the reply that is computed of a formula, with such brackets
abbrev reply_unless : Option PlanError → LineReply → LineReply
reply_unless (Some refusal) reply = Refused refusal
reply_unless None reply = reply

abbrev pub computed_reply : LabelledChain → Options → Tree → LineReply
computed_reply over options f =
    reply_unless (first_refusal over options f)
    (Answered (formula_text over.names f) (filled_answer options (formula_answer over options f)))

module _ (over : LabelledChain) (options : Options) (range : AreInRange options) (state : options.state < over.chain.states)
    (f : Tree) where
  abbrev whole : AnswerLists
  whole = formula_answer over options f

  answer_is : unwatched_answer (filled_answer options whole) ≡ whole
  answer_is = filled_unwatched options whole ∙ formula_unwatched over options f

  computed_by : (refusal : Option PlanError) → first_refusal over options f ≡ refusal
      → IsFormulaReply over options f (reply_unless refusal (Answered (formula_text over.names f) (filled_answer options whole)))
  computed_by (Some refusal) e = e
  computed_by None e =
      let watched = filled_shown_so options whole.verdicts whole.shown in
      record {
        accepted = e;
        is_text = refl;
        is = inl answer_is;
        watched = watched;
        exact = formula_exact over options f (filled_answer options whole) range.bits.most state e answer_is watched;
      }

  pub is_computed : IsFormulaReply over options f (computed_reply over options f)
  is_computed = computed_by (first_refusal over options f) refl

-- ---- where no bracket is asked for, and no run may end early
no_bracket : (options : Options) → options.watch ≡ 0 → (horizon : Option ℕ) (states watched : List Printed)
    → AreWatchedBy options horizon states watched → watched ≡ []
no_bracket options none None states watched h = h
no_bracket options none (Some last) states [] h = refl
no_bracket options none (Some last) states (w ∷ ws) h = absurd (omega (arith, h.counted, none))

all_states : (may_end : Bool) → may_end ≡ false → (horizon : Option ℕ) (states : List Printed) → fixed_states may_end horizon states ≡ states
all_states may_end e None states = refl
all_states true e (Some last) states = cc
all_states false e (Some last) states = refl

never_early : (until_decided decided : Bool) → until_decided ≡ false → until_decided && decided ≡ false
never_early true decided e = cc
never_early false decided e = refl

module _ (options : Options) (none : options.watch ≡ 0) (never : options.until_decided ≡ false) where
  shown_whole : (may_end : Bool) → may_end ≡ false → (shown : Option ShownLists)
      → ((x : ShownLists) → shown ≡ Some x → AreWatchedBy options x.horizon x.states x.watched)
      → option_map (fixed_shown may_end) shown ≡ shown
  shown_whole may_end e None h = refl
  shown_whole may_end e (Some shown) h =
      ap (λ (xs : List Printed). Some (record { horizon = shown.horizon; watched = []; states = xs }))
      (all_states may_end e shown.horizon shown.states)
      ∙ ap (λ (ws : List Printed). Some (record { horizon = shown.horizon; watched = ws; states = shown.states }))
      (sym (no_bracket options none shown.horizon shown.states shown.watched (h shown refl)))

  -- an answer is fixed
  pub answer_whole : (answer : AnswerLists) → IsWatched options answer → fixed_answer options answer ≡ answer
  answer_whole answer h =
      ap (λ (s : Option ShownLists). record { verdicts = answer.verdicts; shown = s })
      (shown_whole (may_end_early options answer.verdicts)
      (never_early options.until_decided (list_all is_decided answer.verdicts) never) answer.shown h)
