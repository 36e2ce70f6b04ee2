-- An answer by words in the place of those that are computed is one to the formula, and what is fixed of such answers is the same.
use Rattle.std.proofs.Common.{◌≡◌, ◌≢◌, ℕ, ◌<◌, ◌⊎◌, inl, inr, Bool, true, false, ◌&&◌, List, [], ◌∷◌, map, Option, Some, None, option_map, refl, sym, ap, subst, ◌∙◌, arith}
use Rattle.std.specs.List.{list_all}
use Rattle.std.proofs.lemmas.List.Elements.{All-head, All-tail}
use Rattle.ctmc_semantics.specs.Bracket.{Encloses}
use Rattle.ctmc_semantics.specs.Fraction.{Fraction}
use Rattle.ctmc_semantics.specs.Threshold.{Comparison}
use Rattle.ctmc_semantics.specs.WordBracket.{WordBracket}
use Rattle.command_words.specs.declared.command.Options.{Options}
use Rattle.nested_verdict.specs.EarlyAnswer.{EndedEarly, IsAnswerTo}
use Rattle.nested_verdict.specs.EarlyEnd.{AreDecided, MayEndEarly, is_decided, may_end_early}
use Rattle.nested_verdict.specs.FixedAnswer.{fixed_answer, fixed_shown}
use Rattle.nested_verdict.specs.FormulaAnswer.{shown_answer}
use Rattle.nested_verdict.specs.UntilAnswer.{first_answers, words_answer}
use Rattle.nested_verdict.specs.UnwatchedAnswer.{unwatched_answer, unwatched_shown}
use Rattle.nested_verdict.specs.WatchedBrackets.{bracket_of}
use Rattle.nested_verdict.specs.declared.state_answer.StateAnswer.{StateAnswer}
use Rattle.nested_verdict.proofs.ExactAnswers.{DecidesValue}
use Rattle.nested_verdict.proofs.Places.{bracket_part, decided_here, same_parts, verdict_part, verdicts_by, zipped}
use Rattle.nested_verdict.proofs.PlanWords.{first_same}
use Rattle.nested_verdict.proofs.WatchedWords.{printed_encloses}
use Rattle.nested_verdict.proofs.WiderWords.{StandIn, decided_same}
use Rattle.report.specs.Answer.{AnswerLists, ShownLists}
use Rattle.report.specs.declared.answer.Printed.{Printed}
use Rattle.report.specs.declared.answer.Verdict.{Verdict}
use Rattle.report.specs.declared.answer.Verdict.TheVariants.{Satisfied, Refuted, Undecided}

-- ---- the verdicts are those of the whole run
pub answer_verdicts : (options : Options) (due answer : AnswerLists) → IsAnswerTo options due answer → answer.verdicts ≡ due.verdicts
answer_verdicts options due answer (inl is) = ap (λ (a : AnswerLists). a.verdicts) is
answer_verdicts options due answer (inr early) = early.verdicts

-- ---- an answer by words in the place of those that are computed, each of which contains something
module _ (options : Options) (by : Comparison) (q : Fraction) (positive : 0 < q.den) (last n : ℕ) (is_goal reached : ℕ → Bool)
    (computed words : ℕ → WordBracket)
    (stand : StandIn (MayEndEarly options (verdicts_by words by q n)) n is_goal reached computed words)
    (decides : (s : ℕ) → s < n → (x : ℕ → Fraction) × DecidesValue (computed s) x) where
  abbrev at : (ℕ → WordBracket) → ℕ → StateAnswer
  at w s = words_answer by (w s) q

  abbrev whole : AnswerLists
  whole = shown_answer (Some last) [] (first_answers computed by q n)

  abbrev shown : AnswerLists
  shown = shown_answer (Some last) [] (first_answers words by q n)

  module _ (may : MayEndEarly options (verdicts_by words by q n)) where
    same_verdicts : verdicts_by words by q n ≡ verdicts_by computed by q n
    same_verdicts =
        same_parts verdict_part (at words) (at computed) 0 n
        (λ s from to.
        let inside : s < n = omega (arith, to) in
        let some = decides s inside in
        decided_same q (words s) (computed s) (stand.encloses s inside) by some.0 positive some.1
        (decided_here (at words) n may.decided s inside))

    early : EndedEarly options whole shown
    early = record {
      may = subst (MayEndEarly options) same_verdicts may;
      verdicts = same_verdicts;
      last = last;
      wide = map bracket_part (first_answers words by q n);
      narrow = map bracket_part (first_answers computed by q n);
      shown = refl;
      whole_shown = refl;
      enclose =
          zipped bracket_part (at words) (at computed) (λ outer inner. Encloses (bracket_of outer) (bracket_of inner)) 0 n
          (λ s from to. printed_encloses (words s) (computed s) (stand.encloses s (omega (arith, to))));
    }

  answer_by : MayEndEarly options (verdicts_by words by q n) ⊎ ((s : ℕ) → s < n → words s ≡ computed s)
      → IsAnswerTo options whole shown
  answer_by (inl may) = inr (early may)
  answer_by (inr all) = inl (ap (shown_answer (Some last) []) (first_same by q n words computed all))

  pub shown_answers : IsAnswerTo options whole shown
  shown_answers = answer_by stand.same

-- ---- what is fixed
all_decided : (verdicts : List Verdict) → AreDecided verdicts → list_all is_decided verdicts ≡ true
all_decided [] h = refl
all_decided (Satisfied ∷ vs) h = all_decided vs (All-tail (λ (v : Verdict). v ≢ Undecided) Satisfied vs h)
all_decided (Refuted ∷ vs) h = all_decided vs (All-tail (λ (v : Verdict). v ≢ Undecided) Refuted vs h)
all_decided (Undecided ∷ vs) h = absurd (All-head (λ (v : Verdict). v ≢ Undecided) Undecided vs h refl)

both_true : (a b : Bool) → a ≡ true → b ≡ true → a && b ≡ true
both_true true b e f = f
both_true false b e f = cc

may_end_so : (options : Options) (verdicts : List Verdict) → MayEndEarly options verdicts → may_end_early options verdicts ≡ true
may_end_so options verdicts may =
    both_true options.until_decided (list_all is_decided verdicts) may.asked (all_decided verdicts may.decided)

-- a run that may have ended early fixes no bracket
none_fixed : (may_end : Bool) → may_end ≡ true → (last : ℕ) (xs ys : List Printed)
    → fixed_shown may_end (record { horizon = Some last; watched = []; states = xs })
    ≡ fixed_shown may_end (record { horizon = Some last; watched = []; states = ys })
none_fixed true e last xs ys = refl
none_fixed false e last xs ys = cc

module _ (options : Options) where
  abbrev fixed_by : List Verdict → Option ShownLists → AnswerLists
  fixed_by vs s = fixed_answer options (record { verdicts = vs; shown = s })

  pub fixed_same : (due answer : AnswerLists) → IsAnswerTo options due answer → fixed_answer options answer ≡ fixed_answer options due
  fixed_same due answer (inl is) = ap (fixed_answer options) is
  fixed_same due answer (inr early) =
      ap (λ vs. fixed_by vs answer.shown) early.verdicts
      ∙ ap (fixed_by due.verdicts) early.shown
      ∙ ap (λ (s : ShownLists). record { verdicts = due.verdicts; shown = Some s })
      (none_fixed (may_end_early options due.verdicts) (may_end_so options due.verdicts early.may) early.last early.wide early.narrow)
      ∙ ap (fixed_by due.verdicts) (sym early.whole_shown)

  fixed_unwatched_by : (may_end : Bool) (s : Option ShownLists)
      → option_map (fixed_shown may_end) (option_map unwatched_shown s) ≡ option_map (fixed_shown may_end) s
  fixed_unwatched_by may_end None = refl
  fixed_unwatched_by may_end (Some s) = refl

  -- the brackets of the watched state are none of it
  pub fixed_unwatched : (answer : AnswerLists) → fixed_answer options (unwatched_answer answer) ≡ fixed_answer options answer
  fixed_unwatched answer =
      ap (λ (s : Option ShownLists). record { verdicts = answer.verdicts; shown = s })
      (fixed_unwatched_by (may_end_early options answer.verdicts) answer.shown)
