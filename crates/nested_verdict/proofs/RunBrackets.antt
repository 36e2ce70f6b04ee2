-- The brackets of all states that a run gives back.
use Rattle.std.proofs.Common.{◌≡◌, ◌≢◌, ℕ, inr, Bool, true, IsTrue, List, sym, ap, subst, ◌∙◌}
use Rattle.std.specs.List.{list_all}
use Rattle.std.proofs.lemmas.Bool.{false≢true}
use Rattle.std.proofs.lemmas.List.Sums.{AllPass-from_list_all}
use Rattle.column_workers.specs.Watched.{AreWatched}
use Rattle.ctmc_semantics.specs.Fraction.{Fraction}
use Rattle.ctmc_semantics.specs.Sets.{holds_at}
use Rattle.ctmc_semantics.specs.Threshold.{Comparison}
use Rattle.ctmc_semantics.specs.WordBracket.{WordBracket, word_bracket}
use Rattle.mix_columns.specs.Mixed.{one_thread_words, plan_mix, plan_settle, words_of}
use Rattle.mix_columns.specs.MixLaws.{EnclosesWords}
use Rattle.mix_columns.proofs.MixLawLemmas.{settle_again}
use Rattle.reader_pass.specs.StateBrackets.{AreBrackets, AreOneThread, AreRead}
use Rattle.report.specs.declared.answer.Verdict.{Verdict}
use Rattle.report.specs.declared.answer.Verdict.TheVariants.{Undecided}
use Rattle.step_core.specs.PlanLists.{PlanLists}
use Rattle.step_core.specs.PlanTables.{plan_low, plan_high}
use Rattle.step_core.specs.declared.bracket.Bracket.{Bracket}
use Rattle.nested_verdict.specs.BracketAnswer.{bracket_verdict}
use Rattle.nested_verdict.specs.EarlyEnd.{is_decided}
use Rattle.nested_verdict.specs.UntilBrackets.{AllDecide, AreTakenOfState, AreUntilBrackets, EnclosesOneThread}
use Rattle.nested_verdict.proofs.WiderWords.{encloses_itself}

-- a verdict that decides isn't undecided
decided_apart : (verdict : Verdict) → is_decided verdict ≡ true → verdict ≢ Undecided
decided_apart verdict decided e = false≢true (sym (ap is_decided e) ∙ decided)

-- brackets each of which is narrow enough all decide
pub all_decide : (by : Comparison) (q : Fraction) (brackets : List Bracket)
    → IsTrue (list_all (λ (b : Bracket). is_decided (bracket_verdict by (word_bracket (words_of b)) q)) brackets)
    → AllDecide by q brackets
all_decide by q brackets narrow =
    let each = AllPass-from_list_all (λ (b : Bracket). is_decided (bracket_verdict by (word_bracket (words_of b)) q)) brackets narrow in
    λ i d l. decided_apart _ (each i d l)

-- brackets that a pass read enclose those that one thread computes
pub read_enclose : (plan : PlanLists) (notes : List ℕ) (brackets : List Bracket) → AreRead plan notes brackets
    → AreBrackets plan (EnclosesOneThread plan) brackets
read_enclose plan notes brackets read = record {
  each_state = read.each_state;
  words = λ s l. record { encloses = (read.words s l).encloses; settled = (read.words s l).settled };
  lower_words = read.lower_words;
  upper_words = read.upper_words;
}

-- and so do these themselves
pub one_enclose : (plan : PlanLists) (brackets : List Bracket) → AreOneThread plan brackets
    → AreBrackets plan (EnclosesOneThread plan) brackets
one_enclose plan brackets one = record {
  each_state = one.each_state;
  words = λ s l.
      record {
        encloses =
            subst (λ w. EnclosesWords w (one_thread_words plan s)) (sym (one.words s l)) (encloses_itself (one_thread_words plan s));
        settled =
            one.words s l
            ∙ settle_again (holds_at plan.frame.sets.goal_must s) (holds_at plan.reach s)
            (plan_mix plan (λ k. plan_low plan k s) (λ k. plan_high plan k s))
            ∙ ap (plan_settle plan s) (sym (one.words s l));
      };
  lower_words = one.lower_words;
  upper_words = one.upper_words;
}

-- brackets of a whole run are those of an until
pub whole_are : (plan : PlanLists) (until_decided : Bool) (by : Comparison) (q : Fraction) (brackets : List Bracket)
    → AreOneThread plan brackets → AreUntilBrackets plan until_decided by q brackets
whole_are plan until_decided by q brackets one = record { enclose = one_enclose plan brackets one; ended = inr one }

-- what was taken of the watched state while the words came to be these
pub taken_while : (plan : PlanLists) (s wanted : ℕ) (outer final words : WordBracket) (watched : List Bracket) → final ≡ words
    → AreWatched plan s wanted outer final watched → AreTakenOfState wanted words watched
taken_while plan s wanted outer final words watched same are = record {
  counted = are.count;
  nested = are.taken.nested;
  last = λ earlier w e. are.last earlier w e ∙ same;
  lower_words = are.taken.lower_words;
  upper_words = are.taken.upper_words;
}
