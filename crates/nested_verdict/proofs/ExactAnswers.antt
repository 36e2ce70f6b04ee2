-- The answers that are computed are exact.
use Rattle.std.proofs.Common.{◌≡◌, ℕ, ◌<◌, ◌↔◌, Bool, true, false, IsTrue, refl, sym, ◌∙◌, arith}
use Rattle.std.proofs.lemmas.Bool.{false≢true}
use Rattle.ctmc_semantics.specs.Bracket.{Bracket, HasEnds, ContainsProbability, printed_bracket}
use Rattle.ctmc_semantics.specs.Compared.{meets_threshold}
use Rattle.ctmc_semantics.specs.Fraction.{Fraction, ◌≼◌}
use Rattle.ctmc_semantics.specs.RoundedOut.{IsRoundedOut}
use Rattle.ctmc_semantics.specs.Threshold.{Comparison, MeetsThreshold, opposite}
use Rattle.ctmc_semantics.specs.Units.{units_down, units_up}
use Rattle.ctmc_semantics.specs.Value.{ValueMeets, ValueFails}
use Rattle.ctmc_semantics.specs.VerdictLaws.{Decides}
use Rattle.ctmc_semantics.specs.Verdict.{last_to_meet, BracketSatisfies, BracketRefutes}
use Rattle.ctmc_semantics.specs.WordBracket.{WordBracket, word_bracket, settle}
use Rattle.ctmc_semantics.proofs.ContainsLemmas.{enclosing_contains, rounded_down, rounded_up, rounded_out_encloses}
use Rattle.ctmc_semantics.proofs.Thresholds.{test_right}
use Rattle.ctmc_semantics.proofs.VerdictLemmas.{failing_not_meeting, probability_decided, undecided_inside}
use Rattle.nested_verdict.specs.BracketAnswer.{decided_verdict, bracket_verdict, bracket_answer, printed_units}
use Rattle.nested_verdict.specs.ExactState.{IsExactNext, IsExactUntil, IsSettled}
use Rattle.nested_verdict.specs.UntilAnswer.{words_answer}
use Rattle.nested_verdict.proofs.Widening.{Widens}
use Rattle.report.specs.declared.answer.Verdict.{Verdict}
use Rattle.report.specs.declared.answer.Verdict.TheVariants.{Satisfied, Refuted, Undecided}

satisfied_not_refuted : Satisfied ≡ Refuted → ⊥
satisfied_not_refuted e = cc

satisfied_not_undecided : Satisfied ≡ Undecided → ⊥
satisfied_not_undecided e = cc

refuted_not_undecided : Refuted ≡ Undecided → ⊥
refuted_not_undecided e = cc

-- the verdict says exactly which of two facts holds that exclude each other
pub record Says (verdict : Verdict) (S R : Type 0) : Type 0 where
  pub satisfied : (verdict ≡ Satisfied) ↔ S
  pub refuted : (verdict ≡ Refuted) ↔ R

tests_say : (s r : Bool) (S R : Type 0) → IsTrue s ↔ S → IsTrue r ↔ R → (S → R → ⊥) → Says (decided_verdict s r) S R
tests_say true r S R by_s by_r apart = record {
  satisfied = ((λ _. by_s.0 refl), (λ _. refl));
  refuted = ((λ e. absurd (satisfied_not_refuted e)), (λ h. absurd (apart (by_s.0 refl) h)));
}
tests_say false true S R by_s by_r apart = record {
  satisfied = ((λ e. absurd (satisfied_not_refuted (sym e))), (λ h. absurd (false≢true (by_s.1 h))));
  refuted = ((λ _. by_r.0 refl), (λ _. refl));
}
tests_say false false S R by_s by_r apart = record {
  satisfied = ((λ e. absurd (satisfied_not_undecided (sym e))), (λ h. absurd (false≢true (by_s.1 h))));
  refuted = ((λ e. absurd (refuted_not_undecided (sym e))), (λ h. absurd (false≢true (by_r.1 h))));
}

pub bracket_says : (by : Comparison) (b : Bracket) (q : Fraction) → (BracketSatisfies by b q → BracketRefutes by b q → ⊥)
    → Says (bracket_verdict by b q) (BracketSatisfies by b q) (BracketRefutes by b q)
bracket_says by b q apart =
    tests_say (meets_threshold by (last_to_meet by b) q) (meets_threshold (opposite by) (last_to_meet (opposite by) b) q)
    (BracketSatisfies by b q) (BracketRefutes by b q) (test_right by (last_to_meet by b) q)
    (test_right (opposite by) (last_to_meet (opposite by) b) q) apart

-- ---- next
-- what a bracket with a number in it shows of a threshold excludes the opposite
module _ (by : Comparison) (b : Bracket) (q : Fraction) (ends : HasEnds b) (positive : 0 < q.den) (ordered : b.low ≼ b.high) where
  decides_low : Decides b (λ by q. MeetsThreshold by b.low q) (λ by q. ¬ MeetsThreshold by b.low q)
  decides_low = probability_decided b b.low ends ends.low (record { from_low = omega arith; to_high = ordered })

  pub next_answer_exact : IsExactNext by b q (bracket_answer by b q)
  next_answer_exact =
      let says = bracket_says by b q (λ s r. decides_low.refuted by q positive r (decides_low.satisfied by q positive s)) in
      record {
        low = rounded_down b.low ends.low;
        high = rounded_up b.high ends.high;
        satisfied = says.satisfied;
        refuted = says.refuted;
      }

-- each number in a bracket lies in it as it is printed
pub printed_contains : (b : Bracket) (p : Fraction) → HasEnds b → ContainsProbability b p
    → ContainsProbability (printed_bracket (units_down b.low) (units_up b.high)) p
printed_contains b p ends contains =
    enclosing_contains _ b p ends
    (rounded_out_encloses b (units_down b.low) (units_up b.high)
    (record { down = rounded_down b.low ends.low; up = rounded_up b.high ends.high })) contains

-- ---- until
-- what needs no counting is printed exactly
pub is_settled : (is_goal reached : Bool) (mixed : WordBracket) (sure out_of_reach : Type 0) → (sure → is_goal ≡ true)
    → (out_of_reach → (is_goal ≡ false) × (reached ≡ false))
    → IsSettled sure out_of_reach (printed_units (word_bracket (settle is_goal reached mixed)))
is_settled true reached mixed sure out s o = record { one = λ h. (refl, refl); none = λ h. absurd (false≢true (sym (o h).0)) }
is_settled false true mixed sure out s o = record {
  one = λ h. absurd (false≢true (s h));
  none = λ h. absurd (false≢true (sym (o h).1));
}
is_settled false false mixed sure out s o = record { one = λ h. absurd (false≢true (s h)); none = λ h. (refl, refl) }

pub words_have_ends : (w : WordBracket) → HasEnds (word_bracket w)
words_have_ends w = record { low = omega arith; high = omega arith }

-- the bracket decides thresholds on the value of x
abbrev pub DecidesValue : WordBracket → (ℕ → Fraction) → Type 0
DecidesValue w x = Decides (word_bracket w) (λ by q. ValueMeets by x q) (λ by q. ValueFails by x q)

-- by some values that the bracket decides, and by each that the operands give
module _ (by : Comparison) (Each : ((ℕ → Fraction) → Type 0) → Type 0) (Contains : Bracket → (ℕ → Fraction) → Type 0)
    (AreNear : WordBracket → Type 0) (q : Fraction) (w : WordBracket) (positive : 0 < q.den)
    (more : (P Q : (ℕ → Fraction) → Type 0) → ((x : ℕ → Fraction) → P x → Q x) → Each P → Each Q)
    (widens : (x : ℕ → Fraction) → Widens (λ b. Contains b x)) (some : ℕ → Fraction) (decides : DecidesValue w some)
    (each_decides : Each (DecidesValue w)) (contains : Each (Contains (word_bracket w))) where
  abbrev b : Bracket
  b = word_bracket w

  ends : HasEnds b
  ends = words_have_ends w

  says : Says (bracket_verdict by b q) (BracketSatisfies by b q) (BracketRefutes by b q)
  says = bracket_says by b q (λ s r. failing_not_meeting by some q (decides.refuted by q positive r) (decides.satisfied by q positive s))

  printed : IsRoundedOut b (units_down b.low) (units_up b.high)
  printed = record { down = rounded_down b.low ends.low; up = rounded_up b.high ends.high }

  open_threshold : bracket_verdict by b q ≡ Undecided → (¬ BracketSatisfies by b q) × (¬ BracketRefutes by b q)
  open_threshold e =
      ((λ s. satisfied_not_undecided (sym (says.satisfied.1 s) ∙ e)), (λ r. refuted_not_undecided (sym (says.refuted.1 r) ∙ e)))

  pub words_exact : (sure out_of_reach : Type 0) → AreNear w → IsSettled sure out_of_reach (printed_units b)
      → IsExactUntil by Each (λ b. Each (Contains b)) AreNear sure out_of_reach q (words_answer by w q)
  words_exact sure out_of_reach near settled =
      let encloses = rounded_out_encloses b (units_down b.low) (units_up b.high) printed in
      record {
        contains = more _ _ (λ x h. widens x _ b ends encloses h) contains;
        meets = λ e. more _ _ (λ x (d : DecidesValue w x). d.satisfied by q positive (says.satisfied.0 e)) each_decides;
        fails = λ e. more _ _ (λ x (d : DecidesValue w x). d.refuted by q positive (says.refuted.0 e)) each_decides;
        undecided = λ e.
            let left = open_threshold e in
            enclosing_contains _ b q ends encloses (undecided_inside by b q left.0 left.1);
        tight = record {
          words = w;
          contains = contains;
          near = near;
          printed = printed;
          satisfied = says.satisfied;
          refuted = says.refuted;
        };
        settled = settled;
      }
