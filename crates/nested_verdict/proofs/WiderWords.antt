-- Words that stand in the place of those that are computed: the same, or wider ones where the run ended early.
use Rattle.std.proofs.Common.{◌≡◌, ◌≢◌, ℕ, ◌<◌, ◌⊎◌, inl, inr, Bool, refl, sym, arith}
use Rattle.std.proofs.Math.Nat.{mul-le-mul_right}
use Rattle.ctmc_semantics.specs.Bracket.{Bracket}
use Rattle.ctmc_semantics.specs.Fraction.{Fraction}
use Rattle.ctmc_semantics.specs.Threshold.{Comparison, Less, AtMost, More, AtLeast, opposite}
use Rattle.ctmc_semantics.specs.Verdict.{BracketSatisfies, BracketRefutes}
use Rattle.ctmc_semantics.specs.WordBracket.{WordBracket, word_bracket, settle}
use Rattle.ctmc_semantics.proofs.VerdictLemmas.{failing_not_meeting}
use Rattle.mix_columns.specs.MixLaws.{EnclosesWords}
use Rattle.mix_columns.proofs.PlanUntilLemmas.{to_encloses}
use Rattle.nested_verdict.specs.BracketAnswer.{bracket_verdict}
use Rattle.nested_verdict.proofs.ExactAnswers.{DecidesValue, Says, bracket_says, words_have_ends}
use Rattle.nested_verdict.proofs.Widening.{Widens}
use Rattle.report.specs.declared.answer.Verdict.{Verdict}
use Rattle.report.specs.declared.answer.Verdict.TheVariants.{Satisfied, Refuted, Undecided}

pub encloses_itself : (words : WordBracket) → EnclosesWords words words
encloses_itself words = record { lower = omega arith; upper = omega arith }

-- ---- in the place of the computed words of one state
pub record StandsIn (ended : Type 0) (is_goal reached : Bool) (computed words : WordBracket) : Type 0 where
  pub encloses : EnclosesWords words computed
  pub settled : words ≡ settle is_goal reached words
  pub same : ended ⊎ (words ≡ computed)

-- of each of n states
pub record StandIn (ended : Type 0) (n : ℕ) (is_goal reached : ℕ → Bool) (computed words : ℕ → WordBracket) : Type 0 where
  pub encloses : (s : ℕ) → s < n → EnclosesWords (words s) (computed s)
  pub settled : (s : ℕ) → s < n → words s ≡ settle (is_goal s) (reached s) (words s)
  pub same : ended ⊎ ((s : ℕ) → s < n → words s ≡ computed s)

module _ (ended : Type 0) (n : ℕ) (is_goal reached : ℕ → Bool) (computed words : ℕ → WordBracket)
    (stand : StandIn ended n is_goal reached computed words) (s : ℕ) (inside : s < n) where
  pub stands_at : StandsIn ended (is_goal s) (reached s) (computed s) (words s)
  stands_at = record {
    encloses = stand.encloses s inside;
    settled = stand.settled s inside;
    same = elim stand.same [ inl early ↦ inl early | inr all ↦ inr (all s inside) ];
  }

-- what the computed words contain, those in their place do
pub wider_contains : (Contains : Bracket → Type 0) → Widens Contains → (outer inner : WordBracket) → EnclosesWords outer inner
    → Contains (word_bracket inner) → Contains (word_bracket outer)
wider_contains Contains widens outer inner encloses contains =
    widens (word_bracket outer) (word_bracket inner) (words_have_ends inner) (to_encloses outer inner encloses) contains

-- ---- what a bracket shows of a threshold, each bracket in it shows
module _ (q : Fraction) (outer inner : WordBracket) (encloses : EnclosesWords outer inner) where
  satisfies_inside : (by : Comparison) → BracketSatisfies by (word_bracket outer) q → BracketSatisfies by (word_bracket inner) q
  satisfies_inside Less h = omega (arith, h, mul-le-mul_right q.den encloses.upper)
  satisfies_inside AtMost h = omega (arith, h, mul-le-mul_right q.den encloses.upper)
  satisfies_inside More h = omega (arith, h, mul-le-mul_right q.den encloses.lower)
  satisfies_inside AtLeast h = omega (arith, h, mul-le-mul_right q.den encloses.lower)

  -- what is shown here is shown there
  told_same : (v w : Verdict) (S R T U : Type 0) → Says v S R → Says w T U → (S → T) → (R → U) → v ≢ Undecided → v ≡ w
  told_same Satisfied w S R T U here there f g decided = sym (there.satisfied.1 (f (here.satisfied.0 refl)))
  told_same Refuted w S R T U here there f g decided = sym (there.refuted.1 (g (here.refuted.0 refl)))
  told_same Undecided w S R T U here there f g decided = absurd (decided refl)

  -- so where the outer bracket decides, both show the same, if the inner one contains something
  pub decided_same : (by : Comparison) (x : ℕ → Fraction) → 0 < q.den → DecidesValue inner x
      → bracket_verdict by (word_bracket outer) q ≢ Undecided
      → bracket_verdict by (word_bracket outer) q ≡ bracket_verdict by (word_bracket inner) q
  decided_same by x positive decides decided =
      let apart : BracketSatisfies by (word_bracket inner) q → BracketRefutes by (word_bracket inner) q → ⊥ =
      λ s r. failing_not_meeting by x q (decides.refuted by q positive r) (decides.satisfied by q positive s) in
      told_same (bracket_verdict by (word_bracket outer) q) (bracket_verdict by (word_bracket inner) q)
      (BracketSatisfies by (word_bracket outer) q) (BracketRefutes by (word_bracket outer) q)
      (BracketSatisfies by (word_bracket inner) q) (BracketRefutes by (word_bracket inner) q)
      (bracket_says by (word_bracket outer) q (λ s r. apart (satisfies_inside by s) (satisfies_inside (opposite by) r)))
      (bracket_says by (word_bracket inner) q apart) (satisfies_inside by) (satisfies_inside (opposite by)) decided
