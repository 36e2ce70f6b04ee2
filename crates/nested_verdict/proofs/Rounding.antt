-- Printed numbers are probabilities, and the answers of next operators.
use Rattle.std.proofs.Common.{◌≡◌, ℕ, suc, ◌+◌, ◌*◌, ◌/◌, ◌<◌, ◌≤◌, max, Bool, List, [], ◌∷◌, ◌++◌, sym, ap, ◌∙◌, arith}
use Rattle.std.proofs.Math.Nat.{div-mul-le_self, le_of_mul-le-mul_right, lt_of_mul-lt-mul_right, mul-le-mul_left}
use Rattle.std.proofs.lemmas.Grind.{div_ceil_times}
use Rattle.std.specs.Int.{div_ceil}
use Rattle.std.proofs.lemmas.List.FromFn.{map-range_with_len_more}
use Rattle.ctmc_semantics.specs.Chain.{Chain, exit_rate}
use Rattle.ctmc_semantics.specs.Fraction.{Fraction, fraction}
use Rattle.ctmc_semantics.specs.Next.{rate_into}
use Rattle.ctmc_semantics.specs.Threshold.{Comparison}
use Rattle.nested_verdict.specs.BracketAnswer.{bracket_answer}
use Rattle.nested_verdict.specs.NextAnswer.{next_bracket, first_answers}
use Rattle.nested_verdict.specs.declared.state_answer.StateAnswer.{StateAnswer}

-- of at most the whole, each part in units is at most all units
module _ (unit num den : ℕ) (positive : 0 < den) (within : num ≤ den) where
  pub low_within : num * unit / den ≤ unit
  low_within = le_of_mul-le-mul_right {k = den} (omega (arith, div-mul-le_self (num * unit) den, mul-le-mul_left unit within)) positive

  pub high_within : div_ceil (num * unit) den ≤ unit
  high_within =
      let below : div_ceil (num * unit) den < suc unit =
      lt_of_mul-lt-mul_right den (omega (arith, (div_ceil_times (num * unit) den positive).1, mul-le-mul_left unit within)) in
      omega (arith, below)

-- the answers at the first states and the next one
pub answers_more : (chain : Chain) (must may : ℕ → Bool) (comparison : Comparison) (q : Fraction) (s low high den : ℕ)
    (old : List StateAnswer) (answer : StateAnswer)
    → old ≡ first_answers chain must may comparison q s → low ≡ rate_into chain must s → high ≡ rate_into chain may s
    → den ≡ max 1 (exit_rate chain s)
    → answer ≡ bracket_answer comparison (record { low = fraction low den; high = fraction high den }) q
    → old ++ answer ∷ [] ≡ first_answers chain must may comparison q (s + 1)
answers_more chain must may comparison q s low high den old answer so_far into may_into out is =
    let by = λ (l h d : ℕ). bracket_answer comparison (record { low = fraction l d; high = fraction h d }) q in
    ap (λ l. l ++ answer ∷ []) so_far
    ∙ ap (λ a. first_answers chain must may comparison q s ++ a ∷ [])
    (is ∙ ap (λ l. by l high den) into ∙ ap (λ h. by (rate_into chain must s) h den) may_into
    ∙ ap (by (rate_into chain must s) (rate_into chain may s)) out)
    ∙ sym (map-range_with_len_more (λ t. bracket_answer comparison (next_bracket chain must may t) q) 0 s s (omega arith))
