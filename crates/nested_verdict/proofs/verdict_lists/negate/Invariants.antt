use Rattle.std.proofs.Common.{◌≡◌, ◌<◌, ◌≤◌, ℕ}
use Rattle.nested_verdict.specs.ThreeValues.{opposite_verdict, verdict_at}
use Rattle.nested_verdict.proofs.verdict_lists.negate.Given as goal

abbrev pub invariant-loop-verdict : goal.invariant-loop-verdict
invariant-loop-verdict l = record {
  done : (s : ℕ) → s < l.verdict-index → verdict_at l.verdict-items s ≡ opposite_verdict (verdict_at l.initial.verdict-items s);
  rest : (s : ℕ) → l.verdict-index ≤ s → verdict_at l.verdict-items s ≡ verdict_at l.initial.verdict-items s;
}
