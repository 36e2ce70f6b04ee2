use Rattle.std.proofs.Common.{◌≡◌, ◌<◌, ◌≤◌, ℕ}
use Rattle.nested_verdict.specs.ThreeValues.{either_verdict, verdict_at}
use Rattle.nested_verdict.proofs.verdict_lists.unite.Given as goal

abbrev pub invariant-loop-s : goal.invariant-loop-s
invariant-loop-s l = record {
  done : (s : ℕ) → s < l.s → verdict_at l.verdicts s ≡ either_verdict (verdict_at l.initial.verdicts s) (verdict_at l.others s);
  rest : (s : ℕ) → l.s ≤ s → verdict_at l.verdicts s ≡ verdict_at l.initial.verdicts s;
}
