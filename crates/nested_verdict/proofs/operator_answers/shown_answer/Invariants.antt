use Rattle.std.proofs.Common.{◌≡◌, map, take}
use Rattle.nested_verdict.proofs.operator_answers.shown_answer.Given as goal

abbrev pub invariant-loop-state : goal.invariant-loop-state
invariant-loop-state l = record {
  verdicts : l.verdicts.items ≡ map (λ a. a.verdict) (take l.state-index l.states);
  brackets : l.brackets.items ≡ map (λ a. a.bracket) (take l.state-index l.states);
}
