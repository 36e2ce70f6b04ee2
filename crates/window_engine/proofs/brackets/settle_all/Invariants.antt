use Rattle.std.proofs.Common.{◌≡◌, ℕ, ◌^◌, ◌<◌, ◌≤◌, All, length}
use Rattle.mix_columns.specs.Mixed.{plan_settle, words_of}
use Rattle.mix_columns.specs.SideBySide.{bracket_at}
use Rattle.window_engine.proofs.brackets.settle_all.Given as goal

abbrev pub invariant-loop-state : goal.invariant-loop-state
invariant-loop-state l = record {
  states : length l.brackets.items ≡ length l.initial.brackets.items;
  done :
      (s : ℕ) → s < l.state
      → words_of (bracket_at l.brackets.items s) ≡ plan_settle l.plan s (words_of (bracket_at l.initial.brackets.items s));
  rest : (s : ℕ) → l.state ≤ s → bracket_at l.brackets.items s ≡ bracket_at l.initial.brackets.items s;
  lower : All (λ b. b.lower ≤ 2 ^ 62) l.brackets.items;
  upper : All (λ b. b.upper ≤ 2 ^ 62) l.brackets.items;
}
