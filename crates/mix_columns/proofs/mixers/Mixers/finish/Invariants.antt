use Rattle.std.proofs.Common.{◌≡◌, ℕ, ◌^◌, ◌<◌, ◌≤◌, All, List, length}
use Rattle.mix_columns.specs.Mixed.{whole_mix, words_of}
use Rattle.mix_columns.specs.MixNumbers.{StandsFor}
use Rattle.mix_columns.specs.SideBySide.{bracket_at, mixer_at}
use Rattle.mix_columns.proofs.mixers.Mixers.finish.Given as goal

abbrev pub invariant-loop-state : goal.invariant-loop-state
invariant-loop-state l = record {
  states : length l.brackets.items ≡ l.state;
  mixes :
      (s : ℕ) → s < l.state → (xs ys : List ℕ) → StandsFor l.plan (mixer_at l.fn.self s) xs ys
      → words_of (bracket_at l.brackets.items s) ≡ whole_mix l.plan xs ys;
  lower : All (λ b. b.lower ≤ 2 ^ 62) l.brackets.items;
  upper : All (λ b. b.upper ≤ 2 ^ 62) l.brackets.items;
}
