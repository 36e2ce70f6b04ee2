use Rattle.std.proofs.Common.{◌≡◌, length}
use Rattle.engine_bench.proofs.until.sets.Given as goal

-- each state so far has its truth value
abbrev pub invariant-loop-s : goal.invariant-loop-s
invariant-loop-s l = length l.goal.items ≡ l.s
