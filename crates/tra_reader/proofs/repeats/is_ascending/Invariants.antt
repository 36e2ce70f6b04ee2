use Rattle.std.proofs.Common.{ℕ, ◌+◌, ◌<◌, get_or, map}
use Rattle.tra_reader.specs.Repeats.{number_of}
use Rattle.tra_reader.proofs.repeats.is_ascending.Given as goal

abbrev pub invariant-loop-i : goal.invariant-loop-i
invariant-loop-i l = (k : ℕ) → k + 1 < l.i → get_or (map number_of l.entries) k 0 < get_or (map number_of l.entries) (k + 1) 0
