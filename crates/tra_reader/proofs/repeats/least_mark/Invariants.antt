use Rattle.tra_reader.proofs.RepeatLemmas.{IsLeastSoFar}
use Rattle.tra_reader.proofs.repeats.least_mark.Given as goal

abbrev pub invariant-loop-k : goal.invariant-loop-k
invariant-loop-k l = IsLeastSoFar l.keys l.k l.least
