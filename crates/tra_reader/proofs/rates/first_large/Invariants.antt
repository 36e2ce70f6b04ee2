use Rattle.std.proofs.Common.{take}
use Rattle.tra_reader.proofs.RateLemmas.{AreSums}
use Rattle.tra_reader.proofs.rates.first_large.Given as goal

abbrev pub invariant-loop-place : goal.invariant-loop-place
invariant-loop-place l = AreSums l.scale l.n (take l.place l.entries) l.sums.items
