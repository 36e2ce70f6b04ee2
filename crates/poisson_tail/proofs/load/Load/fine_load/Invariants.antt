use Rattle.std.proofs.Common.{◌≡◌, ◌+◌, ◌*◌, ◌^◌, ◌<◌}
use Rattle.poisson_tail.proofs.load.Load.fine_load.Given as goal

abbrev pub invariant-loop : goal.invariant-loop
invariant-loop l = record {
  value : l.whole * l.self.den + l.rest ≡ l.self.num * 2 ^ l.counter;
  less : l.rest < l.self.den;
  small : l.whole < 2 ^ 77 * 2 ^ l.counter;
}
