use Rattle.std.proofs.Common.{◌≡◌, ℕ, ◌+◌, ◌*◌, ◌<◌, length, get_or, map}
use Rattle.tra_reader.specs.Repeats.{number_of}
use Rattle.tra_reader.specs.declared.repeats.TheConstants.{PLACES}
use Rattle.tra_reader.proofs.repeats.keys_of.Given as goal

abbrev pub invariant-loop-place : goal.invariant-loop-place
invariant-loop-place l = record {
  long : length l.keys.items ≡ l.place;
  each : (k : ℕ) → k < l.place → get_or l.keys.items k 0 ≡ get_or (map number_of l.entries) k 0 * PLACES + k;
}
