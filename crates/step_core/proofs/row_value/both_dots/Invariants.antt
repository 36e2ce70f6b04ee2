use Rattle.std.proofs.Common.{◌≡◌, ◌*◌, take}
use Rattle.std.specs.Prelude.{slice_index}
use Rattle.std.specs.List.{sum_by}
use Rattle.step_core.proofs.row_value.both_dots.Given as goal

abbrev pub invariant-loop-entry : goal.invariant-loop-entry
invariant-loop-entry l = record {
  low : l.low_dot.products ≡ sum_by (λ e. e.num * slice_index l.low e.to) (take l.entry-index l.entries);
  high : l.high_dot.products ≡ sum_by (λ e. e.num * slice_index l.high e.to) (take l.entry-index l.entries);
  low_numbers : l.low_dot.numbers ≡ sum_by (λ e. e.num) (take l.entry-index l.entries);
  high_numbers : l.high_dot.numbers ≡ sum_by (λ e. e.num) (take l.entry-index l.entries);
}
