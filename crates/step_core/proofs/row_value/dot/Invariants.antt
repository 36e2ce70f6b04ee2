use Rattle.std.proofs.Common.{◌≡◌, ◌*◌, take}
use Rattle.std.specs.Prelude.{slice_index}
use Rattle.std.specs.List.{sum_by}
use Rattle.step_core.proofs.row_value.dot.Given as goal

abbrev pub invariant-loop-entry : goal.invariant-loop-entry
invariant-loop-entry l = record {
  products : l.dot.products ≡ sum_by (λ e. e.num * slice_index l.words e.to) (take l.entry-index l.entries);
  numbers : l.dot.numbers ≡ sum_by (λ e. e.num) (take l.entry-index l.entries);
}
