use Rattle.std.proofs.Common.{◌+◌, ◌≤◌, min, ap, ◌∙◌, arith}
use Rattle.text_lines.specs.WholeNumber.{whole_value}
use Rattle.tra_reader.proofs.TransitionKinds.{no_states}
use Rattle.text_lines.specs.Items.{row_of_line}
use Rattle.tra_reader.proofs.entry.read_states.Goals as goal
use Rattle.tra_reader.proofs.entry.read_states.Goals.{then-from-eq0-via-then-from-eq0, then-from-eq0-via-else-from-eq0+then-from-most}
use Rattle.tra_reader.proofs.entry.read_states.Goals.{then-from-eq0-via-else-from-eq0+else-from-most+then-to-eq0}
use Rattle.tra_reader.proofs.entry.read_states.Goals.{then-from-eq0-via-else-from-eq0+else-from-most+else-to-eq0+then-to-most}

pub returns-then-from-eq0-clause-fault : goal.returns-then-from-eq0-clause-fault
returns-then-from-eq0-clause-fault c = λ entries.
    let from = c.in-Some-Some.ensures in
    let to = c.in-Some-Some.ensures' in
    let outside : (1 ≤ c.in-Some-Some.from) × (c.in-Some-Some.from ≤ c.args.n) × (1 ≤ c.in-Some-Some.to) × (c.in-Some-Some.to ≤ c.args.n)
    → ⊥ = λ h. elim c.then-from-eq0.branch [
      | then-from-eq0-via-then-from-eq0 w ↦ omega (arith, c.from-most.ensures)
      | then-from-eq0-via-else-from-eq0+then-from-most w ↦ omega (arith, c.from-most.ensures)
      | then-from-eq0-via-else-from-eq0+else-from-most+then-to-eq0 w ↦ omega (arith, c.from-most.ensures)
      | then-from-eq0-via-else-from-eq0+else-from-most+else-to-eq0+then-to-most w ↦ omega (arith, c.from-most.ensures)
    ] in
    no_states c.args.n c.in-Some-Some.from c.in-Some-Some.to
    (row_of_line c.args.line) c.in-Some.from.now c.in-Some.to.now c.in-Some.rate.now c.in-Some.ensures from.0 to.0
    (from.1 ∙ ap (λ m. min (whole_value c.in-Some.from.now) (m + 1)) c.from-most.ensures)
    (to.1 ∙ ap (λ m. min (whole_value c.in-Some.to.now) (m + 1)) c.from-most.ensures) outside
