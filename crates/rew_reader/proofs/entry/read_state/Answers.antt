use Rattle.std.proofs.Common.{◌+◌, ◌≤◌, min, ap, ◌∙◌, arith}
use Rattle.text_lines.specs.WholeNumber.{whole_value}
use Rattle.rew_reader.proofs.RewardKinds.{no_state}
use Rattle.text_lines.specs.Items.{row_of_line}
use Rattle.rew_reader.proofs.entry.read_state.Goals as goal
use Rattle.rew_reader.proofs.entry.read_state.Goals.{then-number-eq0-via-then-number-eq0}
use Rattle.rew_reader.proofs.entry.read_state.Goals.{then-number-eq0-via-else-number-eq0+then-number-most}

pub returns-then-number-eq0-clause-fault : goal.returns-then-number-eq0-clause-fault
returns-then-number-eq0-clause-fault c = λ entries.
    let whole = c.in-Some-whole.ensures in
    let number = c.in-Some.number.now in
    let outside : (1 ≤ c.in-Some-whole.number) × (c.in-Some-whole.number ≤ c.args.n) → ⊥ = λ h. elim c.then-number-eq0.branch [
      | then-number-eq0-via-then-number-eq0 w ↦ omega (arith, c.from-most.ensures)
      | then-number-eq0-via-else-number-eq0+then-number-most w ↦ omega (arith, c.from-most.ensures)
    ] in
    no_state c.args.n c.in-Some-whole.number (row_of_line c.args.line) number c.in-Some.reward.now c.in-Some.ensures whole.0
    (whole.1 ∙ ap (λ m. min (whole_value number) (m + 1)) c.from-most.ensures) outside
