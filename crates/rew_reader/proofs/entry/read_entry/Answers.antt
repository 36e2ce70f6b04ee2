use Rattle.std.proofs.Common.{ap, Err}
use Rattle.decimal_text.proofs.DecimalCases.{number_fault}
use Rattle.model_core.specs.StateNumber.{state_number}
use Rattle.rew_reader.proofs.entry.read_entry.Goals as goal

pub returns-in-Err-clause-fault : goal.returns-in-Err-clause-fault
returns-in-Err-clause-fault c = λ entries.
    let found = c.in-Err.ensures in
    let word = c.in_ok-word.word.reward.now in
    record {
      key = state_number c.in_ok-word.word.state;
      word = word;
      has = c.in_ok-word.ensures.state;
      is =
          number_fault word c.in-Err.fault (λ e. found.not_number.0 (ap Err e)) (λ e. found.too_fine.0 (ap Err e))
          (λ e. found.too_big.0 (ap Err e));
    }
