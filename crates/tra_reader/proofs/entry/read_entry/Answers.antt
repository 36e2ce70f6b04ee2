use Rattle.std.proofs.Common.{ap, Err}
use Rattle.decimal_text.proofs.DecimalCases.{number_fault}
use Rattle.tra_reader.proofs.entry.read_entry.Goals as goal

pub returns-in-Err-clause-fault : goal.returns-in-Err-clause-fault
returns-in-Err-clause-fault c = λ entries.
    let found = c.in-Err.ensures in
    let states = c.in_ok-states.states in
    record {
      key = record { from = states.from; to = states.to };
      word = states.rate.now;
      has = c.in_ok-states.ensures.states;
      is =
          number_fault states.rate.now c.in-Err.fault (λ e. found.not_number.0 (ap Err e)) (λ e. found.too_fine.0 (ap Err e))
          (λ e. found.too_big.0 (ap Err e));
    }
