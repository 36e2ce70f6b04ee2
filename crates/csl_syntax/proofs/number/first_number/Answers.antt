use Rattle.decimal_text.proofs.DecimalCases.{number_fault}
use Rattle.std.proofs.Common.{ap, ◌∙◌}
use Rattle.std.specs.Prelude.{Err}
use Rattle.csl_syntax.proofs.number.first_number.Goals as goal

pub returns-in-Err : goal.returns-in-Err
returns-in-Err c =
    let split = c.split_number in
    record {
      text = split.result.0.now;
      more = split.result.1.now;
      longest = split.ensures.longest;
      number = split.ensures.number;
      fault = c.in-Err.field-0;
      has = number_fault split.result.0.now c.in-Err.field-0 (λ e. c.read.ensures.not_number.0 (c.in-Err.is ∙ ap Err e))
          (λ e. c.read.ensures.too_fine.0 (c.in-Err.is ∙ ap Err e)) (λ e. c.read.ensures.too_big.0 (c.in-Err.is ∙ ap Err e));
    }
