use Rattle.decimal_text.proofs.Values.{some_value}
use Rattle.decimal_text.proofs.laws.each_number_has_a_value.Goals as goal

pub returns : goal.returns
returns c = some_value
