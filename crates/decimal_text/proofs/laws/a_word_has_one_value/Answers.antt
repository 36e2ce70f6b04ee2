use Rattle.decimal_text.proofs.Values.{one_value}
use Rattle.decimal_text.proofs.laws.a_word_has_one_value.Goals as goal

pub returns : goal.returns
returns c = one_value
