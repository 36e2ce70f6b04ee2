use Rattle.decimal_text.proofs.NormalForms.{normal_form_unique}
use Rattle.decimal_text.proofs.laws.normal_form_is_unique.Goals as goal

pub returns : goal.returns
returns c = normal_form_unique
