use Rattle.std.proofs.Common.{true, ◌∙◌}
use Rattle.model_core.proofs.model.Model.exit.Goals as goal

pub returns-clause-value : goal.returns-clause-value
returns-clause-value c = c.rate_sum.ensures ∙ c.row.ensures.rates_into (λ _. true)
