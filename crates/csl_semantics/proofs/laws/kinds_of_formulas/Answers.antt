use Rattle.csl_semantics.proofs.FormulaKinds.{propositional_no_until, no_until_no_reward}
use Rattle.csl_semantics.proofs.laws.kinds_of_formulas.Goals as goal

pub returns-clause-propositional : goal.returns-clause-propositional
returns-clause-propositional c = propositional_no_until

pub returns-clause-no_until : goal.returns-clause-no_until
returns-clause-no_until c = no_until_no_reward
