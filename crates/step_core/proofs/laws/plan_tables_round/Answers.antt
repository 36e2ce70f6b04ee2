use Rattle.step_core.proofs.PlanTableLemmas.{low_rounds, high_rounds, bounded_high_rounds, unbounded_high_above}
use Rattle.step_core.proofs.laws.plan_tables_round.Goals as goal

pub returns-clause-low : goal.returns-clause-low
returns-clause-low c = low_rounds

pub returns-clause-high : goal.returns-clause-high
returns-clause-high c = high_rounds

pub returns-clause-bounded : goal.returns-clause-bounded
returns-clause-bounded c = λ plan tables weights bits j k s sound is are stand within inside.
    bounded_high_rounds plan tables j k s sound are stand within inside weights bits is

pub returns-clause-unbounded : goal.returns-clause-unbounded
returns-clause-unbounded c = λ plan tables j k n s sound is are stand some within inside.
    unbounded_high_above plan tables j k s sound are stand within inside n is some
