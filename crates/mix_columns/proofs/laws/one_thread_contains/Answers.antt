use Rattle.mix_columns.proofs.PlanUntilLemmas.{encloses_until, tables_contain, tables_narrow, tables_near}
use Rattle.mix_columns.proofs.laws.one_thread_contains.Goals as goal

pub returns-clause-contains : goal.returns-clause-contains
returns-clause-contains c = λ plan s sound inside. tables_contain plan sound s inside

pub returns-clause-enclosing : goal.returns-clause-enclosing
returns-clause-enclosing c = encloses_until

pub returns-clause-narrow : goal.returns-clause-narrow
returns-clause-narrow c = λ plan load weights bits s j sound is fits known stand some inside.
    tables_narrow plan sound s inside weights bits is load fits known j stand some

pub returns-clause-near : goal.returns-clause-near
returns-clause-near c = λ plan s j sound is known stand some inside. tables_near plan sound s inside is known j stand some
