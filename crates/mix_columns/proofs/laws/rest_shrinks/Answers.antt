use Rattle.mix_columns.proofs.MixLawLemmas.{front_shrinks, front_encloses}
use Rattle.mix_columns.proofs.laws.rest_shrinks.Goals as goal

pub returns-clause-rest : goal.returns-clause-rest
returns-clause-rest c = λ plan xs ys j sound words low high. front_shrinks plan xs ys j sound words

pub returns-clause-whole : goal.returns-clause-whole
returns-clause-whole c = λ plan xs ys j sound words low high. front_encloses plan xs ys j sound words high
