use Rattle.mix_columns.proofs.MixLawLemmas.{mix_rises}
use Rattle.mix_columns.proofs.laws.mix_rises.Goals as goal

pub returns : goal.returns
returns c = λ plan x y low high sound h i. mix_rises plan.layers plan.mix x y low high sound.mix h i
