use Rattle.ctmc_semantics.proofs.MixNarrow.{narrow_mix}
use Rattle.ctmc_semantics.proofs.laws.mix.mix_is_narrow.Goals as goal

pub returns : goal.returns
returns c = λ load bits low_word high_word pos few short capped near. narrow_mix load pos bits few short low_word high_word capped near
