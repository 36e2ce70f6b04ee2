use Rattle.ctmc_semantics.proofs.MixBounds.{low_end, high_end}
use Rattle.ctmc_semantics.proofs.laws.mix.mix_encloses.Goals as goal

pub returns : goal.returns
returns c = λ load total bits value low_word high_word pos some b rises capped v u n l. record {
  from_low = low_end load pos bits total value some n low_word l rises v;
  to_high = high_end load pos bits total value some n high_word l b capped u;
}
