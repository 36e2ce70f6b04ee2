-- What is true of each machine, whatever plan it is of: the sizes of its lists, which the getters and the numbers of passes rest on.
use Rattle.std.specs.Prelude.{◌≡◌, ◌<◌, ◌^◌, All, length}
use Rattle.step_core.specs.CoreLists.{CoreLists}
use Rattle.step_core.specs.Places.{word_count}

pub record CoreFits (core : CoreLists) : Type 0 where
  pub words : length core.words ≡ word_count core.sizes
  pub notes : All (λ pass. length pass.notes ≡ word_count core.sizes) core.passes
  pub few_passes : length core.passes < 2 ^ 32
