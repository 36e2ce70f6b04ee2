use Rattle.std.proofs.Common.{◌≡◌, length, ◌∙◌, arith}
use Rattle.poisson_tail.proofs.WrittenLists.{take-written, AreWeightsOf-written, AreSoundWeights-written}
use Rattle.poisson_tail.proofs.lists.weights.Goals as goal

pub returns-clause-of_load : goal.returns-clause-of_load
returns-clause-of_load c =
    let low_kept : length c.write_above_mode.new.low ≡ c.in_ok-low.low.len = omega arith in
    let high_kept : length c.write_above_mode.new.high ≡ c.in_ok-high.high.len = omega arith in
    rw (take-written c.write_above_mode.new.low _ low_kept, take-written c.write_above_mode.new.high _ high_kept)
    (AreWeightsOf-written c.args.load.now (low_kept ∙ c.in_ok-low.ensures.len) (high_kept ∙ c.in_ok-high.ensures.len)
    c.write_above_mode.ensures.low c.write_above_mode.ensures.high)

pub returns-clause-sound : goal.returns-clause-sound
returns-clause-sound c =
    let low_kept : length c.write_above_mode.new.low ≡ c.in_ok-low.low.len = omega arith in
    let high_kept : length c.write_above_mode.new.high ≡ c.in_ok-high.high.len = omega arith in
    rw (take-written c.write_above_mode.new.low _ low_kept, take-written c.write_above_mode.new.high _ high_kept)
    (AreSoundWeights-written c.args.load.now (low_kept ∙ c.in_ok-low.ensures.len) (high_kept ∙ c.in_ok-high.ensures.len)
    c.write_above_mode.ensures.low c.write_above_mode.ensures.high c.mode-mode.ensures.divisor c.requires.has_mode)
