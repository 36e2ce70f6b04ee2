use Rattle.std.proofs.Common.{arith}
use Rattle.mix_columns.proofs.SideLemmas.{states_are}
use Rattle.mix_columns.proofs.mixers.Mixers.states.Goals as goal

pub returns : goal.returns
returns c =
    let ok = c.self.inside.sums.ok in
    let en = c.len.ensures in
    omega (arith, states_are _ _ _ _ c.self.view_is, ok, en)
