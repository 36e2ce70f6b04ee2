use Rattle.std.proofs.Common.{◌≡◌, ◌<◌, ◌∙◌, length, sym, arith}
use Rattle.std.proofs.lemmas.List.{get_or_default}
use Rattle.step_core.specs.WordPairs.{words_at}
use Rattle.mix_columns.specs.LayerSums.{sums_at}
use Rattle.mix_columns.proofs.SideLemmas.{states_are, at_is}
use Rattle.mix_columns.proofs.mixers.Mixers.mixer.Goals as goal

pub index-sums-requires : goal.index-sums-requires
index-sums-requires c = omega (arith, states_are _ _ _ _ c.self.view_is, c.self.inside.sums.ok, c.requires)

pub index-last-requires : goal.index-last-requires
index-last-requires c = omega (arith, states_are _ _ _ _ c.self.view_is, c.self.invariant, c.self.inside.last.ok, c.requires)

pub returns : goal.returns
returns c =
    let s = c.args.state in
    let inside : s < length c.self.inside.sums.items = omega (arith, states_are _ _ _ _ c.self.view_is, c.requires) in
    let sums : c.index-sums.result.now ≡ sums_at c.self.inside.sums.items s =
    c.index-sums.ensures ∙ get_or_default c.self.inside.sums.items s _ _ inside in
    let last : c.index-last.result.now ≡ words_at c.self.inside.last.items s =
    c.index-last.ensures ∙ get_or_default c.self.inside.last.items s _ _ (omega (arith, inside, c.self.invariant)) in
    rw (sums, last) (sym (at_is _ _ _ _ c.self.view_is s inside))
