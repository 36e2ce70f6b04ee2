use Rattle.std.proofs.Common.{◌≡◌, ℕ, ◌<◌, ◌∙◌, length, subst, arith}
use Rattle.mix_columns.proofs.SideLemmas.{mixers_counted, mixer_is, copy_is}
use Rattle.mix_columns.proofs.mixers.Mixers.copies.Goals as goal

pub returns-clause-states : goal.returns-clause-states
returns-clause-states c =
    let sums : length c.in_ok-sums.sums.items ≡ c.args.states = omega (arith, c.in_ok-sums.sums.ok, c.in_ok-sums.ensures.len) in
    mixers_counted _ _ _ ∙ sums

pub returns-clause-copies : goal.returns-clause-copies
returns-clause-copies c = λ s l.
    let sums : length c.in_ok-sums.sums.items ≡ c.args.states = omega (arith, c.in_ok-sums.sums.ok, c.in_ok-sums.ensures.len) in
    let inside : s < length c.in_ok-sums.sums.items = subst (λ (n : ℕ). s < n) (mixers_counted _ _ _) l in
    mixer_is _ _ _ s inside
    ∙ (copy_is _ _ _ c.args.states s _ _ (c.in_ok-sums.ensures.items_if_clones_equal (λ y e. e))
    (c.in_ok-last.ensures.items_if_clones_equal (λ y e. e)) (omega (arith, inside, sums))
    ∙ c.fresh.view_is)
