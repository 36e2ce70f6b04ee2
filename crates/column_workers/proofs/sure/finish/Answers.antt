use Rattle.std.proofs.Common.{ap, ◌∙◌, arith}
use Rattle.column_workers.proofs.sure.finish.Goals as goal

pub make_sure_from-requires-clause-known : goal.make_sure_from-requires-clause-known
make_sure_from-requires-clause-known c = λ j lt. absurd (omega (arith, lt))

pub returns-clause-sealed : goal.returns-clause-sealed
returns-clause-sealed c =
    let layers = ap (λ p. p.layers) c.behind-board.view_is ∙ ap (λ p. p.layers) c.plan.ensures in
    record { at = λ k le. c.make_sure_from.ensures.sealed k (omega (arith, le, layers)) }
