use Rattle.std.proofs.Common.{rules, ◌<◌, ℕ, List, length, ap, ◌∙◌, arith}
use Rattle.std.proofs.lemmas.Grind.{get_or_default_zero}
use Rattle.step_core.specs.PlanLists.{PlanLists}
use Rattle.step_core.specs.PlanTables.{IsLayer, plan_high}
use Rattle.step_core.proofs.NoteLayers.{table_read}
use Rattle.tighten_step.proofs.tests.high_word.Goals as goal

pub index-requires : goal.index-requires
index-requires c =
    let plan : PlanLists = c.args.plan.now in
    let layer : IsLayer (length plan.frame.rows) (plan_high plan c.args.k) c.index-layer.result.now.items =
    table_read (λ v. v.items) c.tables.inside.high.items (ap (λ t. t.high) c.tables.view_is) c.index-layer.ensures c.requires.layer
    c.requires.tables.high in
    let inside : c.args.s < length c.index-layer.result.now.items = omega (arith, layer.states, c.requires.state) in
    search rules

pub returns : goal.returns
returns c =
    let plan : PlanLists = c.args.plan.now in
    let layer : IsLayer (length plan.frame.rows) (plan_high plan c.args.k) c.index-layer.result.now.items =
    table_read (λ v. v.items) c.tables.inside.high.items (ap (λ t. t.high) c.tables.view_is) c.index-layer.ensures c.requires.layer
    c.requires.tables.high in
    c.index.ensures
    ∙ (get_or_default_zero c.index-layer.result.now.items c.args.s _ (omega (arith, layer.states, c.requires.state))
    ∙ layer.words c.args.s c.requires.state)
