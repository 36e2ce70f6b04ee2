use Rattle.std.proofs.Common.{rules, ◌<◌, ℕ, List, length, ap, ◌∙◌, arith}
use Rattle.std.proofs.lemmas.Grind.{get_or_default_zero}
use Rattle.step_core.specs.CoreLists.{pass_at, lower_at, upper_at}
use Rattle.step_core.specs.PlanLists.{PlanLists}
use Rattle.step_core.specs.PlanTables.{IsLayer, plan_low, plan_high}
use Rattle.step_core.proofs.NoteLayers.{table_read, both_equal, first_differs}
use Rattle.step_core.proofs.machine.Core.is_done.Goals as goal

pub index-requires : goal.index-requires
index-requires c =
    let plan : PlanLists = c.args.plan.now in
    let layer : IsLayer (length plan.frame.rows) (plan_low plan c.args.k) c.index-low.result.now.items =
    table_read (λ v. v.items) c.tables.inside.low.items (ap (λ t. t.low) c.tables.view_is) c.index-low.ensures c.requires.layer
    c.requires.tables.low in
    let inside : c.args.s < length c.index-low.result.now.items = omega (arith, layer.states, c.requires.state) in
    search rules

pub index-requires-then-note_lower-index : goal.index-requires-then-note_lower-index
index-requires-then-note_lower-index c =
    let plan : PlanLists = c.args.plan.now in
    let layer : IsLayer (length plan.frame.rows) (plan_high plan c.args.k) c.index-high.result.now.items =
    table_read (λ v. v.items) c.tables.inside.high.items (ap (λ t. t.high) c.tables.view_is) c.index-high.ensures c.requires.layer
    c.requires.tables.high in
    let inside : c.args.s < length c.index-high.result.now.items = omega (arith, layer.states, c.requires.state) in
    search rules

pub returns-then-note_lower-index : goal.returns-then-note_lower-index
returns-then-note_lower-index c =
    let plan : PlanLists = c.args.plan.now in
    let s : ℕ = c.args.s in
    let low : IsLayer (length plan.frame.rows) (plan_low plan c.args.k) c.index-low.result.now.items =
    table_read (λ v. v.items) c.tables.inside.low.items (ap (λ t. t.low) c.tables.view_is) c.index-low.ensures c.requires.layer
    c.requires.tables.low in
    let high : IsLayer (length plan.frame.rows) (plan_high plan c.args.k) c.index-high.result.now.items =
    table_read (λ v. v.items) c.tables.inside.high.items (ap (λ t. t.high) c.tables.view_is) c.index-high.ensures c.requires.layer
    c.requires.tables.high in
    let ns : List ℕ = (pass_at c.args.self.now c.args.pass).notes in
    both_equal
    (c.note_lower.ensures ∙ ap (λ z. lower_at z ns c.args.k s) c.requires.good.sizes)
    (c.index.ensures
    ∙ (get_or_default_zero c.index-low.result.now.items s _ (omega (arith, low.states, c.requires.state)) ∙ low.words s c.requires.state))
    (c.note_upper.ensures ∙ ap (λ z. upper_at z ns c.args.k s) c.requires.good.sizes)
    (c.index-then-note_lower-index.ensures
    ∙ (get_or_default_zero c.index-high.result.now.items s _ (omega
    (arith, high.states, c.requires.state)) ∙ high.words s c.requires.state))
    c.if-note_lower-index.true

pub returns-else-note_lower-index : goal.returns-else-note_lower-index
returns-else-note_lower-index c =
    let plan : PlanLists = c.args.plan.now in
    let s : ℕ = c.args.s in
    let low : IsLayer (length plan.frame.rows) (plan_low plan c.args.k) c.index-low.result.now.items =
    table_read (λ v. v.items) c.tables.inside.low.items (ap (λ t. t.low) c.tables.view_is) c.index-low.ensures c.requires.layer
    c.requires.tables.low in
    let ns : List ℕ = (pass_at c.args.self.now c.args.pass).notes in
    first_differs _
    (c.note_lower.ensures ∙ ap (λ z. lower_at z ns c.args.k s) c.requires.good.sizes)
    (c.index.ensures
    ∙ (get_or_default_zero c.index-low.result.now.items s _ (omega (arith, low.states, c.requires.state)) ∙ low.words s c.requires.state))
    c.if-note_lower-index.false
