use Rattle.std.proofs.Common.{rules, ◌≡◌, ap, ◌∙◌, take, drop, length, get_or, arith}
use Rattle.std.proofs.lemmas.List.{get_or_default}
use Rattle.ctmc_semantics.specs.Sets.{holds_at}
use Rattle.step_core.specs.CoreLists.{pass_at}
use Rattle.step_core.specs.FrameRows.{row_at}
use Rattle.step_core.specs.Limits.{sizes_of}
use Rattle.step_core.specs.Places.{upper_place}
use Rattle.step_core.specs.PlanLists.{PlanLists}
use Rattle.step_core.proofs.Layers.{truth_at}
use Rattle.step_core.proofs.NoteLayers.{upper_row, upper_le_one, row_high_is}
use Rattle.step_core.proofs.machine.Core.row_high.Goals as goal

pub high_word-requires-clause-row : goal.high_word-requires-clause-row
high_word-requires-clause-row c =
    let plan : PlanLists = c.args.plan.now in
    let is : c.layer_of-words.result.now
    ≡ take (length plan.frame.rows) (drop (upper_place (sizes_of plan) c.args.k 0) (pass_at c.args.self.now c.args.pass).notes) =
    search rules in
    let rows_are = ap (λ f. f.rows) c.frame.view_is ∙ ap (λ p. p.frame.rows) c.plan.view_is in
    let here : c.index-row.result.now ≡ row_at plan.frame.rows c.args.s =
    c.index-row.ensures
    ∙ (ap (λ xs. get_or xs c.args.s c.index-row.result.now) rows_are ∙ get_or_default plan.frame.rows c.args.s _ _ c.requires.state) in
    upper_row plan c.args.self.now c.requires.sound c.requires.good c.args.pass c.requires.live c.args.k c.args.s c.requires.layer
    c.requires.state is here

pub high_word-requires-clause-words : goal.high_word-requires-clause-words
high_word-requires-clause-words c =
    let plan : PlanLists = c.args.plan.now in
    let is : c.layer_of-words.result.now
    ≡ take (length plan.frame.rows) (drop (upper_place (sizes_of plan) c.args.k 0) (pass_at c.args.self.now c.args.pass).notes) =
    search rules in
    upper_le_one plan c.args.self.now c.requires.sound c.requires.good c.args.pass c.requires.live c.args.k c.args.s c.requires.layer
    c.requires.state is

pub returns : goal.returns
returns c =
    let plan : PlanLists = c.args.plan.now in
    let is : c.layer_of-words.result.now
    ≡ take (length plan.frame.rows) (drop (upper_place (sizes_of plan) c.args.k 0) (pass_at c.args.self.now c.args.pass).notes) =
    search rules in
    let rows_are = ap (λ f. f.rows) c.frame.view_is ∙ ap (λ p. p.frame.rows) c.plan.view_is in
    let here : c.index-row.result.now ≡ row_at plan.frame.rows c.args.s =
    c.index-row.ensures
    ∙ (ap (λ xs. get_or xs c.args.s c.index-row.result.now) rows_are ∙ get_or_default plan.frame.rows c.args.s _ _ c.requires.state) in
    let sets_are = c.sets.view_is ∙ (ap (λ f. f.sets) c.frame.view_is ∙ ap (λ p. p.frame.sets) c.plan.view_is) in
    let sound = c.requires.sound.frame.sets in
    let goal_is : c.index-is_goal.result.now ≡ holds_at plan.frame.sets.goal_may c.args.s =
    truth_at c.index-is_goal.ensures (ap (λ f. f.goal_may) sets_are) (omega (arith, sound.goal_may_states, c.requires.state)) in
    let live_is : c.index.result.now ≡ holds_at plan.frame.sets.live_may c.args.s =
    truth_at c.index.ensures (ap (λ f. f.live_may) sets_are) (omega (arith, sound.live_may_states, c.requires.state)) in
    row_high_is plan c.args.self.now c.requires.sound c.requires.good c.args.pass c.requires.live c.args.k c.args.s c.requires.layer
    c.requires.state is here goal_is live_is c.high_word.ensures.value
