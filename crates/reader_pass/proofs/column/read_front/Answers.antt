use Rattle.std.proofs.Common.{ℕ, List, sym, ap, ◌∙◌, subst}
use Rattle.step_core.specs.PlanLists.{PlanLists}
use Rattle.bound_grid.specs.Passes.{notes_of}
use Rattle.mix_columns.specs.MixNumbers.{StandsFor}
use Rattle.mix_columns.specs.Mixed.{plan_settle, rest_mix}
use Rattle.reader_pass.specs.NotedWords.{lower_notes, upper_notes}
use Rattle.reader_pass.proofs.column.read_front.Goals as goal

pub returns-clause-answer : goal.returns-clause-answer
returns-clause-answer c =
    let plan : PlanLists = c.args.board.now.plan in
    let s : ℕ = c.args.s in
    let xs : List ℕ = lower_notes plan s (notes_of c.column-mixer.new.pass) c.args.layers in
    let ys : List ℕ = upper_notes plan s (notes_of c.column-mixer.new.pass) c.args.layers in
    let stands = subst (λ p. StandsFor p c.column-mixer.result xs ys) (sym c.plan-plan.ensures) c.column-mixer.ensures.stands in
    c.settle.ensures.words
    ∙ (ap (plan_settle c.plan-plan.result.now s) (c.rest.ensures.mix xs ys stands)
    ∙ ap (λ p. plan_settle p s (rest_mix p xs ys)) c.plan-plan.ensures)
