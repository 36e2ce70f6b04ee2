use Rattle.std.proofs.Common.{◌<◌, length, sym, subst}
use Rattle.nested_verdict.proofs.RunBrackets.{taken_while}
use Rattle.step_core.specs.PlanLists.{PlanLists}
use Rattle.nested_verdict.proofs.until_brackets.whole_brackets.Goals as goal

pub returns-clause-watched : goal.returns-clause-watched
returns-clause-watched g c =
    let s = c.args.watch.state in
    let inside = subst (λ (p : PlanLists). s < length p.frame.rows) (sym c.in_ok-board.ensures.plan) c.requires.state in
    let all = c.read_states.ensures.sealed c.in_ok-pass.ensures.sealed in
    taken_while _ s c.args.watch.count _ _ _ _ (sym (all.words s inside)) c.in_ok-pass.ensures.watched
