use Rattle.std.proofs.Common.{sym, ap, subst}
use Rattle.csl_syntax.specs.Machine.{State, step}
use Rattle.csl_syntax.specs.View.{in_context, state_at, Goes}
use Rattle.csl_syntax.proofs.steps.step.Goals as goal

pub returns-in-After-clause-gives : goal.returns-in-After-clause-gives
returns-in-After-clause-gives c =
    let P : State → Type 0 = λ q. Goes c.after.result (step c.args.labels 1 q c.args.token) in
    subst P (sym (ap (λ place. in_context c.args.machine.context (state_at place)) c.in-After.is)) (c.after.ensures.gives c.args.labels)
