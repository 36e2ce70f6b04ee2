use Rattle.std.proofs.Common.{◌≡◌, ◌*◌, ◌-◌, ℕ, List, length, min, sym, ap, ◌∙◌, arith}
use Rattle.step_core.specs.CoreLists.{pass_at}
use Rattle.step_core.specs.Events.{is_done}
use Rattle.step_core.specs.PlanLists.{PlanLists}
use Rattle.step_core.proofs.NoteLayers.{all_of_range, not_all_of_range}
use Rattle.step_core.proofs.machine.Core.block_done.Goals as goal

pub returns-then-not-is_done : goal.returns-then-not-is_done
returns-then-not-is_done c =
    let plan : PlanLists = c.args.plan.now in
    let n : ℕ = length plan.frame.rows in
    let states_are : c.states.result ≡ n = c.states.ensures ∙ ap (λ z. z.states) c.of.ensures in
    let count = c.min-count.ensures in
    let test = c.loop-r-test.true in
    let ns : List ℕ = (pass_at c.args.self.now c.args.pass).notes in
    not_all_of_range (is_done plan ns c.args.k) (64 * c.args.b) (min 64 (n - 64 * c.args.b)) c.loop-r.r (omega
    (arith, states_are, count, test))
    (sym c.is_done.ensures ∙ c.if-not-is_done.true)

pub returns : goal.returns
returns c =
    let plan : PlanLists = c.args.plan.now in
    let n : ℕ = length plan.frame.rows in
    let states_are : c.states.result ≡ n = c.states.ensures ∙ ap (λ z. z.states) c.of.ensures in
    let count = c.min-count.ensures in
    let test = c.loop-r-test.false in
    let ns : List ℕ = (pass_at c.args.self.now c.args.pass).notes in
    all_of_range (is_done plan ns c.args.k) (64 * c.args.b) (min 64 (n - 64 * c.args.b))
    (λ i lt. c.loop-r.invariant i (omega (arith, lt, states_are, count, test)))
