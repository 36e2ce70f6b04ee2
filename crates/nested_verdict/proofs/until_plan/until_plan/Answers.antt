use Rattle.std.proofs.Common.{sym, subst}
use Rattle.nested_verdict.proofs.OperandSets.{verdict_sets_sound}
use Rattle.step_core.specs.SoundFrame.{AreSoundSets}
use Rattle.nested_verdict.proofs.until_plan.until_plan.Goals as goal

pub time_plan-requires-clause-sets : goal.time_plan-requires-clause-sets
time_plan-requires-clause-sets c =
    subst (AreSoundSets c.args.model.now.n) (sym c.in_ok-sets.ensures)
    (verdict_sets_sound c.args.model.now.n c.args.live.now c.args.goal.now c.requires.live c.requires.goal)

pub unbounded_plan-requires-clause-sets : goal.unbounded_plan-requires-clause-sets
unbounded_plan-requires-clause-sets c =
    subst (AreSoundSets c.args.model.now.n) (sym c.in_ok-sets.ensures)
    (verdict_sets_sound c.args.model.now.n c.args.live.now c.args.goal.now c.requires.live c.requires.goal)

pub reward_plan-requires-clause-sets : goal.reward_plan-requires-clause-sets
reward_plan-requires-clause-sets c =
    subst (AreSoundSets c.args.model.now.n) (sym c.in_ok-sets.ensures)
    (verdict_sets_sound c.args.model.now.n c.args.live.now c.args.goal.now c.requires.live c.requires.goal)
