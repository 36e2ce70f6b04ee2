use Rattle.std.proofs.Common.{◌++◌}
use Rattle.report.specs.AnswerText.{horizon_line, watch_lines, state_lines}
use Rattle.report.proofs.Fronts.{front_of_first, front_of_second, front_same, appends_same}
use Rattle.report.proofs.answer_writer.write_shown.Goals as goal

pub returns-in_err-write_watch_lines-clause-front : goal.returns-in_err-write_watch_lines-clause-front
returns-in_err-write_watch_lines-clause-front g c =
    let shown = c.args.shown.now in
    let watched = watch_lines 1 shown.watched.items in
    let states = state_lines 1 c.args.verdicts.now shown.states.items in
    front_of_second (horizon_line shown.horizon) (watched ++ states) _ _ _ c.in_ok-write_horizon_line.ensures.ok
    (front_of_first watched states _ _
    (front_same (watch_lines 1) _ _ c.deref.ensures.value _ _ c.in_err-write_watch_lines.ensures.front))

pub returns-clause-front : goal.returns-clause-front
returns-clause-front g c =
    let shown = c.args.shown.now in
    let watched = watch_lines 1 shown.watched.items in
    let states = state_lines 1 c.args.verdicts.now shown.states.items in
    front_of_second (horizon_line shown.horizon) (watched ++ states) _ _ _ c.in_ok-write_horizon_line.ensures.ok
    (front_of_second watched states _ _ _
    (appends_same (watch_lines 1) _ _ c.deref.ensures.value _ _ c.in_ok-write_watch_lines.ensures.ok)
    (front_same (state_lines 1 c.args.verdicts.now) _ _ c.deref-2.ensures.value _ _ c.write_state_lines.ensures.front))
