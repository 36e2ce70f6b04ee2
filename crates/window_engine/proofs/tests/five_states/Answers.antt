use Rattle.std.proofs.Common.{◌≡◌, ap, sym, ◌∙◌}
use Rattle.window_engine.proofs.SmallPlans.{first_word, five_sound}
use Rattle.window_engine.proofs.tests.five_states.Goals as goal
use Rattle.window_engine.proofs.tests.five_states.Goals.{in-Poisson, in-Last}

pub returns-clause-sound : goal.returns-clause-sound
returns-clause-sound c =
    let first =
    elim c.match-mix.branch as (λ _. c.match-mix.start ≡ first_word c.args.mix) [
      | in-Poisson w ↦ w.start-is ∙ sym (ap first_word w.in-Poisson.is)
      | in-Last w ↦ w.start-is ∙ sym (ap first_word w.in-Last.is)
    ] in
    five_sound c.args.layers c.requires.some c.requires.few c.args.mix _ _ _ _ _ c.requires.mix c.in_ok-rows.ensures c.in_ok-sets.ensures
    first c.in_ok-vec.ensures.items c.in_ok-vec-2.ensures.items
