use Rattle.std.proofs.Common.{◌≡◌, ap, sym, ◌∙◌}
use Rattle.mix_columns.proofs.SmallPlans.{first_word, three_sound}
use Rattle.mix_columns.proofs.tests.three_states.Goals as goal
use Rattle.mix_columns.proofs.tests.three_states.Goals.{in-Poisson, in-Last}

pub returns-clause-sound : goal.returns-clause-sound
returns-clause-sound c =
    let first =
    elim c.match-mix-6.branch as (λ _. c.match-mix-6.start ≡ first_word c.args.mix) [
      | in-Poisson w ↦ w.start-is ∙ sym (ap first_word w.in-Poisson.is)
      | in-Last w ↦ w.start-is ∙ sym (ap first_word w.in-Last.is)
    ] in
    three_sound c.args.mix _ _ _ _ _ _ _ _ c.requires.mix c.in_ok-rows.ensures.items c.in_ok-first.ensures c.in_ok-second.ensures
    c.in_ok-third.ensures c.in_ok-sets.ensures c.in_ok-vec.ensures.items first c.in_ok-vec-2.ensures.items
