use Rattle.std.proofs.Common.{◌≡◌, ap, sym, ◌∙◌}
use Rattle.reader_pass.proofs.TwoStates.{first_word, two_sound}
use Rattle.reader_pass.proofs.tests.two_states.Goals as goal
use Rattle.reader_pass.proofs.tests.two_states.Goals.{in-Poisson, in-Last}

pub returns-clause-sound : goal.returns-clause-sound
returns-clause-sound c =
    let first =
    elim c.match-mix-5.branch as (λ _. c.match-mix-5.start ≡ first_word c.args.mix) [
      | in-Poisson w ↦ w.start-is ∙ sym (ap first_word w.in-Poisson.is)
      | in-Last w ↦ w.start-is ∙ sym (ap first_word w.in-Last.is)
    ] in
    two_sound c.args.layers c.args.mix c.requires.some_layer c.requires.few_layers c.requires.mix _ _ _ _ _ _ _
    c.in_ok-rows.ensures.items c.in_ok-first.ensures c.in_ok-second.ensures c.in_ok-sets.ensures c.in_ok-vec.ensures.items first
    c.in_ok-vec-2.ensures.items
