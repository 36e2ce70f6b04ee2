use Rattle.std.proofs.Common.{◌≡◌, length, sym, ap, ◌∙◌, arith}
use Rattle.mix_columns.proofs.LayerLemmas.{rest_left, sums_room, layer_added, last_layer_added}
use Rattle.mix_columns.proofs.SideLemmas.{states_are, written}
use Rattle.mix_columns.proofs.mixers.Mixers.add_layer.Goals as goal

pub overflow_sub-self : goal.overflow_sub-self
overflow_sub-self c =
    let req = c.requires in
    let is = sym (ap (λ p. p.mix) c.plan.view_is) ∙ c.in-Poisson.is in
    let left = rest_left c.args.plan.now _ _ _ _ c.self.view_is req.sound req.states req.stand req.room _ _ is _ c.of-here.ensures in
    omega (arith, left, c.from.ensures)

pub add_one-requires-clause-states : goal.add_one-requires-clause-states
add_one-requires-clause-states c =
    c.requires.layer_states ∙ (sym (states_are _ _ _ _ c.self.view_is) ∙ sym (ap length c.deref_mut.ensures.value))

pub add_one-requires-clause-room : goal.add_one-requires-clause-room
add_one-requires-clause-room c =
    let req = c.requires in
    let is = sym (ap (λ p. p.mix) c.plan.view_is) ∙ c.in-Poisson.is in
    rw c.deref_mut.ensures.value
    (sums_room c.args.plan.now _ _ _ _ c.self.view_is req.sound req.states req.stand req.room _ _ is)

pub copy_from_slice-requires : goal.copy_from_slice-requires
copy_from_slice-requires c =
    omega (arith, states_are _ _ _ _ c.self.view_is, c.self.invariant, c.self.inside.last.ok, c.requires.layer_states)

pub returns-in-Poisson-clause-stand : goal.returns-in-Poisson-clause-stand
returns-in-Poisson-clause-stand c =
    let plan = c.args.plan.now in
    let req = c.requires in
    let is = sym (ap (λ p. p.mix) c.plan.view_is) ∙ c.in-Poisson.is in
    let old_len : length c.self.inside.sums.items ≡ c.self.inside.sums.len =
    sym (ap length c.deref_mut.ensures.value) ∙ c.deref_mut.ensures.len in
    let kept = written c.self.inside.sums.len c.add_one.new.sums c.self.inside.sums.items old_len
    (c.add_one.auto.sums ∙ c.deref_mut.ensures.len) in
    let word_states = req.layer_states ∙ sym (states_are _ _ _ _ c.self.view_is) in
    rw (kept, c.from.ensures)
    (layer_added plan _ _ _ _ c.self.view_is req.sound req.states req.stand req.room _ _ is c.args.words.now _ c.add_one.new.sums
    c.of-here.result req.pairs word_states c.of-here.ensures (c.add_one.auto.sums ∙ ap length c.deref_mut.ensures.value)
    (rw c.deref_mut.ensures.value at c.add_one.ensures))

pub returns-in-Last-clause-stand : goal.returns-in-Last-clause-stand
returns-in-Last-clause-stand c =
    let req = c.requires in
    let is = sym (ap (λ p. p.mix) c.plan.view_is) ∙ c.in-Last.is in
    rw c.copy_from_slice.ensures.items
    (last_layer_added c.args.plan.now _ _ _ _ c.self.view_is req.sound req.states req.stand req.room is c.args.words.now req.pairs
    (req.layer_states ∙ sym (states_are _ _ _ _ c.self.view_is)))
