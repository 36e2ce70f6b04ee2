use Rattle.std.proofs.Common.{◌≡◌, length, sym, ap, ◌∙◌, arith}
use Rattle.mix_columns.proofs.LayerLemmas.{low_here, high_here, rest_left_two, sums_room, layers_added, last_layers_added}
use Rattle.mix_columns.proofs.SideLemmas.{states_are, room_below, written}
use Rattle.mix_columns.proofs.mixers.Mixers.add_two_layers.Goals as goal

pub of-next-requires-clause-low : goal.of-next-requires-clause-low
of-next-requires-clause-low c =
    let req = c.requires in
    let is = sym (ap (λ p. p.mix) c.plan.view_is) ∙ c.in-Poisson.is in
    let below = room_below _ _ _ _ c.self.view_is c.args.plan.now req.sound req.states req.room in
    low_here c.args.plan.now _ _ _ _ c.self.view_is req.sound req.states req.stand below.0 _ _ is _ (omega (arith, below.1))

pub of-next-requires-clause-high : goal.of-next-requires-clause-high
of-next-requires-clause-high c =
    let req = c.requires in
    let is = sym (ap (λ p. p.mix) c.plan.view_is) ∙ c.in-Poisson.is in
    let below = room_below _ _ _ _ c.self.view_is c.args.plan.now req.sound req.states req.room in
    high_here c.args.plan.now _ _ _ _ c.self.view_is req.sound req.states req.stand below.0 _ _ is _ (omega (arith, below.1))

pub overflow_sub-self : goal.overflow_sub-self
overflow_sub-self c =
    let req = c.requires in
    let is = sym (ap (λ p. p.mix) c.plan.view_is) ∙ c.in-Poisson.is in
    let below = room_below _ _ _ _ c.self.view_is c.args.plan.now req.sound req.states req.room in
    let left = rest_left_two c.args.plan.now _ _ _ _ c.self.view_is req.sound req.states req.stand below.0 _ _ is _ _ below.1
    c.of-here.ensures c.of-next.ensures in
    omega (arith, left)

pub add_two-requires-clause-first_states : goal.add_two-requires-clause-first_states
add_two-requires-clause-first_states c =
    c.requires.first_states ∙ (sym (states_are _ _ _ _ c.self.view_is) ∙ sym (ap length c.deref_mut.ensures.value))

pub add_two-requires-clause-second_states : goal.add_two-requires-clause-second_states
add_two-requires-clause-second_states c =
    c.requires.second_states ∙ (sym (states_are _ _ _ _ c.self.view_is) ∙ sym (ap length c.deref_mut.ensures.value))

pub add_two-requires-clause-room : goal.add_two-requires-clause-room
add_two-requires-clause-room c =
    let req = c.requires in
    let is = sym (ap (λ p. p.mix) c.plan.view_is) ∙ c.in-Poisson.is in
    let below = room_below _ _ _ _ c.self.view_is c.args.plan.now req.sound req.states req.room in
    rw c.deref_mut.ensures.value
    (sums_room c.args.plan.now _ _ _ _ c.self.view_is req.sound req.states req.stand below.0 _ _ is)

pub copy_from_slice-requires : goal.copy_from_slice-requires
copy_from_slice-requires c =
    omega (arith, states_are _ _ _ _ c.self.view_is, c.self.invariant, c.self.inside.last.ok, c.requires.second_states)

pub returns-in-Poisson-clause-stand : goal.returns-in-Poisson-clause-stand
returns-in-Poisson-clause-stand c =
    let plan = c.args.plan.now in
    let req = c.requires in
    let is = sym (ap (λ p. p.mix) c.plan.view_is) ∙ c.in-Poisson.is in
    let below = room_below _ _ _ _ c.self.view_is plan req.sound req.states req.room in
    let old_len : length c.self.inside.sums.items ≡ c.self.inside.sums.len =
    sym (ap length c.deref_mut.ensures.value) ∙ c.deref_mut.ensures.len in
    let kept = written c.self.inside.sums.len c.add_two.new.sums c.self.inside.sums.items old_len
    (c.add_two.auto.sums ∙ c.deref_mut.ensures.len) in
    let states = sym (states_are _ _ _ _ c.self.view_is) in
    rw (kept, c.from.ensures, c.from-in-Poisson.ensures)
    (layers_added plan _ _ _ _ c.self.view_is req.sound req.states req.stand below.0 _ _ is c.args.first.now c.args.second.now _
    c.add_two.new.sums c.of-here.result c.of-next.result below.1 req.first_pairs req.second_pairs (req.first_states ∙ states)
    (req.second_states ∙ states) c.of-here.ensures c.of-next.ensures (c.add_two.auto.sums ∙ ap length c.deref_mut.ensures.value)
    (rw c.deref_mut.ensures.value at c.add_two.ensures))

pub returns-in-Last-clause-stand : goal.returns-in-Last-clause-stand
returns-in-Last-clause-stand c =
    let req = c.requires in
    let is = sym (ap (λ p. p.mix) c.plan.view_is) ∙ c.in-Last.is in
    let below = room_below _ _ _ _ c.self.view_is c.args.plan.now req.sound req.states req.room in
    let states = sym (states_are _ _ _ _ c.self.view_is) in
    rw c.copy_from_slice.ensures.items
    (last_layers_added c.args.plan.now _ _ _ _ c.self.view_is req.sound req.states req.stand below.0 is c.args.first.now c.args.second.now
    below.1 req.first_pairs req.second_pairs (req.first_states ∙ states) (req.second_states ∙ states))
