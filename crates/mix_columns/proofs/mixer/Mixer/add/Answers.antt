use Rattle.std.proofs.Common.{◌≤◌, ap, sym, subst, ◌∙◌, arith}
use Rattle.mix_columns.specs.MixNumbers.{StandsFor}
use Rattle.mix_columns.proofs.Columns.{read_word}
use Rattle.mix_columns.proofs.MixLemmas.{low_room, rest_room, weight_left, low_inside, high_inside, added, other_is_last, added_last}
use Rattle.mix_columns.proofs.mixer.Mixer.add.Goals as goal
use Rattle.mix_columns.proofs.mixer.Mixer.add.Goals.{in-Poisson, in_default}

pub overflow_add-self : goal.overflow_add-self
overflow_add-self c =
    let st = c.requires.stands in
    let is = sym (ap (λ p. p.mix) c.plan.view_is) ∙ c.in-Poisson.is in
    let stands = subst (λ m. StandsFor c.args.plan.now m st.0 st.1) (sym c.self.view_is) st.2 in
    let room = low_room c.args.plan.now _ st.0 st.1 _ _ c.requires.sound stands is in
    omega (arith, room, stands.few, c.requires.sound.few_layers)

pub overflow_add-self-in-Poisson : goal.overflow_add-self-in-Poisson
overflow_add-self-in-Poisson c =
    let st = c.requires.stands in
    let is = sym (ap (λ p. p.mix) c.plan.view_is) ∙ c.in-Poisson.is in
    let stands = subst (λ m. StandsFor c.args.plan.now m st.0 st.1) (sym c.self.view_is) st.2 in
    let room = rest_room c.args.plan.now _ st.0 st.1 _ _ c.requires.sound stands is in
    omega (arith, room)

pub overflow_sub-self : goal.overflow_sub-self
overflow_sub-self c =
    let st = c.requires.stands in
    let plan = c.args.plan.now in
    let is = sym (ap (λ p. p.mix) c.plan.view_is) ∙ c.in-Poisson.is in
    let stands = subst (λ m. StandsFor plan m st.0 st.1) (sym c.self.view_is) st.2 in
    let room : c.self.inside.count ≤ plan.layers = omega (arith, ap (λ m. m.count) c.self.view_is, c.requires.room) in
    let weight =
    read_word c.weights.inside.high.items _ c.self.inside.count _ (ap (λ w. w.high) c.weights.view_is)
    (high_inside plan _ st.0 st.1 _ _ c.requires.sound stands is room) c.index-high_weight.ensures in
    let left = weight_left plan _ st.0 st.1 _ _ c.requires.sound stands is c.index-high_weight.result.now room weight in
    omega (arith, left, c.from.ensures)

pub returns : goal.returns
returns c = λ xs ys h.
    let plan = c.args.plan.now in
    let mix = sym (ap (λ p. p.mix) c.plan.view_is) in
    let stands = subst (λ m. StandsFor plan m xs ys) (sym c.self.view_is) h in
    let room : c.self.inside.count ≤ plan.layers = omega (arith, ap (λ m. m.count) c.self.view_is, c.requires.room) in
    elim c.match-plan.branch [
      | in-Poisson w ↦ (
          let is = mix ∙ w.in-Poisson.is in
          let low =
          read_word w.weights.inside.low.items _ c.self.inside.count _ (ap (λ w. w.low) w.weights.view_is)
          (low_inside plan _ xs ys _ _ c.requires.sound stands is room) w.index.ensures in
          let high =
          read_word w.weights.inside.high.items _ c.self.inside.count _ (ap (λ w. w.high) w.weights.view_is)
          (high_inside plan _ xs ys _ _ c.requires.sound stands is room) w.index-high_weight.ensures in
          rw (w.self-inside-is, w.floor_units.ensures.value, w.ceil_units.ensures.value, w.from.ensures)
          (added plan _ xs ys _ _ c.requires.sound stands is c.args.low c.args.high w.index.result.now w.index-high_weight.result.now _ _
          room c.requires.low c.requires.high low high)
          )
      | in_default w ↦ (
          let is = mix ∙ other_is_last c.plan.inside.mix w.in_default.not-Poisson in
          rw w.self-inside-is
          (added_last plan _ xs ys c.args.low c.args.high stands is room c.requires.low c.requires.high)
          )
    ]
