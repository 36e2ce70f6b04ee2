use Rattle.std.proofs.Common.{ap, sym, subst, ◌∙◌, arith}
use Rattle.mix_columns.specs.MixNumbers.{StandsFor}
use Rattle.mix_columns.proofs.MixLemmas.{low_divisor_positive, high_divisor_positive, lower_at_most_one, rest_room, rest_words}
use Rattle.mix_columns.proofs.mixer.Mixer.rest.Goals as goal

pub overflow_add-self-inside : goal.overflow_add-self-inside
overflow_add-self-inside c =
    let st = c.requires.stands in
    let is = sym (ap (λ p. p.mix) c.plan.view_is) ∙ c.in-Poisson.is in
    let room = rest_room c.args.plan.now _ st.0 st.1 _ _ c.requires.sound
    (subst (λ m. StandsFor c.args.plan.now m st.0 st.1) (sym c.self.view_is) st.2) is in
    omega (arith, room)

pub quotient_bracket-requires-clause-low_divisor : goal.quotient_bracket-requires-clause-low_divisor
quotient_bracket-requires-clause-low_divisor c =
    let st = c.requires.stands in
    let is = sym (ap (λ p. p.mix) c.plan.view_is) ∙ c.in-Poisson.is in
    low_divisor_positive c.args.plan.now _ st.0 st.1 _ _ c.requires.sound
    (subst (λ m. StandsFor c.args.plan.now m st.0 st.1) (sym c.self.view_is) st.2) is

pub quotient_bracket-requires-clause-high_divisor : goal.quotient_bracket-requires-clause-high_divisor
quotient_bracket-requires-clause-high_divisor c =
    let st = c.requires.stands in
    let is = sym (ap (λ p. p.mix) c.plan.view_is) ∙ c.in-Poisson.is in
    high_divisor_positive c.args.plan.now _ st.0 st.1 _ _ c.requires.sound
    (subst (λ m. StandsFor c.args.plan.now m st.0 st.1) (sym c.self.view_is) st.2) is

pub quotient_bracket-requires-clause-at_most_one : goal.quotient_bracket-requires-clause-at_most_one
quotient_bracket-requires-clause-at_most_one c =
    let st = c.requires.stands in
    let is = sym (ap (λ p. p.mix) c.plan.view_is) ∙ c.in-Poisson.is in
    lower_at_most_one c.args.plan.now _ st.0 st.1 _ _ c.requires.sound
    (subst (λ m. StandsFor c.args.plan.now m st.0 st.1) (sym c.self.view_is) st.2) is

pub quotient_bracket-requires-clause-small : goal.quotient_bracket-requires-clause-small
quotient_bracket-requires-clause-small c =
    let st = c.requires.stands in
    let is = sym (ap (λ p. p.mix) c.plan.view_is) ∙ c.in-Poisson.is in
    let room = rest_room c.args.plan.now _ st.0 st.1 _ _ c.requires.sound
    (subst (λ m. StandsFor c.args.plan.now m st.0 st.1) (sym c.self.view_is) st.2) is in
    omega (arith, room)

pub returns-in-Poisson-clause-mix : goal.returns-in-Poisson-clause-mix
returns-in-Poisson-clause-mix c = λ xs ys h.
    let is = sym (ap (λ p. p.mix) c.plan.view_is) ∙ c.in-Poisson.is in
    rest_words c.args.plan.now _ xs ys _ _ c.requires.sound
    (subst (λ m. StandsFor c.args.plan.now m xs ys) (sym c.self.view_is) h) is
    c.quotient_bracket.result.lower c.quotient_bracket.result.upper c.quotient_bracket.ensures.lower c.quotient_bracket.ensures.upper

pub returns-in-Poisson-clause-lower : goal.returns-in-Poisson-clause-lower
returns-in-Poisson-clause-lower c =
    let st = c.requires.stands in
    let is = sym (ap (λ p. p.mix) c.plan.view_is) ∙ c.in-Poisson.is in
    let small = lower_at_most_one c.args.plan.now _ st.0 st.1 _ _ c.requires.sound
    (subst (λ m. StandsFor c.args.plan.now m st.0 st.1) (sym c.self.view_is) st.2) is in
    rw c.quotient_bracket.ensures.lower small
