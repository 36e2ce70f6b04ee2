use Rattle.std.proofs.Common.{ℕ, ◌-◌, ◌<◌, ◌≤◌, true≢false, refl, sym, ap, ◌∙◌, arith}
use Rattle.bound_grid.specs.Passes.{notes_of}
use Rattle.bound_grid.proofs.KnownLemmas.{knows_itself}
use Rattle.step_core.specs.CoreLists.{seal_at}
use Rattle.step_core.specs.Limits.{sizes_of}
use Rattle.tighten_step.proofs.SeenSeals.{layer_stays, layer_same, seal_else}
use Rattle.tighten_step.proofs.TightState.{tight_wider}
use Rattle.tighten_step.proofs.block.tighten_block.Goals as goal

pub returns-then-not-all-clause-tight : goal.returns-then-not-all-clause-tight
returns-then-not-all-clause-tight c = λ s lt is.
    let b = c.args.board.now in
    let r = c.tighten_states.new.pass in
    let did = c.tighten_states.ensures in
    tight_wider b c.args.pass.now c.see_layer-all.new.pass r r c.requires.sound c.see_layer-all.ensures.knows
    (knows_itself b r did.knows.pass) c.args.k s c.requires.layer lt (did.tight s lt is)

pub returns-then-not-all-clause-known : goal.returns-then-not-all-clause-known
returns-then-not-all-clause-known c = λ noted.
    let below : c.args.k - 1 ≤ c.args.board.now.plan.layers = omega (arith, c.requires.layer) in
    let still = layer_stays c.args.board.now c.args.pass.now c.see_layer-all.new.pass (c.args.k - 1) c.see_layer-all.ensures.knows below
    noted in
    absurd (true≢false (sym (c.see_layer-all.ensures.answer.1 still) ∙ c.if-not-all.true))

pub returns-clause-tight : goal.returns-clause-tight
returns-clause-tight c = λ s lt is.
    tight_wider c.args.board.now c.args.pass.now c.see_layer-all.new.pass c.tighten_states.new.pass c.seal.new.pass c.requires.sound
    c.see_layer-all.ensures.knows c.seal.ensures.knows c.args.k s c.requires.layer lt (c.tighten_states.ensures.tight s lt is)

pub returns-clause-answer : goal.returns-clause-answer
returns-clause-answer c =
    let b = c.args.board.now in
    let j : ℕ = c.args.k - 1 in
    let r = c.tighten_states.new.pass in
    let below : j ≤ b.plan.layers = omega (arith, c.requires.layer) in
    let before : j < c.args.k = omega (arith, c.requires.above) in
    let seen = c.see_layer-all.ensures.answer.0 c.if-not-all.false in
    let tightened = layer_same b c.see_layer-all.new.pass r j (λ d lt. c.tighten_states.ensures.seals j d below lt) seen in (
      λ _. layer_same b r c.seal.new.pass j
          (λ d lt. ap (λ ms. seal_at (sizes_of b.plan) ms j d) c.seal.ensures.notes
          ∙ seal_else (sizes_of b.plan) (notes_of r) c.args.k c.args.b 1 j d before lt)
          tightened,
      λ _. refl,
    )

pub returns-then-not-all-clause-answer : goal.returns-then-not-all-clause-answer
returns-then-not-all-clause-answer c =
    let b = c.args.board.now in
    let j : ℕ = c.args.k - 1 in
    let below : j ≤ b.plan.layers = omega (arith, c.requires.layer) in (
      λ unset. absurd (true≢false (sym unset)),
      λ noted. (let seen = layer_same b c.tighten_states.new.pass c.see_layer-all.new.pass j
          (λ d lt. sym (c.tighten_states.ensures.seals j d below lt)) noted in
          absurd (true≢false (sym (c.see_layer-all.ensures.answer.1 seen) ∙ c.if-not-all.true))),
    )
