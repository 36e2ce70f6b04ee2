use Rattle.std.proofs.Common.{◌≡◌, ℕ, ◌<◌, Bool, false, List, length, IsTrue, inl, inr, sym, ◌∙◌, arith}
use Rattle.std.proofs.Math.ListN.{get_or-eq_default}
use Rattle.std.proofs.lemmas.Bool.{cases_lt, false≢true}
use Rattle.ctmc_semantics.specs.Sets.{holds_at}
use Rattle.tighten_step.proofs.tests.drawn.is_within.Goals as goal

-- what a list holds is inside it
holds_inside : (xs : List Bool) (s : ℕ) → IsTrue (holds_at xs s) → s < length xs
holds_inside xs s h =
    elim (cases_lt s (length xs)) [
      | inl inside ↦ inside
      | inr past ↦ absurd (false≢true (sym (get_or-eq_default xs false past) ∙ h))
    ]

pub returns : goal.returns
returns c = λ t s h.
    c.loop-state.invariant s
    (omega (arith, holds_inside c.args.inner.now s h, c.loop-state-test.false, c.loop-state.auto.state-end)) h
