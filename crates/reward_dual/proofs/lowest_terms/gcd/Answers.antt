use Rattle.std.proofs.Common.{◌∙◌, subst, sym, arith, ◌<◌, ◌≡◌, ℕ}
use Rattle.reward_dual.specs.LowestTerms.{gcd}
use Rattle.reward_dual.proofs.Gcd.{gcd_step, gcd_end, gcd_positive}
use Rattle.reward_dual.proofs.lowest_terms.gcd.Goals as goal

pub loop-y-preserved : goal.loop-y-preserved
loop-y-preserved c = gcd_step c.loop-y.x c.loop-y.y ∙ c.loop-y.invariant

pub returns-clause-value : goal.returns-clause-value
returns-clause-value c = gcd_end c.loop-y.x c.loop-y.y (omega arith) ∙ c.loop-y.invariant

pub returns-clause-positive : goal.returns-clause-positive
returns-clause-positive c pos =
    let value : c.loop-y.x ≡ gcd c.args.a c.args.b = gcd_end c.loop-y.x c.loop-y.y (omega arith) ∙ c.loop-y.invariant in
    subst (λ (z : ℕ). 0 < z) (sym value) (gcd_positive c.args.a c.args.b pos)
