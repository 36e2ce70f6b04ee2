use Rattle.std.proofs.Common.{ℕ, subst, sym}
use Rattle.reward_dual.proofs.Coprime.{AreDivided, divided_coprime}
use Rattle.reward_dual.proofs.lowest_terms.Lowest.of.Goals as goal

pub invariant_of-result : goal.invariant_of-result
invariant_of-result c =
    let parts : AreDivided c.args.num c.args.den c.gcd-common.result =
    subst (λ (g : ℕ). AreDivided c.args.num c.args.den g) (sym c.gcd-common.ensures.value) (divided_coprime c.args.num c.args.den c.requires) in
    (parts.positive, parts.coprime)
