use Rattle.std.proofs.Common.{◌≡◌, ◌∙◌, ◌^◌, ◌<◌, MatchOption, true, false, subst, arith}
use Rattle.ctmc_semantics.specs.Fraction.{Fraction}
use Rattle.ctmc_semantics.proofs.Powers.{power_le}
use Rattle.reward_dual.specs.LowestTerms.{fits_load}
use Rattle.reward_dual.proofs.LowestProducts.{load_numbers}
use Rattle.reward_dual.proofs.lowest_terms.lowest_load.Goals as goal

pub returns-in_err-times : goal.returns-in_err-times
returns-in_err-times c =
    let some : 0 < 10 ^ c.args.places = omega (arith, power_le 10 0 c.args.places (omega arith) (omega arith)) in
    let same = load_numbers c.requires.positive c.from.ensures c.from-2.ensures c.from-3.ensures c.of-whole.ensures
    (10 ^ c.args.decimals) (10 ^ c.args.places) c.of_powers.result some c.of_powers.ensures.divisor c.of_powers.ensures.value in
    rw c.from_residual.ensures (subst (λ (f : Fraction). fits_load f ≡ false) same c.in_err-times.ensures)

pub returns : goal.returns
returns c =
    let some : 0 < 10 ^ c.args.places = omega (arith, power_le 10 0 c.args.places (omega arith) (omega arith)) in
    let same = load_numbers c.requires.positive c.from.ensures c.from-2.ensures c.from-3.ensures c.of-whole.ensures
    (10 ^ c.args.decimals) (10 ^ c.args.places) c.of_powers.result some c.of_powers.ensures.divisor c.of_powers.ensures.value in
    subst (λ (f : Fraction). MatchOption c.load.result (fits_load f ≡ false) (λ l. (l ≡ f) × (fits_load f ≡ true)))
    (c.in_ok-times.ensures ∙ same) c.load.ensures
