-- What it is for a bracket to contain an until goes over to each wider bracket.
use Rattle.std.proofs.Common.{ℕ}
use Rattle.ctmc_semantics.specs.Bracket.{Bracket, HasEnds, Encloses, ContainsFrom, ContainsLimit}
use Rattle.ctmc_semantics.specs.Fraction.{Fraction}
use Rattle.ctmc_semantics.proofs.ContainsLemmas.{enclosing_contains, enclosing_contains_limit}

abbrev pub Widens : (Bracket → Type 0) → Type 0
Widens Contains = (outer inner : Bracket) → HasEnds inner → Encloses outer inner → Contains inner → Contains outer

module _ (last : ℕ) (x : ℕ → Fraction) where
  pub from_widens : Widens (λ b. ContainsFrom b last x)
  from_widens outer inner ends encloses contains = λ n h. enclosing_contains outer inner (x n) ends encloses (contains n h)

  pub limit_widens : Widens (λ b. ContainsLimit b last x)
  limit_widens outer inner ends encloses contains = enclosing_contains_limit outer inner last x ends encloses contains
