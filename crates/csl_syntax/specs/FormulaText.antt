-- The formula for which a line stands.
use Rattle.std.specs.Prelude.{ℕ, ◌≤◌, List, [], length}
use Rattle.csl_syntax.specs.declared.limits.TheConstants.{MOST_BYTES, MOST_NESTED}
use Rattle.csl_syntax.specs.declared.token.Token.{Token}
use Rattle.csl_syntax.specs.Tree.{Tree}
use Rattle.csl_syntax.specs.Tokens.{HasTokens}
use Rattle.csl_syntax.specs.Grammar.{Limits, Spells}

-- the limits of a line over these labels: a threshold is at most 1
abbrev pub line_limits : List (List ℕ) → Limits
line_limits labels = record { labels = length labels; threshold = 1; nested = MOST_NESTED }

-- over these labels the line stands for f: it is not too long, and its tokens spell f within the limits
pub record FormulaSays (line : List ℕ) (labels : List (List ℕ)) (f : Tree) : Type 0 where
  pub short : length line ≤ MOST_BYTES
  pub tokens : List Token
  pub has : HasTokens labels line tokens []
  pub spells : Spells (line_limits labels) tokens f
