use Rattle.std.proofs.Common.{◌≡◌, ℕ, ◌∷◌, ◌≤◌, List, length}
use Rattle.std.specs.Prelude.{IsTrue, not}
use Rattle.text_lines.specs.Words.{is_blank}
use Rattle.csl_syntax.specs.Parsing.{IsReadUpTo}
use Rattle.csl_syntax.proofs.parser.read_tokens.Given as goal

abbrev pub invariant-loop-rest : goal.invariant-loop-rest
invariant-loop-rest l = record {
  reads : IsReadUpTo l.line l.labels l.machine l.rest;
  within : length l.rest ≤ length l.line;
  solid : (b : ℕ) (more : List ℕ) → l.rest ≡ b ∷ more → IsTrue (not (is_blank b));
}

abbrev pub decreases-loop-rest : goal.decreases-loop-rest
decreases-loop-rest l = length l.rest
