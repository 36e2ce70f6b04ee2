use Rattle.csl_syntax.proofs.Scans.{pair_here, two_and_others}
use Rattle.csl_syntax.proofs.symbol.first_pair.Goals as goal

pub returns : goal.returns
returns c =
    λ labels. pair_here labels c.args.bytes.now _ _ _ c.in_ok-token.token (two_and_others c.args.bytes.now c.in-len2-up.len_at_least)
    c.in_ok-token.ensures
