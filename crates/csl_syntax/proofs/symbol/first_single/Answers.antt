use Rattle.csl_syntax.proofs.Scans.{single_here, one_and_others}
use Rattle.csl_syntax.proofs.symbol.first_single.Goals as goal

pub returns : goal.returns
returns c =
    λ labels. single_here labels c.args.bytes.now _ _ c.in_ok-token.token (one_and_others c.args.bytes.now c.in-len1-up.len_at_least)
    c.in_ok-token.ensures c.requires
