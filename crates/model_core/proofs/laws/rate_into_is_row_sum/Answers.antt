use Rattle.model_core.proofs.ChainSums.{rate_into-chain_of}
use Rattle.model_core.proofs.laws.rate_into_is_row_sum.Goals as goal

pub returns : goal.returns
returns c = rate_into-chain_of
