use Rattle.model_core.proofs.ChainSums.{exit_rate-chain_of}
use Rattle.model_core.proofs.laws.exit_rate_is_exit_sum.Goals as goal

pub returns : goal.returns
returns c = exit_rate-chain_of
