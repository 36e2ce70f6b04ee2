use Rattle.command_words.proofs.OneCommand.{options_in_range}
use Rattle.command_words.proofs.laws.options_are_in_range.Goals as goal

pub returns : goal.returns
returns c = options_in_range
