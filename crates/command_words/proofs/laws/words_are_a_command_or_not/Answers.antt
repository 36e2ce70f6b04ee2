use Rattle.command_words.proofs.Deciding.{command_or_not}
use Rattle.command_words.proofs.laws.words_are_a_command_or_not.Goals as goal

pub returns : goal.returns
returns c = command_or_not
