use Rattle.command_words.proofs.ReadWords.{words_are_read_one_way}
use Rattle.command_words.proofs.laws.words_are_read_one_way.Goals as goal

pub returns : goal.returns
returns c = words_are_read_one_way
