use Rattle.command_words.proofs.FlagPlaces.{flag_stands_anywhere}
use Rattle.command_words.proofs.laws.flag_stands_anywhere.Goals as goal

pub returns : goal.returns
returns c = flag_stands_anywhere
