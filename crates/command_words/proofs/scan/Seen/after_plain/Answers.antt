use Rattle.command_words.proofs.SeenLemmas.{plain_goes_on}
use Rattle.command_words.proofs.scan.Seen.after_plain.Goals as goal

pub returns : goal.returns
returns c = plain_goes_on c.args.self c.args.word.now c.in_ok-missing.missing c.in_ok-missing.ensures
