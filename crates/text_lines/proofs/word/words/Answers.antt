use Rattle.text_lines.proofs.WordLemmas.{words_exist, length-words_from}
use Rattle.text_lines.proofs.word.words.Goals as goal

pub returns-clause-words : goal.returns-clause-words
returns-clause-words c = words_exist c.args.line.now

pub returns-clause-few : goal.returns-clause-few
returns-clause-few c = length-words_from 1 c.args.line.now
