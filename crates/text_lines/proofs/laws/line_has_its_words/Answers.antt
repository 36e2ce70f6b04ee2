use Rattle.text_lines.proofs.WordLemmas.{words_exist}
use Rattle.text_lines.proofs.laws.line_has_its_words.Goals as goal

pub returns : goal.returns
returns c = words_exist
