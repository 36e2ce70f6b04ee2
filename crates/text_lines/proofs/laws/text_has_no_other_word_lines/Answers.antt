use Rattle.text_lines.proofs.WordLineLemmas.{word_lines_unique}
use Rattle.text_lines.proofs.laws.text_has_no_other_word_lines.Goals as goal

pub returns : goal.returns
returns c = word_lines_unique
