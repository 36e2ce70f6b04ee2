use Rattle.text_lines.proofs.WordLemmas.{words_unique}
use Rattle.text_lines.proofs.laws.line_has_no_other_words.Goals as goal

pub returns : goal.returns
returns c = words_unique
