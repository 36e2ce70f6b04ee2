use Rattle.text_lines.proofs.WordLemmas.{blank_lines}
use Rattle.text_lines.proofs.laws.blank_line_has_blanks_alone.Goals as goal

pub returns : goal.returns
returns c = blank_lines
