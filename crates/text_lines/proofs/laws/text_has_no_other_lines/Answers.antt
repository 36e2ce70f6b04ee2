use Rattle.text_lines.proofs.LineLemmas.{lines_unique}
use Rattle.text_lines.proofs.laws.text_has_no_other_lines.Goals as goal

pub returns : goal.returns
returns c = lines_unique
