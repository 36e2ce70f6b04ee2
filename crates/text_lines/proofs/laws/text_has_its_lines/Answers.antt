use Rattle.text_lines.proofs.LineLemmas.{lines_exist}
use Rattle.text_lines.proofs.laws.text_has_its_lines.Goals as goal

pub returns : goal.returns
returns c = lines_exist
