use Rattle.text_lines.proofs.LineLemmas.{lines_exist, length-lines_of}
use Rattle.text_lines.proofs.line.lines.Goals as goal

pub returns-clause-lines : goal.returns-clause-lines
returns-clause-lines c = lines_exist c.args.bytes.now

pub returns-clause-few : goal.returns-clause-few
returns-clause-few c = length-lines_of c.args.bytes.now
