use Rattle.text_lines.proofs.LineLemmas.{line_bytes-first, line_bytes-only}
use Rattle.text_lines.proofs.line.first_line.Goals as goal

pub returns-in-Some-clause-line : goal.returns-in-Some-clause-line
returns-in-Some-clause-line c =
    line_bytes-first c.args.text.now c.in-Some.line.now c.in-Some.rest.now c.without_cr.result.now c.in-Some.ensures.0 c.in-Some.ensures.1
    c.without_cr.ensures

pub returns-in-None-clause-line : goal.returns-in-None-clause-line
returns-in-None-clause-line c = line_bytes-only c.args.text.now c.requires c.in-None.ensures
