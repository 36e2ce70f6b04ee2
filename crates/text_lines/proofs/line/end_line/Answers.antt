use Rattle.std.proofs.Common.{◌≤◌, inl, ap, length, arith}
use Rattle.text_lines.proofs.LineLemmas.{length-lines_of}
use Rattle.text_lines.proofs.line.end_line.Goals as goal

pub count-requires-clause-fits : goal.count-requires-clause-fits
count-requires-clause-fits c =
    let fits = c.well_formed in
    inl (omega (arith, length-lines_of c.args.bytes.now, ap length c.lines.ensures.computed))

pub overflow_add-result : goal.overflow_add-result
overflow_add-result c =
    let fits = c.well_formed in
    let few : c.count.result ≤ length c.args.bytes.now =
    omega (arith, c.count.ensures.bound, length-lines_of c.args.bytes.now, ap length c.lines.ensures.computed)
    in
    omega arith
