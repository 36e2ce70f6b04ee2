use Rattle.std.proofs.Common.{◌-◌, arith}
use Rattle.text_lines.proofs.EntryScales.{small-value}
use Rattle.text_lines.proofs.entry_line.value_at.Goals as goal

pub returns-clause-small : goal.returns-clause-small
returns-clause-small g c =
    rw (c.from.ensures, c.pow.ensures)
    (small-value c.args.entry.now.digits (c.args.scale - c.args.entry.now.decimals) (omega arith) (omega arith))
