use Rattle.csl_syntax.proofs.Parses.{ended}
use Rattle.csl_syntax.proofs.parser.parse_short.Goals as goal

pub returns : goal.returns
returns c =
    ended c.args.labels.now c.args.line.now c.in_ok-machine.machine c.finish.result c.in_ok-machine.ensures c.requires.short
    c.finish.ensures
