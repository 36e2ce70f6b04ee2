use Rattle.csl_syntax.proofs.Parses.{says_exactly, faulty_exactly}
use Rattle.csl_syntax.proofs.parser.parse.Goals as goal

pub returns-clause-says : goal.returns-clause-says
returns-clause-says c = says_exactly c.args.line.now c.args.labels.now c.parse_short.result c.parse_short.ensures

pub returns-clause-faulty : goal.returns-clause-faulty
returns-clause-faulty c = faulty_exactly c.args.line.now c.args.labels.now c.parse_short.result c.parse_short.ensures
