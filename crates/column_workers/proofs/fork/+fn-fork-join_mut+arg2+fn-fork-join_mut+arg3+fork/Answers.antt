use Rattle.std.proofs.Common.{rules}
use Rattle.std.proofs.lemmas.List.Elements.{All-append}
use Rattle.column_workers.specs.Hands.{IsDone}
use Rattle.column_workers.proofs.fork.+fn-fork-join_mut+arg2+fn-fork-join_mut+arg3+fork.Goals as goal

pub returns-clause-done : goal.returns-clause-done
returns-clause-done g t c =
    All-append (IsDone c.args.board.now c.args.early) c.front-1.given.0 c.back-1.given.0 (search rules) (search rules)
