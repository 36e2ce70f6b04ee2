use Rattle.bound_grid.proofs.CallLemmas.{some_word}
use Rattle.bound_grid.proofs.KeptLemmas.{splits}
use Rattle.bound_grid.proofs.board.Board.split.Goals as goal

pub split_seat-requires : goal.split_seat-requires
split_seat-requires c = (c.requires.pass.table, some_word c.args.self.now, splits c.args.self.now.table.shared.key _ _)
