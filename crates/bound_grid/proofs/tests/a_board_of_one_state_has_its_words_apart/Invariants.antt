use Rattle.bound_grid.specs.Passes.{IsPassOf}
use Rattle.bound_grid.proofs.tests.a_board_of_one_state_has_its_words_apart.Given as goal

-- the pass is the board's still
abbrev pub invariant-loop-k : goal.invariant-loop-k
invariant-loop-k g l = IsPassOf l.board l.pass
