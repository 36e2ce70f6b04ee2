use Rattle.bound_grid.proofs.KnownLemmas.{knows_itself, knows_then}
use Rattle.column_workers.proofs.early.are_enough.Goals as goal

pub loop-s-init : goal.loop-s-init
loop-s-init g c = knows_itself c.args.board.now c.args.pass.now c.requires.pass

pub read_front-bracket-requires-clause-pass : goal.read_front-bracket-requires-clause-pass
read_front-bracket-requires-clause-pass g c = c.loop-s.invariant.pass

pub loop-s-preserved : goal.loop-s-preserved
loop-s-preserved g c = knows_then c.args.board.now _ _ _ c.loop-s.invariant c.read_front-bracket.ensures.knows

pub returns-then-not-enough : goal.returns-then-not-enough
returns-then-not-enough g c = record {
  knows = knows_then c.args.board.now _ _ _ c.loop-s.invariant c.read_front-bracket.ensures.knows;
}
