use Rattle.std.proofs.Common.{◌≡◌, ℕ, ◌*◌, ◌<◌, ◌≤◌}
use Rattle.bound_grid.specs.Passes.{KnowsMore, seal_note}
use Rattle.step_core.specs.Limits.{sizes_of}
use Rattle.step_core.specs.Places.{blocks}
use Rattle.step_core.specs.declared.blocks.TheConstants.{BLOCK_STATES}
use Rattle.tighten_step.proofs.BlockStates.{AreTightened}
use Rattle.tighten_step.proofs.block.tighten_states.Given as goal

abbrev pub invariant-loop-s : goal.invariant-loop-s
invariant-loop-s l = record {
  knows : KnowsMore l.board l.initial.pass l.pass;
  tightened : AreTightened l.board l.initial.pass l.pass l.k (BLOCK_STATES * l.b) l.s;
  seals : (j c : ℕ) → j ≤ l.board.plan.layers → c < blocks (sizes_of l.board.plan)
      → seal_note l.board l.pass j c ≡ seal_note l.board l.initial.pass j c;
}
