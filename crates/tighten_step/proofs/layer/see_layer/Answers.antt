use Rattle.bound_grid.specs.Passes.{notes_of}
use Rattle.bound_grid.proofs.KnownLemmas.{knows_then}
use Rattle.step_core.specs.Limits.{sizes_of}
use Rattle.tighten_step.proofs.SeenSeals.{both_true, seen_next}
use Rattle.tighten_step.proofs.layer.see_layer.Goals as goal

pub loop-b-preserved : goal.loop-b-preserved
loop-b-preserved c =
    let b = c.args.board.now in
    let set = c.sealed-set in
    let before = c.loop-b.invariant in
    record {
      knows = knows_then b c.args.pass.now c.loop-b.pass set.new.pass before.knows set.ensures.knows;
      first = λ zero. both_true c.loop-b.all set.result (before.first zero) (set.ensures.layer_zero zero);
      seen = seen_next (sizes_of b.plan) c.args.k c.loop-b.b (notes_of c.loop-b.pass) (notes_of set.new.pass) c.loop-b.all set.result
          set.ensures.notes set.ensures.noted before.seen;
    }
