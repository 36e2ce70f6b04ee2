use Rattle.std.proofs.Common.{ℕ, ◌-◌, ◌<◌, ◌≤◌, subst, sym, inl, inr, arith}
use Rattle.std.proofs.lemmas.Bool.{cases_eq}
use Rattle.bound_grid.specs.Passes.{notes_of}
use Rattle.bound_grid.specs.SealNotes.{NotesLayer}
use Rattle.bound_grid.proofs.KnownLemmas.{knows_itself, knows_then}
use Rattle.tighten_step.proofs.SeenSeals.{layer_stays}
use Rattle.column_workers.proofs.sure.make_sure_from.Goals as goal

pub loop-k-init : goal.loop-k-init
loop-k-init c = record {
  knows = knows_itself c.args.board.now c.args.pass.now c.requires.pass;
  sealed = c.requires.known;
}

pub make_sure-requires-clause-pass : goal.make_sure-requires-clause-pass
make_sure-requires-clause-pass c = c.loop-k.invariant.knows.pass

pub make_sure-requires-clause-before : goal.make_sure-requires-clause-before
make_sure-requires-clause-before c above = c.loop-k.invariant.sealed (c.loop-k.k - 1) (omega (arith, above))

pub loop-k-preserved : goal.loop-k-preserved
loop-k-preserved c =
    let b = c.args.board.now in
    let went = c.make_sure.ensures in
    let le : c.loop-k.k ≤ b.plan.layers = omega (arith, c.loop-k-test.true, c.requires.end) in
    record {
      knows = knows_then b _ _ _ c.loop-k.invariant.knows went.knows;
      sealed = λ j lt. elim (cases_eq j c.loop-k.k) [
        | inl e ↦ subst (λ (i : ℕ). NotesLayer b.plan (notes_of c.make_sure.new.pass) i) (sym e) went.sealed
        | inr ne ↦ (let less : j < c.loop-k.k = omega (arith, lt, ne) in
            layer_stays b _ _ j went.knows (omega (arith, less, le)) (c.loop-k.invariant.sealed j less))
      ];
    }

pub returns-clause-sealed : goal.returns-clause-sealed
returns-clause-sealed c = λ j lt. c.loop-k.invariant.sealed j (omega (arith, lt, c.loop-k-test.false))
