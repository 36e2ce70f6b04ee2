use Rattle.std.proofs.Common.{◌≡◌, min, set, ap, ◌∙◌, arith}
use Rattle.std.proofs.lemmas.List.{set-set}
use Rattle.step_core.specs.Limits.{sizes_of}
use Rattle.step_core.specs.Places.{upper_place}
use Rattle.bound_grid.specs.Passes.{notes_of}
use Rattle.bound_grid.proofs.KnownLemmas.{knows_then, note_le_one}
use Rattle.tighten_step.proofs.LoadedWords.{upper_noted_itself}
use Rattle.tighten_step.proofs.state.cut_to.Goals as goal

pub returns-then-load_upper-to-clause-notes : goal.returns-then-load_upper-to-clause-notes
returns-then-load_upper-to-clause-notes c =
    let b = c.args.board.now in
    let p = c.args.pass.now in
    let q = c.load_upper.new.pass in
    let r = c.cut.new.pass in
    let i = upper_place (sizes_of b.plan) c.args.k c.args.s in
    let y = min c.cut.result c.args.to in
    let notes : notes_of r ≡ set (notes_of p) i y =
    c.cut.ensures.notes ∙ (ap (λ m. set m i y) c.load_upper.ensures.notes ∙ set-set (notes_of p) i c.load_upper.result y) in
    upper_noted_itself b p r c.args.k c.args.s y c.requires.layer c.requires.state
    (knows_then b p q r c.load_upper.ensures.knows c.cut.ensures.knows) notes c.requires.pass

pub returns-then-to-ge-ONE-clause-cut : goal.returns-then-to-ge-ONE-clause-cut
returns-then-to-ge-ONE-clause-cut c =
    let one = note_le_one c.args.board.now c.args.pass.now c.requires.pass c.args.k c.args.s c.requires.layer c.requires.state
    c.requires.sound in
    omega (arith, one, c.if-to-ge-ONE.true)
