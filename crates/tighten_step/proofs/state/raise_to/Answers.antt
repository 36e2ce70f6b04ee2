use Rattle.std.proofs.Common.{◌≡◌, max, set, ap, ◌∙◌}
use Rattle.std.proofs.lemmas.List.{set-set}
use Rattle.step_core.specs.Limits.{sizes_of}
use Rattle.step_core.specs.Places.{lower_place}
use Rattle.bound_grid.specs.Passes.{notes_of}
use Rattle.bound_grid.proofs.KnownLemmas.{knows_then}
use Rattle.tighten_step.proofs.LoadedWords.{lower_noted_itself}
use Rattle.tighten_step.proofs.state.raise_to.Goals as goal

pub returns-then-load_lower-to-clause-notes : goal.returns-then-load_lower-to-clause-notes
returns-then-load_lower-to-clause-notes c =
    let b = c.args.board.now in
    let p = c.args.pass.now in
    let q = c.load_lower.new.pass in
    let r = c.raise.new.pass in
    let i = lower_place (sizes_of b.plan) c.args.k c.args.s in
    let y = max c.raise.result c.args.to in
    let notes : notes_of r ≡ set (notes_of p) i y =
    c.raise.ensures.notes ∙ (ap (λ m. set m i y) c.load_lower.ensures.notes ∙ set-set (notes_of p) i c.load_lower.result y) in
    lower_noted_itself b p r c.args.k c.args.s y c.requires.layer c.requires.state
    (knows_then b p q r c.load_lower.ensures.knows c.raise.ensures.knows) notes c.requires.pass
