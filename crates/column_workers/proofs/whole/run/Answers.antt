use Rattle.std.proofs.Common.{ℕ, sym, subst}
use Rattle.bound_grid.specs.Passes.{notes_of}
use Rattle.bound_grid.specs.SealNotes.{NotesColumn}
use Rattle.bound_grid.proofs.KnownLemmas.{at_least, knows_then, least_then}
use Rattle.bound_grid.proofs.NoteLemmas.{no_worse_trans}
use Rattle.ctmc_semantics.specs.WordBracket.{WordBracket}
use Rattle.mix_columns.specs.Mixed.{words_of}
use Rattle.mix_columns.specs.MixLaws.{EnclosesWords}
use Rattle.reader_pass.proofs.NotedLemmas.{narrower}
use Rattle.reader_pass.specs.NotedWords.{noted_words}
use Rattle.step_core.proofs.PlaceLemmas.{block_in}
use Rattle.step_core.specs.Limits.{sizes_of}
use Rattle.step_core.specs.Places.{block_of}
use Rattle.step_core.specs.PlanLists.{PlanLists}
use Rattle.tighten_step.proofs.SeenSeals.{layer_stays}
use Rattle.column_workers.specs.Watched.{AreWatched}
use Rattle.column_workers.proofs.whole.run.Goals as goal

pub returns-clause-knows : goal.returns-clause-knows
returns-clause-knows g c =
    let b = c.args.board.now in
    least_then b _ _ _ c.in_ok-pass.ensures.knows
    (at_least b _ _ (knows_then b _ _ _ c.finish.ensures.knows c.read-last.ensures.knows))

pub returns-clause-sealed : goal.returns-clause-sealed
returns-clause-sealed g c =
    record { at = λ k le. layer_stays c.args.board.now _ _ k c.read-last.ensures.knows le (c.finish.ensures.sealed.at k le) }

pub returns-clause-watched : goal.returns-clause-watched
returns-clause-watched g c =
    let p : PlanLists = c.args.board.now.plan in
    let s : ℕ = c.args.watch.state in
    let outer : WordBracket = noted_words p (notes_of c.args.pass) s in
    let raced : WordBracket = noted_words p (notes_of c.in_ok-pass.field-0.pass) s in
    let did = c.read-last.ensures in
    let later = no_worse_trans (sizes_of p) _ _ _ c.finish.ensures.knows.more did.knows.more in
    let lies : EnclosesWords raced (words_of c.read-last.result) =
    subst (EnclosesWords raced) (sym did.answer)
    (narrower p s c.requires.state c.requires.sound (notes_of c.in_ok-pass.field-0.pass) (notes_of c.read-last.new.pass) later) in
    let column : NotesColumn p (notes_of c.finish.new.pass) s = record {
      at = λ k le. (c.finish.ensures.sealed.at k le).at (block_of s) (block_in (sizes_of p) k s le c.requires.state);
    } in
    subst (λ (w : WordBracket). AreWatched p s c.args.watch.count outer w c.push_last.new.watched.items) (did.sealed column)
    (c.push_last.ensures p outer raced c.in_ok-pass.ensures.taken
    (record { inside = lies; contains = did.contains; lower_word = did.lower_word; upper_word = did.upper_word }))
