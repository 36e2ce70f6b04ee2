use Rattle.std.proofs.Common.{◌≡◌, ◌∙◌, ℕ, ◌<◌, length, subst, arith}
use Rattle.std.proofs.lemmas.List.{get_or_default}
use Rattle.bound_grid.specs.Passes.{notes_of}
use Rattle.bound_grid.proofs.KnownLemmas.{at_least, least_then}
use Rattle.column_workers.proofs.ReadBefore.{read_before}
use Rattle.ctmc_semantics.specs.WordBracket.{WordBracket}
use Rattle.reader_pass.specs.NotedWords.{noted_words}
use Rattle.step_core.specs.PlanLists.{PlanLists}
use Rattle.step_core.specs.declared.bracket.Bracket.{Bracket}
use Rattle.mix_columns.specs.Mixed.{words_of}
use Rattle.mix_columns.specs.SideBySide.{bracket_at}
use Rattle.column_workers.specs.Hands.{IsNext}
use Rattle.column_workers.specs.Watched.{AreWatched}
use Rattle.column_workers.proofs.until_enough.run_until.Goals as goal

pub returns-clause-knows : goal.returns-clause-knows
returns-clause-knows g c =
    let b = c.args.board.now in
    least_then b _ _ _ c.in_ok-pass.ensures.knows (at_least b _ _ c.read_enough.ensures.knows)

pub returns-clause-brackets : goal.returns-clause-brackets
returns-clause-brackets g c =
    read_before c.args.board.now.plan (notes_of c.args.pass) (notes_of c.in_ok-pass.field-0.pass) c.read_enough.new.brackets.items
    c.requires.sound c.in_ok-pass.ensures.knows.more c.read_enough.ensures.brackets

pub returns-clause-watched : goal.returns-clause-watched
returns-clause-watched g c =
    let p : PlanLists = c.args.board.now.plan in
    let s : ℕ = c.args.watch.state in
    let outer : WordBracket = noted_words p (notes_of c.args.pass) s in
    let raced : WordBracket = noted_words p (notes_of c.in_ok-pass.field-0.pass) s in
    let is = c.read_enough.ensures.brackets.words s c.requires.state in
    let last : Bracket = bracket_at c.read_enough.new.brackets.items s in
    let inside : s < length c.read_enough.new.brackets.items =
    omega (arith, c.requires.state, c.read_enough.ensures.brackets.each_state) in
    let same : c.index.result.now ≡ last = c.index.ensures ∙ get_or_default c.read_enough.new.brackets.items s _ _ inside in
    let pushed : IsNext p s raced last → AreWatched p s c.args.watch.count outer (words_of last) c.push_last.new.watched.items =
    subst
    (λ (x : Bracket). IsNext p s raced x → AreWatched p s c.args.watch.count outer (words_of x) c.push_last.new.watched.items) same
    (c.push_last.ensures p outer raced c.in_ok-pass.ensures.taken) in
    pushed (record {
      inside = is.inside;
      contains = is.contains;
      lower_word = c.read_enough.ensures.brackets.lower_words s _ inside;
      upper_word = c.read_enough.ensures.brackets.upper_words s _ inside;
    })
