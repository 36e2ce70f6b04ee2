use Rattle.std.proofs.Common.{rules, ◌≡◌, ℕ, List, [], ◌∷◌, ◌++◌, length, sym, subst, arith}
use Rattle.std.proofs.lemmas.List.{length_push}
use Rattle.std.specs.Prelude.{vec_len}
use Rattle.step_core.specs.declared.bracket.Bracket.{Bracket}
use Rattle.mix_columns.specs.Mixed.{words_of}
use Rattle.column_workers.specs.Watched.{AreWatched}
use Rattle.column_workers.proofs.TakenLemmas.{watched_push}
use Rattle.column_workers.proofs.watching.push_last.Goals as goal

pub returns-then-watch-gt0 : goal.returns-then-watch-gt0
returns-then-watch-gt0 c = λ plan outer now was next.
    let s : ℕ = c.args.watch.state in
    let x : Bracket = c.args.last in
    let old : List Bracket = c.args.watched.now.items in
    let items : c.push.new.self.items ≡ old ++ x ∷ [] = search rules in
    let size : length old ≡ vec_len c.args.watched.now = search rules in
    let count : length (old ++ x ∷ []) ≡ c.args.watch.count =
    omega (arith, length_push old x, size, c.requires.count, c.if-watch-gt0.true) in
    subst (λ (xs : List Bracket). AreWatched plan s c.args.watch.count outer (words_of x) xs) (sym items)
    (watched_push plan s outer now old x next.inside next.contains next.lower_word next.upper_word was c.args.watch.count count)
