use Rattle.std.proofs.Common.{◌≡◌, ap, sym, ◌∙◌, [], length, rules}
use Rattle.std.proofs.lemmas.List.{take_rest}
use Rattle.text_lines.proofs.WordLemmas.{words_from-next, words_from-end}
use Rattle.text_lines.proofs.word.WordIterIterator.next.Goals as goal

pub returns-in_err-blanks-clause-steps : goal.returns-in_err-blanks-clause-steps
returns-in_err-blanks-clause-steps c =
    let none : c.args.self.now ≡ [] =
    sym c.self.view_is ∙ words_from-end c.self.inside.column c.self.inside.rest.now c.in_err-blanks.ensures
    in
    rw c.from_residual.ensures (none, none)

pub returns-clause-steps : goal.returns-clause-steps
returns-clause-steps c =
    let found = c.in_ok-blanks.ensures in
    sym c.self.view_is
    ∙ words_from-next c.self.inside.column c.in_ok-blanks.blanks c.self.inside.rest.now c.split_word.result.0.now c.split_word.result.1.now
    found.0 found.1 found.2 (sym (take_rest c.self.inside.rest.now c.in_ok-blanks.blanks) ∙ c.split_word.ensures.text)
    c.split_word.ensures.solid c.split_word.ensures.longest

pub returns-clause-goes : goal.returns-clause-goes
returns-clause-goes c =
    let found = c.in_ok-blanks.ensures in
    let steps =
    sym c.self.view_is
    ∙ words_from-next c.self.inside.column c.in_ok-blanks.blanks c.self.inside.rest.now c.split_word.result.0.now c.split_word.result.1.now
    found.0 found.1 found.2 (sym (take_rest c.self.inside.rest.now c.in_ok-blanks.blanks) ∙ c.split_word.ensures.text)
    c.split_word.ensures.solid c.split_word.ensures.longest in
    let fewer = ap length steps in
    search rules
