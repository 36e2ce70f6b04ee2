use Rattle.std.proofs.Common.{◌≡◌, ap, sym, ◌∙◌, [], length, rules}
use Rattle.text_lines.specs.Lines.{numbered_from}
use Rattle.text_lines.proofs.LineLemmas.{line_bytes-empty}
use Rattle.text_lines.proofs.line.LineIterIterator.next.Goals as goal

pub returns-then-is_empty-clause-steps : goal.returns-then-is_empty-clause-steps
returns-then-is_empty-clause-steps c =
    let empty : length c.self.inside.rest.now ≡ 0 = search rules in
    let none : c.args.self.now ≡ [] =
    sym c.self.view_is ∙ ap (numbered_from c.self.inside.number) (line_bytes-empty c.self.inside.rest.now empty)
    in
    (none, none)

pub returns-clause-steps : goal.returns-clause-steps
returns-clause-steps c = sym c.self.view_is ∙ ap (numbered_from c.self.inside.number) c.first_line.ensures.line

pub returns-clause-goes : goal.returns-clause-goes
returns-clause-goes c =
    let steps = sym c.self.view_is ∙ ap (numbered_from c.self.inside.number) c.first_line.ensures.line in
    let fewer = ap length steps in
    search rules
