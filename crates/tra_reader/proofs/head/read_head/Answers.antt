use Rattle.text_lines.specs.WordLines.{word_lines_in}
use Rattle.tra_reader.proofs.HeadLemmas.{states-outside, transitions-outside}
use Rattle.tra_reader.proofs.head.read_head.Goals as goal

pub returns-then-states-eq0-clause-fault : goal.returns-then-states-eq0-clause-fault
returns-then-states-eq0-clause-fault c =
    rw c.at-then-states-eq0.ensures
    (states-outside c.from-most.result c.from-most.ensures (word_lines_in c.args.lines.now) (word_lines_in c.next_count.new.lines)
    c.in-Ok.states c.in-Ok.ensures.count
    c.then-states-eq0.either)

pub returns-then-transitions-gt-MOST_TRANSITIONS-clause-fault :
    goal.returns-then-transitions-gt-MOST_TRANSITIONS-clause-fault
returns-then-transitions-gt-MOST_TRANSITIONS-clause-fault c =
    rw c.at-then-transitions-gt-MOST_TRANSITIONS.ensures
    (transitions-outside c.from-most.result c.from-most.ensures (word_lines_in c.args.lines.now) (word_lines_in c.next_count.new.lines)
    c.in-Ok.states c.in-Ok.ensures.count
    (word_lines_in c.next_count-2.new.lines) c.in-Ok-next_count.transitions c.if-states-eq0.false c.if-states-most.false
    c.in-Ok-next_count.ensures.count
    c.if-transitions-gt-MOST_TRANSITIONS.true)
