use Rattle.text_lines.specs.WordLines.{word_lines_in}
use Rattle.tra_reader.proofs.ChainLemmas.{kept_lines}
use Rattle.tra_reader.proofs.TextLemmas.{text_made}
use Rattle.tra_reader.proofs.tra.read_lines.Goals as goal

pub chain_of-requires-clause-kept : goal.chain_of-requires-clause-kept
chain_of-requires-clause-kept c =
    let n = c.in_ok-head.head.states in
    let rows = word_lines_in c.read_head.new.lines in
    let read = c.in_ok-check_body.ensures n c.in_ok-head.head.transitions rows c.in_ok-body.ensures in
    rw c.deref.ensures.value (kept_lines n rows c.in_ok-body.body.entries.items read.read.each)

pub returns-clause-value : goal.returns-clause-value
returns-clause-value c =
    let made =
    text_made c.args.bytes.now c.lines-lines.result (word_lines_in c.read_head.new.lines) c.in_ok-head.head.states
    c.in_ok-head.head.transitions c.in_ok-body.body.entries.items
    c.deref.result.now c.chain_of.result c.lines-lines.ensures.computed c.in_ok-head.ensures.head
    (c.in_ok-check_body.ensures c.in_ok-head.head.states c.in_ok-head.head.transitions (word_lines_in c.read_head.new.lines)
    c.in_ok-body.ensures) c.deref.ensures.value
    c.chain_of.ensures.value c.chain_of.ensures.fault in
    made.0

pub returns-clause-fault : goal.returns-clause-fault
returns-clause-fault c = (
    text_made c.args.bytes.now c.lines-lines.result
    (word_lines_in c.read_head.new.lines) c.in_ok-head.head.states c.in_ok-head.head.transitions c.in_ok-body.body.entries.items
    c.deref.result.now c.chain_of.result c.lines-lines.ensures.computed c.in_ok-head.ensures.head
    (c.in_ok-check_body.ensures c.in_ok-head.head.states c.in_ok-head.head.transitions (word_lines_in c.read_head.new.lines)
    c.in_ok-body.ensures) c.deref.ensures.value
    c.chain_of.ensures.value c.chain_of.ensures.fault).1
