use Rattle.text_lines.specs.LinesOf.{end_line_of}
use Rattle.text_lines.specs.Items.{line_text}
use Rattle.text_lines.specs.WordLines.{word_lines_in}
use Rattle.tra_reader.proofs.HeadLemmas.{count-said, count-lacking}
use Rattle.tra_reader.proofs.head.next_count.Goals as goal

pub returns-in-Some-count_of-clause-count : goal.returns-in-Some-count_of-clause-count
returns-in-Some-count_of-clause-count c =
    count-said c.args.limit c.args.keyword.now (line_text c.in-Some.line) (word_lines_in c.args.lines.now)
    (word_lines_in c.next_filled.new.lines) c.in-Some-count_of.count c.in-Some.ensures c.in-Some-count_of.ensures

pub returns-in-None-clause-lacking : goal.returns-in-None-clause-lacking
returns-in-None-clause-lacking c =
    count-lacking c.args.keyword.now (line_text c.in-Some.line) (word_lines_in c.args.lines.now) (word_lines_in c.next_filled.new.lines)
    (end_line_of c.args.bytes.now) c.in-Some.ensures c.in-None.ensures
