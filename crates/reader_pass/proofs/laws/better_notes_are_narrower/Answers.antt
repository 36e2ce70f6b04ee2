use Rattle.reader_pass.proofs.NotedLemmas.{narrower, encloses_tables}
use Rattle.reader_pass.proofs.laws.better_notes_are_narrower.Goals as goal

pub returns-clause-narrower : goal.returns-clause-narrower
returns-clause-narrower c = λ plan notes better s sound inside h. narrower plan s inside sound notes better h

pub returns-clause-enclose : goal.returns-clause-enclose
returns-clause-enclose c = λ plan notes s sound inside are. encloses_tables plan s inside sound notes are
