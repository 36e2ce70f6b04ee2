use Rattle.csl_syntax.proofs.CanonicalReads.{text_reads_back}
use Rattle.csl_syntax.proofs.text.text_reads_back.Goals as goal

pub returns : goal.returns
returns c = text_reads_back
