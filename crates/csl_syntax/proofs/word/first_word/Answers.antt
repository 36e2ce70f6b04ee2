use Rattle.text_lines.specs.Name.{continues_name}
use Rattle.csl_syntax.proofs.Scans.{splits_run, word_is, word_stands}
use Rattle.csl_syntax.proofs.word.first_word.Goals as goal

pub word_token-requires-clause-word : goal.word_token-requires-clause-word
word_token-requires-clause-word c =
    let run = c.split_run in
    word_is c.args.bytes.now run.result.0.now run.result.1.now c.requires.some c.requires.starts
    (splits_run continues_name c.args.bytes.now run.result.0.now run.result.1.now run.ensures.split run.ensures.all run.ensures.ends)

pub returns : goal.returns
returns c =
    let run = c.split_run in
    record {
      text = run.result.0.now;
      longest = word_stands c.args.bytes.now run.result.0.now run.result.1.now c.requires.some c.requires.starts
          (splits_run continues_name c.args.bytes.now run.result.0.now run.result.1.now run.ensures.split run.ensures.all
          run.ensures.ends);
      writes = c.word_token.ensures;
    }
