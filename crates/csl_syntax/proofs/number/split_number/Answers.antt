use Rattle.csl_syntax.specs.TokenText.{is_digit_or_point}
use Rattle.csl_syntax.proofs.Scans.{splits_run, number_alone, number_with}
use Rattle.csl_syntax.proofs.number.split_number.Goals as goal

pub returns-in-None : goal.returns-in-None
returns-in-None c =
    let run = c.split_run in
    number_alone c.args.bytes.now run.result.0.now run.result.1.now c.requires.some c.requires.starts
    (splits_run is_digit_or_point c.args.bytes.now run.result.0.now run.result.1.now run.ensures.split run.ensures.all run.ensures.ends)
    c.in-None.ensures

pub returns-in-Some : goal.returns-in-Some
returns-in-Some c =
    let run = c.split_run in
    let at = c.split_at in
    number_with c.args.bytes.now run.result.0.now run.result.1.now c.requires.some c.requires.starts
    (splits_run is_digit_or_point c.args.bytes.now run.result.0.now run.result.1.now run.ensures.split run.ensures.all run.ensures.ends)
    at.result.0.now c.in-Some.rest.now at.result.1.now c.in-Some.ensures at.ensures.front at.ensures.back
