use Rattle.std.proofs.Common.{◌≡◌, ◌<◌, length, sym, ◌∙◌, arith}
use Rattle.std.specs.Char.{is_ascii_digit}
use Rattle.std.proofs.lemmas.Bool.Decides.{nat_tests}
use Rattle.csl_syntax.proofs.Scans.{splits_run, no_digits_here, digits_here}
use Rattle.csl_syntax.proofs.number.after_digits.Goals as goal

pub returns-then-is_empty : goal.returns-then-is_empty
returns-then-is_empty c =
    let run = c.split_run in
    let e = sym c.is_empty.ensures ∙ c.if-is_empty.true in
    let none : length run.result.0.now ≡ 0 = grind (arith, nat_tests, e) in
    no_digits_here c.args.bytes.now run.result.0.now run.result.1.now
    (splits_run is_ascii_digit c.args.bytes.now run.result.0.now run.result.1.now run.ensures.split run.ensures.all run.ensures.ends) none

pub returns : goal.returns
returns c =
    let run = c.split_run in
    let e = sym c.is_empty.ensures ∙ c.if-is_empty.false in
    let some : 0 < length run.result.0.now = grind (arith, nat_tests, e) in
    digits_here c.args.bytes.now run.result.0.now run.result.1.now
    (splits_run is_ascii_digit c.args.bytes.now run.result.0.now run.result.1.now run.ensures.split run.ensures.all run.ensures.ends) some
