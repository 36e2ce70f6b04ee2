use Rattle.std.proofs.Common.{sym, subst}
use Rattle.decimal_text.proofs.DigitRuns.{tail}
use Rattle.csl_syntax.specs.Scanner.{SkipsBlanks}
use Rattle.csl_syntax.proofs.Scans.{all_blank, blanks_before}
use Rattle.csl_syntax.proofs.front.skip_blanks.Goals as goal

pub returns-in-Some : goal.returns-in-Some
returns-in-Some c =
    let h = c.in-Some.ensures in
    subst (SkipsBlanks c.args.bytes.now) (sym (tail c.in-Some.count c.args.bytes.now))
    (blanks_before c.args.bytes.now c.in-Some.count h.0 h.1 h.2)

pub returns-in-None : goal.returns-in-None
returns-in-None c = all_blank c.args.bytes.now c.in-None.ensures
