use Rattle.std.proofs.Common.{sym, ◌∙◌, slice_index}
use Rattle.text_lines.specs.Words.{is_blank}
use Rattle.csl_syntax.proofs.Scans.{nothing_here, not_so}
use Rattle.csl_syntax.proofs.front.first_token.Goals as goal

pub returns-in-None : goal.returns-in-None
returns-in-None c =
    nothing_here c.args.bytes.now c.requires.some (not_so (is_blank (slice_index c.args.bytes.now 0)) c.requires.solid)
    (sym c.begins_word.ensures ∙ c.if-begins_word.false) (sym c.is_digit_or_point.ensures ∙ c.if-is_digit_or_point.false)
    c.in-None.ensures
