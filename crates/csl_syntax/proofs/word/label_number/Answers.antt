use Rattle.std.proofs.Common.{◌∙◌, ap, length}
use Rattle.std.specs.Prelude.{unwrap_or, bytes_eq}
use Rattle.csl_syntax.proofs.Scans.{place_number}
use Rattle.csl_syntax.proofs.word.label_number.Goals as goal

pub returns : goal.returns
returns c =
    c.unwrap_or.ensures ∙ ap (λ place. unwrap_or place (length c.args.labels.now)) c.place_of.ensures.place
    ∙ place_number (λ label. bytes_eq label c.args.name.now) c.args.labels.now
