use Rattle.std.proofs.Common.{◌++◌, ap, ◌∙◌, codes, decimal}
use Rattle.report.proofs.PutLines.{put_in_pieces}
use Rattle.report.proofs.refusal_text.put_refused.Goals as goal

pub returns : goal.returns
returns c =
    put_in_pieces c.args.text.now.items (codes "refused line ") (decimal c.args.number) c.args.why.now _ _ _ _ 32
    c.in_ok-extend_from_slice.ensures.items
    (c.in_ok-extend_from_slice-2.ensures.items ∙ ap (λ d. c.extend_from_slice.new.self.items ++ d)
    (c.as_bytes.ensures.value ∙ c.format.ensures.text))
    c.in_ok-push.ensures.items c.in_ok-extend_from_slice-3.ensures.items
