use Rattle.std.proofs.lemmas.Result.{on_ok_weaker}
use Rattle.csl_syntax.proofs.text.put_guarded.Goals as goal

pub returns-in_ok-put-2-clause-over : goal.returns-in_ok-put-2-clause-over
returns-in_ok-put-2-clause-over c =
    on_ok_weaker c.put-then-needed-2.result
    (λ last n over pending. last n tt (c.in_ok-put-2.ensures.over n over (c.in_ok-put.ensures.over n tt pending)))
    c.put-then-needed-2.ensures.over
