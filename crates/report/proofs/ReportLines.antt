-- The lines from a place of a list on: that of the place, and the others.
use Rattle.std.proofs.Common.{◌≡◌, ℕ, ◌+◌, ◌<◌, List, ◌∷◌, ◌++◌, length, drop, get_or, sym, ap, ◌∙◌, add-one}
use Rattle.std.proofs.lemmas.List.{at_drop_more}
use Rattle.report.specs.AnswerText.{verdict_line, verdict_lines, state_line, state_lines, watch_line, watch_lines}
use Rattle.report.specs.declared.answer.Printed.{Printed}
use Rattle.report.specs.declared.answer.Verdict.{Verdict}

pub verdict_lines_more : (verdicts : List Verdict) (i : ℕ) (d : Verdict) → i < length verdicts
    → verdict_lines (i + 1) (drop i verdicts)
    ≡ verdict_line (i + 1) (get_or verdicts i d) ++ verdict_lines ((i + 1) + 1) (drop (i + 1) verdicts)
verdict_lines_more verdicts i d l =
    at_drop_more (verdict_lines (i + 1)) verdicts i d l
    ∙ ap (λ n. verdict_line (i + 1) (get_or verdicts i d) ++ verdict_lines n (drop (i + 1) verdicts)) (sym (add-one (i + 1)))

pub watch_lines_more : (brackets : List Printed) (i : ℕ) (d : Printed) → i < length brackets
    → watch_lines (i + 1) (drop i brackets)
    ≡ watch_line (i + 1) (get_or brackets i d) ++ watch_lines ((i + 1) + 1) (drop (i + 1) brackets)
watch_lines_more brackets i d l =
    at_drop_more (watch_lines (i + 1)) brackets i d l
    ∙ ap (λ n. watch_line (i + 1) (get_or brackets i d) ++ watch_lines n (drop (i + 1) brackets)) (sym (add-one (i + 1)))

pub state_lines_more : (verdicts : List Verdict) (brackets : List Printed) (i : ℕ) (v : Verdict) (d : Printed)
    → i < length verdicts → i < length brackets
    → state_lines (i + 1) (drop i verdicts) (drop i brackets)
    ≡ state_line (i + 1) (get_or verdicts i v) (get_or brackets i d)
    ++ state_lines ((i + 1) + 1) (drop (i + 1) verdicts) (drop (i + 1) brackets)
state_lines_more verdicts brackets i v d l m =
    at_drop_more (λ vs. state_lines (i + 1) vs (drop i brackets)) verdicts i v l
    ∙ at_drop_more (state_lines (i + 1) (get_or verdicts i v ∷ drop (i + 1) verdicts)) brackets i d m
    ∙ ap (λ n. state_line (i + 1) (get_or verdicts i v) (get_or brackets i d)
    ++ state_lines n (drop (i + 1) verdicts) (drop (i + 1) brackets)) (sym (add-one (i + 1)))
