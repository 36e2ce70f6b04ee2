use Rattle.std.proofs.Common.{◌∙◌, sym}
use Rattle.text_lines.specs.Name.{begins_name, continues_name}
use Rattle.std.specs.List.{list_all}
use Rattle.text_lines.proofs.NameTests.{is_name-last, is_name-fails, first_fails, second_fails}
use Rattle.text_lines.proofs.name.is_name.Goals as goal
use Rattle.text_lines.proofs.name.is_name.Goals.{then-begins_name, else-begins_name}

pub returns-then-all_continue_name : goal.returns-then-all_continue_name
returns-then-all_continue_name c =
    elim c.if-begins_name.branch [
      | then-begins_name w ↦
          is_name-last _ _ _ _ c.in-Some.ensures.cases.0 (sym c.begins_name.ensures ∙ w.if-begins_name.true)
          (sym w.all_continue_name.ensures ∙ sym w.value-is ∙ c.if-all_continue_name.true) c.is_reserved.ensures
      | else-begins_name w ↦ cc
    ]

pub returns-else-all_continue_name : goal.returns-else-all_continue_name
returns-else-all_continue_name c =
    c.if-all_continue_name.false
    ∙ is_name-fails _ _ _ c.in-Some.ensures.cases.0
    (elim c.if-begins_name.branch [
      | then-begins_name w ↦
          second_fails (begins_name c.in-Some.first.now) (list_all continues_name c.in-Some.rest.now)
          (sym w.all_continue_name.ensures ∙ sym w.value-is ∙ c.if-all_continue_name.false)
      | else-begins_name w ↦
          first_fails (begins_name c.in-Some.first.now) (list_all continues_name c.in-Some.rest.now)
          (sym c.begins_name.ensures ∙ w.if-begins_name.false)
    ])
