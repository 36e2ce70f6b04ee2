use Rattle.step_core.proofs.GoodLemmas.{words_lie_beside, first_layer_is_done, seals_are_set_or_not, first_layer_is_sealed, sealed_is_done, notes_are_no_better, seal_notes_are_no_better, stop_is_set_or_not, stop_notes_are_no_better, draws_have_room, tickets_are_below, tickets_stand_once, tickets_are_apart}
use Rattle.step_core.proofs.laws.good_machine_bounds.Goals as goal

pub returns-clause-words : goal.returns-clause-words
returns-clause-words c = words_lie_beside

pub returns-clause-first_layer : goal.returns-clause-first_layer
returns-clause-first_layer c = first_layer_is_done

pub returns-clause-seals : goal.returns-clause-seals
returns-clause-seals c = seals_are_set_or_not

pub returns-clause-first_seals : goal.returns-clause-first_seals
returns-clause-first_seals c = first_layer_is_sealed

pub returns-clause-sealed : goal.returns-clause-sealed
returns-clause-sealed c = sealed_is_done

pub returns-clause-notes : goal.returns-clause-notes
returns-clause-notes c = notes_are_no_better

pub returns-clause-seal_notes : goal.returns-clause-seal_notes
returns-clause-seal_notes c = seal_notes_are_no_better

pub returns-clause-stop : goal.returns-clause-stop
returns-clause-stop c = stop_is_set_or_not

pub returns-clause-stop_notes : goal.returns-clause-stop_notes
returns-clause-stop_notes c = stop_notes_are_no_better

pub returns-clause-draws : goal.returns-clause-draws
returns-clause-draws c = draws_have_room

pub returns-clause-tickets : goal.returns-clause-tickets
returns-clause-tickets c = tickets_are_below

pub returns-clause-once : goal.returns-clause-once
returns-clause-once c = tickets_stand_once

pub returns-clause-apart : goal.returns-clause-apart
returns-clause-apart c = tickets_are_apart
