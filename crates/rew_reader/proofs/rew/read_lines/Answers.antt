use Rattle.std.proofs.Common.{ℕ, length, map, ap, subst, ◌∙◌}
use Rattle.std.specs.List.{range_with_len}
use Rattle.std.proofs.lemmas.List.{length-map}
use Rattle.std.proofs.lemmas.List.FromFn.{length-range_with_len}
use Rattle.decimal_text.specs.Scale.{greatest_decimals}
use Rattle.model_core.specs.StateNumber.{state_number}
use Rattle.text_lines.proofs.EntryReads.{small_scale, within_scale_of}
use Rattle.text_lines.specs.EntryLines.{value_of, entries_of}
use Rattle.text_lines.specs.WordLines.{word_lines_of}
use Rattle.text_lines.specs.declared.entry_line.EntryLine.{EntryLine}
use Rattle.rew_reader.specs.Reading.{IsFirstLarge}
use Rattle.rew_reader.specs.RewardLines.{reward_lines}
use Rattle.rew_reader.specs.RewText.{reward_of}
use Rattle.rew_reader.proofs.FileLemmas.{states_below, made, is_rew, says_rew, line_large}
use Rattle.rew_reader.proofs.rew.read_lines.Goals as goal

pub first_large-requires-clause-decimals : goal.first_large-requires-clause-decimals
first_large-requires-clause-decimals c =
    rw (c.scale_of-scale.ensures, c.deref.ensures.value, c.deref-2.ensures.value) (within_scale_of c.in_ok-entries.entries.items)

pub first_large-requires-clause-scale : goal.first_large-requires-clause-scale
first_large-requires-clause-scale c =
    rw (c.scale_of-scale.ensures, c.deref.ensures.value)
    (small_scale (reward_lines c.args.n) state_number (word_lines_of c.args.bytes.now) c.in_ok-entries.entries.items
    c.in_ok-entries.ensures.read)

pub returns-in-Some-clause-fault : goal.returns-in-Some-clause-fault
returns-in-Some-clause-fault c =
    let es = c.in_ok-entries.entries.items in
    let scale = c.scale_of-scale.ensures ∙ ap (λ z. greatest_decimals (map value_of z)) c.deref.ensures.value in
    let first = subst (λ z. IsFirstLarge c.scale_of-scale.result z c.in-Some.place) c.deref-2.ensures.value c.in-Some.ensures in
    let line = ap (λ (e : EntryLine ℕ). e.line) c.index.ensures in
    rw (c.at.ensures, line)
    (line_large c.args.n c.scale_of-scale.result c.in-Some.place (word_lines_of c.args.bytes.now) es c.index.result.now
    c.in_ok-entries.ensures.read scale first)

pub rewards_of-requires-clause-states : goal.rewards_of-requires-clause-states
rewards_of-requires-clause-states c =
    rw c.deref-3.ensures.value
    (states_below c.args.n (word_lines_of c.args.bytes.now) c.in_ok-entries.entries.items c.in_ok-entries.ensures.read)

pub rewards_of-requires-clause-decimals : goal.rewards_of-requires-clause-decimals
rewards_of-requires-clause-decimals c =
    rw (c.scale_of-scale.ensures, c.deref.ensures.value, c.deref-3.ensures.value) (within_scale_of c.in_ok-entries.entries.items)

pub rewards_of-requires-clause-scale : goal.rewards_of-requires-clause-scale
rewards_of-requires-clause-scale c =
    rw (c.scale_of-scale.ensures, c.deref.ensures.value)
    (small_scale (reward_lines c.args.n) state_number (word_lines_of c.args.bytes.now) c.in_ok-entries.entries.items
    c.in_ok-entries.ensures.read)

pub new-requires : goal.new-requires
new-requires c =
    is_rew c.args.n c.scale_of-scale.result (word_lines_of c.args.bytes.now) c.in_ok-entries.entries.items c.in_ok-rewards.rewards.items
    (made c.args.n c.scale_of-scale.result (word_lines_of c.args.bytes.now) c.in_ok-entries.entries.items c.deref.result.now
    c.deref-2.result.now c.deref-3.result.now
    c.in_ok-rewards.rewards.items c.in_ok-entries.ensures.read c.deref.ensures.value c.deref-2.ensures.value c.deref-3.ensures.value
    c.scale_of-scale.ensures c.in_default.ensures c.in_ok-rewards.ensures)

pub returns-clause-value : goal.returns-clause-value
returns-clause-value c =
    rw c.new.ensures
    (says_rew c.args.n c.scale_of-scale.result (word_lines_of c.args.bytes.now) c.in_ok-entries.entries.items c.in_ok-rewards.rewards.items
    (made c.args.n c.scale_of-scale.result (word_lines_of c.args.bytes.now) c.in_ok-entries.entries.items c.deref.result.now
    c.deref-2.result.now c.deref-3.result.now
    c.in_ok-rewards.rewards.items c.in_ok-entries.ensures.read c.deref.ensures.value c.deref-2.ensures.value c.deref-3.ensures.value
    c.scale_of-scale.ensures c.in_default.ensures c.in_ok-rewards.ensures))

pub returns-clause-states : goal.returns-clause-states
returns-clause-states c =
    let n = c.args.n in
    let f = reward_of c.scale_of-scale.result (entries_of state_number c.deref-3.result.now) in
    rw c.new.ensures (ap length c.in_ok-rewards.ensures ∙ (length-map (range_with_len 0 n) f ∙ length-range_with_len 0 n))
