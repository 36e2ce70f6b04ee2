use Rattle.std.proofs.Common.{◌≡◌, ◌-◌, map, get_or, arith, sym, ◌∙◌}
use Rattle.std.proofs.lemmas.List.{get_or-map}
use Rattle.tra_reader.specs.Repeats.{number_of}
use Rattle.tra_reader.proofs.RepeatLemmas.{rises-more}
use Rattle.tra_reader.proofs.repeats.is_ascending.Goals as goal

pub loop-i-preserved : goal.loop-i-preserved
loop-i-preserved c =
    let entries = c.args.entries.now in
    let i = c.loop-i.i in
    let this : c.number_of.result ≡ get_or (map number_of entries) i 0 =
    c.number_of.ensures.number ∙ sym (get_or-map number_of entries i _ 0 (omega arith))
    in
    let before : c.number_of-in-loop-i.result ≡ get_or (map number_of entries) (i - 1) 0 =
    c.number_of-in-loop-i.ensures.number ∙ sym (get_or-map number_of entries (i - 1) _ 0 (omega arith))
    in
    rises-more (map number_of entries) i (omega arith) (omega (arith, this, before)) c.loop-i.invariant
