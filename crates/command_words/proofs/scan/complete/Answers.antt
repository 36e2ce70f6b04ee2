use Rattle.std.proofs.Common.{string_bytes, arith}
use Rattle.command_words.specs.Scan.{Completes}
use Rattle.command_words.specs.Steps.{step_in}
use Rattle.command_words.proofs.ScanLemmas.{goes_on, steps_to, stops}
use Rattle.command_words.proofs.scan.complete.Goals as goal

pub returns-in_default-after : goal.returns-in_default-after
returns-in_default-after c =
    stops string_bytes _ c.args.words.now c.loop-word.word-index c.word-item.result (omega arith) c.word-item.is c.loop-word.place
    (step_in c.in-Some.step) (steps_to c.loop-word.place c.as_str.ensures.value c.in-Some.ensures)
    (Completes c.loop-word.seen) c.loop-word.invariant c.in_default-after.ensures

pub loop-word-preserved : goal.loop-word-preserved
loop-word-preserved c =
    goes_on string_bytes _ c.args.words.now c.loop-word.word-index c.word-item.result (omega arith) c.word-item.is c.loop-word.place
    (step_in c.in-Some.step) (steps_to c.loop-word.place c.as_str.ensures.value c.in-Some.ensures)
    (Completes c.loop-word.seen) (Completes c.in-Some-after.more) c.loop-word.invariant c.in-Some-after.ensures
