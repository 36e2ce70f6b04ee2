use Rattle.std.proofs.Common.{◌≡◌, map, take}
use Rattle.nested_verdict.specs.ThreeValues.{is_sure}
use Rattle.nested_verdict.proofs.verdict_lists.must_list.Given as goal

abbrev pub invariant-loop-verdict : goal.invariant-loop-verdict
invariant-loop-verdict l = l.states.items ≡ map is_sure (take l.verdict-index l.verdicts)
