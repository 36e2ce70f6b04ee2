use Rattle.std.proofs.Common.{◌≡◌, map, take}
use Rattle.nested_verdict.specs.ThreeValues.{may_be}
use Rattle.nested_verdict.proofs.verdict_lists.may_list.Given as goal

abbrev pub invariant-loop-verdict : goal.invariant-loop-verdict
invariant-loop-verdict l = l.states.items ≡ map may_be (take l.verdict-index l.verdicts)
