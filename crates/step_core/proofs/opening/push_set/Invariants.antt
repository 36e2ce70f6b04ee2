use Rattle.std.proofs.Common.{◌≡◌, ◌++◌, map, take}
use Rattle.std.specs.Prelude.{if◌then◌else◌}
use Rattle.ctmc_semantics.specs.RoundedTables.{one_word}
use Rattle.step_core.proofs.opening.push_set.Given as goal

abbrev pub invariant-loop-holds : goal.invariant-loop-holds
invariant-loop-holds l =
    l.words.items ≡ l.fn.words.items ++ map (λ holds. if holds then one_word else 0) (take l.holds-index l.set)
