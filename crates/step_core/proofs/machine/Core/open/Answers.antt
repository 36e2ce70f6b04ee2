use Rattle.std.proofs.Common.{rules, ◌≡◌, sym, subst}
use Rattle.step_core.specs.CoreLists.{opening}
use Rattle.step_core.specs.Good.{Good}
use Rattle.step_core.specs.contracts.machine.Core.{the_view}
use Rattle.step_core.proofs.OpeningLemmas.{good_opening}
use Rattle.step_core.proofs.machine.Core.open.Goals as goal

pub returns-clause-good : goal.returns-clause-good
returns-clause-good c =
    let is : the_view record { layout = c.of.result; words = c.in_ok-words.words; passes = c.in_ok-passes.passes } ≡ opening
    c.args.plan.now =
    search rules in
    subst (Good c.args.plan.now) (sym is) (good_opening c.args.plan.now c.requires.sound)
