use Rattle.std.proofs.Common.{◌+◌, [], ◌∙◌, ap}
use Rattle.csl_syntax.specs.Machine.{have}
use Rattle.csl_syntax.specs.Tree.{tree_of}
use Rattle.csl_syntax.specs.View.{tree_in, outer_from}
use Rattle.csl_syntax.proofs.Views.{operand_is}
use Rattle.csl_syntax.proofs.steps.operand.Goals as goal

pub returns-clause-gives : goal.returns-clause-gives
returns-clause-gives c =
    let x = c.args.context in
    ap (λ v. have (x.room + c.args.bangs) (outer_from [] x.outer.items) (tree_in x.either) (tree_in x.both) v) c.in_ok-formula.ensures
    ∙ operand_is c.args.bangs x.room (outer_from [] x.outer.items) (tree_in x.either) (tree_in x.both) (tree_of c.args.formula.value)
