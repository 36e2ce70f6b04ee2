use Rattle.std.proofs.Common.{◌∙◌, arith}
use Rattle.std.proofs.lemmas.List.{take_all}
use Rattle.graph_reach.proofs.SearchLemmas.{extends_on, one_listed}
use Rattle.graph_reach.proofs.search.Marks.mark_all.Goals as goal

pub loop-state-preserved : goal.loop-state-preserved
loop-state-preserved c =
    let inv = c.loop-state.invariant in
    let marks = c.in_ok-mark.ensures in
    record {
      states = marks.states ∙ inv.states;
      order = marks.order;
      extends = extends_on inv.extends marks.extends;
      marked = λ s. one_listed c.args.states.now c.loop-state.state-index s c.loop-state-test.true (marks.marked s) (inv.marked s);
    }

pub returns-clause-marked : goal.returns-clause-marked
returns-clause-marked c = λ s. rw (take_all c.loop-state.state-index c.args.states.now (omega arith)) at (c.loop-state.invariant.marked s)
