use Rattle.std.proofs.Common.{◌≡◌, false, sym, ◌∙◌}
use Rattle.std.proofs.lemmas.List.{get_or_default}
use Rattle.ctmc_semantics.specs.Sets.{holds_at}
use Rattle.graph_reach.proofs.SearchLemmas.{one_marked}
use Rattle.graph_reach.proofs.search.Marks.mark.Goals as goal

pub returns-in_ok-push-clause-order : goal.returns-in_ok-push-clause-order
returns-in_ok-push-clause-order c =
    let reach = c.args.self.now.reach.items in
    let fresh : holds_at reach c.args.state ≡ false =
    sym (get_or_default reach c.args.state c.index.result.now false c.requires.state) ∙ (sym c.index.ensures ∙ c.if-not-index.true) in
    rw c.in_ok-push.ensures.items (one_marked reach c.args.self.now.order.items c.args.state c.requires.state fresh c.requires.order)
