use Rattle.std.proofs.Common.{◌≡◌, length, ap, ◌∙◌, arith}
use Rattle.std.proofs.lemmas.Result.{IfOk-weaker}
use Rattle.graph_reach.proofs.ReachLemmas.{tells}
use Rattle.graph_reach.proofs.reach.can_reach.Goals as goal

pub leading-requires-clause-states : goal.leading-requires-clause-states
leading-requires-clause-states c = λ s t inside linked.
    let frame = c.args.frame.now in
    let rows : c.deref.result.now ≡ frame.rows = c.deref.ensures.value ∙ ap (λ f. f.rows) c.frame.view_is in
    let searched : c.deref-4.result.now ≡ frame.sets.goal_may =
    c.deref-4.ensures.value ∙ (ap (λ s. s.goal_may) c.sets.view_is ∙ ap (λ f. f.sets.goal_may) c.frame.view_is) in
    let exact = rw rows at c.in_ok-sources.ensures.exact in
    let as_long = c.requires.sound.sets.goal_may_states in
    let jump = (exact s t (omega (arith, inside, ap length searched, as_long))).0 linked in
    omega (arith, jump.state, ap length searched, as_long)

pub returns : goal.returns
returns c =
    let frame = c.args.frame.now in
    let sources = c.in_ok-sources.sources in
    let rows : c.deref.result.now ≡ frame.rows = c.deref.ensures.value ∙ ap (λ f. f.rows) c.frame.view_is in
    let live : c.deref-2.result.now ≡ frame.sets.live_may =
    c.deref-2.ensures.value ∙ (ap (λ s. s.live_may) c.sets.view_is ∙ ap (λ f. f.sets.live_may) c.frame.view_is) in
    let goals : c.deref-3.result.now ≡ frame.sets.goal_may =
    c.deref-3.ensures.value ∙ (ap (λ s. s.goal_may) c.sets.view_is ∙ ap (λ f. f.sets.goal_may) c.frame.view_is) in
    let searched : c.deref-4.result.now ≡ frame.sets.goal_may =
    c.deref-4.ensures.value ∙ (ap (λ s. s.goal_may) c.sets.view_is ∙ ap (λ f. f.sets.goal_may) c.frame.view_is) in
    let exact = rw (rows, live, goals) at c.in_ok-sources.ensures.exact in
    record {
      exact =
          IfOk-weaker c.leading.result _ _
          (λ reach told.
          tells frame c.requires.sound sources.starts.items sources.ends.items sources.states.items exact reach.items (rw searched at told))
          c.leading.ensures;
    }
