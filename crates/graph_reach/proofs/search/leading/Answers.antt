use Rattle.std.proofs.Common.{◌<◌, length, slice_index, slice_index_or, ap, ◌∙◌, subst, inl, inr, arith}
use Rattle.std.proofs.lemmas.Bool.{cases_eq}
use Rattle.std.proofs.lemmas.List.Elements.{Contains-get_or}
use Rattle.graph_reach.specs.Sources.{IsLinked}
use Rattle.graph_reach.specs.Search.{at_goal, onward}
use Rattle.graph_reach.proofs.SearchLemmas.{at_turn, leads_in, all_looked}
use Rattle.graph_reach.proofs.search.leading.Goals as goal

pub loop-turn-init : goal.loop-turn-init
loop-turn-init c = record {
  states = c.in_ok-marks.ensures.states;
  order = c.in_ok-marks.ensures.order;
  goals = λ s h. (c.in_ok-marks.ensures.marked s).1 h;
  leads = λ s h. at_goal ((c.in_ok-marks.ensures.marked s).0 h);
  closed = λ k l. absurd (omega (arith, l));
}

pub of-requires-clause-target : goal.of-requires-clause-target
of-requires-clause-target c =
    let inv = c.loop-turn.invariant in
    let inside : c.loop-turn.turn < length c.loop-turn.marks.order.items = omega arith in
    let target = at_turn inv.order inv.states inside c.index.ensures in
    omega (arith, target.1, c.requires.order.ends_states)

pub mark_all-requires-clause-states : goal.mark_all-requires-clause-states
mark_all-requires-clause-states c = λ k d l.
    let inv = c.loop-turn.invariant in
    let inside : c.loop-turn.turn < length c.loop-turn.marks.order.items = omega arith in
    let target = at_turn inv.order inv.states inside c.index.ensures in
    let source = slice_index_or c.of.result.now k d in
    let linked = (c.of.ensures source).0 (Contains-get_or c.of.result.now k d l) in
    omega (arith, c.requires.states source c.index.result.now target.1 linked, inv.states)

pub loop-turn-preserved : goal.loop-turn-preserved
loop-turn-preserved c =
    let inv = c.loop-turn.invariant in
    let marks = c.in_ok-mark_all.ensures in
    let order = c.loop-turn.marks.order.items in
    let turn = c.loop-turn.turn in
    let starts = c.args.sources.now.starts.items in
    let ends = c.args.sources.now.ends.items in
    let states = c.args.sources.now.states.items in
    let inside : turn < length order = omega arith in
    let target = at_turn inv.order inv.states inside c.index.ensures in
    let looked = rw target.0 at c.of.ensures in
    record {
      states = marks.states ∙ inv.states;
      order = marks.order;
      goals = λ s h. (marks.marked s).1 (inl (inv.goals s h));
      leads = λ s h. elim ((marks.marked s).0 h) [
        | inl old ↦ inv.leads s old
        | inr now ↦ (
            onward {t = slice_index order turn} ((looked s).0 now)
            (inv.leads (slice_index order turn) (inv.order.marked turn inside)))
      ];
      closed = λ k l s linked. elim (cases_eq k turn) [
        | inl same ↦ (
            let k_inside : k < length order = omega (arith, same, inside) in
            let is = marks.extends.same k k_inside ∙ ap (λ z. slice_index order z) same in
            (marks.marked s).1 (inr ((looked s).1 (subst (IsLinked starts ends states s) is linked))))
        | inr other ↦ (
            let before : k < turn = omega (arith, l, other) in
            let k_inside : k < length order = omega (arith, before, inside) in
            (marks.marked s).1 (inl (inv.closed k before s (subst (IsLinked starts ends states s) (marks.extends.same k k_inside) linked))))
      ];
    }

pub returns : goal.returns
returns c =
    let inv = c.loop-turn.invariant in
    let closed = all_looked _ _ _ _ _ c.loop-turn.turn inv.order (omega arith) inv.closed in
    record { as_long = inv.states; exact = λ s. (inv.leads s, leads_in _ _ _ _ _ inv.goals closed) }
