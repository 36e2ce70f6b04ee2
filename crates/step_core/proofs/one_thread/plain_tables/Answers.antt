use Rattle.std.proofs.Common.{◌≡◌, ◌≤◌, ◌^◌, ◌∙◌, ◌∷◌, [], ◌++◌, All, length, map, ap, sym, subst}
use Rattle.step_core.specs.PlanTables.{layer_at}
use Rattle.step_core.proofs.Layers.{layer_read, layer_states, last_layer, low_grows, high_grows, first_low, first_high, set_layer_le}
use Rattle.step_core.proofs.Layers.{words_le}
use Rattle.step_core.proofs.one_thread.plain_tables.Goals as goal

pub next_layer-requires-clause-low_states : goal.next_layer-requires-clause-low_states
next_layer-requires-clause-low_states c =
    let rows =
    c.deref-in-loop-layer.ensures.value ∙ (ap (λ f. f.rows) c.frame.view_is ∙ ap (λ p. p.frame.rows) c.plan.view_is) in
    layer_states (λ v. v.items) c.loop-layer.low.items c.deref-in-loop-layer-2.ensures.value c.index.ensures c.loop-layer.invariant.low
    ∙ sym (ap length rows)

pub next_layer-requires-clause-high_states : goal.next_layer-requires-clause-high_states
next_layer-requires-clause-high_states c =
    let rows =
    c.deref-in-loop-layer.ensures.value ∙ (ap (λ f. f.rows) c.frame.view_is ∙ ap (λ p. p.frame.rows) c.plan.view_is) in
    layer_states (λ v. v.items) c.loop-layer.high.items c.deref-in-loop-layer-3.ensures.value c.index-in-loop-layer.ensures
    c.loop-layer.invariant.high ∙ sym (ap length rows)

pub next_layer-requires-clause-low_words : goal.next_layer-requires-clause-low_words
next_layer-requires-clause-low_words c =
    let at =
    layer_read (λ v. v.items) c.loop-layer.low.items c.deref-in-loop-layer-2.ensures.value c.index.ensures c.loop-layer.invariant.low in
    subst (All (λ w. w ≤ 2 ^ 62)) (sym at) c.loop-layer.invariant.low_words

pub next_layer-requires-clause-high_words : goal.next_layer-requires-clause-high_words
next_layer-requires-clause-high_words c =
    let at =
    layer_read (λ v. v.items) c.loop-layer.high.items c.deref-in-loop-layer-3.ensures.value c.index-in-loop-layer.ensures
    c.loop-layer.invariant.high in
    subst (All (λ w. w ≤ 2 ^ 62)) (sym at) c.loop-layer.invariant.high_words

pub loop-layer-init : goal.loop-layer-init
loop-layer-init c =
    let plan = c.args.plan.now in
    let sound = c.requires.sound in
    let low_items : c.push.new.self.items ≡ c.in_ok-set_layer.field-0 ∷ [] =
    c.in_ok-push.ensures.items ∙ ap (λ xs. xs ++ c.in_ok-set_layer.field-0 ∷ []) c.in_ok-low.ensures.items in
    let high_items : c.push-2.new.self.items ≡ c.in_ok-from_slice.field-0 ∷ [] =
    c.in_ok-push-2.ensures.items ∙ ap (λ xs. xs ++ c.in_ok-from_slice.field-0 ∷ []) c.in_ok-high.ensures.items in
    let goals : c.deref.result.now ≡ plan.frame.sets.goal_must =
    c.deref.ensures.value ∙ (ap (λ s. s.goal_must) c.sets.view_is
    ∙ (ap (λ f. f.sets.goal_must) c.frame.view_is ∙ ap (λ p. p.frame.sets.goal_must) c.plan.view_is)) in
    let start : c.in_ok-from_slice.field-0.items ≡ plan.start_upper =
    c.in_ok-from_slice.ensures.items ∙ (c.deref-2.ensures.value ∙ ap (λ p. p.start_upper) c.plan.view_is) in
    record {
      low = first_low (λ v. v.items) plan low_items c.in_ok-set_layer.ensures goals sound.frame.sets.goal_must_states;
      low_words =
          subst (λ xs. All (λ w. w ≤ 2 ^ 62) (layer_at (map (λ v. v.items) xs) 0)) (sym low_items)
          (subst (All (λ w. w ≤ 2 ^ 62)) (sym c.in_ok-set_layer.ensures) (set_layer_le c.deref.result.now));
      high = first_high (λ v. v.items) plan high_items start sound.start_states;
      high_words =
          subst (λ xs. All (λ w. w ≤ 2 ^ 62) (layer_at (map (λ v. v.items) xs) 0)) (sym high_items)
          (subst (All (λ w. w ≤ 2 ^ 62)) (sym start)
          (words_le (length plan.frame.rows) plan.start_upper _ sound.start_states sound.start));
    }

pub loop-layer-preserved : goal.loop-layer-preserved
loop-layer-preserved c =
    let inv = c.loop-layer.invariant in
    let low_read = layer_read (λ v. v.items) c.loop-layer.low.items c.deref-in-loop-layer-2.ensures.value c.index.ensures inv.low in
    let high_read =
    layer_read (λ v. v.items) c.loop-layer.high.items c.deref-in-loop-layer-3.ensures.value c.index-in-loop-layer.ensures inv.high in
    let rows = c.deref-in-loop-layer.ensures.value ∙ (ap (λ f. f.rows) c.frame.view_is ∙ ap (λ p. p.frame.rows) c.plan.view_is) in
    let sets = ap (λ f. f.sets) c.frame.view_is ∙ ap (λ p. p.frame.sets) c.plan.view_is in
    let low_last =
    last_layer (λ v. v.items) c.loop-layer.low.items c.in_ok-next_low.next_low c.in_ok-push-3.ensures.items inv.low.layers in
    let high_last =
    last_layer (λ v. v.items) c.loop-layer.high.items c.in_ok-next_low.next_high c.in_ok-push-4.ensures.items inv.high.layers in
    record {
      low =
          low_grows (λ v. v.items) c.args.plan.now rows sets c.loop-layer.layer c.loop-layer.low.items c.in_ok-next_low.next_low
          c.in_ok-push-3.ensures.items low_read inv.low c.in_ok-next_low.ensures.low;
      low_words = subst (All (λ w. w ≤ 2 ^ 62)) (sym low_last) c.in_ok-next_low.ensures.low_words;
      high =
          high_grows (λ v. v.items) c.args.plan.now rows sets c.loop-layer.layer c.loop-layer.high.items c.in_ok-next_low.next_high
          c.in_ok-push-4.ensures.items high_read inv.high c.in_ok-next_low.ensures.high;
      high_words = subst (All (λ w. w ≤ 2 ^ 62)) (sym high_last) c.in_ok-next_low.ensures.high_words;
    }
