use Rattle.std.proofs.Common.{◌≤◌, ◌^◌, All, length, map}
use Rattle.step_core.specs.PlanTables.{IsTable, layer_at, plan_low, plan_high}
use Rattle.step_core.proofs.one_thread.plain_tables.Given as goal

abbrev pub invariant-loop-layer : goal.invariant-loop-layer
invariant-loop-layer l = record {
  low : IsTable (length l.plan.frame.rows) l.layer (plan_low l.plan) (map (λ v. v.items) l.low.items);
  low_words : All (λ w. w ≤ 2 ^ 62) (layer_at (map (λ v. v.items) l.low.items) l.layer);
  high : IsTable (length l.plan.frame.rows) l.layer (plan_high l.plan) (map (λ v. v.items) l.high.items);
  high_words : All (λ w. w ≤ 2 ^ 62) (layer_at (map (λ v. v.items) l.high.items) l.layer);
}
