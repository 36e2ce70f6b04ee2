-- A plan that isn't refused fits on a board.
use Rattle.std.proofs.Common.{◌≡◌, ℕ, suc, ◌+◌, ◌*◌, ◌≤◌, Bool, true, false, if◌then◌else◌, nat_lt, Some, None, length, refl, sym, ap, ◌∙◌, subst₂, arith}
use Rattle.std.proofs.lemmas.Bool.{ltb-false}
use Rattle.ctmc_semantics.specs.Horizon.{horizon}
use Rattle.command_words.specs.declared.command.Options.{Options}
use Rattle.csl_semantics.specs.Meaning.{load_of}
use Rattle.csl_syntax.specs.declared.formula.Bound.{Bound}
use Rattle.csl_syntax.specs.declared.formula.Bound.TheVariants.{Unbounded, Time, Reward}
use Rattle.model_core.specs.Model.{LabelledChain}
use Rattle.poisson_tail.specs.declared.layers.TheConstants.{MOST_LAYERS}
use Rattle.step_core.specs.FrameLists.{SetLists}
use Rattle.step_core.specs.PlanLists.{PlanLists}
use Rattle.step_core.specs.SoundPlan.{IsSoundPlan}
use Rattle.step_core.specs.declared.plan_error.PlanError.{PlanError}
use Rattle.step_core.specs.declared.plan_error.PlanError.TheVariants.{TooLong, TooLarge}
use Rattle.uniformise.specs.TimePlan.{table_refusal, plan_refusal}
use Rattle.uniformise.specs.declared.limits.TheConstants.{MOST_WORDS}
use Rattle.csl_semantics.specs.Dual.{reward_load}
use Rattle.reward_dual.proofs.Accepted.{accepted}
use Rattle.nested_verdict.specs.UntilPlan.{IsPlanOf, bound_refusal, last_jumps, load_by}

none_not_some : (x : PlanError) → None ≡ Some x → ⊥
none_not_some x e = cc

module _ (last states : ℕ) where
  few_words : table_refusal last states ≡ None → suc last * states ≤ MOST_WORDS
  few_words e = by_large (nat_lt MOST_WORDS (suc last * states)) refl e
    where
      by_large : (large : Bool) → nat_lt MOST_WORDS (suc last * states) ≡ large → (if large then Some TooLarge else None) ≡ None
          → suc last * states ≤ MOST_WORDS
      by_large true is e = absurd (none_not_some TooLarge (sym e))
      by_large false is e = omega (arith, ltb-false MOST_WORDS (suc last * states) is)

  -- a plan that isn't refused has few layers, and its table few words
  pub few : plan_refusal last states ≡ None → (last ≤ MOST_LAYERS) × (suc last * states ≤ MOST_WORDS)
  few e = by_long (nat_lt MOST_LAYERS last) refl e
    where
      by_long : (long : Bool) → nat_lt MOST_LAYERS last ≡ long → (if long then Some TooLong else table_refusal last states) ≡ None
          → (last ≤ MOST_LAYERS) × (suc last * states ≤ MOST_WORDS)
      by_long true is e = absurd (none_not_some TooLong (sym e))
      by_long false is e = (omega (arith, ltb-false MOST_LAYERS last is), few_words e)

module _ (over : LabelledChain) (options : Options) (sets : SetLists) (plan : PlanLists) where
  pub plan_sound : (bound : Bound) → IsPlanOf over options bound sets plan → IsSoundPlan plan
  plan_sound Unbounded is = is.sound
  plan_sound (Time t) is = is.sound
  plan_sound (Reward r) is = is.is.sound

  pub plan_last : (bound : Bound) → IsPlanOf over options bound sets plan → plan.layers ≡ last_jumps over options bound
  plan_last Unbounded is = is.last
  plan_last (Time t) is = is.fits.last_layer
  plan_last (Reward r) is = is.is.fits.last_layer ∙ ap (λ o. horizon (load_by over r o) options.bits) (sym is.earns.are)

  pub plan_states : (bound : Bound) → IsPlanOf over options bound sets plan → length plan.frame.rows ≡ over.chain.states
  plan_states Unbounded is = is.rows.same_states
  plan_states (Time t) is = is.rows.same_states
  plan_states (Reward r) is = is.is.rows.same_states

  cells : (last : ℕ) → plan.layers ≡ last → length plan.frame.rows ≡ over.chain.states → suc last * over.chain.states ≤ MOST_WORDS
      → (plan.layers + 1) * length plan.frame.rows ≤ 8388608
  cells last is states bound =
      let sizes : suc last ≡ plan.layers + 1 = omega (arith, is) in
      subst₂ (λ (a b : ℕ). a * b ≤ 8388608) sizes (sym states) bound

  pub few_cells : (bound : Bound) → IsPlanOf over options bound sets plan → bound_refusal over options bound ≡ None
      → (plan.layers + 1) * length plan.frame.rows ≤ 8388608
  few_cells Unbounded is e = cells options.jumps is.last is.rows.same_states (few_words options.jumps over.chain.states e)
  few_cells (Time t) is e =
      let last = horizon (load_of over t) options.bits in
      cells last is.fits.last_layer is.rows.same_states (few last over.chain.states e).1
  few_cells (Reward r) is e =
      let a = accepted over options.bits r e in
      let same : reward_load over is.earns.rewards r ≡ reward_load over a.earns.rewards r =
      ap (λ o. load_by over r o) (sym is.earns.are ∙ a.earns.are) in
      let last = horizon (reward_load over a.earns.rewards r) options.bits in
      cells last (is.is.fits.last_layer ∙ ap (λ load. horizon load options.bits) same) is.is.rows.same_states
      (few last over.chain.states a.plan).1
