use Rattle.std.proofs.Common.{◌≡◌, ◌∙◌, ◌+◌, Bool, true, IsTrue, IsSome, Option, option_map, Some, None, sym, ap, subst, rules, arith}
use Rattle.decimal_text.specs.DecimalNumber.{DecimalNumber}
use Rattle.model_core.specs.Model.{Rewards, labelled_chain, listed_rewards, model_chain}
use Rattle.reward_dual.specs.RewardRefusal.{first_below, earns_nothing, passes_range, reward_refusal}
use Rattle.ctmc_semantics.specs.Horizon.{horizon}
use Rattle.csl_semantics.specs.Dual.{dual, reward_load}
use Rattle.step_core.specs.FrameLists.{SetLists}
use Rattle.uniformise.specs.TimePlan.{IsTimePlan, plan_refusal}
use Rattle.reward_dual.specs.LowestTerms.{fits_load, lowest_terms}
use Rattle.reward_dual.specs.EarningRows.{MakesRows}
use Rattle.reward_dual.proofs.EarningLemmas.{some_rewards}
use Rattle.reward_dual.proofs.PlanFacts.{computed_load, decimals_are, deciding_earns, fits, lowest_plan, lowest_refusal, positive, refused_range}
use Rattle.reward_dual.proofs.reward_plans.reward_plan.Goals as goal

one_rewards : (o : Option Rewards) (a b : Rewards) → o ≡ Some a → o ≡ Some b → a ≡ b
one_rewards o a b e h = same a b (sym e ∙ h)
  where
    same : (a b : Rewards) → Some a ≡ Some b → a ≡ b
    same a b e = cc

told : (b : Bool) → b ≡ true → IsTrue b
told b e = e

pub lowest_load-requires-clause-positive : goal.lowest_load-requires-clause-positive
lowest_load-requires-clause-positive c =
    let model = c.args.model.now in
    let over = labelled_chain model in
    let r = c.args.reward in
    let bits = c.args.bits in
    let has : IsSome model.rewards = c.has_rewards.ensures.0 (told c.has_rewards.result c.if-not-has_rewards.false) in
    let w = some_rewards model.rewards has in
    let zero : c.first_without_reward.result ≡ None = search rules in
    let none_zero : first_below model.n (earns_nothing w.0) ≡ None = sym (c.first_without_reward.ensures w.0 w.1) ∙ zero in
    let past : c.first_past_range.result ≡ None = search rules in
    let none_past : first_below model.n (passes_range over w.0) ≡ None = sym (c.first_past_range.ensures w.0 w.1) ∙ past in
    omega (
      arith,
      c.fastest_state-fastest.ensures.reward w.0 w.1,
      deciding_earns over bits r w.0 (omega (arith, c.n-states.ensures.some, c.n-states.ensures.value)) w.1 none_zero none_past,
    )

pub dual_frame-requires-clause-makes : goal.dual_frame-requires-clause-makes
dual_frame-requires-clause-makes c =
    let model = c.args.model.now in
    let over = labelled_chain model in
    let r = c.args.reward in
    let bits = c.args.bits in
    let has : IsSome model.rewards = c.has_rewards.ensures.0 (told c.has_rewards.result c.if-not-has_rewards.false) in
    let w = some_rewards model.rewards has in
    let zero : c.first_without_reward.result ≡ None = search rules in
    let none_zero : first_below model.n (earns_nothing w.0) ≡ None = sym (c.first_without_reward.ensures w.0 w.1) ∙ zero in
    let past : c.first_past_range.result ≡ None = search rules in
    let none_past : first_below model.n (passes_range over w.0) ≡ None = sym (c.first_past_range.ensures w.0 w.1) ∙ past in
    λ rewards e.
    let same : w.0 ≡ rewards = one_rewards (option_map listed_rewards model.rewards) w.0 rewards w.1 e in
    subst (λ z. MakesRows over z c.fastest_state-fastest.result) same (record {
      positive = positive over bits r w.0 (omega (arith, c.n-states.ensures.some, c.n-states.ensures.value)) w.1 none_zero none_past;
      fits = fits over bits r w.0 (omega (arith, c.n-states.ensures.some, c.n-states.ensures.value)) w.1 none_zero none_past;
      exit = c.fastest_state-fastest.ensures.exit w.0 w.1;
      reward = c.fastest_state-fastest.ensures.reward w.0 w.1;
    })

pub returns-in_default-lowest_load-clause-refused :
    goal.returns-in_default-lowest_load-clause-refused
returns-in_default-lowest_load-clause-refused c =
    let model = c.args.model.now in
    let over = labelled_chain model in
    let r = c.args.reward in
    let bits = c.args.bits in
    let has : IsSome model.rewards = c.has_rewards.ensures.0 (told c.has_rewards.result c.if-not-has_rewards.false) in
    let w = some_rewards model.rewards has in
    let zero : c.first_without_reward.result ≡ None = search rules in
    let none_zero : first_below model.n (earns_nothing w.0) ≡ None = sym (c.first_without_reward.ensures w.0 w.1) ∙ zero in
    let past : c.first_past_range.result ≡ None = search rules in
    let none_past : first_below model.n (passes_range over w.0) ≡ None = sym (c.first_past_range.ensures w.0 w.1) ∙ past in
    let computed =
    computed_load over bits r w.0 (omega (arith, c.n-states.ensures.some, c.n-states.ensures.value)) w.1 none_zero none_past c.fastest_state-fastest.result.exit c.fastest_state-fastest.result.reward c.reward_scale-decimals.result
    (c.scale.result + c.reward.inside.x) c.reward.inside.c (c.fastest_state-fastest.ensures.exit w.0 w.1) (c.fastest_state-fastest.ensures.reward w.0 w.1)
    (decimals_are model.rewards w.0 c.reward_scale-decimals.result w.1 c.reward_scale-decimals.ensures.value)
    (ap (λ k. k + c.reward.inside.x) c.scale.ensures.value ∙ ap (λ (d : DecimalNumber). model.scale + d.x) c.reward.view_is)
    (ap (λ (d : DecimalNumber). d.c) c.reward.view_is) in
    λ _. refused_range over bits r w.0 (omega (arith, c.n-states.ensures.some, c.n-states.ensures.value)) w.1 none_zero none_past
    (ap fits_load (sym computed) ∙ c.in_default-lowest_load.ensures)

pub returns-clause-accepted :
    goal.returns-clause-accepted
returns-clause-accepted c =
    let model = c.args.model.now in
    let over = labelled_chain model in
    let r = c.args.reward in
    let bits = c.args.bits in
    let has : IsSome model.rewards = c.has_rewards.ensures.0 (told c.has_rewards.result c.if-not-has_rewards.false) in
    let w = some_rewards model.rewards has in
    let zero : c.first_without_reward.result ≡ None = search rules in
    let none_zero : first_below model.n (earns_nothing w.0) ≡ None = sym (c.first_without_reward.ensures w.0 w.1) ∙ zero in
    let past : c.first_past_range.result ≡ None = search rules in
    let none_past : first_below model.n (passes_range over w.0) ≡ None = sym (c.first_past_range.ensures w.0 w.1) ∙ past in
    let computed =
    computed_load over bits r w.0 (omega (arith, c.n-states.ensures.some, c.n-states.ensures.value)) w.1 none_zero none_past c.fastest_state-fastest.result.exit c.fastest_state-fastest.result.reward c.reward_scale-decimals.result
    (c.scale.result + c.reward.inside.x) c.reward.inside.c (c.fastest_state-fastest.ensures.exit w.0 w.1) (c.fastest_state-fastest.ensures.reward w.0 w.1)
    (decimals_are model.rewards w.0 c.reward_scale-decimals.result w.1 c.reward_scale-decimals.ensures.value)
    (ap (λ k. k + c.reward.inside.x) c.scale.ensures.value ∙ ap (λ (d : DecimalNumber). model.scale + d.x) c.reward.view_is)
    (ap (λ (d : DecimalNumber). d.c) c.reward.view_is) in
    let fit : fits_load (lowest_terms (reward_load over w.0 r)) ≡ true = ap fits_load (sym computed) ∙ c.in-Some-lowest_load.ensures.1 in
    let is : c.in-Some-lowest_load.load ≡ lowest_terms (reward_load over w.0 r) = c.in-Some-lowest_load.ensures.0 ∙ computed in
    lowest_refusal over bits r w.0 (omega (arith, c.n-states.ensures.some, c.n-states.ensures.value)) w.1 none_zero none_past fit
    ∙ ap (λ load. plan_refusal (horizon load bits) model.n) (sym is)
    ∙ ap (λ n. plan_refusal (horizon c.in-Some-lowest_load.load bits) n) (sym c.n-states.ensures.value)
    ∙ c.in_ok-last.ensures.refusal

pub returns-clause-plan :
    goal.returns-clause-plan
returns-clause-plan c =
    let model = c.args.model.now in
    let over = labelled_chain model in
    let r = c.args.reward in
    let bits = c.args.bits in
    let has : IsSome model.rewards = c.has_rewards.ensures.0 (told c.has_rewards.result c.if-not-has_rewards.false) in
    let w = some_rewards model.rewards has in
    let zero : c.first_without_reward.result ≡ None = search rules in
    let none_zero : first_below model.n (earns_nothing w.0) ≡ None = sym (c.first_without_reward.ensures w.0 w.1) ∙ zero in
    let past : c.first_past_range.result ≡ None = search rules in
    let none_past : first_below model.n (passes_range over w.0) ≡ None = sym (c.first_past_range.ensures w.0 w.1) ∙ past in
    let computed =
    computed_load over bits r w.0 (omega (arith, c.n-states.ensures.some, c.n-states.ensures.value)) w.1 none_zero none_past c.fastest_state-fastest.result.exit c.fastest_state-fastest.result.reward c.reward_scale-decimals.result
    (c.scale.result + c.reward.inside.x) c.reward.inside.c (c.fastest_state-fastest.ensures.exit w.0 w.1) (c.fastest_state-fastest.ensures.reward w.0 w.1)
    (decimals_are model.rewards w.0 c.reward_scale-decimals.result w.1 c.reward_scale-decimals.ensures.value)
    (ap (λ k. k + c.reward.inside.x) c.scale.ensures.value ∙ ap (λ (d : DecimalNumber). model.scale + d.x) c.reward.view_is)
    (ap (λ (d : DecimalNumber). d.c) c.reward.view_is) in
    let fit : fits_load (lowest_terms (reward_load over w.0 r)) ≡ true = ap fits_load (sym computed) ∙ c.in-Some-lowest_load.ensures.1 in
    let is : c.in-Some-lowest_load.load ≡ lowest_terms (reward_load over w.0 r) = c.in-Some-lowest_load.ensures.0 ∙ computed in
    let chain = dual (model_chain model) w.0.reward in
    let plan = c.in_ok-plan_of_load.field-0 in
    let given = c.in_ok-plan_of_load.ensures.plan chain (c.in_ok-frame.ensures.stand w.0 w.1) in
    record {
      earns = record { rewards = w.0; are = w.1; positive = positive over bits r w.0 (omega (arith, c.n-states.ensures.some, c.n-states.ensures.value)) w.1 none_zero none_past };
      is =
          lowest_plan over bits r w.0 (omega (arith, c.n-states.ensures.some, c.n-states.ensures.value)) w.1 none_zero none_past chain c.args.sets plan
          (subst (λ load. IsTimePlan chain load bits c.args.sets plan) is
          (subst (λ (sets : SetLists). IsTimePlan chain c.in-Some-lowest_load.load bits sets plan) c.in_ok-frame.ensures.sets_are given));
    }

pub returns-in_err-last-clause-refused :
    goal.returns-in_err-last-clause-refused
returns-in_err-last-clause-refused c =
    let model = c.args.model.now in
    let over = labelled_chain model in
    let r = c.args.reward in
    let bits = c.args.bits in
    let has : IsSome model.rewards = c.has_rewards.ensures.0 (told c.has_rewards.result c.if-not-has_rewards.false) in
    let w = some_rewards model.rewards has in
    let zero : c.first_without_reward.result ≡ None = search rules in
    let none_zero : first_below model.n (earns_nothing w.0) ≡ None = sym (c.first_without_reward.ensures w.0 w.1) ∙ zero in
    let past : c.first_past_range.result ≡ None = search rules in
    let none_past : first_below model.n (passes_range over w.0) ≡ None = sym (c.first_past_range.ensures w.0 w.1) ∙ past in
    let computed =
    computed_load over bits r w.0 (omega (arith, c.n-states.ensures.some, c.n-states.ensures.value)) w.1 none_zero none_past c.fastest_state-fastest.result.exit c.fastest_state-fastest.result.reward c.reward_scale-decimals.result
    (c.scale.result + c.reward.inside.x) c.reward.inside.c (c.fastest_state-fastest.ensures.exit w.0 w.1) (c.fastest_state-fastest.ensures.reward w.0 w.1)
    (decimals_are model.rewards w.0 c.reward_scale-decimals.result w.1 c.reward_scale-decimals.ensures.value)
    (ap (λ k. k + c.reward.inside.x) c.scale.ensures.value ∙ ap (λ (d : DecimalNumber). model.scale + d.x) c.reward.view_is)
    (ap (λ (d : DecimalNumber). d.c) c.reward.view_is) in
    let fit : fits_load (lowest_terms (reward_load over w.0 r)) ≡ true = ap fits_load (sym computed) ∙ c.in-Some-lowest_load.ensures.1 in
    let is : c.in-Some-lowest_load.load ≡ lowest_terms (reward_load over w.0 r) = c.in-Some-lowest_load.ensures.0 ∙ computed in
    let refused : reward_refusal over bits r ≡ Some c.in_err-last.field-0.0 =
    lowest_refusal over bits r w.0 (omega (arith, c.n-states.ensures.some, c.n-states.ensures.value)) w.1 none_zero none_past fit
    ∙ ap (λ load. plan_refusal (horizon load bits) model.n) (sym is)
    ∙ ap (λ n. plan_refusal (horizon c.in-Some-lowest_load.load bits) n) (sym c.n-states.ensures.value)
    ∙ c.in_err-last.ensures.refusal in
    search (rules, refused)
