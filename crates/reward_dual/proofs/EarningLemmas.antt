-- What the rewards of a model make of a row.
use Rattle.std.proofs.Common.{◌≡◌, ℕ, true, false, ◌*◌, ◌^◌, ◌<◌, ◌≤◌, eqb, Option, Some, None, option_map, IsSome, refl, sym, ap, ◌∙◌, arith}
use Rattle.std.proofs.lemmas.Bool.Decides.{nat_tests}
use Rattle.ctmc_semantics.specs.Chain.{Chain, exit_rate}
use Rattle.model_core.specs.Files.{RewLists}
use Rattle.model_core.specs.Model.{ModelLists, Rewards, labelled_chain, listed_rewards, model_chain}
use Rattle.reward_dual.specs.Deciding.{deciding_rate, deciding_state, row_factor, row_total}
use Rattle.reward_dual.specs.EarningRows.{MakesRows}
use Rattle.reward_dual.specs.declared.deciding.Earning.{Earning}
use Rattle.reward_dual.proofs.DualRows.{rates_within, total_positive}
use Rattle.reward_dual.proofs.Fastest.{decides_inside}

-- there are rewards
pub some_rewards : (listed : Option RewLists) → IsSome listed → (w : Rewards) × (option_map listed_rewards listed ≡ Some w)
some_rewards (Some rew) h = (listed_rewards rew, refl)
some_rewards None h = cc

module _ (chain : Chain) (reward : ℕ → ℕ) where
  abbrev rate : ℕ
  rate = deciding_rate chain reward

  pub factor_still : rate ≡ 0 → row_factor chain reward ≡ 1
  factor_still e = let t : eqb rate 0 ≡ true = grind (arith, nat_tests) in rw t refl

  pub total_still : rate ≡ 0 → (s : ℕ) → row_total chain reward s ≡ 1
  total_still e s = let t : eqb rate 0 ≡ true = grind (arith, nat_tests) in rw t refl

  pub factor_moves : 0 < rate → row_factor chain reward ≡ reward (deciding_state chain reward)
  factor_moves l = let t : eqb rate 0 ≡ false = grind (arith, nat_tests) in rw t refl

  pub total_moves : 0 < rate → (s : ℕ) → row_total chain reward s ≡ reward s * rate
  total_moves l s = let t : eqb rate 0 ≡ false = grind (arith, nat_tests) in rw t refl

module _ (model : ModelLists) (rewards : Rewards) (fastest : Earning) (s : ℕ) (inside : s < model.n)
    (makes : MakesRows (labelled_chain model) rewards fastest) where
  abbrev own : Chain
  own = model_chain model

  abbrev earned : ℕ → ℕ
  earned = rewards.reward

  some : 0 < model.n
  some = omega (arith, inside)

  within : exit_rate own s * row_factor own earned ≤ row_total own earned s
  within = rates_within own earned some makes.positive s inside

  pub still_within : fastest.exit ≡ 0 → exit_rate own s * 1 ≤ 1
  still_within e =
      let none : deciding_rate own earned ≡ 0 = sym makes.exit ∙ e in
      omega (arith, within, ap (λ f. exit_rate own s * f) (factor_still own earned none), total_still own earned none s)

  module _ (moves : 0 < fastest.exit) where
    any : 0 < deciding_rate own earned
    any = omega (arith, moves, makes.exit)

    pub product_is : (r : ℕ) → r ≡ earned s → r * fastest.exit ≡ row_total own earned s
    product_is r e = ap (λ x. x * fastest.exit) e ∙ ap (λ x. earned s * x) makes.exit ∙ sym (total_moves own earned any s)

    pub factor_is : fastest.reward ≡ row_factor own earned
    factor_is = makes.reward ∙ sym (factor_moves own earned any)

    pub moving_within : exit_rate own s * fastest.reward ≤ row_total own earned s
    moving_within = omega (arith, within, ap (λ f. exit_rate own s * f) factor_is)

    pub moving_some : 1 ≤ fastest.reward
    moving_some = omega (arith, makes.reward, makes.positive (deciding_state own earned) (decides_inside own earned some makes.positive))

    pub moving_fits : row_total own earned s < 2 ^ 63
    moving_fits = omega (arith, makes.fits s inside, total_moves own earned any s)

    pub moving_positive : 1 ≤ row_total own earned s
    moving_positive = total_positive own earned some makes.positive s inside
