-- The first state of which a test holds.
use Rattle.std.proofs.Common.{◌≡◌, ℕ, zero, suc, ◌+◌, ◌<◌, Bool, true, false, Option, Some, None, option_map, IfSome, slice_index, if◌then◌else◌, sym, ap, ◌∙◌, arith}
use Rattle.std.proofs.Math.Decide.{dec_le}
use Rattle.model_core.specs.Files.{RewLists}
use Rattle.model_core.specs.Model.{Rewards, listed_rewards}
use Rattle.reward_dual.specs.RewardRefusal.{first_below, or_this}

-- none so far, and none here
pub first_none : (n : ℕ) (test : ℕ → Bool) → first_below n test ≡ None → test n ≡ false → first_below (n + 1) test ≡ None
first_none n test before here =
    let next : n + 1 ≡ suc n = omega arith in
    ap (λ k. first_below k test) next ∙ ap (λ o. or_this o n (test n)) before ∙ ap (λ (b : Bool). if b then Some n else None) here

-- none so far, and this one: it is the first of all
pub first_some : (n s : ℕ) (test : ℕ → Bool) → s < n → first_below s test ≡ None → test s ≡ true → first_below n test ≡ Some s
first_some zero s test l before here = absurd (omega (arith, l))
first_some (suc n) s test l before here =
    elim (dec_le (suc s) n) [
      | yes i ↦ ap (λ o. or_this o n (test n)) (first_some n s test i before here)
      | no g ↦
          let same : s ≡ n = omega (arith, g, l) in
          ap (λ o. or_this o n (test n)) (ap (λ k. first_below k test) (sym same) ∙ before)
          ∙ ap (λ (k : ℕ). if test k then Some k else None) (sym same)
          ∙ ap (λ (b : Bool). if b then Some s else None) here
    ]

-- ---- a state's reward, as it is listed
pub reward_is : (listed : Option RewLists) (rewards : Rewards) (s r : ℕ) → option_map listed_rewards listed ≡ Some rewards
    → IfSome listed (λ rew. r ≡ slice_index rew.rewards s) → r ≡ rewards.reward s
reward_is None rewards s r e h = cc
reward_is (Some rew) rewards s r e h = h ∙ ap (λ (w : Rewards). w.reward s) (same (listed_rewards rew) rewards e)
  where
    same : (a b : Rewards) → Some a ≡ Some b → a ≡ b
    same a b e = cc
