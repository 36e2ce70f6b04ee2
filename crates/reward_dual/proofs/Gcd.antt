-- Euclid's algorithm finds the greatest common divisor.
use Rattle.std.proofs.Common.{◌≡◌, ℕ, zero, suc, ◌%◌, ◌<◌, ap, sym, subst, refl, arith}
use Rattle.std.specs.Prelude.{Bool, if◌then◌else◌}
use Rattle.std.specs.Int.{IsGcd}
use Rattle.std.proofs.Math.Dec.{eqb-suc-zero}
use Rattle.std.proofs.Math.Nat.{pos_of_dvd_of_pos}
use Rattle.std.proofs.lemmas.Nat.Gcd.{IsGcd-from_zero, IsGcd-from_mod, same_from_IsGcd}
use Rattle.reward_dual.specs.LowestTerms.{gcd_within, gcd}

-- with more steps than b
within_is : (k a b : ℕ) → b < k → IsGcd a b (gcd_within k a b)
within_is zero a b l = absurd (omega arith)
within_is (suc k) a zero l = IsGcd-from_zero a 0 refl
within_is (suc k) a (suc b) l =
    let rest = gcd_within k (suc b) (a % suc b) in
    let goes_on : rest ≡ gcd_within (suc k) a (suc b) = sym (ap (λ (t : Bool). if t then a else rest) (eqb-suc-zero b)) in
    subst (λ (g : ℕ). IsGcd a (suc b) g) goes_on (IsGcd-from_mod a (suc b) rest (within_is k (suc b) (a % suc b) (omega arith)))

pub gcd_is : (a b : ℕ) → IsGcd a b (gcd a b)
gcd_is a b = within_is (suc b) a b (omega arith)

-- one step by a remainder
pub gcd_step : (a b : ℕ) → gcd b (a % b) ≡ gcd a b
gcd_step a b =
    same_from_IsGcd a b (gcd b (a % b)) (gcd a b) (IsGcd-from_mod a b (gcd b (a % b)) (gcd_is b (a % b))) (gcd_is a b)

pub gcd_end : (a b : ℕ) → b ≡ 0 → a ≡ gcd a b
gcd_end a b e = same_from_IsGcd a b a (gcd a b) (IsGcd-from_zero a b e) (gcd_is a b)

pub gcd_positive : (a b : ℕ) → 0 < b → 0 < gcd a b
gcd_positive a b pos = pos_of_dvd_of_pos (gcd_is a b).1 pos
