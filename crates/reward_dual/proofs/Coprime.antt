-- Numbers that have nothing in common, and fractions in lowest terms.
use Rattle.std.proofs.Common.{◌≡◌, ℕ, zero, suc, ◌*◌, ◌/◌, ◌<◌, sym, ◌∙◌, ap, subst, arith}
use Rattle.std.specs.Int.{IsGcd, ◌∣◌}
use Rattle.std.proofs.lemmas.Nat.Gcd.{dvd_trans, dvd_antisymm, dvd-zero, IsGcd-swap}
use Rattle.std.proofs.Math.Nat.{dvd-mul_left, dvd-mul_right, one-dvd, mul-dvd-mul_left, mul-dvd-mul_right, dvd_of_mul-dvd-mul_left, dvd_of_mul-dvd-mul_right, dvd-mul_right_of_dvd, mul-div_cancel', div-mul_cancel, pos_of_dvd_of_pos, eq_of_mul-eq-mul_right, mul_comm}
use Rattle.ctmc_semantics.specs.Fraction.{Fraction, fraction}
use Rattle.reward_dual.specs.Coprime.{AreCoprime}
use Rattle.reward_dual.specs.LowestTerms.{gcd, lowest_terms}
use Rattle.reward_dual.proofs.Gcd.{gcd_is}

pub coprime_swap : (a b : ℕ) → AreCoprime a b → AreCoprime b a
coprime_swap a b h = IsGcd-swap a b 1 h

-- a divisor has no more in common than the number itself
pub coprime_parts : (a b d : ℕ) → d ∣ a → AreCoprime a b → AreCoprime d b
coprime_parts a b d h c = (one-dvd d, one-dvd b, λ e p q. c.2 e (dvd_trans e p h) q)

-- h stands for the greatest common divisor of the multiples: k divides it, so it has the form k * m
multiples_of : (k a b g h : ℕ) → 0 < k → IsGcd a b g → IsGcd (k * a) (k * b) h → h ∣ k * g
multiples_of k a b g h pos is top =
    let k_divides : k ∣ h = top.2 k (dvd-mul_right k a) (dvd-mul_right k b) in
    let e : k * (h / k) ≡ h = mul-div_cancel' k k_divides in
    let p : h / k ∣ a = dvd_of_mul-dvd-mul_left (h / k) pos (subst (λ (z : ℕ). z ∣ k * a) (sym e) top.0) in
    let q : h / k ∣ b = dvd_of_mul-dvd-mul_left (h / k) pos (subst (λ (z : ℕ). z ∣ k * b) (sym e) top.1) in
    subst (λ (z : ℕ). z ∣ k * g) e (mul-dvd-mul_left (h / k) k (is.2 (h / k) p q))

-- a multiple of two numbers has that multiple of their greatest common divisor
pub multiples : (k a b g : ℕ) → IsGcd a b g → IsGcd (k * a) (k * b) (k * g)
multiples zero a b g is = (mul-dvd-mul_left g 0 is.0, mul-dvd-mul_left g 0 is.1, λ d p q. dvd-mul_right_of_dvd d (dvd-zero d) g)
multiples (suc k) a b g is =
    let top : IsGcd (suc k * a) (suc k * b) (gcd (suc k * a) (suc k * b)) = gcd_is (suc k * a) (suc k * b) in
    let most : gcd (suc k * a) (suc k * b) ∣ suc k * g = multiples_of (suc k) a b g (gcd (suc k * a) (suc k * b)) (omega arith) is top in
    (mul-dvd-mul_left g (suc k) is.0, mul-dvd-mul_left g (suc k) is.1, λ d p q. dvd_trans d (top.2 d p q) most)

-- what divides a product and has nothing in common with one factor divides the other
pub gauss : (a b c : ℕ) → AreCoprime a c → a ∣ b * c → a ∣ b
gauss a b c coprime h =
    let all : IsGcd (b * a) (b * c) (b * 1) = multiples b a c 1 coprime in
    subst (λ (z : ℕ). a ∣ z) (omega arith) (all.2 a (dvd-mul_left a b) h)

pub gauss_left : (a b c : ℕ) → AreCoprime a b → a ∣ b * c → a ∣ c
gauss_left a b c coprime h = gauss a c b coprime (subst (λ (z : ℕ). a ∣ z) (mul_comm b c) h)

pub coprime_product : (a b c : ℕ) → AreCoprime a c → AreCoprime b c → AreCoprime (a * b) c
coprime_product a b c h k =
    (one-dvd (a * b), one-dvd c, λ d p q. k.2 d (gauss_left d a b (coprime_parts c a d q (coprime_swap a c h)) p) q)

-- both numbers of a fraction without what they have in common
pub record AreDivided (a b g : ℕ) : Type 0 where
  pub coprime : AreCoprime (a / g) (b / g)
  pub first : a / g * g ≡ a
  pub second : b / g * g ≡ b
  pub positive : 0 < b / g
  pub common : 0 < g

quotient_positive : (q g b : ℕ) → 0 < b → q * g ≡ b → 0 < q
quotient_positive zero g b pos e = absurd (omega (arith, e, pos))
quotient_positive (suc q) g b pos e = omega arith

divided : (a b g : ℕ) → 0 < b → IsGcd a b g → AreDivided a b g
divided a b g pos is =
    let first : a / g * g ≡ a = div-mul_cancel g is.0 in
    let second : b / g * g ≡ b = div-mul_cancel g is.1 in
    let some : 0 < g = omega (arith, pos_of_dvd_of_pos is.1 pos) in
    let divides : (d : ℕ) → d ∣ a / g → d ∣ b / g → d ∣ 1 = λ d p q.
    let whole : d * g ∣ g = is.2 (d * g) (subst (λ (z : ℕ). d * g ∣ z) first (mul-dvd-mul_right d p g))
    (subst (λ (z : ℕ). d * g ∣ z) second (mul-dvd-mul_right d q g)) in
    dvd_of_mul-dvd-mul_right d some (subst (λ (z : ℕ). d * g ∣ z) (omega arith) whole) in
    record {
      coprime = (one-dvd (a / g), one-dvd (b / g), divides);
      first = first;
      second = second;
      positive = quotient_positive (b / g) g b pos second;
      common = some;
    }

pub divided_coprime : (a b : ℕ) → 0 < b → AreDivided a b (gcd a b)
divided_coprime a b pos = divided a b (gcd a b) pos (gcd_is a b)

-- the numbers of a fraction in lowest terms divide those of an equal one
num_divides : (n d m e : ℕ) → AreCoprime n d → n * e ≡ m * d → n ∣ m
num_divides n d m e coprime same = gauss n m d coprime (subst (λ (z : ℕ). n ∣ z) same (dvd-mul_right n e))

-- two equal fractions in lowest terms have the same numbers
same_numbers : (n d m e : ℕ) → AreCoprime n d → AreCoprime m e → n * e ≡ m * d → (n ≡ m) × (d ≡ e)
same_numbers n d m e h k same =
    let n_m : n ∣ m = num_divides n d m e h same in
    let m_n : m ∣ n = num_divides m e n d k (sym same) in
    let d_e : d ∣ e = num_divides d n e m (coprime_swap n d h) (omega (arith, same)) in
    let e_d : e ∣ d = num_divides e m d n (coprime_swap m e k) (omega (arith, same)) in
    (dvd_antisymm n_m m_n, dvd_antisymm d_e e_d)

-- the same crosswise, where one fraction's numbers have a common factor
pub reduced : (x y n d g m e : ℕ) → 0 < g → n * g ≡ x → d * g ≡ y → x * e ≡ m * y → n * e ≡ m * d
reduced x y n d g m e pos first second same =
    eq_of_mul-eq-mul_right g pos (n * e) (m * d) (omega (arith, ap (λ z. z * e) first, ap (λ z. m * z) second, same))

-- a fraction in lowest terms is the only one of its value
pub lowest_unique :
    (p q : Fraction) → 0 < p.den → p.num * q.den ≡ q.num * p.den → AreCoprime q.num q.den → lowest_terms p ≡ q
lowest_unique p q pos same coprime =
    let g = gcd p.num p.den in
    let parts : AreDivided p.num p.den g = divided_coprime p.num p.den pos in
    let crosswise : p.num / g * q.den ≡ q.num * (p.den / g) =
    reduced p.num p.den (p.num / g) (p.den / g) g q.num q.den parts.common parts.first parts.second same in
    let found = same_numbers (p.num / g) (p.den / g) q.num q.den parts.coprime coprime crosswise in
    ap (λ (z : ℕ). fraction z (p.den / g)) found.0 ∙ ap (λ (z : ℕ). fraction q.num z) found.1

-- a product of two fractions in lowest terms, where the factors that stand crosswise are reduced
module _ (n d a b g h : ℕ) (coprime : AreCoprime n d) (other : AreCoprime a b) (n_b : AreDivided n b g) (a_d : AreDivided a d h) where
  divides : (x y z : ℕ) → x * y ≡ z → x ∣ z
  divides x y z e = subst (λ (w : ℕ). x ∣ w) e (dvd-mul_right x y)

  parts : (x y z w e f : ℕ) → x * e ≡ z → y * f ≡ w → AreCoprime z w → AreCoprime x y
  parts x y z w e f first second h =
      coprime_swap y x (coprime_parts w x y (divides y f w second) (coprime_swap x w (coprime_parts z w x (divides x e z first) h)))

  pub crossed_divided : AreCoprime (n / g * (a / h)) (d / h * (b / g))
  crossed_divided =
      let below = d / h * (b / g) in
      let n_d : AreCoprime (n / g) (d / h) = parts (n / g) (d / h) n d g h n_b.first a_d.second coprime in
      let a_b : AreCoprime (a / h) (b / g) = parts (a / h) (b / g) a b h g a_d.first n_b.second other in
      let first : AreCoprime (n / g) below =
      coprime_swap below (n / g) (coprime_product (d / h) (b / g) (n / g) (coprime_swap (n / g) (d / h) n_d) (coprime_swap (n / g) (b / g) n_b.coprime)) in
      let second : AreCoprime (a / h) below =
      coprime_swap below (a / h) (coprime_product (d / h) (b / g) (a / h) (coprime_swap (a / h) (d / h) a_d.coprime) (coprime_swap (a / h) (b / g) a_b)) in
      coprime_product (n / g) (a / h) below first second

pub crossed : (n d a b : ℕ) → AreCoprime n d → AreCoprime a b → 0 < d → 0 < b
    → AreCoprime (n / gcd n b * (a / gcd a d)) (d / gcd a d * (b / gcd n b))
crossed n d a b h k d_pos b_pos =
    crossed_divided n d a b (gcd n b) (gcd a d) h k (divided_coprime n b b_pos) (divided_coprime a d d_pos)
