-- The product of two fractions in lowest terms, in lowest terms.
use Rattle.std.proofs.Common.{◌≡◌, ℕ, ◌*◌, ◌/◌, ◌^◌, ◌<◌, ◌≤◌, refl, sym, ◌∙◌, ap, subst, arith}
use Rattle.std.specs.Prelude.{Bool, true, false, ◌&&◌, nat_lt}
use Rattle.std.proofs.Math.Nat.{mul-pos}
use Rattle.std.proofs.lemmas.Bool.{le-ltb}
use Rattle.ctmc_semantics.specs.Fraction.{Fraction, fraction, ◌≈◌}
use Rattle.reward_dual.specs.Coprime.{AreCoprime}
use Rattle.reward_dual.specs.LowestTerms.{gcd, lowest_terms, fits_load}
use Rattle.reward_dual.proofs.Coprime.{AreDivided, divided_coprime, crossed_divided, lowest_unique, reduced}

no_and : (t : Bool) → (t && false) ≡ false
no_and true = refl
no_and false = refl

pub num_too_large : (p : Fraction) → 2 ^ 127 ≤ p.num → fits_load p ≡ false
num_too_large p l = ap (λ (t : Bool). t && nat_lt p.den (2 ^ 126)) (le-ltb p.num (2 ^ 127) l)

pub den_too_large : (p : Fraction) → 2 ^ 126 ≤ p.den → fits_load p ≡ false
den_too_large p l =
    ap (λ (t : Bool). nat_lt p.num (2 ^ 127) && t) (le-ltb p.den (2 ^ 126) l) ∙ no_and (nat_lt p.num (2 ^ 127))

-- equal fractions have the same lowest terms
pub same_lowest : (p q : Fraction) → 0 < p.den → 0 < q.den → p.num * q.den ≡ q.num * p.den → lowest_terms p ≡ lowest_terms q
same_lowest p q p_pos q_pos same =
    let parts : AreDivided q.num q.den (gcd q.num q.den) = divided_coprime q.num q.den q_pos in
    let crosswise : q.num / gcd q.num q.den * p.den ≡ p.num * (q.den / gcd q.num q.den) =
    reduced q.num q.den (q.num / gcd q.num q.den) (q.den / gcd q.num q.den) (gcd q.num q.den) p.num p.den parts.common parts.first
    parts.second (sym same) in
    lowest_unique p (lowest_terms q) p_pos (sym crosswise) parts.coprime

-- the factors of a product of fractions in another order
regrouped : (n g b a h d n' b' a' d' : ℕ) → n' * g ≡ n → b' * g ≡ b → a' * h ≡ a → d' * h ≡ d
    → n * a * (d' * b') ≡ n' * a' * (d * b)
regrouped n g b a h d n' b' a' d' en eb ea ed =
    let middle : n' * g * (a' * h) * (d' * b') ≡ n' * a' * (d' * h * (b' * g)) = omega arith in
    ap (λ z. z * a * (d' * b')) (sym en) ∙ ap (λ z. n' * g * z * (d' * b')) (sym ea) ∙ middle
    ∙ ap (λ z. n' * a' * (z * (b' * g))) ed ∙ ap (λ z. n' * a' * (d * z)) eb

-- of n / d and a / b, with what they have in common crosswise
module _ (n d a b g h : ℕ) {p q : Fraction} (pe : fraction n d ≡ p) (qe : fraction a b ≡ q)
    (d_pos : 0 < d) (coprime : AreCoprime n d) (b_pos : 0 < b) (other : AreCoprime a b) (ge : g ≡ gcd n b) (he : h ≡ gcd a d) where
  n_b : AreDivided n b g
  n_b = subst (λ (z : ℕ). AreDivided n b z) (sym ge) (divided_coprime n b b_pos)

  a_d : AreDivided a d h
  a_d = subst (λ (z : ℕ). AreDivided a d z) (sym he) (divided_coprime a d d_pos)

  -- the product's numbers
  module _ {x y : ℕ} (ex : x ≡ n / g * (a / h)) (ey : y ≡ d / h * (b / g)) where
    pub product_positive : 0 < y
    product_positive = omega (arith, ey, mul-pos a_d.positive n_b.positive)

    pub product_coprime : AreCoprime x y
    product_coprime =
        subst (λ (z : ℕ). AreCoprime x z) (sym ey)
        (subst (λ (z : ℕ). AreCoprime z (d / h * (b / g))) (sym ex) (crossed_divided n d a b g h coprime other n_b a_d))

    of_numbers : fraction x y ≡ lowest_terms (fraction (n * a) (d * b))
    of_numbers =
        let whole : n * a * (d / h * (b / g)) ≡ n / g * (a / h) * (d * b) =
        regrouped n g b a h d (n / g) (b / g) (a / h) (d / h) n_b.first n_b.second a_d.first a_d.second in
        let same : n * a * y ≡ x * (d * b) = ap (λ z. n * a * z) ey ∙ whole ∙ ap (λ z. z * (d * b)) (sym ex) in
        sym (lowest_unique (fraction (n * a) (d * b)) (fraction x y) (mul-pos d_pos b_pos) same product_coprime)

    pub product_lowest : fraction x y ≡ lowest_terms (fraction (p.num * q.num) (p.den * q.den))
    product_lowest =
        subst (λ (z : Fraction). fraction x y ≡ lowest_terms (fraction (z.num * q.num) (z.den * q.den))) pe
        (subst (λ (z : Fraction). fraction x y ≡ lowest_terms (fraction (n * z.num) (d * z.den))) qe of_numbers)

  pub num_overflows : (n / g * (a / h) < 2 ^ 128 → ⊥) → fits_load (lowest_terms (fraction (p.num * q.num) (p.den * q.den))) ≡ false
  num_overflows above =
      let large : 2 ^ 127 ≤ n / g * (a / h) = omega (arith, above) in
      subst (λ (z : Fraction). fits_load z ≡ false) (product_lowest refl refl)
      (num_too_large (fraction (n / g * (a / h)) (d / h * (b / g))) large)

  pub den_overflows : (d / h * (b / g) < 2 ^ 128 → ⊥) → fits_load (lowest_terms (fraction (p.num * q.num) (p.den * q.den))) ≡ false
  den_overflows above =
      let large : 2 ^ 126 ≤ d / h * (b / g) = omega (arith, above) in
      subst (λ (z : Fraction). fits_load z ≡ false) (product_lowest refl refl)
      (den_too_large (fraction (n / g * (a / h)) (d / h * (b / g))) large)

-- the value of a fraction is that of its lowest terms
lowest_value : (x y : ℕ) → 0 < y → (lowest_terms (fraction x y)).num * y ≡ x * (lowest_terms (fraction x y)).den
lowest_value x y pos =
    let g = gcd x y in
    let parts : AreDivided x y g = divided_coprime x y pos in
    let middle : x / g * (y / g * g) ≡ x / g * g * (y / g) = omega arith in
    ap (λ z. x / g * z) (sym parts.second) ∙ middle ∙ ap (λ z. z * (y / g)) parts.first

-- w stands for e * c / r in lowest terms, s for above / below: their product has the value of a load
module _ {e c r x y z : ℕ} {w : Fraction} (r_pos : 0 < r) (ex : x ≡ e) (ey : y ≡ c) (ez : z ≡ r)
    (we : w ≡ lowest_terms (fraction (x * y) z)) where
  w_is : w ≡ lowest_terms (fraction (e * c) r)
  w_is = we ∙ ap (λ (t : ℕ). lowest_terms (fraction (t * y) z)) ex ∙ ap (λ (t : ℕ). lowest_terms (fraction (e * t) z)) ey
      ∙ ap (λ (t : ℕ). lowest_terms (fraction (e * c) t)) ez

  w_value : w.num * r ≡ e * c * w.den
  w_value = subst (λ (f : Fraction). f.num * r ≡ e * c * f.den) (sym w_is) (lowest_value (e * c) r r_pos)

  w_pos : 0 < w.den
  w_pos = subst (λ (f : Fraction). 0 < f.den) (sym w_is) (divided_coprime (e * c) r r_pos).positive

  pub load_numbers : (above below : ℕ) (s : Fraction) → 0 < below → 0 < s.den → s ≈ fraction above below
      → lowest_terms (fraction (w.num * s.num) (w.den * s.den)) ≡ lowest_terms (fraction (e * c * above) (below * r))
  load_numbers above below s below_pos s_pos se =
      let values : w.num * r * (s.num * below) ≡ e * c * w.den * (above * s.den) =
      ap (λ t. t * (s.num * below)) w_value ∙ ap (λ t. e * c * w.den * t) se in
      let same : w.num * s.num * (below * r) ≡ e * c * above * (w.den * s.den) = omega (arith, values) in
      same_lowest (fraction (w.num * s.num) (w.den * s.den)) (fraction (e * c * above) (below * r)) (mul-pos w_pos s_pos)
      (mul-pos below_pos r_pos) same
