-- A number has one normal form at most.
use Rattle.std.proofs.Common.{◌≡◌, ℕ, suc, ◌+◌, ◌-◌, ◌*◌, ◌%◌, ◌^◌, ◌<◌, ◌≤◌, ◌≢◌, ◌⊎◌, inl, inr, ap, sym, subst, ◌∙◌, arith, pow-suc}
use Rattle.std.proofs.Common.{pow-add}
use Rattle.std.proofs.Math.Nat.{eq_of_mul-eq-mul_right}
use Rattle.decimal_text.proofs.FixedDigits.{ten_pos}
use Rattle.decimal_text.specs.DecimalNumber.{DecimalNumber, NormalFormIsUnique}

le_or_lt : (a b : ℕ) → (a ≤ b) ⊎ (b < a)
le_or_lt a b = Prim.grind arith

-- c / 10^x isn't b / 10^(x + j + 1), unless 10 divides b
not_with_more : (c b x j : ℕ) → b % 10 ≢ 0 → c * 10 ^ (x + suc j) ≡ b * 10 ^ x → ⊥
not_with_more c b x j normal same =
    let split : c * 10 ^ (x + suc j) ≡ c * 10 ^ j * 10 * 10 ^ x =
    ap (λ z. c * z) (pow-add 10 x (suc j) ∙ ap (λ z. 10 ^ x * z) (pow-suc 10 j)) ∙ regroup c (10 ^ x) (10 ^ j)
    in
    let ends : b ≡ c * 10 ^ j * 10 = eq_of_mul-eq-mul_right (10 ^ x) (ten_pos x) _ _ (sym same ∙ split) in
    normal (omega (arith, ends))
  where
    regroup : (c p q : ℕ) → c * (p * (q * 10)) ≡ c * q * 10 * p
    regroup c p q = omega arith

-- a normal form has no more decimals than any other way to write the number
fewest : (c b x y : ℕ) → (0 < y → b % 10 ≢ 0) → c * 10 ^ y ≡ b * 10 ^ x → y ≤ x
fewest c b x y normal same =
    elim (le_or_lt y x) [
      | inl h ↦ h
      | inr h ↦
          let split : y ≡ x + suc (y - suc x) = omega arith in
          absurd (not_with_more c b x (y - suc x) (normal (omega arith)) (subst (λ z. c * 10 ^ z ≡ b * 10 ^ x) split same))
    ]

abbrev make : ℕ → ℕ → DecimalNumber
make c x = record { c = c; x = x }

pub normal_form_unique : NormalFormIsUnique
normal_form_unique d e n m same =
    let most : e.x ≤ d.x = fewest d.c e.c d.x e.x m same in
    let least : d.x ≤ e.x = fewest e.c d.c e.x d.x n (sym same) in
    let decimals : d.x ≡ e.x = omega arith in
    let digits : d.c ≡ e.c =
    eq_of_mul-eq-mul_right (10 ^ e.x) (ten_pos e.x) _ _ (same ∙ ap (λ x. e.c * 10 ^ x) decimals)
    in
    ap (λ c. make c d.x) digits ∙ ap (λ x. make e.c x) decimals
