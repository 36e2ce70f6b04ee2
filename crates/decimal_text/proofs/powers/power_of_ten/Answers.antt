use Rattle.std.proofs.Common.{◌^◌, ◌≡◌, ◌⊎◌, inl, inr, ℕ, zero, suc, ◌<◌, Bool, true, false, ◌&&◌, eqb, List, [], ◌∷◌, get_or, arith, refl}
use Rattle.std.proofs.Common.{sym, subst, ap, ◌∙◌}
use Rattle.std.proofs.lemmas.Bool.Decides.{nat_tests}
use Rattle.decimal_text.proofs.FixedDigits.{ten_pos}
use Rattle.decimal_text.proofs.powers.power_of_ten.Goals as goal

equal : (a b : ℕ) → eqb a b ≡ true → a ≡ b
equal a b h = Prim.grind (arith, nat_tests)

-- the test holds of each number below n
abbrev all_below : (ℕ → Bool) → ℕ → Bool
all_below p zero = true
all_below p (suc n) = p n && all_below p n

both : (a b : Bool) → a && b ≡ true → (a ≡ true) × (b ≡ true)
both true b h = (refl, h)
both false b h = cc

last_or_below : (k n : ℕ) → k < suc n → (k ≡ n) ⊎ (k < n)
last_or_below k n h = Prim.grind arith

holds_below : (p : ℕ → Bool) (n k : ℕ) → all_below p n ≡ true → k < n → p k ≡ true
holds_below p zero k h l = absurd (omega arith)
holds_below p (suc n) k h l =
    let split = both (p n) (all_below p n) h in
    elim (last_or_below k n l) [
      | inl e ↦ ap p e ∙ split.0
      | inr below ↦ holds_below p n k split.1 below
    ]

abbrev powers : List ℕ
powers =
    1 ∷ 10 ∷ 100 ∷ 1000 ∷ 10000 ∷ 100000 ∷ 1000000 ∷ 10000000 ∷ 100000000 ∷ 1000000000 ∷ 10000000000 ∷ 100000000000 ∷ 1000000000000
    ∷ 10000000000000 ∷ 100000000000000 ∷ 1000000000000000 ∷ 10000000000000000 ∷ 100000000000000000 ∷ 1000000000000000000 ∷ []

power_at : (k : ℕ) → k < 19 → get_or powers k 0 ≡ 10 ^ k
power_at k h = equal (get_or powers k 0) (10 ^ k) (holds_below (λ i. eqb (get_or powers i 0) (10 ^ i)) 19 k refl h)

pub returns-clause-power : goal.returns-clause-power
returns-clause-power c = power_at c.args.power c.requires

pub returns-clause-positive : goal.returns-clause-positive
returns-clause-positive c = subst (λ p. 0 < p) (sym (power_at c.args.power c.requires)) (ten_pos c.args.power)
