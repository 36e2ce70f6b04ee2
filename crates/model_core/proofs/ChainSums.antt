-- The rates of a chain as sums over its transitions.
use Rattle.std.proofs.Common.{◌≡◌, ℕ, ◌+◌, ◌<◌, Bool, true, false, cond, ◌&&◌, ◌==◌, List, [], ◌∷◌, All, refl, sym, ◌∙◌, ap, eq-eqb, arith}
use Rattle.std.proofs.lemmas.List.Elements.{All-tail, All-head}
use Rattle.std.proofs.lemmas.List.Sums.{sum_by-cons}
use Rattle.std.proofs.lemmas.Bool.{ne_eqb}
use Rattle.ctmc_semantics.specs.Sum.{sum_below}
use Rattle.ctmc_semantics.specs.Chain.{exit_rate}
use Rattle.ctmc_semantics.specs.Next.{rate_into}
use Rattle.model_core.specs.declared.rate.Rate.{Rate}
use Rattle.model_core.specs.Transitions.{chain_of, rate_between, exit_sum, row_of, sum_into}
use Rattle.model_core.proofs.Sums.{sum_below-agree, sum_below-add, sum_below-none, sum_below-one, sum_by-kept, sum_by-filter}

-- a number under a test that passes
where_true : (b : Bool) (x : ℕ) → b ≡ true → cond b x 0 ≡ x
where_true true x e = refl
where_true false x e = cc

-- a number under a test that fails
where_false : (b : Bool) (x : ℕ) → b ≡ false → cond b x 0 ≡ 0
where_false true x e = cc
where_false false x e = refl

-- zero under any test
where_zero : (b : Bool) → cond {A = ℕ} b 0 0 ≡ 0
where_zero true = refl
where_zero false = refl

-- a sum under a test
where_sum : (b : Bool) (x y z : ℕ) → z ≡ x + y → cond b z 0 ≡ cond b x 0 + cond b y 0
where_sum true x y z e = e
where_sum false x y z e = refl

-- what one transition adds to the rate into a set of states
one_rate : (n : ℕ) (goal : ℕ → Bool) (leaves : Bool) (to rate : ℕ) → to < n
    → sum_below n (λ t. cond (goal t) (cond (leaves && (to == t)) rate 0) 0) ≡ cond leaves (cond (goal to) rate 0) 0
one_rate n goal true to rate l =
    sum_below-one n to _ l
    (λ t other. ap (λ x. cond (goal t) x 0) (where_false (to == t) rate (ne_eqb to t (λ e. other (sym e)))) ∙ where_zero (goal t))
    ∙ ap (λ x. cond (goal to) x 0) (where_true (to == to) rate (eq-eqb to to refl))
one_rate n goal false to rate l = sum_below-none n _ (λ t below. where_zero (goal t))

-- the rate into a set of states is the sum over the state's row
pub rate_into-chain_of : (n : ℕ) (rates : List Rate) (goal : ℕ → Bool) (s : ℕ) → All (λ r. r.to < n) rates
    → rate_into (chain_of n rates) goal s ≡ sum_into goal (row_of rates s)
rate_into-chain_of n [] goal s h = sum_below-none n _ (λ t below. where_zero (goal t))
rate_into-chain_of n (r ∷ rs) goal s h =
    let adds : ℕ → ℕ = λ t. cond (goal t) (cond ((r.from == s) && (r.to == t)) r.rate 0) 0 in
    let others : ℕ → ℕ = λ t. cond (goal t) (rate_between rs s t) 0 in
    let split : rate_into (chain_of n (r ∷ rs)) goal s ≡ sum_below n (λ t. adds t + others t) =
    sum_below-agree n _ _ (λ t below. where_sum (goal t) _ _ _ (sum_by-cons _ r rs))
    in
    let joined : sum_below n (λ t. adds t + others t) ≡ sum_below n adds + sum_below n others = sum_below-add n adds others in
    let one : sum_below n adds ≡ cond (r.from == s) (cond (goal r.to) r.rate 0) 0 =
    one_rate n goal (r.from == s) r.to r.rate (All-head (λ (x : Rate). x.to < n) r rs h)
    in
    let rest : sum_below n others ≡ sum_into goal (row_of rs s) =
    rate_into-chain_of n rs goal s (All-tail (λ (x : Rate). x.to < n) r rs h)
    in
    let row : sum_into goal (row_of (r ∷ rs) s) ≡ cond (r.from == s) (cond (goal r.to) r.rate 0) 0 + sum_into goal (row_of rs s) =
    sum_by-kept _ r (row_of rs s) (r.from == s)
    in
    omega arith

-- a state's exit rate is the sum over its transitions
pub exit_rate-chain_of : (n : ℕ) (rates : List Rate) (s : ℕ) → All (λ r. r.to < n) rates
    → exit_rate (chain_of n rates) s ≡ exit_sum rates s
exit_rate-chain_of n rates s h = rate_into-chain_of n rates (λ _. true) s h ∙ sum_by-filter (λ r. r.rate) (λ r. r.from == s) rates
