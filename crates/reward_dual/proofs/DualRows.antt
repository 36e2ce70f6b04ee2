-- Rows over divisors of their own stand for the dual chain.
use Rattle.std.proofs.Common.{◌≡◌, ℕ, zero, suc, ◌+◌, ◌-◌, ◌*◌, ◌<◌, ◌≤◌, max, Bool, true, false, cond, eqb, eq-eqb, List, [], ◌∷◌, ◌++◌, length, subst, refl, sym, ap, ◌∙◌, arith}
use Rattle.std.proofs.Math.Decide.{dec_le}
use Rattle.std.proofs.Math.Seq.{get_or-append_seam}
use Rattle.std.proofs.lemmas.List.{get_or_append_left}
use Rattle.std.proofs.lemmas.Bool.{ne_eqb}
use Rattle.std.proofs.lemmas.Bool.Decides.{nat_tests}
use Rattle.ctmc_semantics.specs.Chain.{Chain, exit_rate}
use Rattle.ctmc_semantics.specs.Jumps.{Jumps}
use Rattle.ctmc_semantics.specs.Sum.{sum_below}
use Rattle.ctmc_semantics.specs.Uniformised.{uniform_rate, uniformised}
use Rattle.ctmc_semantics.proofs.Sums.{sum_below-add, sum_below-mul, sum_below-same}
use Rattle.ctmc_semantics.proofs.UniformLemmas.{rate_le_exit}
use Rattle.csl_semantics.specs.Dual.{product_below, others_product, dual}
use Rattle.model_core.proofs.Sums.{sum_below-one}
use Rattle.step_core.specs.FrameLists.{RowLists}
use Rattle.step_core.specs.FrameRows.{number_to, row_at, StandFor}
use Rattle.uniformise.specs.JumpRow.{jump_number}
use Rattle.reward_dual.specs.Deciding.{deciding_state, deciding_rate, row_total, row_factor}
use Rattle.reward_dual.proofs.Products.{dual_exit, others_times, product_positive}
use Rattle.reward_dual.proofs.Fastest.{decides_inside, dual_greatest, fastest, slower}

-- ---- over plain numbers: the weight of the dual chain over its rate is the row's number over its divisor. `r` is the rate, `x` the exit
-- rate, `q` the reward and `o` the others' product of the state, `e`, `p` and `d` those of the deciding state
same_share : (b : Bool) (r x q o e p d : ℕ) → o * q ≡ d * p → x * p ≤ e * q → x * o ≤ e * d
    → (r * o + cond b (e * d - x * o) 0) * (q * e) ≡ (r * p + cond b (q * e - x * p) 0) * (e * d)
same_share false r x q o e p d same le above =
    omega (arith, ap (λ z. r * e * z) same)
same_share true r x q o e p d same le above = by_rest (e * d - x * o) (q * e - x * p) (omega (arith, above)) (omega (arith, le))
  where
    by_rest : (u v : ℕ) → u + x * o ≡ e * d → v + x * p ≡ q * e → (r * o + u) * (q * e) ≡ (r * p + v) * (e * d)
    by_rest u v h k =
        omega (arith, ap (λ z. z * (q * e)) h, ap (λ z. z * (e * d)) k, ap (λ z. r * e * z) same, ap (λ z. x * e * z) same)

-- a row is whole: what its rates lack of the divisor is the loop's
whole_row : (x p t : ℕ) → x * p ≤ t → x * p + (t - x * p) ≡ t
whole_row x p t le = omega (arith, le)

abbrev no_row : RowLists
no_row = record { den = 0; entries = [] }

-- what holds of each row so far, and of one more
pub one_more : (P : ℕ → RowLists → Type 0) (rows : List RowLists) (row : RowLists) (s : ℕ) → length rows ≡ s
    → ((i : ℕ) → i < s → P i (row_at rows i)) → P s row → (i : ℕ) → i < s + 1 → P i (row_at (rows ++ row ∷ []) i)
one_more P rows row s long before here i l =
    elim (dec_le (suc i) s) [
      | yes inside ↦ subst (P i) (sym (get_or_append_left rows (row ∷ []) no_row i (omega (arith, inside, long)))) (before i inside)
      | no past ↦
          let last : i ≡ length rows = omega (arith, past, l, long) in
          let same : i ≡ s = omega (arith, last, long) in
          let at : row_at (rows ++ row ∷ []) i ≡ row =
          ap (row_at (rows ++ row ∷ [])) last ∙ get_or-append_seam rows row [] no_row in
          subst (P i) (sym at) (subst (λ k. P k row) (sym same) here)
    ]

module _ (chain : Chain) (reward : ℕ → ℕ) (some : 0 < chain.states) (positive : (s : ℕ) → s < chain.states → 0 < reward s) where
  abbrev n : ℕ
  n = chain.states

  abbrev rate : ℕ
  rate = deciding_rate chain reward

  abbrev decides : ℕ
  decides = deciding_state chain reward

  abbrev jumps : Jumps
  jumps = uniformised (dual chain reward)

  -- the rates in a state's row are at most its divisor
  within_by : (zero_rate : Bool) → eqb rate 0 ≡ zero_rate → (s : ℕ) → s < n
      → exit_rate chain s * cond zero_rate 1 (reward decides) ≤ cond zero_rate 1 (reward s * rate)
  within_by true e s l =
      let none : rate ≡ 0 = grind (arith, nat_tests) in
      let slow : exit_rate chain s * reward decides ≤ rate * reward s = fastest chain reward n positive s l in
      no_rate (exit_rate chain s) (reward decides) rate (reward s) (positive decides (decides_inside chain reward some positive)) none slow
    where
      no_rate : (x p e q : ℕ) → 0 < p → e ≡ 0 → x * p ≤ e * q → x * 1 ≤ 1
      no_rate zero p e q some is le = omega arith
      no_rate (suc x) (suc p) e q some is le = absurd (omega (arith, le, ap (λ z. z * q) is))
      no_rate (suc x) zero e q some is le = absurd (omega (arith, some))
  within_by false e s l = omega (arith, fastest chain reward n positive s l)

  pub rates_within : (s : ℕ) → s < n → exit_rate chain s * row_factor chain reward ≤ row_total chain reward s
  rates_within s l = within_by (eqb rate 0) refl s l

  -- the divisors are positive
  total_by : (zero_rate : Bool) → eqb rate 0 ≡ zero_rate → (s : ℕ) → s < n → 1 ≤ cond zero_rate 1 (reward s * rate)
  total_by true e s l = omega arith
  total_by false e s l =
      let any : 0 < rate = grind (arith, nat_tests) in
      positive_times (reward s) rate (positive s l) any
    where
      positive_times : (a b : ℕ) → 0 < a → 0 < b → 1 ≤ a * b
      positive_times (suc a) (suc b) h k = omega arith
      positive_times zero b h k = absurd (omega (arith, h))
      positive_times (suc a) zero h k = absurd (omega (arith, k))

  pub total_positive : (s : ℕ) → s < n → 1 ≤ row_total chain reward s
  total_positive s l = total_by (eqb rate 0) refl s l

  -- ---- the weights of the dual chain
  abbrev others : ℕ → ℕ
  others = others_product n reward

  others_positive : (s : ℕ) → s < n → 0 < others s
  others_positive s l =
      left_positive (others s) (reward s) (product_below n reward) (others_times n s reward l) (product_positive n reward positive)
    where
      left_positive : (a b c : ℕ) → a * b ≡ c → 0 < c → 0 < a
      left_positive (suc a) b c e h = omega arith
      left_positive zero b c e h = absurd (omega (arith, e, h))

  dual_uniform : uniform_rate (dual chain reward) ≡ max 1 (rate * others decides)
  dual_uniform = ap (max 1) (dual_greatest chain reward some positive)

  dual_weight : (s t : ℕ) → jumps.weight s t
      ≡ chain.rate s t * others s + cond (eqb s t) (max 1 (rate * others decides) - exit_rate chain s * others s) 0
  dual_weight s t =
      ap (λ u. chain.rate s t * others s + cond (eqb s t) (u - exit_rate (dual chain reward) s) 0) dual_uniform
      ∙ ap (λ x. chain.rate s t * others s + cond (eqb s t) (max 1 (rate * others decides) - x) 0) (dual_exit chain reward s)

  -- where no state is left, each stays
  still : (b : Bool) (r x o d e p q : ℕ) → e ≡ 0 → x ≡ 0 → r ≤ x
      → (r * o + cond b (max 1 (e * d) - x * o) 0) * 1 ≡ (r * 1 + cond b (1 - x * 1) 0) * max 1 (e * d)
  still true r x o d e p q none rest le = rw (none, rest) (stay r (omega (arith, le, rest)))
    where
      stay : (r : ℕ) → r ≡ 0 → (r * o + (max 1 (0 * d) - 0 * o)) * 1 ≡ (r * 1 + (1 - 0 * 1)) * max 1 (0 * d)
      stay zero e = omega arith
      stay (suc r) e = absurd (omega (arith, e))
  still false r x o d e p q none rest le = rw none (stay r (omega (arith, le, rest)))
    where
      stay : (r : ℕ) → r ≡ 0 → (r * o + 0) * 1 ≡ (r * 1 + 0) * max 1 (0 * d)
      stay zero e = omega arith
      stay (suc r) e = absurd (omega (arith, e))

  share_by : (zero_rate : Bool) → eqb rate 0 ≡ zero_rate → (s t : ℕ) → s < n → t < n
      → (chain.rate s t * others s + cond (eqb s t) (max 1 (rate * others decides) - exit_rate chain s * others s) 0)
      * cond zero_rate 1 (reward s * rate)
      ≡ (chain.rate s t * cond zero_rate 1 (reward decides)
      + cond (eqb s t) (cond zero_rate 1 (reward s * rate) - exit_rate chain s * cond zero_rate 1 (reward decides)) 0)
      * max 1 (rate * others decides)
  share_by true e s t l m =
      let none : rate ≡ 0 = grind (arith, nat_tests) in
      let slow : exit_rate chain s * reward decides ≤ rate * reward s = fastest chain reward n positive s l in
      still (eqb s t) (chain.rate s t) (exit_rate chain s) (others s) (others decides) rate (reward decides) (reward s) none
      (rest (exit_rate chain s) (reward decides) rate (reward s) (positive decides (decides_inside chain reward some positive)) none slow)
      (rate_le_exit chain s t m)
    where
      rest : (x p e q : ℕ) → 0 < p → e ≡ 0 → x * p ≤ e * q → x ≡ 0
      rest zero p e q some is le = refl
      rest (suc x) (suc p) e q some is le = absurd (omega (arith, le, ap (λ z. z * q) is))
      rest (suc x) zero e q some is le = absurd (omega (arith, some))
  share_by false e s t l m =
      let any : 0 < rate = grind (arith, nat_tests) in
      let here = decides_inside chain reward some positive in
      let own : others s * reward s ≡ product_below n reward = others_times n s reward l in
      let its : others decides * reward decides ≡ product_below n reward = others_times n decides reward here in
      let above : exit_rate chain s * others s ≤ rate * others decides = slower chain reward some positive s l in
      let one : max 1 (rate * others decides) ≡ rate * others decides = whole_max rate (others decides) any (others_positive decides here) in
      rw one
      (same_share (eqb s t) (chain.rate s t) (exit_rate chain s) (reward s) (others s) rate (reward decides) (others decides)
      (own ∙ sym its) (fastest chain reward n positive s l) above)
    where
      whole_max : (a b : ℕ) → 0 < a → 0 < b → max 1 (a * b) ≡ a * b
      whole_max (suc a) (suc b) h k = omega arith
      whole_max zero b h k = absurd (omega (arith, h))
      whole_max (suc a) zero h k = absurd (omega (arith, k))

  pub same_weights : (s t : ℕ) → s < n → t < n
      → jumps.weight s t * row_total chain reward s
      ≡ jump_number chain (row_factor chain reward) (row_total chain reward s) s t * jumps.total
  same_weights s t l m =
      ap (λ w. w * row_total chain reward s) (dual_weight s t)
      ∙ share_by (eqb rate 0) refl s t l m
      ∙ ap (λ u. jump_number chain (row_factor chain reward) (row_total chain reward s) s t * u) (sym dual_uniform)

  -- a row adds up to its divisor
  row_whole : (s : ℕ) → s < n
      → sum_below n (jump_number chain (row_factor chain reward) (row_total chain reward s) s) ≡ row_total chain reward s
  row_whole s l =
      let factor = row_factor chain reward in
      let total = row_total chain reward s in
      let share : ℕ = total - exit_rate chain s * factor in
      sum_below-add n (λ t. chain.rate s t * factor) (λ t. cond (eqb s t) share 0)
      ∙ ap (λ x. x + sum_below n (λ t. cond (eqb s t) share 0))
      (sum_below-same n (λ t. chain.rate s t * factor) (λ t. factor * chain.rate s t) (λ t m. omega arith)
      ∙ sum_below-mul n factor (chain.rate s) ∙ swap factor (exit_rate chain s))
      ∙ ap (λ x. exit_rate chain s * factor + x)
      (sum_below-one n s (λ t. cond (eqb s t) share 0) l (λ t other. apart (eqb s t) share (ne_eqb s t (λ e. other (sym e))))
      ∙ own (eqb s s) share (eq-eqb s s refl))
      ∙ whole_row (exit_rate chain s) factor total (rates_within s l)
    where
      swap : (a b : ℕ) → a * b ≡ b * a
      swap a b = omega arith

      apart : (b : Bool) (x : ℕ) → b ≡ false → cond b x 0 ≡ 0
      apart true x e = cc
      apart false x e = refl

      own : (b : Bool) (x : ℕ) → b ≡ true → cond b x 0 ≡ x
      own true x e = refl
      own false x e = cc

  -- rows with these numbers and divisors stand for the dual chain
  pub dual_rows_stand : (rows : List RowLists) → length rows ≡ n
      → ((s : ℕ) → s < n → (row_at rows s).den ≡ row_total chain reward s)
      → ((s t : ℕ) → s < n → t < n
      → number_to (row_at rows s).entries t ≡ jump_number chain (row_factor chain reward) (row_total chain reward s) s t)
      → StandFor rows jumps
  dual_rows_stand rows long dens numbers = record {
    same_states = long;
    same_fractions = λ s t l m.
        let i : s < n = omega (arith, l, long) in
        let j : t < n = omega (arith, m, long) in
        ap (λ z. jumps.weight s t * z) (dens s i) ∙ same_weights s t i j ∙ ap (λ z. z * jumps.total) (sym (numbers s t i j));
    whole = λ s l.
        let i : s < n = omega (arith, l, long) in
        ap (λ k. sum_below k (number_to (row_at rows s).entries)) long
        ∙ sum_below-same n (number_to (row_at rows s).entries) (jump_number chain (row_factor chain reward) (row_total chain reward s) s)
        (λ t m. numbers s t i m)
        ∙ row_whole s i
        ∙ sym (dens s i);
    positive = λ s l. let i : s < n = omega (arith, l, long) in omega (arith, dens s i, total_positive s i);
  }
