-- Walks of a chain's transitions, and of the rows of its uniformised chain.
use Rattle.std.proofs.Common.{◌≡◌, ℕ, zero, suc, ◌*◌, ◌<◌, ◌⊎◌, inl, inr, Bool, true, false, IsTrue, refl, sym, subst, arith}
use Rattle.std.proofs.Math.Nat.{mul-pos}
use Rattle.std.proofs.lemmas.Bool.{false≢true, cases_eq, ne_eqb}
use Rattle.ctmc_semantics.specs.Chain.{Chain}
use Rattle.ctmc_semantics.specs.Reach.{ReachesBack}
use Rattle.ctmc_semantics.specs.Rows.{Rows, IsRowsOf, rows_of}
use Rattle.ctmc_semantics.specs.Uniformised.{uniform_rate, uniformised}
use Rattle.step_core.specs.Walk.{Walk, arrives, goes}
use Rattle.step_core.specs.WalkFound.{can_reach}
use Rattle.step_core.proofs.Walks.{walk_of, found_of}

-- a walk stays one where each jump is a jump of other weights too, or goes nowhere
walk_moves : (n : ℕ) (w v : ℕ → ℕ → ℕ) (live goal : ℕ → Bool) → ((s t : ℕ) → s < n → t < n → 0 < w s t → (s ≡ t) ⊎ (0 < v s t)) → (s : ℕ)
    → s < n → Walk n w live goal s → Walk n v live goal s
walk_moves n w v live goal h s l (arrives here) = arrives here
walk_moves n w v live goal h s l (goes {t} is_live inside positive walk) =
    elim (h s t l inside positive) [
      | inl is ↦ subst (λ u. Walk n v live goal u) (sym is) (walk_moves n w v live goal h t inside walk)
      | inr other ↦ goes is_live inside other (walk_moves n w v live goal h t inside walk)
    ]

same_truth : (a b : Bool) → (IsTrue a → IsTrue b) → (IsTrue b → IsTrue a) → a ≡ b
same_truth true b f g = sym (f refl)
same_truth false true f g = absurd (false≢true (g refl))
same_truth false false f g = refl

left_positive : (a b c d : ℕ) → a * b ≡ c * d → 0 < c → 0 < d → 0 < a
left_positive zero b c d e i k = absurd (let p : 0 < c * d = mul-pos i k in omega (arith, e, p))
left_positive (suc a) b c d e i k = omega arith

module _ (chain : Chain) where
  -- a jump of the uniformised chain to another state is a transition
  pub jump_is_transition : (s t : ℕ) → 0 < (uniformised chain).weight s t → (s ≡ t) ⊎ (0 < chain.rate s t)
  jump_is_transition s t h =
      elim (cases_eq s t) [
        | inl is ↦ inl is
        | inr other ↦ inr (let there = rw (ne_eqb s t other) at h in omega (arith, there))
      ]

  -- ---- no state outside those that can reach the goal reaches it
  module _ (live goal : ℕ → Bool) where
    pub reach_closed : ReachesBack (rows_of (uniformised chain)) live goal (can_reach chain.states chain.rate live goal)
    reach_closed = record {
      goal_in = λ s l h. found_of chain.states chain.rate live goal s (arrives h);
      back = λ s t l inside is_live positive h.
          elim (jump_is_transition s t positive) [
            | inl is ↦ subst (λ u. IsTrue (can_reach chain.states chain.rate live goal u)) (sym is) h
            | inr rate ↦ (
                found_of chain.states chain.rate live goal s (goes is_live inside rate (walk_of chain.states chain.rate live goal t h)))
          ];
    }

  -- ---- the rows of the uniformised chain have the walks of the chain
  module _ (r : Rows) (stand : IsRowsOf r (uniformised chain)) (live goal : ℕ → Bool) where
    some_rate : 0 < uniform_rate chain
    some_rate = omega arith

    row_is_transition : (s t : ℕ) → s < r.states → t < r.states → 0 < r.num s t → (s ≡ t) ⊎ (0 < chain.rate s t)
    row_is_transition s t l m h =
        jump_is_transition s t
        (left_positive ((uniformised chain).weight s t) (r.den s) (r.num s t) (uniform_rate chain) (stand.same_fractions s t l m) h
        some_rate)

    transition_is_row : (s t : ℕ) → s < r.states → t < r.states → 0 < chain.rate s t → (s ≡ t) ⊎ (0 < r.num s t)
    transition_is_row s t l m h =
        let positive : 0 < (uniformised chain).weight s t = omega (arith, h) in
        inr (left_positive (r.num s t) (uniform_rate chain) ((uniformised chain).weight s t) (r.den s) (sym (stand.same_fractions s t l m))
        positive (stand.positive s l))

    -- what tells of each state whether a walk of the rows leads from it is the chain's own
    pub reach_is : (reach : ℕ → Bool) → ((s : ℕ) → s < r.states → (IsTrue (reach s) → Walk r.states r.num live goal s)
        × (Walk r.states r.num live goal s → IsTrue (reach s))) → (s : ℕ) → s < r.states
        → reach s ≡ can_reach chain.states chain.rate live goal s
    reach_is reach exact s l =
        same_truth (reach s) (can_reach chain.states chain.rate live goal s)
        (λ h. found_of chain.states chain.rate live goal s
        (subst (λ n. Walk n chain.rate live goal s) stand.same_states
        (walk_moves r.states r.num chain.rate live goal row_is_transition s l ((exact s l).0 h))))
        (λ h. (exact s l).1
        (walk_moves r.states chain.rate r.num live goal transition_is_row s l
        (subst (λ n. Walk n chain.rate live goal s) (sym stand.same_states) (walk_of chain.states chain.rate live goal s h))))
