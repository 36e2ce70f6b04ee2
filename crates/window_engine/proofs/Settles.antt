-- One bracket more is settled.
use Rattle.std.proofs.Common.{◌≡◌, ℕ, ◌+◌, ◌<◌, ◌≤◌, List, length, set, get_or-set_other, get_or-set_same, ap, ◌∙◌, arith}
use borrow.Author.Count.{below_more}
use Rattle.step_core.specs.PlanLists.{PlanLists}
use Rattle.step_core.specs.declared.bracket.Bracket.{Bracket}
use Rattle.mix_columns.specs.Mixed.{plan_settle, words_of}
use Rattle.mix_columns.specs.SideBySide.{bracket_at}

module _ (plan : PlanLists) (first before : List Bracket) (n : ℕ) (b : Bracket) (inside : n < length before) where
  pub settled_more : ((s : ℕ) → s < n → words_of (bracket_at before s) ≡ plan_settle plan s (words_of (bracket_at first s)))
      → words_of b ≡ plan_settle plan n (words_of (bracket_at first n))
      → (s : ℕ) → s < n + 1 → words_of (bracket_at (set before n b) s) ≡ plan_settle plan s (words_of (bracket_at first s))
  settled_more done here =
      below_more (λ s. words_of (bracket_at (set before n b) s) ≡ plan_settle plan s (words_of (bracket_at first s))) n
      (λ s l. ap words_of (get_or-set_other before n s b _ (λ e. omega arith)) ∙ done s l)
      (ap words_of (get_or-set_same before n b _ inside) ∙ here)

  pub rest_stays : ((s : ℕ) → n ≤ s → bracket_at before s ≡ bracket_at first s) → (s : ℕ) → n + 1 ≤ s
      → bracket_at (set before n b) s ≡ bracket_at first s
  rest_stays rest s l = get_or-set_other before n s b _ (λ e. omega arith) ∙ rest s (omega arith)
