-- Brackets that are listed of one state after another.
use Rattle.std.proofs.Common.{◌≡◌, ℕ, ◌+◌, ◌<◌, inl, inr, List, [], ◌∷◌, ◌++◌, length, sym, ap, subst, arith}
use Rattle.std.proofs.Math.Seq.{get_or-append_seam}
use Rattle.std.proofs.lemmas.Bool.{cases_lt}
use Rattle.std.proofs.lemmas.List.{get_or_append_left}
use Rattle.ctmc_semantics.specs.WordBracket.{WordBracket}
use Rattle.mix_columns.specs.Mixed.{words_of}
use Rattle.mix_columns.specs.SideBySide.{bracket_at}
use Rattle.step_core.specs.declared.bracket.Bracket.{Bracket}

-- what holds of the brackets of the first states and of the next one's holds of all these
pub brackets_more : (P : ℕ → WordBracket → Type 0) (s : ℕ) (old : List Bracket) (b : Bracket) → length old ≡ s
    → ((t : ℕ) → t < s → P t (words_of (bracket_at old t))) → P s (words_of b)
    → (t : ℕ) → t < s + 1 → P t (words_of (bracket_at (old ++ b ∷ []) t))
brackets_more P s old b count so_far next t l =
    elim (cases_lt t s) [
      | inl before ↦
          subst (P t) (sym (ap words_of (get_or_append_left old (b ∷ []) _ t (omega (arith, before, count))))) (so_far t before)
      | inr after ↦
          let here : length old ≡ t = omega (arith, l, after, count) in
          let same : s ≡ t = omega (arith, l, after) in
          subst (λ i. P i (words_of (bracket_at (old ++ b ∷ []) i))) here
          (subst (P (length old)) (sym (ap words_of (get_or-append_seam old b [] _)))
          (subst (λ i. P i (words_of b)) (sym count) next))
    ]
