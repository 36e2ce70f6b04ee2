-- The words of a state that needs no row are the same in the next layer.
use Rattle.std.proofs.Common.{◌≡◌, ℕ, zero, suc, ◌+◌, ◌*◌, ◌/◌, ◌<◌, Bool, true, false, cond, ◌&&◌, List, length, inl, inr, refl, ap, sym, ◌∙◌, arith}
use Rattle.std.specs.Int.{div_ceil}
use Rattle.std.proofs.lemmas.Bool.{false≢true, cases_Bool}
use Rattle.std.proofs.Math.Decide.{dec_le}
use Rattle.ctmc_semantics.specs.RoundedTables.{one_word, set_words}
use Rattle.ctmc_semantics.specs.Sets.{holds_at}
use Rattle.ctmc_semantics.specs.Sum.{sum_below}
use Rattle.round_out.proofs.Reciprocals.{quotient_is}
use Rattle.step_core.specs.FrameLists.{FrameLists}
use Rattle.step_core.specs.FrameRows.{frame_rows, row_at}
use Rattle.step_core.specs.Reach.{TellsReach}
use Rattle.step_core.specs.SoundFrame.{IsSoundFrame, IsSoundRow}
use Rattle.step_core.specs.Walk.{arrives, goes}
use Rattle.step_core.specs.declared.words.Words.{Words}
use Rattle.step_core.specs.WordPairs.{low_of, high_of}
use Rattle.flat_rows.specs.NextWords.{next_word, HasFixed}
use Rattle.flat_rows.specs.RowsOf.{low_needs_row, high_needs_row}
use Rattle.flat_rows.proofs.Quotients.{ceil_only}
use Rattle.flat_rows.proofs.RowValues.{fixed_right}

-- of tests joined by "and"
pub first_false : (a b : Bool) → b ≡ true → (a && b) ≡ false → a ≡ false
first_false true true e h = h
first_false true false e h = absurd (false≢true e)
first_false false b e h = refl

second_false : (a b : Bool) → b ≡ false → (a && b) ≡ false
second_false true b e = e
second_false false b e = refl

-- quotients of nothing
pub no_floor : (d : ℕ) → 0 < d → 0 / d ≡ 0
no_floor d some = sym (quotient_is 0 d 0 0 some (omega arith))

pub no_ceil : (d : ℕ) → 0 < d → div_ceil 0 d ≡ 0
no_ceil d some = sym (ceil_only 0 d 0 (omega arith) (omega (arith, some)))

no_sum : (n : ℕ) (f : ℕ → ℕ) → ((t : ℕ) → t < n → f t ≡ 0) → sum_below n f ≡ 0
no_sum zero f h = refl
no_sum (suc n) f h =
    let below : sum_below n f ≡ 0 = no_sum n f (λ t l. h t (omega (arith, l))) in
    omega (arith, below, h n (omega arith))

-- a state that is not of the goal has the value 0 if its quotient is 0, where it is live
pub none : (g l : Bool) (q : ℕ) → g ≡ false → (l ≡ true → q ≡ 0) → cond g one_word 0 ≡ cond g one_word (cond l q 0)
none true l q e h = absurd (false≢true (sym e))
none false true q e h = sym (h refl)
none false false q e h = refl

both : (a b d e : ℕ) → a ≡ b → d ≡ e
    → (let x : Words = record { low = a; high = d } in let y : Words = record { low = b; high = e } in x ≡ y)
both a b d e p q = rw (p, q) refl

module _ (frame : FrameLists) (reach : List Bool) (sound : IsSoundFrame frame) (tells : TellsReach frame reach) where
  abbrev n : ℕ
  n = length frame.rows

  pub not_reached : (s : ℕ) → s < n → holds_at reach s ≡ false → holds_at frame.sets.goal_may s ≡ false
  not_reached s l e =
      elim (cases_Bool (holds_at frame.sets.goal_may s)) [
        | inl t ↦ absurd (false≢true (sym e ∙ (tells.exact s l).1 (arrives t)))
        | inr f ↦ f
      ]

  pub not_surely : (s : ℕ) → s < n → holds_at reach s ≡ false → holds_at frame.sets.goal_must s ≡ false
  not_surely s l e =
      elim (cases_Bool (holds_at frame.sets.goal_must s)) [
        | inl t ↦ absurd (false≢true (sym (not_reached s l e) ∙ sound.sets.goal s t))
        | inr f ↦ f
      ]

  -- no jump of a state that can't reach the goal leads to one that can
  none_ahead : (s : ℕ) → s < n → holds_at reach s ≡ false → holds_at frame.sets.live_may s ≡ true → (t : ℕ) → t < n
      → 0 < (frame_rows frame.rows).num s t → holds_at reach t ≡ false
  none_ahead s l e live t m some =
      elim (cases_Bool (holds_at reach t)) [
        | inl h ↦ absurd (false≢true (sym e ∙ (tells.exact s l).1 (goes live m some ((tells.exact t m).0 h))))
        | inr f ↦ f
      ]

  pub no_products : (s : ℕ) → s < n → holds_at reach s ≡ false → holds_at frame.sets.live_may s ≡ true → (x : ℕ → ℕ)
      → ((t : ℕ) → t < n → holds_at reach t ≡ false → x t ≡ 0) → sum_below n (λ t. (frame_rows frame.rows).num s t * x t) ≡ 0
  no_products s l e live x h =
      no_sum n _
      (λ t m. elim (dec_le 1 ((frame_rows frame.rows).num s t)) [
        | yes some ↦ (
            let zero : x t ≡ 0 = h t m (none_ahead s l e live t m some) in
            omega (arith, ap (λ z. (frame_rows frame.rows).num s t * z) zero))
        | no g ↦ (let zero : (frame_rows frame.rows).num s t ≡ 0 = omega arith in omega (arith, ap (λ z. z * x t) zero))
      ])

module _ (frame : FrameLists) (reach : List Bool) (words : List Words) (sound : IsSoundFrame frame) (tells : TellsReach frame reach)
    (states : length words ≡ length frame.rows) (fixed : HasFixed frame.sets reach 0 words) where
  -- the words of a state that can't reach the goal
  words_none : (t : ℕ) → t < length frame.rows → holds_at reach t ≡ false → (low_of words t ≡ 0) × (high_of words t ≡ 0)
  words_none t l e =
      let at : 0 + t ≡ t = omega arith in
      let out : holds_at reach (0 + t) ≡ false = rw at e in
      let here = fixed t (omega (arith, l, states)) (second_false _ (holds_at reach (0 + t)) out)
      (second_false _ (holds_at reach (0 + t)) out) in
      let low : set_words (holds_at frame.sets.goal_must) (0 + t) ≡ 0 = rw at (rw (not_surely frame reach sound tells t l e) refl) in
      let high : set_words (holds_at frame.sets.goal_may) (0 + t) ≡ 0 = rw at (rw (not_reached frame reach sound tells t l e) refl) in
      (ap (λ w. w.low) here ∙ low, ap (λ w. w.high) here ∙ high)

  unreached : (s : ℕ) → s < length frame.rows → holds_at reach s ≡ false
      → record { low = set_words (holds_at frame.sets.goal_must) s; high = set_words (holds_at frame.sets.goal_may) s }
      ≡ next_word frame.rows frame.sets words s
  unreached s l e =
      let good : IsSoundRow (length frame.rows) (row_at frame.rows s) = sound.rows s _ l in
      let den = (row_at frame.rows s).den in
      both _ _ _ _
      (none (holds_at frame.sets.goal_must s) (holds_at frame.sets.live_must s) _ (not_surely frame reach sound tells s l e)
      (λ live. ap (λ z. z / den)
      (no_products frame reach sound tells s l e (sound.sets.live s live) (low_of words) (λ t m f. (words_none t m f).0))
      ∙ no_floor den good.positive))
      (none (holds_at frame.sets.goal_may s) (holds_at frame.sets.live_may s) _ (not_reached frame reach sound tells s l e)
      (λ live. ap (λ z. div_ceil z den) (no_products frame reach sound tells s l e live (high_of words) (λ t m f. (words_none t m f).1))
      ∙ no_ceil den good.positive))

  pub fixed_next : (s : ℕ) → s < length frame.rows → low_needs_row frame.sets reach s ≡ false → high_needs_row frame.sets reach s ≡ false
      → record { low = set_words (holds_at frame.sets.goal_must) s; high = set_words (holds_at frame.sets.goal_may) s }
      ≡ next_word frame.rows frame.sets words s
  fixed_next s l f g =
      elim (cases_Bool (holds_at reach s)) [
        | inl t ↦ fixed_right frame.sets s _ _ (first_false _ (holds_at reach s) t f) (first_false _ (holds_at reach s) t g)
        | inr e ↦ unreached s l e
      ]
