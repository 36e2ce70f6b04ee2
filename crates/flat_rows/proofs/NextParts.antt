-- A part of the next layer, once all rows are written.
use Rattle.std.proofs.Common.{◌≡◌, ℕ, ◌+◌, ◌<◌, false, List, Bool, length, inl, inr, ap, sym, subst, ◌∙◌, get_or, arith}
use Rattle.std.proofs.lemmas.Bool.{cases_Bool}
use Rattle.ctmc_semantics.specs.RoundedTables.{set_words}
use Rattle.ctmc_semantics.specs.Sets.{holds_at}
use Rattle.step_core.specs.FrameLists.{FrameLists}
use Rattle.step_core.specs.declared.words.Words.{Words}
use Rattle.step_core.specs.WordPairs.{words_at}
use Rattle.flat_rows.specs.NextWords.{next_word, HasFixed, CanStep}
use Rattle.flat_rows.specs.PlacedRow.{PlacedRow, HasPlace}
use Rattle.flat_rows.specs.RowsOf.{AreRowsOf, low_needs_row, high_needs_row}
use Rattle.flat_rows.specs.Written.{IsRightAt, AreRight, AreWritten}
use Rattle.flat_rows.proofs.FixedWords.{fixed_next}
use Rattle.flat_rows.proofs.RowValues.{row_value}

module _ (frame : FrameLists) (reach : List Bool) (first : ℕ) (flat : List PlacedRow) (words old new : List Words)
    (are : AreRowsOf frame.rows frame.sets reach first (length old) flat) (can : CanStep frame reach first words old)
    (written : AreWritten words flat old new) where
  abbrev right : ℕ → Words
  right p = next_word frame.rows frame.sets words (first + p)

  agree : AreRight right words flat
  agree k d l =
      row_value frame.rows frame.sets reach words first (length old) can.inside can.frame_sound.rows (get_or flat k d) (are.all_rows k d l)

  placed : (p : ℕ) → HasPlace flat p → IsRightAt right new p
  placed p (k, r, l, at, e) = subst (λ q. IsRightAt right new q) (ap (λ row. row.place) at ∙ e) (written.written right agree k r l)

  still : (p : ℕ) → p < length old → low_needs_row frame.sets reach (first + p) ≡ false
      → high_needs_row frame.sets reach (first + p) ≡ false
      → record { low = set_words (holds_at frame.sets.goal_must) (first + p); high = set_words (holds_at frame.sets.goal_may) (first + p) }
      ≡ right p
  still p l f g =
      fixed_next frame reach words can.frame_sound can.tells can.states can.words_fixed (first + p) (omega (arith, l, can.inside)) f g

  pub part_is_next : (p : ℕ) → p < length old → words_at new p ≡ next_word frame.rows frame.sets words (first + p)
  part_is_next p l =
      elim (cases_Bool (low_needs_row frame.sets reach (first + p))) [
        | inl t ↦ placed p (are.low_place p l t)
        | inr f ↦ elim (cases_Bool (high_needs_row frame.sets reach (first + p))) [
          | inl t ↦ placed p (are.high_place p l t)
          | inr g ↦ written.kept right agree p (can.part_fixed p l f g ∙ still p l f g)
        ]
      ]

  pub part_has_fixed : HasFixed frame.sets reach first new
  part_has_fixed p l f g =
      let inside : p < length old = omega (arith, l, written.same_places) in
      part_is_next p inside ∙ sym (still p inside f g)
