-- The words of a flat row are those of its state's row in the frame.
use Rattle.std.proofs.Common.{◌≡◌, ℕ, ◌+◌, ◌*◌, ◌/◌, ◌≤◌, Bool, true, false, cond, not, ◌&&◌, List, All, length, refl, ap, sym, ◌∙◌, arith}
use Rattle.std.specs.Prelude.{if◌then◌else◌}
use Rattle.std.specs.Int.{div_ceil}
use Rattle.std.proofs.lemmas.Bool.{false≢true, and_parts}
use Rattle.ctmc_semantics.specs.RoundedTables.{one_word, set_words}
use Rattle.ctmc_semantics.specs.Sum.{sum_below}
use Rattle.ctmc_semantics.specs.Sets.{holds_at}
use Rattle.step_core.specs.FrameLists.{RowLists, SetLists}
use Rattle.step_core.specs.FrameRows.{row_at, number_to}
use Rattle.step_core.specs.SoundFrame.{IsSoundRow}
use Rattle.step_core.proofs.Entries.{entries_sum}
use Rattle.flat_rows.specs.declared.sides.Sides.{Sides}
use Rattle.flat_rows.specs.declared.sides.Sides.TheVariants.{Both, Low, High}
use Rattle.step_core.specs.declared.words.Words.{Words}
use Rattle.step_core.specs.WordPairs.{words_at, low_of, high_of}
use Rattle.flat_rows.specs.declared.one_row.OneRow.{OneRow}
use Rattle.flat_rows.specs.Laid.{sure_row}
use Rattle.flat_rows.specs.NextWords.{next_word}
use Rattle.flat_rows.specs.PlacedRow.{PlacedRow}
use Rattle.flat_rows.specs.RowsOf.{HasSides, IsRowOf}
use Rattle.flat_rows.specs.RowWords.{low_products, high_products}
use Rattle.flat_rows.specs.SideWords.{side_words, placed_words}
use Rattle.round_out.proofs.Reciprocals.{quotient_is}
use Rattle.flat_rows.proofs.Quotients.{same_floor, same_ceil, ceil_only}
use Rattle.flat_rows.proofs.RowFractions.{same_products}

-- the word of a state that is live and not of the goal
pub quotient : (g l : Bool) (q : ℕ) → (l && not g) ≡ true → q ≡ cond g one_word (cond l q 0)
quotient false true q h = refl
quotient false false q h = absurd (false≢true h)
quotient true true q h = absurd (false≢true h)
quotient true false q h = absurd (false≢true h)

-- the word of any other state
pub fixed : (g l : Bool) (q : ℕ) → (l && not g) ≡ false → cond g one_word 0 ≡ cond g one_word (cond l q 0)
fixed true l q h = refl
fixed false false q h = refl
fixed false true q h = absurd (false≢true (sym h))

abbrev on_state : SetLists → ℕ → ℕ → ℕ → Words
on_state sets s l h = record {
  low = if holds_at sets.goal_must s then one_word else (if holds_at sets.live_must s then l else 0);
  high = if holds_at sets.goal_may s then one_word else (if holds_at sets.live_may s then h else 0);
}

abbrev pair : ℕ → ℕ → Words
pair l h = record { low = l; high = h }

both : (a b c d : ℕ) → a ≡ b → c ≡ d → pair a c ≡ pair b d
both a b c d e f = rw (e, f) refl

sides_right : (sets : SetLists) (reach : List Bool) (s l h : ℕ) (sides : Sides) → HasSides sets reach s sides
    → side_words sides (pair l h) ≡ on_state sets s l h
sides_right sets reach s l h Both has =
    both _ _ _ _ (quotient (holds_at sets.goal_must s) (holds_at sets.live_must s) l (and_parts _ (holds_at reach s) has.0).0)
    (quotient (holds_at sets.goal_may s) (holds_at sets.live_may s) h (and_parts _ (holds_at reach s) has.1).0)
sides_right sets reach s l h Low has =
    both _ _ _ _ (quotient (holds_at sets.goal_must s) (holds_at sets.live_must s) l (and_parts _ (holds_at reach s) has.0).0)
    (rw has.1 refl)
sides_right sets reach s l h High has =
    both _ _ _ _ (rw (has.1.0, has.1.1) refl)
    (quotient (holds_at sets.goal_may s) (holds_at sets.live_may s) h (and_parts _ (holds_at reach s) has.0).0)

-- both words of a state that can reach the goal and needs no row
pub fixed_right : (sets : SetLists) (s l h : ℕ) → (holds_at sets.live_must s && not (holds_at sets.goal_must s)) ≡ false
    → (holds_at sets.live_may s && not (holds_at sets.goal_may s)) ≡ false
    → pair (set_words (holds_at sets.goal_must) s) (set_words (holds_at sets.goal_may) s) ≡ on_state sets s l h
fixed_right sets s l h e f =
    both _ _ _ _ (fixed (holds_at sets.goal_must s) (holds_at sets.live_must s) l e)
    (fixed (holds_at sets.goal_may s) (holds_at sets.live_may s) h f)

module _ (rows : List RowLists) (sets : SetLists) (reach : List Bool) (words : List Words) (first count : ℕ)
    (inside : first + count ≤ length rows) (sound : All (IsSoundRow (length rows)) rows) where
  pub row_value : (placed : PlacedRow) → IsRowOf rows sets reach first count placed
      → placed_words words placed ≡ next_word rows sets words (first + placed.place)
  row_value placed is =
      let s = first + placed.place in
      let row = placed.row in
      let other = row_at rows s in
      let same = is.fractions in
      let good : IsSoundRow (length rows) other = sound s _ (omega (arith, is.place, inside)) in
      let low : low_products row.entries words / row.den
      ≡ sum_below (length rows) (λ t. number_to other.entries t * low_of words t) / other.den =
      same_floor same.scale (low_products row.entries words) row.den same.other_scale (low_products other.entries words) other.den
      same.some_scale same.some_other_scale good.positive (same_products same (low_of words)) same.same_den
      ∙ ap (λ z. z / other.den) (entries_sum (length rows) other.entries (low_of words) good.targets) in
      let high : div_ceil (high_products row.entries words) row.den
      ≡ div_ceil (sum_below (length rows) (λ t. number_to other.entries t * high_of words t)) other.den =
      same_ceil same.scale (high_products row.entries words) row.den same.other_scale (high_products other.entries words) other.den
      same.some_scale same.some_other_scale good.positive (same_products same (high_of words)) same.same_den
      ∙ ap (λ z. div_ceil z other.den) (entries_sum (length rows) other.entries (high_of words) good.targets) in
      ap (side_words placed.sides) (both _ _ _ _ low high) ∙ sides_right sets reach s _ _ placed.sides is.sides

-- a row of one entry has its target's words
whole_floor : (x : ℕ) → (0 + 1 * x) / 1 ≡ x
whole_floor x = sym (quotient_is (0 + 1 * x) 1 x 0 (omega arith) (omega arith))

whole_ceil : (x : ℕ) → div_ceil (0 + 1 * x) 1 ≡ x
whole_ceil x = sym (ceil_only (0 + 1 * x) 1 x (omega arith) (omega arith))

pub sure_words : (r : OneRow) (words : List Words) → words_at words r.to ≡ placed_words words (sure_row r)
sure_words r words = sym (both _ _ _ _ (whole_floor (low_of words r.to)) (whole_ceil (high_of words r.to)))
