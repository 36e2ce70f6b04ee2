-- The tables of a sound plan, as those of its rows and its start.
use Rattle.std.proofs.Common.{◌≡◌, ℕ, zero, suc, ◌*◌, ◌^◌, ◌≤◌, ◌<◌, Bool, List, [], ◌∷◌, length, refl, ap, sym, ◌∙◌, subst, arith}
use Rattle.std.specs.Prelude.{slice_index}
use Rattle.std.specs.List.{sum_by}
use Rattle.std.proofs.lemmas.List.Sums.{sum_by-cons}
use Rattle.ctmc_semantics.specs.Sum.{sum_below}
use Rattle.ctmc_semantics.specs.Jumps.{Jumps}
use Rattle.ctmc_semantics.specs.JumpValue.{jump_value}
use Rattle.ctmc_semantics.specs.Reach.{ReachesBack}
use Rattle.ctmc_semantics.specs.RoundedTables.{one_word, set_words, exact_word, high_table}
use Rattle.ctmc_semantics.specs.Rows.{Rows}
use Rattle.ctmc_semantics.specs.Sets.{holds_at}
use Rattle.ctmc_semantics.proofs.Sums.{sum_below-same}
use Rattle.ctmc_semantics.proofs.LowTables.{low_below, low_above}
use Rattle.ctmc_semantics.proofs.HighTables.{high_over, high_under, goal_starts}
use Rattle.ctmc_semantics.proofs.ReachLemmas.{last_above}
use Rattle.ctmc_semantics.proofs.UniformLemmas.{rows_stochastic}
use Rattle.round_out.specs.declared.entry.Entry.{Entry}
use Rattle.step_core.specs.declared.mix.Mix.TheVariants.{Poisson, Last}
use Rattle.step_core.specs.FrameLists.{FrameLists}
use Rattle.step_core.specs.FrameRows.{row_at, number_to, frame_rows, StandFor}
use Rattle.step_core.specs.PlanLaws.{IsWholeRow, RoundsDown, RoundsUp}
use Rattle.step_core.specs.PlanLists.{PlanLists}
use Rattle.step_core.specs.PlanTables.{layer_at, AreTablesOf}
use Rattle.step_core.specs.SoundFrame.{IsSoundRow, IsSoundFrame}
use Rattle.step_core.specs.SoundPlan.{IsSoundPlan, starts_at_one}
use Rattle.step_core.specs.TableLists.{TableLists}
use Rattle.step_core.specs.Walk.{arrives, goes}
use Rattle.step_core.specs.WeightLists.{WeightLists}
use Rattle.step_core.proofs.Entries.{entries_sum}
use Rattle.step_core.proofs.Layers.{row_high-same}

-- the numbers of a row add up to its entries' sum
times_one : (es : List Entry) → sum_by (λ e. e.num * 1) es ≡ sum_by (λ e. e.num) es
times_one [] = refl
times_one (e ∷ es) =
    omega (arith, sum_by-cons (λ f. f.num * 1) e es, sum_by-cons (λ f. f.num) e es, times_one es)

pub whole_row : (frame : FrameLists) (s : ℕ) → IsSoundFrame frame → s < length frame.rows → IsWholeRow (frame_rows frame.rows) s
whole_row frame s sound l =
    let row : IsSoundRow (length frame.rows) (row_at frame.rows s) = sound.rows s _ l in
    let n = length frame.rows in
    let es = (row_at frame.rows s).entries in
    let ones : sum_below n (λ t. number_to es t * 1) ≡ sum_below n (number_to es) =
    sum_below-same n _ _ (λ t i. omega arith) in
    record {
      whole = sym ones ∙ (sym (entries_sum n es (λ t. 1) row.targets) ∙ (times_one es ∙ row.whole));
      positive = row.positive;
    }

-- an upper table reads its start at the states alone
pub high_table-same : (r : Rows) (live goal : ℕ → Bool) (x y : ℕ → ℕ) → ((t : ℕ) → t < r.states → x t ≡ y t) → (k s : ℕ) → s < r.states
    → high_table r live goal x k s ≡ high_table r live goal y k s
high_table-same r live goal x y h zero s l = h s l
high_table-same r live goal x y h (suc k) s l =
    row_high-same r live goal (high_table r live goal x k) (high_table r live goal y k) (λ t i. high_table-same r live goal x y h k t i) s

module _ (plan : PlanLists) (tables : TableLists) (j : Jumps) (k s : ℕ) (sound : IsSoundPlan plan) (are : AreTablesOf plan tables)
    (stand : StandFor plan.frame.rows j) (within : k ≤ plan.layers) (inside : s < length plan.frame.rows) where
  abbrev rows : Rows
  rows = frame_rows plan.frame.rows

  abbrev live : ℕ → Bool
  live = holds_at plan.frame.sets.live_may

  abbrev goals : ℕ → Bool
  goals = holds_at plan.frame.sets.goal_may

  pub low_rounds : RoundsDown (slice_index (layer_at tables.low k) s)
      (one_word * jump_value j (holds_at plan.frame.sets.live_must) (holds_at plan.frame.sets.goal_must) k s) (j.total ^ k) k
  low_rounds =
      let word = (are.low.layer k within).words s inside in
      record {
        below = rw word (low_below rows j stand _ _ k s inside);
        near = rw word (low_above rows j stand _ _ k s inside);
      }

  pub high_rounds : RoundsUp (slice_index (layer_at tables.high k) s)
      (exact_word j live goals (slice_index plan.start_upper) k s) (j.total ^ k) k
  high_rounds =
      let word = (are.high.layer k within).words s inside in
      record {
        above = rw word (high_over rows j stand _ _ _ k s inside);
        near = rw word (high_under rows j stand _ _ _ k s inside);
      }

  pub bounded_high_rounds : (weights : WeightLists) (bits : ℕ) → plan.mix ≡ Poisson weights bits
      → RoundsUp (slice_index (layer_at tables.high k) s) (one_word * jump_value j live goals k s) (j.total ^ k) k
  bounded_high_rounds weights bits is =
      let start : (t : ℕ) → t < length plan.frame.rows → slice_index plan.start_upper t ≡ set_words goals t =
      λ t l. sound.start t l ∙ ap (λ m. set_words (starts_at_one m goals (holds_at plan.reach)) t) is in
      let word =
      (are.high.layer k within).words s inside
      ∙ high_table-same rows live goals (slice_index plan.start_upper) (set_words goals) start k s inside in
      let exact = goal_starts j live goals k s in
      record {
        above = rw (word, ← exact) (high_over rows j stand live goals (set_words goals) k s inside);
        near = rw (word, ← exact) (high_under rows j stand live goals (set_words goals) k s inside);
      }

  pub unbounded_high_above : (n : ℕ) → plan.mix ≡ Last → 0 < j.total
      → one_word * jump_value j live goals n s ≤ slice_index (layer_at tables.high k) s * j.total ^ n
  unbounded_high_above n is some =
      let stochastic = rows_stochastic rows j stand in
      let reach = holds_at plan.reach in
      let start : (t : ℕ) → t < length plan.frame.rows → slice_index plan.start_upper t ≡ set_words reach t =
      λ t l. sound.start t l ∙ ap (λ m. set_words (starts_at_one m goals reach) t) is in
      let word =
      (are.high.layer k within).words s inside
      ∙ high_table-same rows live goals (slice_index plan.start_upper) (set_words reach) start k s inside in
      let closed : ReachesBack rows live goals reach = record {
        goal_in = λ t l h. (sound.reach.exact t l).1 (arrives h);
        back = λ t u l i g p h. (sound.reach.exact t l).1 (goes g i p ((sound.reach.exact u i).0 h));
      } in
      let there : s < j.states = subst (λ (m : ℕ). s < m) stand.same_states inside in
      let above = last_above rows j stand stochastic some live live goals goals reach (λ t h. h) (λ t h. h) closed k n s there in
      rw word (omega (arith, above))
