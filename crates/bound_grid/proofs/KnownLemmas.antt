-- What stays true of the notes of a board's pass, for those that step on a board.
use Rattle.std.proofs.Common.{◌≡◌, ℕ, ◌<◌, ◌≤◌, length, Bool, refl, sym, ◌∙◌, subst}
use Rattle.std.specs.Prelude.{slice_index}
use Rattle.ctmc_semantics.specs.RoundedTables.{one_word}
use Rattle.step_core.specs.BoardRule.{Better, worst}
use Rattle.step_core.specs.Limits.{sizes_of, limits_of, opening_words}
use Rattle.step_core.specs.Places.{Sizes, falls, blocks, lower_place, upper_place, seal_place}
use Rattle.step_core.specs.PlanTables.{plan_low, plan_high}
use Rattle.step_core.specs.SoundPlan.{IsSoundPlan}
use Rattle.step_core.proofs.BetterLemmas.{better_refl, better_trans, stays_best}
use Rattle.step_core.proofs.LimitLemmas.{lower_limit, upper_limit, seal_limit}
use Rattle.step_core.proofs.OpeningLemmas.{opening_kept}
use Rattle.step_core.proofs.PlaceLemmas.{lower_rises, upper_falls}
use Rattle.bound_grid.specs.Passes.{IsPassOf, KnowsAtLeast, KnowsMore, notes_of, lower_note, upper_note, seal_note}
use Rattle.bound_grid.specs.declared.board.Board.{Board}
use Rattle.bound_grid.specs.declared.board.Pass.{Pass}
use Rattle.bound_grid.proofs.NoteLemmas.{no_worse_trans}

-- ---- one step after another
pub knows_itself : (b : Board) (p : Pass) → IsPassOf b p → KnowsMore b p p
knows_itself b p is = record {
  pass = is;
  more = λ i. better_refl (falls (sizes_of b.plan) i) (slice_index (notes_of p) i);
  tickets = refl;
  draws = refl;
  stop = refl;
}

pub knows_then : (b : Board) (p q r : Pass) → KnowsMore b p q → KnowsMore b q r → KnowsMore b p r
knows_then b p q r one two = record {
  pass = two.pass;
  more = no_worse_trans (sizes_of b.plan) (notes_of p) (notes_of q) (notes_of r) one.more two.more;
  tickets = two.tickets ∙ one.tickets;
  draws = two.draws ∙ one.draws;
  stop = two.stop ∙ one.stop;
}

pub at_least : (b : Board) (p q : Pass) → KnowsMore b p q → KnowsAtLeast b p q
at_least b p q more = record { pass = more.pass; more = more.more }

pub least_then : (b : Board) (p q r : Pass) → KnowsAtLeast b p q → KnowsAtLeast b q r → KnowsAtLeast b p r
least_then b p q r one two = record {
  pass = two.pass;
  more = no_worse_trans (sizes_of b.plan) (notes_of p) (notes_of q) (notes_of r) one.more two.more;
}

-- ---- the notes of a pass lie on their side of the tables
module _ (b : Board) (p : Pass) (is : IsPassOf b p) where
  abbrev z : Sizes
  z = sizes_of b.plan

  module _ (k s : ℕ) (le : k ≤ b.plan.layers) (lt : s < length b.plan.frame.rows) where
    pub note_under : lower_note b p k s ≤ plan_low b.plan k s
    note_under =
        let i : ℕ = lower_place z k s in
        subst (λ (m : ℕ). lower_note b p k s ≤ m) (lower_limit b.plan k s le lt)
        (subst (λ (f : Bool). Better f (lower_note b p k s) (slice_index (limits_of b.plan) i)) (lower_rises z k s le lt) (is.notes.end i))

    pub note_over : plan_high b.plan k s ≤ upper_note b p k s
    note_over =
        let i : ℕ = upper_place z k s in
        subst (λ (m : ℕ). m ≤ upper_note b p k s) (upper_limit b.plan k s le lt)
        (subst (λ (f : Bool). Better f (upper_note b p k s) (slice_index (limits_of b.plan) i)) (upper_falls z k s le lt) (is.notes.end i))

    pub note_le_one : IsSoundPlan b.plan → upper_note b p k s ≤ one_word
    note_le_one sound =
        let i : ℕ = upper_place z k s in
        subst (λ (f : Bool). Better f (worst f) (upper_note b p k s)) (upper_falls z k s le lt)
        (better_trans (falls z i) (worst (falls z i)) (slice_index (opening_words b.plan) i) (upper_note b p k s)
        ((opening_kept b.plan sound).within i).start (is.notes.start i))

-- ---- a pass that knows more: a note that is at its limit stays there
module _ (b : Board) (p q : Pass) (more : KnowsAtLeast b p q) where
  abbrev x : Sizes
  x = sizes_of b.plan

  stays_there : (i : ℕ) → slice_index (notes_of p) i ≡ slice_index (limits_of b.plan) i
      → slice_index (notes_of q) i ≡ slice_index (limits_of b.plan) i
  stays_there i =
      stays_best (falls x i) (slice_index (notes_of p) i) (slice_index (notes_of q) i) (slice_index (limits_of b.plan) i) (more.more i)
      (more.pass.notes.end i)

  pub seal_kept : (k c : ℕ) → k ≤ b.plan.layers → c < blocks x → seal_note b p k c ≡ 1 → seal_note b q k c ≡ 1
  seal_kept k c le lt e = let is = seal_limit b.plan k c le lt in stays_there (seal_place x k c) (e ∙ sym is) ∙ is

module _ (b : Board) (p q : Pass) (more : KnowsMore b p q) where
  abbrev y : Sizes
  y = sizes_of b.plan

  stays : (i : ℕ) → slice_index (notes_of p) i ≡ slice_index (limits_of b.plan) i
      → slice_index (notes_of q) i ≡ slice_index (limits_of b.plan) i
  stays = stays_there b p q (at_least b p q more)

  module _ (k s : ℕ) (le : k ≤ b.plan.layers) (lt : s < length b.plan.frame.rows) where
    pub lower_stays : lower_note b p k s ≡ plan_low b.plan k s → lower_note b q k s ≡ plan_low b.plan k s
    lower_stays e = let is = lower_limit b.plan k s le lt in stays (lower_place y k s) (e ∙ sym is) ∙ is

    pub upper_stays : upper_note b p k s ≡ plan_high b.plan k s → upper_note b q k s ≡ plan_high b.plan k s
    upper_stays e = let is = upper_limit b.plan k s le lt in stays (upper_place y k s) (e ∙ sym is) ∙ is

    pub lower_more : lower_note b p k s ≤ lower_note b q k s
    lower_more =
        subst (λ (f : Bool). Better f (lower_note b p k s) (lower_note b q k s)) (lower_rises y k s le lt) (more.more (lower_place y k s))

    pub upper_less : upper_note b q k s ≤ upper_note b p k s
    upper_less =
        subst (λ (f : Bool). Better f (upper_note b p k s) (upper_note b q k s)) (upper_falls y k s le lt) (more.more (upper_place y k s))

  pub seal_stays : (k c : ℕ) → k ≤ b.plan.layers → c < blocks y → seal_note b p k c ≡ 1 → seal_note b q k c ≡ 1
  seal_stays = seal_kept b p q (at_least b p q more)
