-- What a pass knows after it noted one word, and the products of a row whose words are noted one after another.
use Rattle.std.proofs.Common.{◌≡◌, ◌≢◌, ℕ, ◌+◌, ◌*◌, ◌^◌, ◌<◌, ◌≤◌, List, All, length, map, take, get_or, set, refl, sym, ap, ◌∙◌, arith}
use Rattle.std.proofs.lemmas.List.{get_or-take, length-take-le}
use Rattle.bound_grid.specs.Passes.{IsPassOf, KnowsMore, notes_of, lower_note, upper_note, seal_note}
use Rattle.bound_grid.specs.declared.board.Board.{Board}
use Rattle.bound_grid.specs.declared.board.Pass.{Pass}
use Rattle.bound_grid.proofs.KnownLemmas.{knows_itself, knows_then}
use Rattle.round_out.specs.declared.entry.Entry.{Entry}
use Rattle.step_core.specs.CoreLists.{lower_at, upper_at, seal_at}
use Rattle.step_core.specs.Limits.{sizes_of}
use Rattle.step_core.specs.Places.{Sizes, lower_place, upper_place, block_of}
use Rattle.step_core.specs.PlanTables.{plan_low, plan_high}
use Rattle.step_core.specs.SoundFrame.{Ascend}
use Rattle.step_core.specs.SoundPlan.{IsSoundPlan}
use Rattle.step_core.proofs.RowLemmas.{low_le_one}
use Rattle.tighten_step.specs.Quotients.{KnowsMoreWords, AreLowProducts, AreHighProducts}
use Rattle.tighten_step.proofs.NotePlaces.{lower_here, lower_else, lower_before, lower_upper, lower_seal, upper_here, upper_else, upper_before, upper_lower, upper_seal}
use Rattle.tighten_step.proofs.PrefixSums.{first, targets_before, products_next, products_stay}

-- ---- words alone
pub words_itself : (b : Board) (p : Pass) → IsPassOf b p → KnowsMoreWords b p p
words_itself b p is = record { knows = knows_itself b p is; seals = λ j c. refl }

pub words_then : (b : Board) (p q r : Pass) → KnowsMoreWords b p q → KnowsMoreWords b q r → KnowsMoreWords b p r
words_then b p q r one two = record {
  knows = knows_then b p q r one.knows two.knows;
  seals = λ j c. two.seals j c ∙ one.seals j c;
}

-- a lower word that is no better than its limit
pub low_word_small : (b : Board) → IsSoundPlan b.plan → (k t x : ℕ) → t < length b.plan.frame.rows → x ≤ plan_low b.plan k t → x ≤ 2 ^ 62
low_word_small b sound k t x lt limit = let one = low_le_one b.plan sound k t lt in omega (arith, limit, one)

-- ---- one word is noted
module _ (b : Board) (q r : Pass) (k t x : ℕ) (le : k ≤ b.plan.layers) (t_in : t < length b.plan.frame.rows) (knows : KnowsMore b q r) where
  abbrev z : Sizes
  z = sizes_of b.plan

  abbrev ns : List ℕ
  ns = notes_of q

  module _ (notes : notes_of r ≡ set ns (lower_place z k t) x) where
    pub words_lower : KnowsMoreWords b q r
    words_lower = record {
      knows = knows;
      seals = λ j c. ap (λ ms. seal_at z ms j c) notes ∙ lower_seal z ns k t x le t_in j c;
    }

    pub upper_stays_noted : (j u : ℕ) → upper_note b r j u ≡ upper_note b q j u
    upper_stays_noted j u = ap (λ ms. upper_at z ms j u) notes ∙ lower_upper z ns k t x le t_in j u

    pub lower_is_noted : IsPassOf b q → lower_note b r k t ≡ x
    lower_is_noted is = ap (λ ms. lower_at z ms k t) notes ∙ lower_here z ns k t x le t_in is.notes.size

    pub lower_before_noted : (j u : ℕ) → j < k → u < length b.plan.frame.rows → lower_note b r j u ≡ lower_note b q j u
    lower_before_noted j u less inside =
        ap (λ ms. lower_at z ms j u) notes ∙ lower_before z ns k t x le t_in j u less inside

    -- the note itself says what was noted
    pub lower_noted_itself : IsPassOf b q → notes_of r ≡ set ns (lower_place z k t) (lower_note b r k t)
    lower_noted_itself is = notes ∙ ap (λ y. set ns (lower_place z k t) y) (sym (lower_is_noted is))

    pub lower_else_noted : (u : ℕ) → u ≢ t → lower_note b r k u ≡ lower_note b q k u
    lower_else_noted u ne = ap (λ ms. lower_at z ms k u) notes ∙ lower_else z ns k t x le t_in u ne

  module _ (notes : notes_of r ≡ set ns (upper_place z k t) x) where
    pub words_upper : KnowsMoreWords b q r
    words_upper = record {
      knows = knows;
      seals = λ j c. ap (λ ms. seal_at z ms j c) notes ∙ upper_seal z ns k t x le t_in j c;
    }

    pub lower_stays_noted : (j u : ℕ) → j ≤ b.plan.layers → u < length b.plan.frame.rows → lower_note b r j u ≡ lower_note b q j u
    lower_stays_noted j u j_le u_lt = ap (λ ms. lower_at z ms j u) notes ∙ upper_lower z ns k t x le t_in j u j_le u_lt

    pub upper_is_noted : IsPassOf b q → upper_note b r k t ≡ x
    upper_is_noted is = ap (λ ms. upper_at z ms k t) notes ∙ upper_here z ns k t x le t_in is.notes.size

    pub upper_before_noted : (j u : ℕ) → j < k → u < length b.plan.frame.rows → upper_note b r j u ≡ upper_note b q j u
    upper_before_noted j u less inside =
        ap (λ ms. upper_at z ms j u) notes ∙ upper_before z ns k t x le t_in j u less inside

    pub upper_noted_itself : IsPassOf b q → notes_of r ≡ set ns (upper_place z k t) (upper_note b r k t)
    upper_noted_itself is = notes ∙ ap (λ y. set ns (upper_place z k t) y) (sym (upper_is_noted is))

    pub upper_else_noted : (u : ℕ) → u ≢ t → upper_note b r k u ≡ upper_note b q k u
    upper_else_noted u ne = ap (λ ms. upper_at z ms k u) notes ∙ upper_else z ns k t x le t_in u ne

-- ---- the words of a row are noted, one after another
module _ (b : Board) (p q r : Pass) (k : ℕ) (es : List Entry) (i m x : ℕ) (d : Entry) (le : k ≤ b.plan.layers) (inside : i < length es)
    (targets : All (λ e. e.to < length b.plan.frame.rows) es) (up : Ascend (map (λ e. e.to) es)) (more : KnowsMoreWords b p q)
    (knows : KnowsMore b q r) where
  abbrev e : Entry
  e = get_or es i d

  abbrev y : Sizes
  y = sizes_of b.plan

  e_in : e.to < length b.plan.frame.rows
  e_in = targets i d inside

  first_in : (n : ℕ) → n ≤ length es → All (λ f. f.to < length b.plan.frame.rows) (take n es)
  first_in n l j d' j_lt =
      let less : j < n = omega (arith, j_lt, length-take-le n es l) in
      let same = get_or-take n es j d' less in
      rw same (targets j d' (omega (arith, less, l)))

  apart : All (λ f. f.to ≢ e.to) (take i es)
  apart j d' l same = (let less = targets_before es i e d up inside refl j d' l in omega (arith, less, same))

  -- a seal that was noted before is noted still
  sealed_still : {table : ℕ} → (seal_note b q k (block_of e.to) ≡ 1 → x ≡ table) → seal_note b p k (block_of e.to) ≡ 1 → x ≡ table
  sealed_still sealed on = sealed (more.seals k (block_of e.to) ∙ on)

  module _ (notes : notes_of r ≡ set (notes_of q) (lower_place y k e.to) x) where
    pub low_more : IsSoundPlan b.plan → x ≤ plan_low b.plan k e.to → (seal_note b q k (block_of e.to) ≡ 1 → x ≡ plan_low b.plan k e.to)
        → AreLowProducts b p q k (first es i) m → AreLowProducts b p r k (first es (i + 1)) (m + e.num * x)
    low_more sound limit sealed was =
        products_next b p k es (plan_low b.plan k) (lower_note b q k) (lower_note b r k) i m x e d inside refl
        (λ j d' l. lower_else_noted b q r k e.to x le e_in knows notes _ (apart j d' l))
        (lower_is_noted b q r k e.to x le e_in knows notes more.knows.pass) (low_word_small b sound k e.to x e_in limit)
        (sealed_still sealed) was

    pub high_stays : AreHighProducts b p q k (first es i) m → AreHighProducts b p r k (first es i) m
    high_stays =
        products_stay b p k es (plan_high b.plan k) (first es i) (upper_note b q k) (upper_note b r k) m
        (λ j d' l. upper_stays_noted b q r k e.to x le e_in knows notes k _)

  module _ (notes : notes_of r ≡ set (notes_of q) (upper_place y k e.to) x) where
    pub high_more : x ≤ 2 ^ 62 → (seal_note b q k (block_of e.to) ≡ 1 → x ≡ plan_high b.plan k e.to)
        → AreHighProducts b p q k (first es i) m → AreHighProducts b p r k (first es (i + 1)) (m + e.num * x)
    high_more one sealed was =
        products_next b p k es (plan_high b.plan k) (upper_note b q k) (upper_note b r k) i m x e d inside refl
        (λ j d' l. upper_else_noted b q r k e.to x le e_in knows notes _ (apart j d' l))
        (upper_is_noted b q r k e.to x le e_in knows notes more.knows.pass) one (sealed_still sealed) was

    -- of all entries up to here
    pub low_stays : (n : ℕ) → n ≤ length es → AreLowProducts b p q k (first es n) m → AreLowProducts b p r k (first es n) m
    low_stays n l =
        products_stay b p k es (plan_low b.plan k) (first es n) (lower_note b q k) (lower_note b r k) m
        (λ j d' j_lt. lower_stays_noted b q r k e.to x le e_in knows notes k _ le (first_in n l j d' j_lt))
