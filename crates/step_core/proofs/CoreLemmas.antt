-- Each event keeps the pure machine good.
use Rattle.std.proofs.Common.{◌≡◌, ◌≢◌, ℕ, ◌+◌, ◌-◌, ◌*◌, ◌<◌, ◌≤◌, List, [], ◌∷◌, ◌++◌, length, map, get_or, set, min, max, Bool, true, false, true≢false, refl, sym, ap, ◌∙◌, subst, inl, inr, arith}
use Rattle.std.proofs.lemmas.Bool.{and_parts, ltb-true, leb-true, eqb-true, eqb-false, not-true, cases_lt}
use Rattle.std.proofs.Math.Seq.{map-set_same}
use Rattle.std.proofs.lemmas.List.{length-set, length-map, map-set, map-append, get_or-map, get_or-set_same, get_or-set_other, get_or_past}
use Rattle.std.proofs.lemmas.List.Elements.{All-set, All-push, All-weaker}
use Rattle.std.proofs.lemmas.List.FromFn.{get_or-range_with_len, length-range_with_len}
use Rattle.std.proofs.lemmas.List.Sums.{AllPass-from_list_all}
use Rattle.std.specs.List.{range_with_len}
use Rattle.std.specs.Prelude.{IsTrue, not, ◌==◌, nat_lt, nat_le, slice_index, if◌then◌else◌}
use Rattle.ctmc_semantics.specs.RoundedTables.{one_word}
use Rattle.step_core.specs.BoardRule.{Better, worst, FitNotes, better_notes}
use Rattle.step_core.specs.CoreLists.{PassLists, CoreLists, drawer_of, pass_with, no_pass, pass_at, lower_at, upper_at, ticket_at}
use Rattle.step_core.specs.Events.{plan_row_low, plan_row_high, sees_cell, sees_block, is_done, block_done, noted, turned, drawn, split, met, event_gives}
use Rattle.step_core.specs.Good.{IsPassOf, Good}
use Rattle.step_core.specs.Limits.{sizes_of, limits_of}
use Rattle.step_core.specs.Places.{Sizes, blocks, lower_place, upper_place, seal_place, ticket_place, stop_place, word_count, falls, IsSealOf, block_of}
use Rattle.step_core.specs.PlanLists.{PlanLists}
use Rattle.step_core.specs.PlanTables.{plan_low, plan_high}
use Rattle.step_core.specs.SoundPlan.{IsSoundPlan}
use Rattle.step_core.specs.Tickets.{Drawer, TicketsKept, with_ticket, split_kept, split_off, joined, ended}
use Rattle.step_core.specs.declared.draws.TheConstants.{MOST_DRAWS}
use Rattle.step_core.specs.declared.event.Event.{Event}
use Rattle.step_core.specs.declared.event.Event.TheVariants.{LoadLower, LoadUpper, Raise, Cut, SeeSeal, Seal, Split, Meet, Draw, Stop, SeeStop}
use Rattle.step_core.proofs.BetterLemmas.{better_refl, better_trans, stays_best, words_step, fits_noted, fits_still, fits_turned, fits_both, length-better_notes}
use Rattle.step_core.proofs.LimitLemmas.{length-limits, lower_limit, upper_limit, seal_limit, ticket_limit, stop_limit}
use Rattle.step_core.proofs.PlaceLemmas.{lower_rises, upper_falls, seal_rises, lower_in, upper_in, seal_in, lower_is_no_seal, upper_is_no_seal, sealed_block, ticket_rises, stop_rises, ticket_in, stop_in, ticket_is_no_seal, stop_is_no_seal, lower_before, upper_before, seal_before}
use Rattle.step_core.proofs.RowLemmas.{row_low_rises, row_high_rises, low_next, high_next}
use Rattle.step_core.proofs.TicketLemmas.{nobody, drawn_keeps, split_keeps, joined_keeps, draw_fits, draws_fit}

-- a live pass is there
pub live_in : (core : CoreLists) (pass : ℕ) → IsTrue (pass_at core pass).live → pass < length core.passes
live_in core pass live =
    elim (cases_lt pass (length core.passes)) [
      | inl inside ↦ inside
      | inr past ↦ absurd (true≢false (sym live ∙ ap (λ (v : PassLists). v.live) (get_or_past core.passes pass _ past)))
    ]

-- an event that needs a condition changes nothing without it
by_condition : (plan : PlanLists) (core next : CoreLists) (b : Bool) → Good plan core → (IsTrue b → Good plan next)
    → Good plan (if b then next else core)
by_condition plan core next true good go = go refl
by_condition plan core next false good go = good

module _ (plan : PlanLists) (core : CoreLists) (good : Good plan core) where
  abbrev z : Sizes
  z = sizes_of plan

  abbrev limits : List ℕ
  limits = limits_of plan

  abbrev notes : ℕ → List ℕ
  notes pass = (pass_at core pass).notes

  abbrev At : List ℕ → PassLists → Type 0
  At = IsPassOf z

  pub size-words : length core.words ≡ word_count z
  size-words = good.words.count ∙ length-limits plan

  pub pass_of : (pass : ℕ) → pass < length core.passes → At core.words (pass_at core pass)
  pass_of pass lt = good.passes pass no_pass lt

  -- ---- the passes as those that draw
  abbrev pub drawers : List Drawer
  drawers = map drawer_of core.passes

  abbrev pub next : ℕ
  next = ticket_at z core.words

  pub drawer_at : (pass : ℕ) → pass < length core.passes → get_or drawers pass nobody ≡ drawer_of (pass_at core pass)
  drawer_at pass lt = get_or-map drawer_of core.passes pass no_pass nobody lt

  pub drawer_in : (pass : ℕ) → pass < length core.passes → pass < length drawers
  drawer_in pass lt = let e = length-map core.passes drawer_of in omega (arith, lt, e)

  -- a pass that has drawn the same
  same_drawers : (pass : ℕ) (notes : List ℕ)
      → map drawer_of (set core.passes pass (pass_with (drawer_of (pass_at core pass)) notes)) ≡ drawers
  same_drawers pass notes =
      map-set_same drawer_of core.passes pass (pass_with (drawer_of (pass_at core pass)) notes) no_pass refl

  module _ (pass : ℕ) (live : IsTrue (pass_at core pass).live) where
    there : pass < length core.passes
    there = live_in core pass live

    pub size-notes : length (notes pass) ≡ word_count z
    size-notes = (pass_of pass there).size ∙ size-words

    pub fits : FitNotes z core.words (notes pass)
    fits = (pass_of pass there).fits live

    -- ---- a pass notes a word
    good_noted : (i : ℕ) → i < word_count z → Good plan (noted core pass i (slice_index core.words i))
    good_noted i lt = record {
      sizes = good.sizes;
      words = good.words;
      passes = All-set (At core.words) core.passes pass _
          record {
            size = length-set (notes pass) i (slice_index core.words i) ∙ (pass_of pass there).size;
            fits = λ _. fits_noted z core.words (notes pass) i (slice_index core.words i) (let e = size-notes in omega (arith, lt))
                (good.words.within i).start (better_refl (falls z i) (slice_index core.words i)) fits;
          }
          good.passes;
      tickets = subst (TicketsKept next) (sym (same_drawers pass (set (notes pass) i (slice_index core.words i)))) good.tickets;
    }

    -- ---- a pass turns a word: it gets better, within its limit; and what the pass has drawn then fits
    good_drawn_so : (d : Drawer) (i x : ℕ) → IsTrue d.live → i < word_count z → Better (falls z i) (slice_index core.words i) x
        → Better (falls z i) x (slice_index limits i)
        → ((j : ℕ) → IsSealOf z i j → 0 < x → slice_index core.words j ≡ slice_index limits j)
        → TicketsKept (ticket_at z (set core.words i x)) (set drawers pass d)
        → Good plan record {
          sizes = core.sizes;
          words = set core.words i x;
          passes = set core.passes pass (pass_with d (set (notes pass) i x));
        }
    good_drawn_so d i x _ lt up top vouched kept =
        let inside : i < length core.words = (let e = size-words in omega (arith, lt)) in
        let noted_in : i < length (notes pass) = (let e = size-notes in omega (arith, lt)) in
        record {
          sizes = good.sizes;
          words = words_step z limits core.words i x inside up top good.words vouched;
          passes = All-set (At (set core.words i x)) core.passes pass _
              record {
                size = length-set (notes pass) i x ∙ ((pass_of pass there).size ∙ sym (length-set core.words i x));
                fits = λ _. fits_turned z limits core.words i x inside up top (notes pass) noted_in (good.words.within i).start fits;
              }
              (All-weaker (At core.words) (At (set core.words i x))
              (λ v h. record {
                size = h.size ∙ sym (length-set core.words i x);
                fits = λ on. fits_still z limits core.words i x inside up top v.notes (h.fits on);
              })
              core.passes good.passes);
          tickets =
              subst (TicketsKept (ticket_at z (set core.words i x)))
              (sym (map-set drawer_of core.passes pass (pass_with d (set (notes pass) i x)))) kept;
        }

    -- a word other than the next ticket
    good_turned : (i x : ℕ) → i ≢ ticket_place z → i < word_count z → Better (falls z i) (slice_index core.words i) x
        → Better (falls z i) x (slice_index limits i)
        → ((j : ℕ) → IsSealOf z i j → 0 < x → slice_index core.words j ≡ slice_index limits j) → Good plan (turned core pass i x)
    good_turned i x ne lt up top vouched =
        good_drawn_so (drawer_of (pass_at core pass)) i x live lt up top vouched
        (subst (TicketsKept (ticket_at z (set core.words i x))) (sym same)
        (subst (λ (n : ℕ). TicketsKept n drawers) (sym (get_or-set_other core.words i (ticket_place z) x 0 (λ e. ne (sym e))))
        good.tickets))
      where
        same : set drawers pass (drawer_of (pass_at core pass)) ≡ drawers
        same = sym (map-set drawer_of core.passes pass (pass_at core pass)) ∙ same_drawers pass (notes pass)

    -- the next ticket
    good_drawn : 0 < (pass_at core pass).draws → Good plan (drawn plan core pass)
    good_drawn some =
        let i : ℕ = ticket_place z in
        let d : Drawer = drawer_of (pass_at core pass) in
        let rises = ticket_rises z in
        let most = ticket_limit plan in
        let fit = draw_fits next drawers good.tickets pass (drawer_in pass there) d (drawer_at pass there) live in
        let inside : i < length core.words = (let e = size-words in omega (arith, e)) in
        good_drawn_so (with_ticket d next) i (next + 1) live (ticket_in z)
        (subst (λ (f : Bool). Better f next (next + 1)) (sym rises) (omega arith))
        (subst (λ (f : Bool). Better f (next + 1) (slice_index limits i)) (sym rises) (omega (arith, most, fit, some)))
        (λ j g _. absurd (ticket_is_no_seal z j g))
        (subst (λ (n : ℕ). TicketsKept n (set drawers pass (with_ticket d next)))
        (sym (get_or-set_same core.words i (next + 1) 0 inside))
        (drawn_keeps next drawers good.tickets pass (drawer_in pass there) d (drawer_at pass there) live some))

    -- the stop word
    good_stop : Good plan (turned core pass (stop_place z) 1)
    good_stop =
        let i : ℕ = stop_place z in
        let rises = stop_rises z in
        let one = stop_limit plan in
        let end = subst (λ (f : Bool). Better f (slice_index core.words i) (slice_index limits i)) rises (good.words.within i).end in
        good_turned i 1 (λ (e : i ≡ ticket_place z). omega (arith, e)) (stop_in z)
        (subst (λ (f : Bool). Better f (slice_index core.words i) 1) (sym rises) (omega (arith, one, end)))
        (subst (λ (f : Bool). Better f 1 (slice_index limits i)) (sym rises) (omega (arith, one)))
        (λ j g _. absurd (stop_is_no_seal z j g))

    -- a split
    abbrev split_one : PassLists
    split_one = pass_with (split_kept (drawer_of (pass_at core pass))) (notes pass)

    abbrev split_two : PassLists
    split_two = pass_with (split_off (drawer_of (pass_at core pass))) (notes pass)

    split_drew : map drawer_of (set core.passes pass split_one ++ split_two ∷ [])
        ≡ set drawers pass (drawer_of split_one) ++ drawer_of split_two ∷ []
    split_drew =
        map-append drawer_of (set core.passes pass split_one) (split_two ∷ [])
        ∙ ap (λ (ds : List Drawer). ds ++ drawer_of split_two ∷ []) (map-set drawer_of core.passes pass split_one)

    good_split : Good plan (split core pass)
    good_split =
        let mine = pass_of pass there in
        record {
          sizes = good.sizes;
          words = good.words;
          passes =
              All-push (At core.words) (set core.passes pass split_one) split_two
              (All-set (At core.words) core.passes pass split_one record { size = mine.size; fits = mine.fits } good.passes)
              record { size = mine.size; fits = mine.fits };
          tickets = subst (TicketsKept next) (sym split_drew)
              (split_keeps next drawers good.tickets pass (drawer_in pass there) (drawer_of (pass_at core pass)) (drawer_at pass there));
        }

    -- ---- notes lie on their side of the tables
    module _ (k s : ℕ) (le : k ≤ plan.layers) (lt : s < length plan.frame.rows) where
      pub note_under : lower_at z (notes pass) k s ≤ plan_low plan k s
      note_under =
          let i : ℕ = lower_place z k s in
          let far = better_trans (falls z i) (slice_index (notes pass) i) (slice_index core.words i) (slice_index limits i) (fits.below i)
          (good.words.within i).end in
          subst (λ x. lower_at z (notes pass) k s ≤ x) (lower_limit plan k s le lt)
          (subst (λ (b : Bool). Better b (slice_index (notes pass) i) (slice_index limits i)) (lower_rises z k s le lt) far)

      pub note_over : plan_high plan k s ≤ upper_at z (notes pass) k s
      note_over =
          let i : ℕ = upper_place z k s in
          let far = better_trans (falls z i) (slice_index (notes pass) i) (slice_index core.words i) (slice_index limits i) (fits.below i)
          (good.words.within i).end in
          subst (λ x. x ≤ upper_at z (notes pass) k s) (upper_limit plan k s le lt)
          (subst (λ (b : Bool). Better b (slice_index (notes pass) i) (slice_index limits i)) (upper_falls z k s le lt) far)

      pub note_le_one : upper_at z (notes pass) k s ≤ one_word
      note_le_one =
          subst (λ (b : Bool). Better b (worst b) (upper_at z (notes pass) k s)) (upper_falls z k s le lt) (fits.start (upper_place z k s))

    module _ (sound : IsSoundPlan plan) (k s : ℕ) (le : k ≤ plan.layers) (lt : s < length plan.frame.rows) (above : 0 < k) where
      abbrev before : ℕ
      before = k - 1

      good_raise : Good plan
          (turned core pass (lower_place z k s)
          (max (lower_at z core.words k s) (plan_row_low plan (lower_at z (notes pass) before) s)))
      good_raise =
          let i : ℕ = lower_place z k s in
          let old : ℕ = slice_index core.words i in
          let to : ℕ = plan_row_low plan (lower_at z (notes pass) before) s in
          let rises = lower_rises z k s le lt in
          let row = row_low_rises plan sound s lt (lower_at z (notes pass) before) (plan_low plan before)
          (λ t l. note_under before t (omega arith) l) in
          let next = low_next plan k s above in
          let is = lower_limit plan k s le lt in
          let end = subst (λ (f : Bool). Better f old (slice_index limits i)) rises (good.words.within i).end in
          let before = lower_before z k s le lt in
          good_turned i (max old to) (λ (e : i ≡ ticket_place z). omega (arith, e, before)) (lower_in z k s le lt)
          (subst (λ (f : Bool). Better f old (max old to)) (sym rises) (omega arith))
          (subst (λ (f : Bool). Better f (max old to) (slice_index limits i)) (sym rises) (omega (arith, row, next, is, end)))
          (λ j g _. absurd (lower_is_no_seal z k s le lt j g))

      good_cut : Good plan
          (turned core pass (upper_place z k s)
          (min (upper_at z core.words k s) (plan_row_high plan (upper_at z (notes pass) before) s)))
      good_cut =
          let i : ℕ = upper_place z k s in
          let old : ℕ = slice_index core.words i in
          let to : ℕ = plan_row_high plan (upper_at z (notes pass) before) s in
          let down = upper_falls z k s le lt in
          let row = row_high_rises plan sound s lt (plan_high plan before) (upper_at z (notes pass) before)
          (λ t l. note_over before t (omega arith) l) in
          let next = high_next plan k s above in
          let is = upper_limit plan k s le lt in
          let end = subst (λ (f : Bool). Better f old (slice_index limits i)) down (good.words.within i).end in
          let before = upper_before z k s le lt in
          good_turned i (min old to) (λ (e : i ≡ ticket_place z). omega (arith, e, before)) (upper_in z k s le lt)
          (subst (λ (f : Bool). Better f old (min old to)) (sym down) (omega arith))
          (subst (λ (f : Bool). Better f (min old to) (slice_index limits i)) (sym down) (omega (arith, row, next, is, end)))
          (λ j g _. absurd (upper_is_no_seal z k s le lt j g))

    -- ---- a seal
    -- the test of a block, state by state
    done_at : (k b s : ℕ) → IsTrue (block_done plan (notes pass) k b) → s < length plan.frame.rows → b ≡ block_of s
        → (lower_at z (notes pass) k s ≡ plan_low plan k s) × (upper_at z (notes pass) k s ≡ plan_high plan k s)
    done_at k b s done lt here =
        let count : ℕ = min 64 (length plan.frame.rows - 64 * b) in
        let r : ℕ = s - 64 * b in
        let inside : r < count = omega (arith, here) in
        let is : 64 * b + r ≡ s = omega (arith, here) in
        let all = AllPass-from_list_all (is_done plan (notes pass) k) (range_with_len (64 * b) count) done in
        let one : IsTrue (is_done plan (notes pass) k (64 * b + r)) =
        subst (λ (t : ℕ). IsTrue (is_done plan (notes pass) k t)) (get_or-range_with_len (64 * b) count r 0 inside)
        (all r 0 (omega (arith, inside, length-range_with_len (64 * b) count))) in
        let two : IsTrue (is_done plan (notes pass) k s) = subst (λ (t : ℕ). IsTrue (is_done plan (notes pass) k t)) is one in
        let parts = and_parts _ _ two in
        (eqb-true _ _ parts.0, eqb-true _ _ parts.1)

    good_seal : (k b : ℕ) → k ≤ plan.layers → b < blocks z → IsTrue (block_done plan (notes pass) k b)
        → Good plan (turned core pass (seal_place z k b) 1)
    good_seal k b le lt done =
        let i : ℕ = seal_place z k b in
        let rises = seal_rises z k b in
        let one = seal_limit plan k b le lt in
        let end = subst (λ (f : Bool). Better f (slice_index core.words i) (slice_index limits i)) rises (good.words.within i).end in
        let before = seal_before z k b le lt in
        good_turned i 1 (λ (e : i ≡ ticket_place z). omega (arith, e, before)) (seal_in z k b le lt)
        (subst (λ (f : Bool). Better f (slice_index core.words i) 1) (sym rises) (omega (arith, one, end)))
        (subst (λ (f : Bool). Better f 1 (slice_index limits i)) (sym rises) (omega (arith, one)))
        (λ j g _.
        let is = sealed_block z k b j lt g in
        let layer : g.layer ≡ k = sym is.0 in
        let d = done_at k b g.state done g.state_in is.1 in
        let full : slice_index (notes pass) j ≡ slice_index limits j =
        elim g.is_word [
          | inl e ↦ (
              let to : j ≡ lower_place z k g.state = e ∙ ap (λ (n : ℕ). lower_place z n g.state) layer in
              ap (slice_index (notes pass)) to ∙ (d.0 ∙ (sym (lower_limit plan k g.state le g.state_in) ∙ ap (slice_index limits)
              (sym to))))
          | inr e ↦ (
              let to : j ≡ upper_place z k g.state = e ∙ ap (λ (n : ℕ). upper_place z n g.state) layer in
              ap (slice_index (notes pass)) to ∙ (d.1 ∙ (sym (upper_limit plan k g.state le g.state_in) ∙ ap (slice_index limits)
              (sym to))))
        ] in
        stays_best (falls z j) (slice_index (notes pass) j) (slice_index core.words j) (slice_index limits j) (fits.below j)
        (good.words.within j).end full)

  module _ (kept other : ℕ) (live : IsTrue (pass_at core kept).live) (live' : IsTrue (pass_at core other).live) (ne : other ≢ kept) where
    abbrev mine : Drawer
    mine = drawer_of (pass_at core kept)

    abbrev yours : Drawer
    yours = drawer_of (pass_at core other)

    in_kept : kept < length core.passes
    in_kept = live_in core kept live

    in_other : other < length core.passes
    in_other = live_in core other live'

    -- the draws of two live passes
    pub met_draws_fit : (pass_at core kept).draws + (pass_at core other).draws ≤ MOST_DRAWS
    met_draws_fit =
        draws_fit next drawers good.tickets kept (drawer_in kept in_kept) mine (drawer_at kept in_kept) other
        (drawer_in other in_other) ne yours (drawer_at other in_other) live live'

    abbrev met_one : PassLists
    met_one = pass_with (joined mine yours) (better_notes z (notes kept) (notes other))

    abbrev met_two : PassLists
    met_two = pass_with (ended yours) (notes other)

    met_drew : map drawer_of (set (set core.passes kept met_one) other met_two)
        ≡ set (set drawers kept (drawer_of met_one)) other (drawer_of met_two)
    met_drew =
        map-set drawer_of (set core.passes kept met_one) other met_two
        ∙ ap (λ (ds : List Drawer). set ds other (drawer_of met_two)) (map-set drawer_of core.passes kept met_one)

    good_met : Good plan (met plan core kept other)
    good_met = record {
      sizes = good.sizes;
      words = good.words;
      passes = All-set (At core.words) (set core.passes kept met_one) other met_two
          record { size = (pass_of other in_other).size; fits = λ off. absurd (true≢false (sym off)) }
          (All-set (At core.words) core.passes kept met_one
          record {
            size = length-better_notes z (notes kept) (notes other) ∙ (pass_of kept in_kept).size;
            fits = λ _. fits_both z (notes kept) (notes other) core.words (fits kept live) (fits other live');
          }
          good.passes);
      tickets = subst (TicketsKept next) (sym met_drew)
          (joined_keeps next drawers good.tickets kept (drawer_in kept in_kept) mine (drawer_at kept in_kept) other
          (drawer_in other in_other) ne yours (drawer_at other in_other) live live' (ended yours) refl);
    }

-- ---- what a condition says
pub cell_seen : (plan : PlanLists) (core : CoreLists) (pass k s : ℕ) → IsTrue (sees_cell plan core pass k s)
    → IsTrue (pass_at core pass).live × (k ≤ plan.layers) × (s < length plan.frame.rows)
cell_seen plan core pass k s h =
    let a = and_parts (pass_at core pass).live _ h in
    let b = and_parts (nat_le k plan.layers) (nat_lt s (length plan.frame.rows)) a.1 in
    (a.0, leb-true k plan.layers b.0, ltb-true s (length plan.frame.rows) b.1)

pub block_seen : (plan : PlanLists) (core : CoreLists) (pass k b : ℕ) → IsTrue (sees_block plan core pass k b)
    → IsTrue (pass_at core pass).live × (k ≤ plan.layers) × (b < blocks (sizes_of plan))
block_seen plan core pass k b h =
    let a = and_parts (pass_at core pass).live _ h in
    let c = and_parts (nat_le k plan.layers) (nat_lt b (blocks (sizes_of plan))) a.1 in
    (a.0, leb-true k plan.layers c.0, ltb-true b (blocks (sizes_of plan)) c.1)

-- each event keeps the machine good
pub good_event : (plan : PlanLists) (core : CoreLists) (event : Event) → IsSoundPlan plan → Good plan core
    → Good plan (event_gives plan core event)
good_event plan core (LoadLower pass k s) sound good =
    by_condition plan core _ _ good (λ h.
    let c = cell_seen plan core pass k s h in
    good_noted plan core good pass c.0 (lower_place (sizes_of plan) k s) (lower_in (sizes_of plan) k s c.1 c.2))
good_event plan core (LoadUpper pass k s) sound good =
    by_condition plan core _ _ good (λ h.
    let c = cell_seen plan core pass k s h in
    good_noted plan core good pass c.0 (upper_place (sizes_of plan) k s) (upper_in (sizes_of plan) k s c.1 c.2))
good_event plan core (Raise pass k s) sound good =
    by_condition plan core _ _ good (λ h.
    let a = and_parts (sees_cell plan core pass k s) (nat_lt 0 k) h in
    let c = cell_seen plan core pass k s a.0 in
    good_raise plan core good pass c.0 sound k s c.1 c.2 (ltb-true 0 k a.1))
good_event plan core (Cut pass k s) sound good =
    by_condition plan core _ _ good (λ h.
    let a = and_parts (sees_cell plan core pass k s) (nat_lt 0 k) h in
    let c = cell_seen plan core pass k s a.0 in
    good_cut plan core good pass c.0 sound k s c.1 c.2 (ltb-true 0 k a.1))
good_event plan core (SeeSeal pass k b) sound good =
    by_condition plan core _ _ good (λ h.
    let c = block_seen plan core pass k b h in
    good_noted plan core good pass c.0 (seal_place (sizes_of plan) k b) (seal_in (sizes_of plan) k b c.1 c.2))
good_event plan core (Seal pass k b) sound good =
    by_condition plan core _ _ good (λ h.
    let a = and_parts (sees_block plan core pass k b) _ h in
    let d = and_parts (nat_lt 0 k) (block_done plan (pass_at core pass).notes k b) a.1 in
    let c = block_seen plan core pass k b a.0 in
    good_seal plan core good pass c.0 k b c.1 c.2 d.1)
good_event plan core (Split pass) sound good = by_condition plan core _ _ good (λ h. good_split plan core good pass h)
good_event plan core (Meet kept other) sound good =
    by_condition plan core _ _ good (λ h.
    let a = and_parts (pass_at core kept).live _ h in
    let b = and_parts (pass_at core other).live (not (kept == other)) a.1 in
    good_met plan core good kept other a.0 b.0 (λ e. eqb-false kept other (not-true (kept == other) b.1) (sym e)))
good_event plan core (Draw pass) sound good =
    by_condition plan core _ _ good (λ h.
    let a = and_parts (pass_at core pass).live (nat_lt 0 (pass_at core pass).draws) h in
    good_drawn plan core good pass a.0 (ltb-true 0 (pass_at core pass).draws a.1))
good_event plan core (Stop pass) sound good = by_condition plan core _ _ good (λ h. good_stop plan core good pass h)
good_event plan core (SeeStop pass) sound good =
    by_condition plan core _ _ good (λ h.
    good_noted plan core good pass h (stop_place (sizes_of plan)) (stop_in (sizes_of plan)))
