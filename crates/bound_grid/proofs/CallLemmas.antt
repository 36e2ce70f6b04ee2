-- What each call may do, what it finds, and what the pass knows then.
use Rattle.std.proofs.Common.{◌≡◌, ◌≢◌, ℕ, zero, suc, ◌+◌, ◌%◌, ◌^◌, ◌<◌, ◌≤◌, List, length, min, max, set, Bool, refl, sym, ap, ◌∙◌, subst, ⊎_elim, arith}
use Rattle.std.proofs.lemmas.List.{get_or-set_same, get_or-set_other}
use mathlib.Core.Option.{none}
use Rattle.std.specs.Prelude.{IsTrue, slice_index, bit_or, nat_lt, if◌then◌else◌}
use Rattle.atomic_table.specs.Table.{Me, step, Allows}
use Rattle.ctmc_semantics.specs.RoundedTables.{one_word}
use Rattle.step_core.specs.BoardRule.{Better, worst, IsWithin, NoWorse, FitNotes, WordsKept}
use Rattle.step_core.specs.Limits.{sizes_of, limits_of}
use Rattle.step_core.specs.Places.{Sizes, falls, blocks, lower_place, upper_place, seal_place, ticket_place, stop_place, word_count, IsSealOf, block_of}
use Rattle.step_core.specs.Places.IsOfLayerZero.{seal}
use Rattle.step_core.specs.PlanLists.{PlanLists}
use Rattle.step_core.specs.PlanTables.{plan_low, plan_high}
use Rattle.step_core.proofs.BetterLemmas.{better_refl, better_trans, stays_best}
use Rattle.step_core.proofs.LimitLemmas.{lower_limit, upper_limit, seal_limit, ticket_limit, stop_limit}
use Rattle.step_core.proofs.PlaceLemmas.{lower_rises, upper_falls, seal_rises, lower_in, upper_in, seal_in, lower_is_no_seal, upper_is_no_seal, seal_of_lower, seal_of_upper, sealed_block, ticket_rises, stop_rises, ticket_in, stop_in, stop_is_no_seal, lower_before, upper_before, seal_before}
use Rattle.bound_grid.specs.Notes.{AreNotes}
use Rattle.bound_grid.specs.PassView.{PassView}
use Rattle.bound_grid.specs.Passes.{IsPassOf, KnowsAtLeast, KnowsMore, notes_of, tickets_of, draws_of, lower_note, upper_note, seal_note, stop_note}
use Rattle.bound_grid.specs.Steps.{Finds, Turned, Drawn}
use Rattle.bound_grid.specs.TableRule.{IsKept}
use Rattle.bound_grid.specs.declared.board.Board.{Board}
use Rattle.bound_grid.specs.declared.board.Pass.{Pass}
use Rattle.bound_grid.proofs.KeptLemmas.{turns, draws}
use Rattle.bound_grid.proofs.NoteLemmas.{no_worse_set, notes_set}

pub or_one : (x : ℕ) → x ≤ 1 → bit_or x 1 ≡ 1
or_one zero h = refl
or_one (suc zero) h = refl
or_one (suc (suc x)) h = absurd (omega arith)

-- whether a seal is set
pub seen : (x : ℕ) → x ≤ 1 → x ≡ (if nat_lt 0 x then 1 else 0)
seen zero h = refl
seen (suc zero) h = refl
seen (suc (suc x)) h = absurd (omega arith)

-- ---- a place of the layout is one of the table
module _ (b : Board) where
  pub in_table : (r : ℕ) → r < word_count b.layout → r < b.table.shared.table_id.words
  in_table r lt = subst (λ (n : ℕ). r < n) (ap word_count b.laid ∙ sym b.sized) lt

  pub some_word : 0 < b.table.shared.table_id.words
  some_word = let e = b.sized in omega (arith, e)

module _ {b : Board} {p : Pass} (is : IsPassOf b p) where
  abbrev z : Sizes
  z = sizes_of b.plan

  abbrev limits : List ℕ
  limits = limits_of b.plan

  abbrev ns : List ℕ
  ns = notes_of p

  -- the table allows that the word at r becomes f of it, and is noted
  abbrev pub MayTurn : ℕ → (ℕ → ℕ) → Type 0
  MayTurn r f =
      Allows (IsKept b.table.shared.key) b.table.shared.table_id.slots p.seat.id p.seat.me r f (λ x w. Turned r p.seat.me x (f x) w)

  may_turn : (r i : ℕ) (f : ℕ → ℕ) → r ≡ i → i ≢ ticket_place z → i < word_count z
      → ((x : ℕ) → IsWithin z limits i x → Better (falls z i) x (f x) × Better (falls z i) (f x) (slice_index limits i))
      → ((ws : List ℕ) → WordsKept z limits ws → FitNotes z ws ns → (j : ℕ) → IsSealOf z i j → 0 < f (slice_index ws i)
      → slice_index ws j ≡ slice_index limits j) → MayTurn r f
  may_turn r i f here ne lt goes vouched =
      subst (λ (key : _). Allows (IsKept key) b.table.shared.table_id.slots p.seat.id p.seat.me r f (λ x w. Turned r p.seat.me x (f x) w))
      (sym b.keyed)
      (subst
      (λ (j : ℕ). Allows (IsKept b.plan) b.table.shared.table_id.slots p.seat.id p.seat.me j f (λ x w. Turned j p.seat.me x (f x) w))
      (sym here) (turns b.plan b.table.shared.table_id.slots p.seat.id i f p.seat.me ne is.live lt goes vouched))

  -- a load changes no word
  may_load : (r i : ℕ) → r ≡ i → i ≢ ticket_place z → i < word_count z → MayTurn r (λ x. x)
  may_load r i here ne lt =
      may_turn r i (λ x. x) here ne lt (λ x w. (better_refl (falls z i) x, w.end)) (λ ws h _ j g on. h.sealed i j g on)

  -- the view with these sizes and limits
  abbrev looking : Sizes → List ℕ → PassView
  looking y l = record {
    live = p.seat.me.0.live;
    sizes = y;
    limits = l;
    notes = ns;
    tickets = tickets_of p;
    draws = draws_of p;
  }

  -- what is found at a place
  abbrev plain : PassView
  plain = looking z limits

  finds_at : (r i x : ℕ) → r ≡ i → Finds p.seat.me.0 r x → Finds plain i x
  finds_at r i x here found =
      subst (λ (j : ℕ). Finds plain j x) here
      (subst (λ (l : List ℕ). Finds (looking z l) r x) is.limits
      (subst (λ (y : Sizes). Finds (looking y p.seat.me.0.limits) r x) is.sizes found))

  -- a pass that noted a better word within its limit knows at least what it knew
  noted_least : (q : Pass) (i y : ℕ) → q.seat.table_id ≡ p.seat.table_id → IsTrue q.seat.me.0.live
      → q.seat.me.0.sizes ≡ p.seat.me.0.sizes → q.seat.me.0.limits ≡ p.seat.me.0.limits → notes_of q ≡ set ns i y
      → i < word_count z → Better (falls z i) (slice_index ns i) y → Better (falls z i) y (slice_index limits i) → KnowsAtLeast b p q
  noted_least q i y id live sizes lims e lt better top = record {
    pass = record {
      table = id ∙ is.table;
      live = live;
      sizes = sizes ∙ is.sizes;
      limits = lims ∙ is.limits;
      notes = subst (AreNotes b.plan) (sym e) (notes_set b.plan ns i y is.notes lt better top);
    };
    more = subst (NoWorse z ns) (sym e) (no_worse_set b.plan ns i y is.notes lt better top);
  }

  -- what is noted, and that no ticket was drawn
  module _ (after : Me ℕ PassView) (r i x y : ℕ) (here : r ≡ i) (turned : Turned r p.seat.me x y after) where
    noted_so : after.0.notes ≡ set ns i y
    noted_so = ap (λ (m : Me ℕ PassView). m.0.notes) turned.1 ∙ ap (λ (j : ℕ). set ns j y) here

    pub same_tickets : after.0.tickets ≡ tickets_of p
    same_tickets = ap (λ (m : Me ℕ PassView). m.0.tickets) turned.1

    pub same_draws : after.0.draws ≡ draws_of p
    same_draws = ap (λ (m : Me ℕ PassView). m.0.draws) turned.1

  module _ (q : Pass) (r i x y : ℕ) (id : q.seat.table_id ≡ p.seat.table_id) (here : r ≡ i) (turned : Turned r p.seat.me x y q.seat.me)
    where
      knows_least : i < word_count z → Better (falls z i) x y → Better (falls z i) y (slice_index limits i) → KnowsAtLeast b p q
      knows_least lt up top =
          let f = finds_at r i x here turned.0 in
          let w = turned.1 in
          noted_least q i y id (ap (λ (m : Me ℕ PassView). m.0.live) w ∙ is.live) (ap (λ (m : Me ℕ PassView). m.0.sizes) w)
          (ap (λ (m : Me ℕ PassView). m.0.limits) w) (noted_so q.seat.me r i x y here turned) lt
          (better_trans (falls z i) (slice_index ns i) x y f.note up) top

      -- a pass that noted a word other than the stop word knows more
      knows : i ≢ stop_place z → i < word_count z → Better (falls z i) x y → Better (falls z i) y (slice_index limits i) → KnowsMore b p q
      knows ne lt up top =
          let least = knows_least lt up top in
          record {
            pass = least.pass;
            more = least.more;
            tickets = same_tickets q.seat.me r i x y here turned;
            draws = same_draws q.seat.me r i x y here turned;
            stop =
                ap (λ (xs : List ℕ). slice_index xs (stop_place z)) (noted_so q.seat.me r i x y here turned)
                ∙ get_or-set_other ns i (stop_place z) y 0 (λ e. ne (sym e));
          }

  -- places before the ticket's are neither it nor the stop word's
  apart : (i : ℕ) → i < ticket_place z → (i ≢ ticket_place z) × (i ≢ stop_place z)
  apart i lt = (λ (e : i ≡ ticket_place z). omega (arith, lt, e), λ (e : i ≡ stop_place z). omega (arith, lt, e))

  module _ (k s : ℕ) {r : ℕ} (le : k ≤ b.plan.layers) (lt : s < length b.plan.frame.rows) where
    -- ---- a lower word
    module _ (placed : r ≡ lower_place b.layout k s) where
      abbrev low_at : ℕ
      low_at = lower_place z k s

      here : r ≡ low_at
      here = placed ∙ ap (λ (y : Sizes). lower_place y k s) b.laid

      pub may_load_lower : MayTurn r (λ x. x)
      may_load_lower = may_load r low_at here (apart low_at (lower_before z k s le lt)).0 (lower_in z k s le lt)

      pub may_raise : (to : ℕ) → to ≤ plan_low b.plan k s → MayTurn r (λ x. max x to)
      may_raise to under =
          let rises = lower_rises z k s le lt in
          let e = lower_limit b.plan k s le lt in
          may_turn r low_at (λ x. max x to) here (apart low_at (lower_before z k s le lt)).0 (lower_in z k s le lt)
          (λ x w.
          let end = subst (λ (f : Bool). Better f x (slice_index limits low_at)) rises w.end in
          subst (λ (f : Bool). Better f x (max x to) × Better f (max x to) (slice_index limits low_at)) (sym rises)
          (omega arith, omega (arith, end, e, under)))
          (λ ws h _ j g on. absurd (lower_is_no_seal z k s le lt j g))

      pub lower_found : (x : ℕ) → Finds p.seat.me.0 r x
          → (lower_note b p k s ≤ x) × (x ≤ plan_low b.plan k s) × (seal_note b p k (block_of s) ≡ 1 → x ≡ plan_low b.plan k s)
      lower_found x found =
          let f = finds_at r low_at x here found in
          let rises = lower_rises z k s le lt in
          let e = lower_limit b.plan k s le lt in (
            subst (λ (d : Bool). Better d (slice_index ns low_at) x) rises f.note,
            subst (λ (m : ℕ). x ≤ m) e (subst (λ (d : Bool). Better d x (slice_index limits low_at)) rises f.within.end),
            λ on. f.sealed (seal_place z k (block_of s)) (seal_of_lower z k s le lt) (omega (arith, on)) ∙ e,
          )

      pub lower_knows : (q : Pass) (x y : ℕ) → q.seat.table_id ≡ p.seat.table_id → Turned r p.seat.me x y q.seat.me → x ≤ y
          → y ≤ plan_low b.plan k s → KnowsMore b p q
      lower_knows q x y id turned up end =
          let rises = sym (lower_rises z k s le lt) in
          knows q r low_at x y id here turned (apart low_at (lower_before z k s le lt)).1 (lower_in z k s le lt)
          (subst (λ (d : Bool). Better d x y) rises up)
          (subst (λ (d : Bool). Better d y (slice_index limits low_at)) rises
          (subst (λ (m : ℕ). y ≤ m) (sym (lower_limit b.plan k s le lt)) end))

    -- ---- an upper word
    module _ (placed : r ≡ upper_place b.layout k s) where
      abbrev high_at : ℕ
      high_at = upper_place z k s

      there : r ≡ high_at
      there = placed ∙ ap (λ (y : Sizes). upper_place y k s) b.laid

      pub may_load_upper : MayTurn r (λ x. x)
      may_load_upper = may_load r high_at there (apart high_at (upper_before z k s le lt)).0 (upper_in z k s le lt)

      pub may_cut : (to : ℕ) → plan_high b.plan k s ≤ to → MayTurn r (λ x. min x to)
      may_cut to over =
          let down = upper_falls z k s le lt in
          let e = upper_limit b.plan k s le lt in
          may_turn r high_at (λ x. min x to) there (apart high_at (upper_before z k s le lt)).0 (upper_in z k s le lt)
          (λ x w.
          let end = subst (λ (f : Bool). Better f x (slice_index limits high_at)) down w.end in
          subst (λ (f : Bool). Better f x (min x to) × Better f (min x to) (slice_index limits high_at)) (sym down)
          (omega arith, omega (arith, end, e, over)))
          (λ ws h _ j g on. absurd (upper_is_no_seal z k s le lt j g))

      pub upper_found : (x : ℕ) → Finds p.seat.me.0 r x
          → (x ≤ upper_note b p k s) × (x ≤ one_word) × (plan_high b.plan k s ≤ x)
          × (seal_note b p k (block_of s) ≡ 1 → x ≡ plan_high b.plan k s)
      upper_found x found =
          let f = finds_at r high_at x there found in
          let down = upper_falls z k s le lt in
          let e = upper_limit b.plan k s le lt in (
            subst (λ (d : Bool). Better d (slice_index ns high_at) x) down f.note,
            subst (λ (d : Bool). Better d (worst d) x) down f.within.start,
            subst (λ (m : ℕ). m ≤ x) e (subst (λ (d : Bool). Better d x (slice_index limits high_at)) down f.within.end),
            λ on. f.sealed (seal_place z k (block_of s)) (seal_of_upper z k s le lt) (omega (arith, on)) ∙ e,
          )

      pub upper_knows : (q : Pass) (x y : ℕ) → q.seat.table_id ≡ p.seat.table_id → Turned r p.seat.me x y q.seat.me → y ≤ x
          → plan_high b.plan k s ≤ y → KnowsMore b p q
      upper_knows q x y id turned down end =
          let sinks = sym (upper_falls z k s le lt) in
          knows q r high_at x y id there turned (apart high_at (upper_before z k s le lt)).1 (upper_in z k s le lt)
          (subst (λ (d : Bool). Better d x y) sinks down)
          (subst (λ (d : Bool). Better d y (slice_index limits high_at)) sinks
          (subst (λ (m : ℕ). m ≤ y) (sym (upper_limit b.plan k s le lt)) end))

  -- ---- a seal
  module _ (k c : ℕ) {r : ℕ} (le : k ≤ b.plan.layers) (lt : c < blocks z) (placed : r ≡ seal_place b.layout k c) where
    abbrev at : ℕ
    at = seal_place z k c

    pub seal_here : r ≡ at
    seal_here = placed ∙ ap (λ (y : Sizes). seal_place y k c) b.laid

    pub may_load_seal : MayTurn r (λ x. x)
    may_load_seal = may_load r at seal_here (apart at (seal_before z k c le lt)).0 (seal_in z k c le lt)

    pub may_seal : ((s : ℕ) → s < length b.plan.frame.rows → block_of s ≡ c → lower_note b p k s ≡ plan_low b.plan k s)
        → ((s : ℕ) → s < length b.plan.frame.rows → block_of s ≡ c → upper_note b p k s ≡ plan_high b.plan k s)
        → MayTurn r (λ x. bit_or x 1)
    may_seal low_done high_done =
        let rises = seal_rises z k c in
        let one = seal_limit b.plan k c le lt in
        may_turn r at (λ x. bit_or x 1) seal_here (apart at (seal_before z k c le lt)).0 (seal_in z k c le lt)
        (λ x w.
        let end = subst (λ (d : Bool). Better d x (slice_index limits at)) rises w.end in
        let e : bit_or x 1 ≡ 1 = or_one x (omega (arith, one, end)) in
        subst (λ (d : Bool). Better d x (bit_or x 1) × Better d (bit_or x 1) (slice_index limits at)) (sym rises)
        (omega (arith, one, end, e), omega (arith, one, e)))
        (λ ws h fit j g on.
        let same = sealed_block z k c j lt g in
        let layer : g.layer ≡ k = sym same.0 in
        let full : slice_index ns j ≡ slice_index limits j =
        ⊎_elim
        (λ (e : j ≡ lower_place z g.layer g.state).
        let to : j ≡ lower_place z k g.state = e ∙ ap (λ (n : ℕ). lower_place z n g.state) layer in
        ap (slice_index ns) to
        ∙ (low_done g.state g.state_in (sym same.1)
        ∙ (sym (lower_limit b.plan k g.state le g.state_in) ∙ ap (slice_index limits) (sym to))))
        (λ (e : j ≡ upper_place z g.layer g.state).
        let to : j ≡ upper_place z k g.state = e ∙ ap (λ (n : ℕ). upper_place z n g.state) layer in
        ap (slice_index ns) to
        ∙ (high_done g.state g.state_in (sym same.1)
        ∙ (sym (upper_limit b.plan k g.state le g.state_in) ∙ ap (slice_index limits) (sym to))))
        g.is_word in
        stays_best (falls z j) (slice_index ns j) (slice_index ws j) (slice_index limits j) (fit.below j) (h.within j).end full)

    pub seal_found : (x : ℕ) → Finds p.seat.me.0 r x → (seal_note b p k c ≤ x) × (x ≤ 1) × (k ≡ 0 → x ≡ 1)
    seal_found x found =
        let f = finds_at r at x seal_here found in
        let rises = seal_rises z k c in
        let one = seal_limit b.plan k c le lt in (
          subst (λ (d : Bool). Better d (slice_index ns at) x) rises f.note,
          subst (λ (m : ℕ). x ≤ m) one (subst (λ (d : Bool). Better d x (slice_index limits at)) rises f.within.end),
          λ first. f.layer_zero (seal c lt (ap (λ (m : ℕ). seal_place z m c) first)) ∙ one,
        )

    pub seal_knows : (q : Pass) (x y : ℕ) → q.seat.table_id ≡ p.seat.table_id → Turned r p.seat.me x y q.seat.me → x ≤ y → y ≤ 1
        → KnowsMore b p q
    seal_knows q x y id turned up end =
        let rises = sym (seal_rises z k c) in
        knows q r at x y id seal_here turned (apart at (seal_before z k c le lt)).1 (seal_in z k c le lt)
        (subst (λ (d : Bool). Better d x y) rises up)
        (subst (λ (d : Bool). Better d y (slice_index limits at)) rises
        (subst (λ (m : ℕ). y ≤ m) (sym (seal_limit b.plan k c le lt)) end))

    -- the seal is noted
    pub seal_noted : (after : Me ℕ PassView) (x y : ℕ) → Turned r p.seat.me x y after → slice_index after.0.notes at ≡ y
    seal_noted after x y turned =
        ap (λ (m : Me ℕ PassView). slice_index m.0.notes at) turned.1
        ∙ (ap (λ (j : ℕ). slice_index (set ns j y) at) seal_here
        ∙ get_or-set_same ns at y 0 (let e = is.notes.size in omega (arith, e, seal_in z k c le lt)))

  -- ---- the stop word
  module _ {r : ℕ} (placed : r ≡ stop_place b.layout) where
    abbrev stop : ℕ
    stop = stop_place z

    pub stop_here : r ≡ stop
    stop_here = placed ∙ ap stop_place b.laid

    no_ticket : stop ≢ ticket_place z
    no_ticket = λ (e : stop ≡ ticket_place z). omega (arith, e)

    pub may_load_stop : MayTurn r (λ x. x)
    may_load_stop = may_load r stop stop_here no_ticket (stop_in z)

    pub may_stop : MayTurn r (λ x. bit_or x 1)
    may_stop =
        let rises = stop_rises z in
        let one = stop_limit b.plan in
        may_turn r stop (λ x. bit_or x 1) stop_here no_ticket (stop_in z)
        (λ x w.
        let end = subst (λ (d : Bool). Better d x (slice_index limits stop)) rises w.end in
        let e : bit_or x 1 ≡ 1 = or_one x (omega (arith, one, end)) in
        subst (λ (d : Bool). Better d x (bit_or x 1) × Better d (bit_or x 1) (slice_index limits stop)) (sym rises)
        (omega (arith, one, end, e), omega (arith, one, e)))
        (λ ws h fit j g on. absurd (stop_is_no_seal z j g))

    pub stop_found : (x : ℕ) → Finds p.seat.me.0 r x → (stop_note b p ≤ x) × (x ≤ 1)
    stop_found x found =
        let f = finds_at r stop x stop_here found in
        let rises = stop_rises z in
        let one = stop_limit b.plan in (
          subst (λ (d : Bool). Better d (slice_index ns stop) x) rises f.note,
          subst (λ (m : ℕ). x ≤ m) one (subst (λ (d : Bool). Better d x (slice_index limits stop)) rises f.within.end),
        )

    pub stop_knows : (q : Pass) (x y : ℕ) → q.seat.table_id ≡ p.seat.table_id → Turned r p.seat.me x y q.seat.me → x ≤ y → y ≤ 1
        → KnowsAtLeast b p q
    stop_knows q x y id turned up end =
        let rises = sym (stop_rises z) in
        knows_least q r stop x y id stop_here turned (stop_in z)
        (subst (λ (d : Bool). Better d x y) rises up)
        (subst (λ (d : Bool). Better d y (slice_index limits stop)) rises
        (subst (λ (m : ℕ). y ≤ m) (sym (stop_limit b.plan)) end))

    -- it is noted
    pub stop_noted : (after : Me ℕ PassView) (x y : ℕ) → Turned r p.seat.me x y after
        → (after.0.notes ≡ set ns stop y) × (slice_index after.0.notes stop ≡ y)
    stop_noted after x y turned =
        let e = noted_so after r stop x y stop_here turned in (
          e,
          ap (λ (xs : List ℕ). slice_index xs stop) e
              ∙ get_or-set_same ns stop y 0 (let n = is.notes.size in omega (arith, n, stop_in z)),
        )

  -- ---- the next ticket
  module _ {r : ℕ} (placed : r ≡ ticket_place b.layout) where
    abbrev ticket : ℕ
    ticket = ticket_place z

    ticket_here : r ≡ ticket
    ticket_here = placed ∙ ap ticket_place b.laid

    abbrev pub MayDraw : PlanLists → ℕ → Type 0
    MayDraw key j =
        Allows (IsKept key) b.table.shared.table_id.slots p.seat.id p.seat.me j (λ n. (n + 1) % 2 ^ 64)
        (Drawn (step b.table.shared.table_id.slots j 1 0 none) p.seat.me)

    pub may_draw : 0 < draws_of p → MayDraw b.table.shared.key r
    may_draw some =
        subst (λ (key : PlanLists). MayDraw key r) (sym b.keyed)
        (subst (λ (j : ℕ). MayDraw b.plan j) (sym ticket_here)
        (draws b.plan b.table.shared.table_id.slots p.seat.id p.seat.me is.live some))

    abbrev HasDrawn : Me ℕ PassView → ℕ → Type 0
    HasDrawn after x = Drawn (step b.table.shared.table_id.slots r 1 0 none) p.seat.me x after

    pub drawn_notes : (after : Me ℕ PassView) (x : ℕ) → HasDrawn after x → after.0.notes ≡ set ns ticket (x + 1)
    drawn_notes after x drew = ap (λ (m : Me ℕ PassView). m.0.notes) drew.1 ∙ ap (λ (j : ℕ). set ns j (x + 1)) ticket_here

    pub drawn_knows : (q : Pass) (x : ℕ) → q.seat.table_id ≡ p.seat.table_id → HasDrawn q.seat.me x → KnowsAtLeast b p q
    drawn_knows q x id drew =
        let f = finds_at r ticket x ticket_here drew.0.word in
        let w = drew.1 in
        let rises = ticket_rises z in
        let most = ticket_limit b.plan in
        let room = drew.0.room in
        let old = subst (λ (d : Bool). Better d (slice_index ns ticket) x) rises f.note in
        noted_least q ticket (x + 1) id (ap (λ (m : Me ℕ PassView). m.0.live) w ∙ is.live) (ap (λ (m : Me ℕ PassView). m.0.sizes) w)
        (ap (λ (m : Me ℕ PassView). m.0.limits) w) (drawn_notes q.seat.me x drew) (ticket_in z)
        (subst (λ (d : Bool). Better d (slice_index ns ticket) (x + 1)) (sym rises) (omega (arith, old)))
        (subst (λ (d : Bool). Better d (x + 1) (slice_index limits ticket)) (sym rises) (omega (arith, most, room)))

    pub drawn_stop : (after : Me ℕ PassView) (x : ℕ) → HasDrawn after x → slice_index after.0.notes (stop_place z) ≡ stop_note b p
    drawn_stop after x drew =
        ap (λ (xs : List ℕ). slice_index xs (stop_place z)) (drawn_notes after x drew)
        ∙ get_or-set_other ns ticket (stop_place z) (x + 1) 0 (λ (e : stop_place z ≡ ticket). omega (arith, e))
