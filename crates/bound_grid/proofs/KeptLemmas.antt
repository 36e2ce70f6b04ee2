-- Each step keeps the rule of the table, whatever the other seats know.
use Rattle.std.proofs.Common.{◌≡◌, ◌≢◌, ℕ, zero, suc, ◌+◌, ◌%◌, ◌^◌, ◌<◌, ◌≤◌, List, [], ◌∷◌, ◌++◌, length, map, get_or, set, Bool, true≢false, refl, sym, ap, ◌∙◌, subst, zero-le, ⊎_elim, arith}
use Rattle.std.proofs.Math.Nat.{mod-eq_of_lt}
use Rattle.std.proofs.lemmas.List.{length-set, map-set, map-append, get_or-set_same, get_or-set_other, get_or_default}
use Rattle.std.specs.Prelude.{slice_index, IsTrue}
use mathlib.Core.Option.{none, some, some-injective, some-ne-none}
use lib.ListN.{get_elem?}
use Rattle.atomic_table.specs.Table.{State, Me, keeps, step, Allows, Splits, Joins}
use Rattle.atomic_table.proofs.Lists.{at_set, at_snoc, at_map, set_again}
use Rattle.step_core.specs.BoardRule.{Better, IsWithin, FitNotes, WordsKept, better_notes}
use Rattle.step_core.specs.CoreLists.{ticket_at}
use Rattle.step_core.specs.Limits.{sizes_of, limits_of, opening_words}
use Rattle.step_core.specs.Places.{Sizes, falls, IsSealOf, ticket_place, word_count}
use Rattle.step_core.specs.PlanLists.{PlanLists}
use Rattle.step_core.specs.SoundPlan.{IsSoundPlan}
use Rattle.step_core.proofs.BetterLemmas.{words_step, fits_still, fits_turned, fits_both, length-better_notes}
use Rattle.step_core.specs.Tickets.{Drawer, TicketsKept, with_ticket, split_kept, split_off, joined}
use Rattle.step_core.proofs.LimitLemmas.{length-limits, ticket_limit}
use Rattle.step_core.proofs.OpeningLemmas.{opening_kept, opening_fits, first_ticket}
use Rattle.step_core.proofs.PlaceLemmas.{rises_low, seal_of_rises, ticket_rises, ticket_in, ticket_is_no_seal}
use Rattle.step_core.proofs.TicketLemmas.{nobody, drawn_keeps, split_keeps, joined_keeps, draw_fits, ticket_below, first_kept}
use Rattle.bound_grid.specs.PassView.{PassView, drawer_of, first_view, view_with, with_note, with_drawn, split_view, new_view, better_view, ended_view}
use Rattle.bound_grid.specs.Steps.{Finds, Turned, Drawn}
use Rattle.bound_grid.specs.TableRule.{FitsBoard, IsKept}

-- ---- a fact about each view of a list
module _ {V : Type 0} where
  pub each_set : (P Q : V → Type 0) (vs : List V) (i : ℕ) (w : V) → ((v : V) → P v → Q v)
      → ((j : ℕ) (v : V) → get_elem? vs j ≡ some v → P v) → Q w → (j : ℕ) (v : V) → get_elem? (set vs i w) j ≡ some v → Q v
  each_set P Q vs i w go all mine j v e =
      ⊎_elim (λ (t : (j ≡ i) × (w ≡ v)). subst Q t.1 mine) (λ (t : (j ≢ i) × (get_elem? vs j ≡ some v)). go v (all j v t.1))
      (at_set vs i j w v e)

  pub each_snoc : (P : V → Type 0) (vs : List V) (w : V) → ((j : ℕ) (v : V) → get_elem? vs j ≡ some v → P v) → P w
      → (j : ℕ) (v : V) → get_elem? (vs ++ w ∷ []) j ≡ some v → P v
  each_snoc P vs w all mine j v e = ⊎_elim (λ was. all j v was) (λ (same : w ≡ v). subst P same mine) (at_snoc vs w v j e)

-- ---- the views as those that draw
module _ (vs : List PassView) (id : ℕ) (v : PassView) (at : get_elem? vs id ≡ some v) where
  abbrev drawers : List Drawer
  drawers = map drawer_of vs

  drawer_there : (id < length drawers) × (get_or drawers id nobody ≡ drawer_of v)
  drawer_there = found drawers id (drawer_of v) nobody (at_map drawer_of vs id v at)
    where
      found : {A : Type 0} (l : List A) (i : ℕ) (a d : A) → get_elem? l i ≡ some a → (i < length l) × (get_or l i d ≡ a)
      found [] i a d e = absurd (some-ne-none a (sym e))
      found (x ∷ xs) zero a d e = (omega arith, some-injective x a e)
      found (x ∷ xs) (suc i) a d e = let t = found xs i a d e in (omega (arith, t.0), t.1)

  same_drawers : set drawers id (drawer_of v) ≡ drawers
  same_drawers = set_again drawers id (drawer_of v) (at_map drawer_of vs id v at)

module _ (plan : PlanLists) where
  abbrev z : Sizes
  z = sizes_of plan

  abbrev limits : List ℕ
  limits = limits_of plan

  -- what the rule asks of a view
  abbrev FitsIfLive : List ℕ → PassView → Type 0
  FitsIfLive ws v = IsTrue v.live → FitsBoard plan ws v

  -- word 0 is 0, since that is its limit
  kept_zero : (ws : List ℕ) → WordsKept z limits ws → slice_index ws 0 ≡ 0
  kept_zero ws h =
      let end : slice_index ws 0 ≤ 0 =
      subst (λ (f : Bool). Better f (slice_index ws 0) (slice_index limits 0)) (rises_low z 0 zero-le) (h.within 0).end in
      omega (arith, end)

  -- a pass with the sizes and the limits of the plan's board finds a word
  pub finds : (ws : List ℕ) (v : PassView) (i : ℕ) → WordsKept z limits ws → FitsBoard plan ws v → Finds v i (slice_index ws i)
  finds ws v i h f =
      let x : ℕ = slice_index ws i in
      let looking : Sizes → List ℕ → PassView = λ y l. record {
        live = v.live;
        sizes = y;
        limits = l;
        notes = v.notes;
        tickets = v.tickets;
        draws = v.draws;
      } in
      let base : Finds (looking z limits) i x = record {
        note = f.notes.below i;
        within = h.within i;
        layer_zero = h.layer_zero i;
        sealed = λ j g on. h.sealed j i g
            (let below : slice_index v.notes j ≤ slice_index ws j =
            subst (λ (b : Bool). Better b (slice_index v.notes j) (slice_index ws j)) (seal_of_rises z j i g) (f.notes.below j) in
            omega (arith, below, on));
      } in
      subst (λ (y : Sizes). Finds (looking y v.limits) i x) (sym f.sizes)
      (subst (λ (l : List ℕ). Finds (looking z l) i x) (sym f.limits) base)

  -- the word at i gets better within its limit, where a seal that is set vouches for words at their limits, and the tickets are kept; then it
  -- is noted
  kept_so : (s : State ℕ PassView) → IsKept plan s → (id i y : ℕ) (v : PassView) (d : Drawer) (homes : List _)
      → get_elem? s.views id ≡ some v → IsTrue v.live → i < word_count z → Better (falls z i) (slice_index s.words i) y
      → Better (falls z i) y (slice_index limits i)
      → ((j : ℕ) → IsSealOf z i j → 0 < y → slice_index s.words j ≡ slice_index limits j)
      → TicketsKept (ticket_at z (set s.words i y)) (set (map drawer_of s.views) id d)
      → IsKept plan record {
        words = set s.words i y;
        homes = homes;
        views = set s.views id (view_with v d (set v.notes i y));
      }
  kept_so s h id i y v d homes at live lt up top vouched drew =
      let ws : List ℕ = s.words in
      let w : PassView = view_with v d (set v.notes i y) in
      let mine = h.passes id v at live in
      let inside : i < length ws = (let c = h.words.count in omega (arith, lt, c, length-limits plan)) in
      let noted_in : i < length v.notes = (let e = mine.size in omega (arith, inside, e)) in
      let kept = words_step z limits ws i y inside up top h.words vouched in
      record {
        zero = kept_zero (set ws i y) kept;
        words = kept;
        passes = each_set (FitsIfLive ws) (FitsIfLive (set ws i y)) s.views id w
            (λ u k on. let l = k on in record {
              sizes = l.sizes;
              limits = l.limits;
              size = l.size ∙ sym (length-set ws i y);
              notes = fits_still z limits ws i y inside up top u.notes l.notes;
            }) h.passes
            (λ _. record {
              sizes = mine.sizes;
              limits = mine.limits;
              size = length-set v.notes i y ∙ (mine.size ∙ sym (length-set ws i y));
              notes = fits_turned z limits ws i y inside up top v.notes noted_in (h.words.within i).start mine.notes;
            });
        tickets = subst (TicketsKept (ticket_at z (set ws i y))) (sym (map-set drawer_of s.views id w)) drew;
      }

  -- so does a word that is no ticket
  pub turns : (slots id i : ℕ) (f : ℕ → ℕ) (me : Me ℕ PassView) → i ≢ ticket_place z → IsTrue me.0.live → i < word_count z
      → ((x : ℕ) → IsWithin z limits i x → Better (falls z i) x (f x) × Better (falls z i) (f x) (slice_index limits i))
      → ((ws : List ℕ) → WordsKept z limits ws → FitNotes z ws me.0.notes → (j : ℕ) → IsSealOf z i j
      → 0 < f (slice_index ws i) → slice_index ws j ≡ slice_index limits j)
      → Allows (IsKept plan) slots id me i f (λ x w. Turned i me x (f x) w)
  turns slots id i f me ne live lt goes vouched s h _ at _ =
      let ws : List ℕ = s.words in
      let mine = h.passes id me.0 at live in
      let x : ℕ = slice_index ws i in
      let better = goes x (h.words.within i) in
      let same = get_or-set_other ws i (ticket_place z) (f x) 0 (λ e. ne (sym e)) in (
        with_note me.0 i (f x),
        keeps,
        tt,
        kept_so s h id i (f x) me.0 (drawer_of me.0) s.homes at live lt better.0 better.1 (vouched ws h.words mine.notes)
            (subst (TicketsKept (ticket_at z (set ws i (f x)))) (sym (same_drawers s.views id me.0 at))
            (subst (λ (n : ℕ). TicketsKept n (map drawer_of s.views)) (sym same) h.tickets)),
        (finds ws me.0 i h.words mine, refl),
      )

  -- and the next ticket, for a pass that has a draw
  pub draws : (slots id : ℕ) (me : Me ℕ PassView) → IsTrue me.0.live → 0 < me.0.draws
      → Allows (IsKept plan) slots id me (ticket_place z) (λ n. (n + 1) % 2 ^ 64) (Drawn (step slots (ticket_place z) 1 0 none) me)
  draws slots id me live has s h _ at _ =
      let i : ℕ = ticket_place z in
      let ws : List ℕ = s.words in
      let x : ℕ = slice_index ws i in
      let ds : List Drawer = map drawer_of s.views in
      let d : Drawer = drawer_of me.0 in
      let there = drawer_there s.views id me.0 at in
      let mine = h.passes id me.0 at live in
      let fit = draw_fits x ds h.tickets id there.0 d there.1 live in
      let inside : i < length ws = (let c = h.words.count in omega (arith, ticket_in z, c, length-limits plan)) in
      let rises = ticket_rises z in
      let most = ticket_limit plan in
      let small : x + 1 < 2 ^ 64 = omega (arith, fit, has) in
      let next : (x + 1) % 2 ^ 64 ≡ x + 1 = mod-eq_of_lt small in
      let kept =
      kept_so s h id i (x + 1) me.0 (with_ticket d x) s.homes at live (ticket_in z)
      (subst (λ (f : Bool). Better f x (x + 1)) (sym rises) (omega arith))
      (subst (λ (f : Bool). Better f (x + 1) (slice_index limits i)) (sym rises) (omega (arith, most, fit, has)))
      (λ j g _. absurd (ticket_is_no_seal z j g))
      (subst (λ (n : ℕ). TicketsKept n (set ds id (with_ticket d x))) (sym (get_or-set_same ws i (x + 1) 0 inside))
      (drawn_keeps x ds h.tickets id there.0 d there.1 live has)) in (
        with_drawn me.0 i x,
        keeps,
        tt,
        subst
            (λ (y : ℕ). IsKept plan record { words = set ws i y; homes = s.homes; views = set s.views id (with_drawn me.0 i x) })
            (sym next) kept,
        (
          record {
            word = finds ws me.0 i h.words mine;
            room = omega (arith, fit, has);
            rises = λ a e l.
                let b = ticket_below x ds h.tickets id there.0 d there.1 live a l in
                let same = get_or_default me.0.tickets a e 0 l in
                omega (arith, b, same);
          },
          refl,
        ),
      )

  pub splits : (id : ℕ) (v : PassView) → Splits (IsKept plan) id v (split_view v) (new_view v)
  splits id v s h at =
      let mine = h.passes id v at in
      let K : PassView → Type 0 = FitsIfLive s.words in
      let there = drawer_there s.views id v at in
      let d : Drawer = drawer_of v in
      let left : K (split_view v) = λ on. let l = mine on in record { sizes = l.sizes; limits = l.limits; size = l.size; notes = l.notes } in
      let right : K (new_view v) = λ on. let l = mine on in record { sizes = l.sizes; limits = l.limits; size = l.size; notes = l.notes } in
      let drew : map drawer_of (set s.views id (split_view v) ++ new_view v ∷ [])
      ≡ set (map drawer_of s.views) id (split_kept d) ++ split_off d ∷ [] =
      map-append drawer_of (set s.views id (split_view v)) (new_view v ∷ [])
      ∙ ap (λ (ds : List Drawer). ds ++ split_off d ∷ []) (map-set drawer_of s.views id (split_view v)) in
      record {
        zero = h.zero;
        words = h.words;
        passes = each_snoc K (set s.views id (split_view v)) (new_view v)
            (each_set K K s.views id (split_view v) (λ u k. k) h.passes left) right;
        tickets = subst (TicketsKept (ticket_at z s.words)) (sym drew)
            (split_keeps (ticket_at z s.words) (map drawer_of s.views) h.tickets id there.0 d there.1);
      }

  pub joins : (id : ℕ) (v : PassView) (other : ℕ) (w : PassView) → IsTrue v.live → IsTrue w.live
      → Joins (IsKept plan) id v other w (better_view v w) ended_view
  joins id v other w live live' s h at apart there =
      let K : PassView → Type 0 = FitsIfLive s.words in
      let f = h.passes id v at live in
      let at' : get_elem? s.views other ≡ some w =
      ⊎_elim (λ (t : (other ≡ id) × (better_view v w ≡ w)). absurd (apart t.0))
      (λ (t : (other ≢ id) × (get_elem? s.views other ≡ some w)). t.1) (at_set s.views id other (better_view v w) w there) in
      let g = h.passes other w at' live' in
      let both = fits_both z v.notes w.notes s.words f.notes g.notes in
      let mine : FitsBoard plan s.words (better_view v w) = record {
        sizes = f.sizes;
        limits = f.limits;
        size = length-better_notes v.sizes v.notes w.notes ∙ f.size;
        notes = subst (λ (y : Sizes). FitNotes z s.words (better_notes y v.notes w.notes)) (sym f.sizes) both;
      } in
      let one = drawer_there s.views id v at in
      let two = drawer_there s.views other w at' in
      let d : Drawer = drawer_of v in
      let e : Drawer = drawer_of w in
      let drew : map drawer_of (set (set s.views id (better_view v w)) other ended_view)
      ≡ set (set (map drawer_of s.views) id (joined d e)) other nobody =
      map-set drawer_of (set s.views id (better_view v w)) other ended_view
      ∙ ap (λ (ds : List Drawer). set ds other nobody) (map-set drawer_of s.views id (better_view v w)) in
      record {
        zero = h.zero;
        words = h.words;
        passes = each_set K K (set s.views id (better_view v w)) other ended_view (λ u k. k)
            (each_set K K s.views id (better_view v w) (λ u k. k) h.passes (λ _. mine))
            (λ off. absurd (true≢false (sym off)));
        tickets = subst (TicketsKept (ticket_at z s.words)) (sym drew)
            (joined_keeps (ticket_at z s.words) (map drawer_of s.views) h.tickets id one.0 d one.1 other two.0 apart e two.1 live
            live' nobody refl);
      }

  -- the table at the start
  pub kept_first : IsSoundPlan plan → (homes : List _)
      → IsKept plan record { words = opening_words plan; homes = homes; views = first_view plan ∷ [] }
  kept_first sound homes = record {
    zero = refl;
    words = opening_kept plan sound;
    passes = one;
    tickets = first_kept (first_ticket plan sound);
  }
    where
      one : (j : ℕ) (v : PassView) → get_elem? (first_view plan ∷ []) j ≡ some v → FitsIfLive (opening_words plan) v
      one zero v e =
          subst (FitsIfLive (opening_words plan)) (some-injective _ _ e)
          (λ _. record { sizes = refl; limits = refl; size = refl; notes = opening_fits plan sound })
      one (suc j) v e = absurd (some-ne-none v (sym e))
