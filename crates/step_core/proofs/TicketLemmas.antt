-- What passes do with tickets keeps them. No view, no machine and no board is spoken of here.
use Rattle.std.proofs.Common.{◌≡◌, ◌≢◌, ℕ, zero, suc, ◌+◌, ◌-◌, ◌<◌, ◌≤◌, List, [], ◌∷◌, ◌++◌, length, set, get_or, min, Bool, true, false, refl, sym, ap, ◌∙◌, subst, inl, inr, arith}
use Rattle.std.proofs.lemmas.Bool.{cases_eq, cases_lt, eq-eqb, ne_eqb}
use Rattle.std.proofs.lemmas.List.{length-set, get_or-set_other}
use Rattle.std.proofs.lemmas.List.Sums.{sum_by-set, sum_by_push, sum_by-append, sum_by-cons}
use Rattle.std.specs.List.{sum_by, count_by}
use Rattle.std.specs.Prelude.{IsTrue, ◌==◌, slice_index, if◌then◌else◌}
use Rattle.step_core.specs.Tickets.{Drawer, times_held, TicketsKept, with_ticket, split_kept, split_off, joined}
use Rattle.step_core.specs.declared.draws.TheConstants.{MOST_DRAWS, SPLIT_DRAWS}

-- one that has nothing
abbrev pub nobody : Drawer
nobody = record { live = false; tickets = []; draws = 0 }

-- how often it may draw, and how often it holds a ticket
abbrev pub left : Drawer → ℕ
left d = if d.live then d.draws else 0

abbrev pub held : ℕ → Drawer → ℕ
held t d = if d.live then count_by (λ u. u == t) d.tickets else 0

-- ---- how often a ticket stands in a list
abbrev times : ℕ → List ℕ → ℕ
times t ts = count_by (λ u. u == t) ts

times_one : (t u : ℕ) → (u ≡ t → ⊥) → times t (u ∷ []) ≡ 0
times_one t u ne = rw (ne_eqb u t ne) refl

times_here : (t : ℕ) → times t (t ∷ []) ≡ 1
times_here t = rw (eq-eqb t t refl) refl

pub stands : (t : ℕ) (ts : List ℕ) (a : ℕ) → a < length ts → slice_index ts a ≡ t → 0 < times t ts
stands t [] a lt e = absurd (omega (arith, lt))
stands t (u ∷ us) zero lt e =
    let here = sum_by-cons (λ x. if x == t then 1 else 0) u us in
    let one : ◌≡◌ {A = ℕ} (if u == t then 1 else 0) 1 = rw (eq-eqb u t e) refl in
    omega (arith, here, one)
stands t (u ∷ us) (suc a) lt e =
    let here = sum_by-cons (λ x. if x == t then 1 else 0) u us in
    let more = stands t us a (omega (arith, lt)) e in
    omega (arith, here, more)

pub stands_twice : (t : ℕ) (ts : List ℕ) (a b : ℕ) → a < b → b < length ts → slice_index ts a ≡ t → slice_index ts b ≡ t
    → 1 < times t ts
stands_twice t [] a b lt inside e f = absurd (omega (arith, inside))
stands_twice t (u ∷ us) a zero lt inside e f = absurd (omega (arith, lt))
stands_twice t (u ∷ us) zero (suc b) lt inside e f =
    let here = sum_by-cons (λ x. if x == t then 1 else 0) u us in
    let one : ◌≡◌ {A = ℕ} (if u == t then 1 else 0) 1 = rw (eq-eqb u t e) refl in
    let more = stands t us b (omega (arith, inside)) f in
    omega (arith, here, one, more)
stands_twice t (u ∷ us) (suc a) (suc b) lt inside e f =
    let here = sum_by-cons (λ x. if x == t then 1 else 0) u us in
    let more = stands_twice t us a b (omega (arith, lt)) (omega (arith, inside)) e f in
    omega (arith, here, more)

-- ---- what a live one has
left_live : (d : Drawer) → IsTrue d.live → left d ≡ d.draws
left_live d live = rw live refl

held_live : (t : ℕ) (d : Drawer) → IsTrue d.live → held t d ≡ times t d.tickets
held_live t d live = rw live refl

-- ---- what is left of two parts
halves : (b : Bool) (n : ℕ) → (if b then (n - min SPLIT_DRAWS n) else 0) + (if b then min SPLIT_DRAWS n else 0) ≡ (if b then n else 0)
halves true n = omega arith
halves false n = refl

none_off : (b : Bool) → ◌≡◌ {A = ℕ} (if b then 0 else 0) 0
none_off true = refl
none_off false = refl

-- ---- each of them in turn
module _ (next : ℕ) (ds : List Drawer) (kept : TicketsKept next ds) (i : ℕ) (lt : i < length ds) (mine : Drawer)
    (here : get_or ds i nobody ≡ mine) where
  -- a sum over one place that changes
  placed : (f : Drawer → ℕ) (y : Drawer) → sum_by f (set ds i y) + f mine ≡ sum_by f ds + f y
  placed f y = subst (λ (d : Drawer). sum_by f (set ds i y) + f d ≡ sum_by f ds + f y) here (sum_by-set f ds i y nobody lt)

  -- what one holds of one sum
  one_le : (f : Drawer → ℕ) → f nobody ≡ 0 → f mine ≤ sum_by f ds
  one_le f z = let e = placed f nobody in omega (arith, e, z)

  -- ---- a draw
  module _ (live : IsTrue mine.live) where
    abbrev richer : Drawer
    richer = with_ticket mine next

    held_more : (t : ℕ) → held t richer ≡ held t mine + times t (next ∷ [])
    held_more t =
        held_live t richer live ∙ (sum_by-append (λ u. if u == t then 1 else 0) mine.tickets (next ∷ [])
        ∙ ap (λ (n : ℕ). n + times t (next ∷ [])) (sym (held_live t mine live)))

    change : (t : ℕ) → times_held (set ds i richer) t ≡ times_held ds t + times t (next ∷ [])
    change t = let e = placed (held t) richer in let m = held_more t in omega (arith, e, m)

    other : (t : ℕ) → t ≢ next → times_held (set ds i richer) t ≡ times_held ds t
    other t ne = let e = change t in let z = times_one t next (λ q. ne (sym q)) in omega (arith, e, z)

    none : times_held ds next ≡ 0
    none =
        elim (cases_lt 0 (times_held ds next)) [
          | inl some ↦ (let h = kept.below next some in absurd (omega (arith, h)))
          | inr past ↦ omega (arith, past)
        ]

    fresh : times_held (set ds i richer) next ≤ 1
    fresh = let e = change next in let o = times_here next in omega (arith, e, o, none)

    pub drawn_keeps : 0 < mine.draws → TicketsKept (next + 1) (set ds i richer)
    drawn_keeps some = record {
      room =
          let e = placed left richer in
          let r = kept.room in
          omega (arith, e, r, some, left_live mine live, left_live richer live);
      below = λ t on. elim (cases_eq t next) [
        | inl same ↦ omega (arith, same)
        | inr ne ↦ (let h = kept.below t (subst (λ (n : ℕ). 0 < n) (other t ne) on) in omega (arith, h))
      ];
      once = λ t. elim (cases_eq t next) [
        | inl same ↦ subst (λ (u : ℕ). times_held (set ds i richer) u ≤ 1) (sym same) fresh
        | inr ne ↦ (let h = kept.once t in let e = other t ne in omega (arith, h, e))
      ];
    }

  -- ---- a split
  same_split : (t : ℕ) → times_held (set ds i (split_kept mine) ++ split_off mine ∷ []) t ≡ times_held ds t
  same_split t =
      let e = placed (held t) (split_kept mine) in
      let p = sum_by_push (held t) (set ds i (split_kept mine)) (split_off mine) in
      let o = none_off mine.live in
      omega (arith, e, p, o)

  pub split_keeps : TicketsKept next (set ds i (split_kept mine) ++ split_off mine ∷ [])
  split_keeps = record {
    room =
        let e = placed left (split_kept mine) in
        let p = sum_by_push left (set ds i (split_kept mine)) (split_off mine) in
        let s = halves mine.live mine.draws in
        let r = kept.room in
        omega (arith, e, p, s, r);
    below = λ t on. kept.below t (subst (λ (n : ℕ). 0 < n) (same_split t) on);
    once = λ t. subst (λ (n : ℕ). n ≤ 1) (sym (same_split t)) (kept.once t);
  }

  -- ---- two of them
  module _ (j : ℕ) (ltj : j < length ds) (ne : j ≢ i) (yours : Drawer) (there : get_or ds j nobody ≡ yours) where
    -- a sum over two places that change
    two_places : (f : Drawer → ℕ) (a b : Drawer) → sum_by f (set (set ds i a) j b) + (f mine + f yours) ≡ sum_by f ds + (f a + f b)
    two_places f a b =
        let e = placed f a in
        let g = sum_by-set f (set ds i a) j b nobody (omega (arith, ltj, length-set ds i a)) in
        let o : f (get_or (set ds i a) j nobody) ≡ f yours = ap f (get_or-set_other ds i j a nobody ne ∙ there) in
        omega (arith, e, g, o)

    both_le : (f : Drawer → ℕ) → f nobody ≡ 0 → f mine + f yours ≤ sum_by f ds
    both_le f z = let e = two_places f nobody nobody in omega (arith, e, z)

    module _ (live : IsTrue mine.live) (live' : IsTrue yours.live) (gone : Drawer) (off : gone.live ≡ false) where
      same_joined : (t : ℕ) → times_held (set (set ds i (joined mine yours)) j gone) t ≡ times_held ds t
      same_joined t =
          let e = two_places (held t) (joined mine yours) gone in
          let z : held t gone ≡ 0 = rw off refl in
          let a = sum_by-append (λ u. if u == t then 1 else 0) mine.tickets yours.tickets in
          let l = held_live t mine live in
          let l' = held_live t yours live' in
          let both = held_live t (joined mine yours) live in
          omega (arith, e, z, a, l, l', both)

      pub joined_keeps : TicketsKept next (set (set ds i (joined mine yours)) j gone)
      joined_keeps = record {
        room =
            let e = two_places left (joined mine yours) gone in
            let r = kept.room in
            let z : left gone ≡ 0 = rw off refl in
            omega (arith, e, r, z, left_live mine live, left_live yours live', left_live (joined mine yours) live);
        below = λ t on. kept.below t (subst (λ (n : ℕ). 0 < n) (same_joined t) on);
        once = λ t. subst (λ (n : ℕ). n ≤ 1) (sym (same_joined t)) (kept.once t);
      }

    module _ (live : IsTrue mine.live) (live' : IsTrue yours.live) where
      pub draws_fit : mine.draws + yours.draws ≤ MOST_DRAWS
      draws_fit =
          let h = both_le left refl in
          let r = kept.room in
          omega (arith, h, r, left_live mine live, left_live yours live')

      pub ticket_apart : (a b : ℕ) → a < length mine.tickets → b < length yours.tickets
          → slice_index mine.tickets a ≢ slice_index yours.tickets b
      ticket_apart a b ina inb same =
          let t : ℕ = slice_index yours.tickets b in
          let h = both_le (held t) refl in
          let o = kept.once t in
          let s = stands t mine.tickets a ina same in
          let s' = stands t yours.tickets b inb refl in
          let l = held_live t mine live in
          let l' = held_live t yours live' in
          omega (arith, h, o, s, s', l, l')

  -- ---- what is kept says of a live one
  module _ (live : IsTrue mine.live) where
    pub draw_fits : next + mine.draws ≤ MOST_DRAWS
    draw_fits = let h = one_le left refl in let r = kept.room in omega (arith, h, r, left_live mine live)

    pub ticket_below : (a : ℕ) → a < length mine.tickets → slice_index mine.tickets a < next
    ticket_below a inside =
        let t : ℕ = slice_index mine.tickets a in
        let h = one_le (held t) refl in
        let s = stands t mine.tickets a inside refl in
        let l = held_live t mine live in
        kept.below t (omega (arith, h, s, l))

    pub ticket_once : (a b : ℕ) → a < length mine.tickets → b < length mine.tickets
        → slice_index mine.tickets a ≡ slice_index mine.tickets b → a ≡ b
    ticket_once a b ina inb same =
        let t : ℕ = slice_index mine.tickets b in
        let h = one_le (held t) refl in
        let o = kept.once t in
        let l = held_live t mine live in
        elim (cases_lt a b) [
          | inl less ↦ (let s = stands_twice t mine.tickets a b less inb same refl in absurd (omega (arith, h, o, s, l)))
          | inr ge ↦
              elim (cases_lt b a) [
                | inl more ↦ (let s = stands_twice t mine.tickets b a more ina refl same in absurd (omega (arith, h, o, s, l)))
                | inr le ↦ omega (arith, ge, le)
              ]
        ]

-- ---- at the start one has all draws
abbrev pub first_drawer : Drawer
first_drawer = record { live = true; tickets = []; draws = MOST_DRAWS }

pub first_kept : {next : ℕ} → next ≡ 0 → TicketsKept next (first_drawer ∷ [])
first_kept {next} e = record {
  room = omega (arith, e);
  below = λ t on. absurd (omega (arith, on));
  once = λ t. omega arith;
}
