-- Two passes that meet, word by word.
use Rattle.std.proofs.Common.{◌≡◌, ◌≢◌, ℕ, zero, suc, ◌+◌, ◌<◌, ◌≤◌, List, [], ◌∷◌, length, set, refl, sym, ap, ◌∙◌, subst, inl, inr, arith}
use Rattle.std.proofs.lemmas.Bool.{cases_eq}
use Rattle.std.proofs.lemmas.List.{length-set, get_or-set_same, get_or-set_other, ext_get_or}
use Rattle.std.specs.Prelude.{slice_index}
use Rattle.step_core.specs.BoardRule.{better_of, better_notes}
use Rattle.step_core.specs.CoreLists.{PassLists, CoreLists, drawer_of, pass_with, no_pass, pass_at}
use Rattle.step_core.specs.Events.{met}
use Rattle.step_core.specs.Limits.{sizes_of}
use Rattle.step_core.specs.MeetSteps.{draws_joined, word_met, without}
use Rattle.step_core.specs.Places.{Sizes, falls}
use Rattle.step_core.specs.PlanLists.{PlanLists}
use Rattle.step_core.specs.Tickets.{Drawer, joined, ended}
use Rattle.step_core.proofs.BetterLemmas.{length-better_notes, better_notes_at}

-- the machine in which a pass has drawn so, and has these notes
abbrev pub with_notes : CoreLists → ℕ → Drawer → List ℕ → CoreLists
with_notes core pass d ns = record { sizes = core.sizes; words = core.words; passes = set core.passes pass (pass_with d ns) }

-- ---- the first i notes are the better ones, and the others are as before
pub record MergedTo (z : Sizes) (xs ys : List ℕ) (i : ℕ) (ns : List ℕ) : Type 0 where
  pub size : length ns ≡ length xs
  pub done : (j : ℕ) → j < i → slice_index ns j ≡ better_of (falls z j) (slice_index xs j) (slice_index ys j)
  pub rest : (j : ℕ) → i ≤ j → slice_index ns j ≡ slice_index xs j

pub merged_none : (z : Sizes) (xs ys : List ℕ) → MergedTo z xs ys 0 xs
merged_none z xs ys = record { size = refl; done = λ j lt. absurd (omega arith); rest = λ j le. refl }

pub merged_next : (z : Sizes) (xs ys : List ℕ) (i : ℕ) (ns : List ℕ) → i < length xs → MergedTo z xs ys i ns
    → MergedTo z xs ys (i + 1) (set ns i (better_of (falls z i) (slice_index ns i) (slice_index ys i)))
merged_next z xs ys i ns lt was =
    let x : ℕ = better_of (falls z i) (slice_index ns i) (slice_index ys i) in
    record {
      size = length-set ns i x ∙ was.size;
      done = λ j less. elim (cases_eq j i) [
        | inl e ↦
            subst (λ (k : ℕ). slice_index (set ns i x) k ≡ better_of (falls z k) (slice_index xs k) (slice_index ys k)) (sym e)
            (get_or-set_same ns i x 0 (omega (arith, was.size))
            ∙ ap (λ (y : ℕ). better_of (falls z i) y (slice_index ys i)) (was.rest i (omega arith)))
        | inr ne ↦ get_or-set_other ns i j x 0 ne ∙ was.done j (omega (arith, ne))
      ];
      rest = λ j le. get_or-set_other ns i j x 0 (λ (e : j ≡ i). omega arith) ∙ was.rest j (omega arith);
    }

pub merged_all : (z : Sizes) (xs ys : List ℕ) (i : ℕ) (ns : List ℕ) → length xs ≤ i → MergedTo z xs ys i ns → ns ≡ better_notes z xs ys
merged_all z xs ys i ns past was =
    ext_get_or 0 ns (better_notes z xs ys) (was.size ∙ sym (length-better_notes z xs ys))
    (λ j lt. was.done j (omega (arith, was.size)) ∙ sym (better_notes_at z xs ys j (omega (arith, was.size))))

-- what was set last stays
pub set_twice : {A : Type 0} (l : List A) (i : ℕ) (a b : A) → set (set l i a) i b ≡ set l i b
set_twice [] i a b = refl
set_twice (x ∷ xs) zero a b = refl
set_twice (x ∷ xs) (suc i) a b = ap (λ ys. x ∷ ys) (set_twice xs i a b)

module _ (core : CoreLists) (kept : ℕ) (there : kept < length core.passes) (d : Drawer) where
  pub kept_is : (ns : List ℕ) → pass_at (with_notes core kept d ns) kept ≡ pass_with d ns
  kept_is ns = get_or-set_same core.passes kept (pass_with d ns) no_pass there

  other_is : (ns : List ℕ) (j : ℕ) → j ≢ kept → pass_at (with_notes core kept d ns) j ≡ pass_at core j
  other_is ns j ne = get_or-set_other core.passes kept j (pass_with d ns) no_pass ne

  -- one word more
  pub met_word : (now : CoreLists) (other i : ℕ) (ns : List ℕ) → other ≢ kept → now ≡ with_notes core kept d ns
      → word_met now kept other i
      ≡ with_notes core kept d (set ns i (better_of (falls core.sizes i) (slice_index ns i) (slice_index (pass_at core other).notes i)))
  met_word now other i ns ne is =
      let x : List ℕ → List ℕ → ℕ = λ ms os. better_of (falls core.sizes i) (slice_index ms i) (slice_index os i) in
      subst
      (λ (m : CoreLists). word_met m kept other i ≡ with_notes core kept d (set ns i (x ns (pass_at core other).notes))) (sym is)
      (ap (λ (vs : List PassLists). record { sizes = core.sizes; words = core.words; passes = vs })
      ((λ t. set (set core.passes kept (pass_with d ns)) kept
      (pass_with (drawer_of (kept_is ns t)) (set (kept_is ns t).notes i (x (kept_is ns t).notes (other_is ns other ne t).notes))))
      ∙ set_twice core.passes kept (pass_with d ns) (pass_with d (set ns i (x ns (pass_at core other).notes)))))

  -- and then the other pass ends
  pub met_end : (plan : PlanLists) (now : CoreLists) (other : ℕ) (ns : List ℕ) → other ≢ kept → now ≡ with_notes core kept d ns
      → d ≡ joined (drawer_of (pass_at core kept)) (drawer_of (pass_at core other))
      → ns ≡ better_notes (sizes_of plan) (pass_at core kept).notes (pass_at core other).notes
      → without now other ≡ met plan core kept other
  met_end plan now other ns ne is so e =
      subst (λ (m : CoreLists). without m other ≡ met plan core kept other) (sym is)
      (ap (λ (vs : List PassLists). record { sizes = core.sizes; words = core.words; passes = vs })
      (λ t. set (set core.passes kept (pass_with (so t) (e t))) other
      (pass_with (ended (drawer_of (other_is ns other ne t))) (other_is ns other ne t).notes)))

-- a meeting before the word at i
pub record Meeting (core : CoreLists) (kept other i : ℕ) (now : CoreLists) : Type 0 where
  pub notes : List ℕ
  pub is : now ≡ with_notes core kept (joined (drawer_of (pass_at core kept)) (drawer_of (pass_at core other))) notes
  pub merged : MergedTo core.sizes (pass_at core kept).notes (pass_at core other).notes i notes

module _ (core : CoreLists) (kept other : ℕ) (there : kept < length core.passes) (ne : other ≢ kept) where
  abbrev both : Drawer
  both = joined (drawer_of (pass_at core kept)) (drawer_of (pass_at core other))

  pub meeting_begins : (now : CoreLists) → now ≡ draws_joined core kept other → Meeting core kept other 0 now
  meeting_begins now is = record {
    notes = (pass_at core kept).notes;
    is = is;
    merged = merged_none core.sizes (pass_at core kept).notes (pass_at core other).notes;
  }

  pub meeting_goes_on : (i : ℕ) (now : CoreLists) → i < length (pass_at core kept).notes → Meeting core kept other i now
      → Meeting core kept other (i + 1) (word_met now kept other i)
  meeting_goes_on i now lt was = record {
    notes = set was.notes i (better_of (falls core.sizes i) (slice_index was.notes i) (slice_index (pass_at core other).notes i));
    is = met_word core kept there both now other i was.notes ne was.is;
    merged = merged_next core.sizes (pass_at core kept).notes (pass_at core other).notes i was.notes lt was.merged;
  }

  pub meeting_ends : (plan : PlanLists) (i : ℕ) (now : CoreLists) → core.sizes ≡ sizes_of plan → length (pass_at core kept).notes ≤ i
      → Meeting core kept other i now → without now other ≡ met plan core kept other
  meeting_ends plan i now sizes past was =
      let all = merged_all core.sizes (pass_at core kept).notes (pass_at core other).notes i was.notes past was.merged in
      met_end core kept there both plan now other was.notes ne was.is refl
      (all ∙ ap (λ z. better_notes z (pass_at core kept).notes (pass_at core other).notes) sizes)

  -- the passes are as many as before
  pub meeting_there : (i j : ℕ) (now : CoreLists) → j < length core.passes → Meeting core kept other i now → j < length now.passes
  meeting_there i j now lt was =
      subst (λ (m : CoreLists). j < length m.passes) (sym was.is)
      (let e = length-set core.passes kept (pass_with both was.notes) in omega (arith, e, lt))

  pub meeting_sizes : (i : ℕ) (now : CoreLists) → Meeting core kept other i now → now.sizes ≡ core.sizes
  meeting_sizes i now was = ap (λ (m : CoreLists). m.sizes) was.is
