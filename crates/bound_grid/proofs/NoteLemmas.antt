-- Notes grow, between the words at the start and the limits.
use Rattle.std.proofs.Common.{◌≡◌, ℕ, ◌<◌, ◌≤◌, List, length, set, sym, ◌∙◌, subst, inl, inr, arith}
use Rattle.std.proofs.lemmas.Bool.{cases_lt}
use Rattle.std.proofs.lemmas.List.{length-set, get_or_past}
use Rattle.std.specs.Prelude.{slice_index}
use Rattle.step_core.specs.BoardRule.{Better, NoWorse, better_notes}
use Rattle.step_core.specs.Limits.{sizes_of, limits_of, opening_words}
use Rattle.step_core.specs.Places.{Sizes, falls, word_count}
use Rattle.step_core.specs.PlanLists.{PlanLists}
use Rattle.step_core.specs.SoundPlan.{IsSoundPlan}
use Rattle.step_core.proofs.BetterLemmas.{better_refl, better_trans, better_left, better_right, better_under, at_place, at_better, better_notes_at, length-better_notes}
use Rattle.step_core.proofs.OpeningLemmas.{length-opening_words, opening_kept}
use Rattle.bound_grid.specs.Notes.{AreNotes}

pub no_worse_trans : (z : Sizes) (a b c : List ℕ) → NoWorse z a b → NoWorse z b c → NoWorse z a c
no_worse_trans z a b c x y i = better_trans (falls z i) (slice_index a i) (slice_index b i) (slice_index c i) (x i) (y i)

-- ---- the better notes of two lists of one length
module _ (z : Sizes) (xs ys : List ℕ) where
  past_both : (i : ℕ) → length xs ≤ i → slice_index (better_notes z xs ys) i ≡ 0
  past_both i past = get_or_past (better_notes z xs ys) i 0 (omega (arith, past, length-better_notes z xs ys))

  pub no_worse_left : NoWorse z xs (better_notes z xs ys)
  no_worse_left i =
      elim (cases_lt i (length xs)) [
        | inl inside ↦
            subst (Better (falls z i) (slice_index xs i)) (sym (better_notes_at z xs ys i inside))
            (better_left (falls z i) (slice_index xs i) (slice_index ys i))
        | inr past ↦
            subst (Better (falls z i) (slice_index xs i)) (get_or_past xs i 0 past ∙ sym (past_both i past))
            (better_refl (falls z i) (slice_index xs i))
      ]

  pub no_worse_right : length ys ≡ length xs → NoWorse z ys (better_notes z xs ys)
  no_worse_right same i =
      elim (cases_lt i (length xs)) [
        | inl inside ↦
            subst (Better (falls z i) (slice_index ys i)) (sym (better_notes_at z xs ys i inside))
            (better_right (falls z i) (slice_index xs i) (slice_index ys i))
        | inr past ↦
            subst (Better (falls z i) (slice_index ys i)) (get_or_past ys i 0 (omega (arith, past, same)) ∙ sym (past_both i past))
            (better_refl (falls z i) (slice_index ys i))
      ]

module _ (plan : PlanLists) where
  abbrev z : Sizes
  z = sizes_of plan

  -- the first pass's notes
  pub notes_first : IsSoundPlan plan → AreNotes plan (opening_words plan)
  notes_first sound = record {
    size = length-opening_words plan sound;
    start = λ i. better_refl (falls z i) (slice_index (opening_words plan) i);
    end = λ i. ((opening_kept plan sound).within i).end;
  }

  -- a better word within its limit is noted
  module _ (ns : List ℕ) (i x : ℕ) (are : AreNotes plan ns) (lt : i < word_count z) (up : Better (falls z i) (slice_index ns i) x)
      (top : Better (falls z i) x (slice_index (limits_of plan) i)) where
    inside : i < length ns
    inside = let e = are.size in omega (arith, lt, e)

    pub no_worse_set : NoWorse z ns (set ns i x)
    no_worse_set =
        at_place (λ j y. Better (falls z j) (slice_index ns j) y) ns i x inside up (λ j _. better_refl (falls z j) (slice_index ns j))

    pub notes_set : AreNotes plan (set ns i x)
    notes_set = record {
      size = length-set ns i x ∙ are.size;
      start = no_worse_trans z (opening_words plan) ns (set ns i x) are.start no_worse_set;
      end = at_place (λ j y. Better (falls z j) y (slice_index (limits_of plan) j)) ns i x inside top (λ j _. are.end j);
    }

  pub notes_both : (xs ys : List ℕ) → AreNotes plan xs → AreNotes plan ys → AreNotes plan (better_notes z xs ys)
  notes_both xs ys one two = record {
    size = length-better_notes z xs ys ∙ one.size;
    start = no_worse_trans z (opening_words plan) xs (better_notes z xs ys) one.start (no_worse_left z xs ys);
    end =
        at_better z xs ys (λ j y. Better (falls z j) y (slice_index (limits_of plan) j))
        (λ j a b x y. better_under (falls z j) a b (slice_index (limits_of plan) j) x y) one.end two.end;
  }
