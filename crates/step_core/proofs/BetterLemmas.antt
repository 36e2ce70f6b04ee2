-- A step that makes one word better, within its limit, keeps the rule; and what notes then fit. No view and no pass is spoken of here.
use Rattle.std.proofs.Common.{◌≡◌, ◌≢◌, ℕ, ◌<◌, List, length, set, Bool, true, false, sym, ◌∙◌, subst, le_refl, le_trans, inl, inr, arith}
use Rattle.std.proofs.Math.Nat.{le_antisymm}
use Rattle.std.proofs.lemmas.Bool.{cases_eq, cases_lt}
use Rattle.std.proofs.lemmas.List.{length-set, get_or-set_same, get_or-set_other, get_or_past}
use Rattle.std.proofs.lemmas.List.FromFn.{get_or-map-range_with_len, length-map-range_with_len}
use Rattle.std.specs.Prelude.{slice_index}
use Rattle.step_core.specs.BoardRule.{Better, worst, better_of, IsWithin, NoWorse, FitNotes, WordsKept, better_notes}
use Rattle.step_core.specs.Places.{Sizes, falls, IsSealOf}

-- ---- better words
pub better_refl : (f : Bool) (a : ℕ) → Better f a a
better_refl true a = le_refl a
better_refl false a = le_refl a

pub better_trans : (f : Bool) (a b c : ℕ) → Better f a b → Better f b c → Better f a c
better_trans true a b c x y = le_trans y x
better_trans false a b c x y = le_trans x y

pub better_antisym : (f : Bool) (a b : ℕ) → Better f a b → Better f b a → a ≡ b
better_antisym true a b x y = le_antisymm y x
better_antisym false a b x y = le_antisymm x y

-- what is at its limit stays there
pub stays_best : (f : Bool) (a b m : ℕ) → Better f a b → Better f b m → a ≡ m → b ≡ m
stays_best f a b m x y e = better_antisym f b m y (subst (λ k. Better f k b) e x)

pub better_left : (f : Bool) (a b : ℕ) → Better f a (better_of f a b)
better_left true a b = omega arith
better_left false a b = omega arith

pub better_right : (f : Bool) (a b : ℕ) → Better f b (better_of f a b)
better_right true a b = omega arith
better_right false a b = omega arith

pub better_under : (f : Bool) (a b c : ℕ) → Better f a c → Better f b c → Better f (better_of f a b) c
better_under true a b c x y = omega arith
better_under false a b c x y = omega arith

-- ---- a list of which one place was set
pub at_place : (P : ℕ → ℕ → Type 0) (xs : List ℕ) (i x : ℕ) → i < length xs → P i x → ((j : ℕ) → j ≢ i → P j (slice_index xs j))
    → (j : ℕ) → P j (slice_index (set xs i x) j)
at_place P xs i x lt here there j =
    elim (cases_eq j i) [
      | inl e ↦ subst (λ k. P k (slice_index (set xs i x) k)) (sym e) (subst (λ y. P i y) (sym (get_or-set_same xs i x 0 lt)) here)
      | inr ne ↦ subst (λ y. P j y) (sym (get_or-set_other xs i j x 0 ne)) (there j ne)
    ]

-- notes of one word that is no better than the word
pub fits_noted : (z : Sizes) (ws ns : List ℕ) (i x : ℕ) → i < length ns → Better (falls z i) (worst (falls z i)) x
    → Better (falls z i) x (slice_index ws i) → FitNotes z ws ns → FitNotes z ws (set ns i x)
fits_noted z ws ns i x lt begun below f = record {
  start = at_place (λ j y. Better (falls z j) (worst (falls z j)) y) ns i x lt begun (λ j _. f.start j);
  below = at_place (λ j y. Better (falls z j) y (slice_index ws j)) ns i x lt below (λ j _. f.below j);
}

module _ (z : Sizes) (limits ws : List ℕ) (i x : ℕ) (lt : i < length ws) (up : Better (falls z i) (slice_index ws i) x)
    (top : Better (falls z i) x (slice_index limits i)) where
  better_words : NoWorse z ws (set ws i x)
  better_words =
      at_place (λ j y. Better (falls z j) (slice_index ws j) y) ws i x lt up (λ j _. better_refl (falls z j) (slice_index ws j))

  stays : (j : ℕ) → slice_index ws j ≡ slice_index limits j → slice_index (set ws i x) j ≡ slice_index limits j
  stays =
      at_place (λ j y. slice_index ws j ≡ slice_index limits j → y ≡ slice_index limits j) ws i x lt
      (stays_best (falls z i) (slice_index ws i) x (slice_index limits i) up top) (λ j _ e. e)

  -- a word that gets better within its limit keeps the rule, where a seal that is set vouches for words at their limits
  pub words_step : WordsKept z limits ws
      → ((j : ℕ) → IsSealOf z i j → 0 < x → slice_index ws j ≡ slice_index limits j) → WordsKept z limits (set ws i x)
  words_step h vouched = record {
    count = length-set ws i x ∙ h.count;
    within =
        at_place (IsWithin z limits) ws i x lt
        record { start = better_trans (falls z i) (worst (falls z i)) (slice_index ws i) x (h.within i).start up; end = top }
        (λ j _. h.within j);
    layer_zero = λ j is. stays j (h.layer_zero j is);
    sealed =
        at_place (λ a y. (b : ℕ) → IsSealOf z a b → 0 < y → slice_index (set ws i x) b ≡ slice_index limits b) ws i x lt
        (λ b g on. stays b (vouched b g on)) (λ a _ b g on. stays b (h.sealed a b g on));
  }

  -- notes that fit still do
  pub fits_still : (ns : List ℕ) → FitNotes z ws ns → FitNotes z (set ws i x) ns
  fits_still ns f = record {
    start = f.start;
    below = λ k. better_trans (falls z k) (slice_index ns k) (slice_index ws k) (slice_index (set ws i x) k) (f.below k) (better_words k);
  }

  -- and the new word can be noted
  pub fits_turned : (ns : List ℕ) → i < length ns → Better (falls z i) (worst (falls z i)) (slice_index ws i) → FitNotes z ws ns
      → FitNotes z (set ws i x) (set ns i x)
  fits_turned ns inside begun f =
      fits_noted z (set ws i x) ns i x inside (better_trans (falls z i) (worst (falls z i)) (slice_index ws i) x begun up)
      (subst (Better (falls z i) x) (sym (get_or-set_same ws i x 0 lt)) (better_refl (falls z i) x)) (fits_still ns f)

-- ---- the better of two lists of notes
module _ (z : Sizes) (xs ys : List ℕ) where
  pub length-better_notes : length (better_notes z xs ys) ≡ length xs
  length-better_notes =
      length-map-range_with_len (λ i. better_of (falls z i) (slice_index xs i) (slice_index ys i)) 0 (length xs)

  pub better_notes_at : (i : ℕ) → i < length xs
      → slice_index (better_notes z xs ys) i ≡ better_of (falls z i) (slice_index xs i) (slice_index ys i)
  better_notes_at i lt =
      get_or-map-range_with_len (λ j. better_of (falls z j) (slice_index xs j) (slice_index ys j)) 0 (length xs) i i 0 lt (omega arith)

  -- what holds of both notes at each place holds of the better one
  pub at_better : (P : ℕ → ℕ → Type 0) → ((i a b : ℕ) → P i a → P i b → P i (better_of (falls z i) a b))
      → ((i : ℕ) → P i (slice_index xs i)) → ((i : ℕ) → P i (slice_index ys i)) → (i : ℕ) → P i (slice_index (better_notes z xs ys) i)
  at_better P both a b i =
      elim (cases_lt i (length xs)) [
        | inl inside ↦ subst (P i) (sym (better_notes_at i inside)) (both i (slice_index xs i) (slice_index ys i) (a i) (b i))
        | inr past ↦ (
            let none = get_or_past xs i 0 past in
            let same : slice_index (better_notes z xs ys) i ≡ 0 = get_or_past (better_notes z xs ys) i 0 (omega
            (arith, length-better_notes)) in
            subst (P i) (none ∙ sym same) (a i))
      ]

  pub fits_both : (ws : List ℕ) → FitNotes z ws xs → FitNotes z ws ys → FitNotes z ws (better_notes z xs ys)
  fits_both ws f g = record {
    start =
        at_better (λ j y. Better (falls z j) (worst (falls z j)) y)
        (λ j a b x _. better_trans (falls z j) (worst (falls z j)) a (better_of (falls z j) a b) x (better_left
        (falls z j) a b)) f.start g.start;
    below =
        at_better (λ j y. Better (falls z j) y (slice_index ws j))
        (λ j a b x y. better_under (falls z j) a b (slice_index ws j) x y) f.below g.below;
  }
