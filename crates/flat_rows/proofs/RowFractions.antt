-- Rows with the same fractions.
use Rattle.std.proofs.Common.{◌≡◌, ℕ, ◌*◌, ◌^◌, ◌≤◌, ◌<◌, List, [], ◌∷◌, All, length, get_or, refl, ap, sym, subst, ◌∙◌, arith}
use Rattle.std.specs.List.{sum_by}
use Rattle.std.proofs.lemmas.List.Elements.{All-nil, All-cons, All-head, All-tail, All-map}
use Rattle.std.proofs.lemmas.List.Sums.{sum_by-cons, sum_by_more_le}
use Rattle.std.proofs.Math.Nat.{le_of_mul-le-mul_right, mul-le-mul_right, mul-pos}
use Rattle.round_out.specs.declared.entry.Entry.{Entry}
use Rattle.step_core.specs.FrameLists.{RowLists}
use Rattle.step_core.specs.SoundFrame.{IsSoundRow}
use Rattle.flat_rows.specs.Fractions.{scaled_entry, scaled_entries, HaveSameFractions}
use Rattle.flat_rows.specs.RowWords.{IsFit}

pub scaled_sum : (k : ℕ) (x : ℕ → ℕ) (es : List Entry)
    → sum_by (λ e. e.num * x e.to) (scaled_entries k es) ≡ k * sum_by (λ e. e.num * x e.to) es
scaled_sum k x [] = omega arith
scaled_sum k x (e ∷ es) =
    sum_by-cons (λ f. f.num * x f.to) (scaled_entry k e) (scaled_entries k es)
    ∙ omega (arith, scaled_sum k x es, ap (λ z. k * z) (sum_by-cons (λ f. f.num * x f.to) e es))

pub scaled_numbers : (k : ℕ) (es : List Entry) → sum_by (λ e. e.num) (scaled_entries k es) ≡ k * sum_by (λ e. e.num) es
scaled_numbers k [] = omega arith
scaled_numbers k (e ∷ es) =
    sum_by-cons (λ f. f.num) (scaled_entry k e) (scaled_entries k es)
    ∙ omega (arith, scaled_numbers k es, ap (λ z. k * z) (sum_by-cons (λ f. f.num) e es))

scaled_twice : (k j : ℕ) (es : List Entry) → scaled_entries k (scaled_entries j es) ≡ scaled_entries (k * j) es
scaled_twice k j [] = refl
scaled_twice k j (e ∷ es) =
    let n : k * (j * e.num) ≡ k * j * e.num = omega arith in
    rw (n, scaled_twice k j es) refl

module _ {row other : RowLists} (same : HaveSameFractions row other) where
  pub same_products : (x : ℕ → ℕ)
      → same.scale * sum_by (λ e. e.num * x e.to) row.entries ≡ same.other_scale * sum_by (λ e. e.num * x e.to) other.entries
  same_products x =
      sym (scaled_sum same.scale x row.entries)
      ∙ (ap (sum_by (λ e. e.num * x e.to)) same.same_entries ∙ scaled_sum same.other_scale x other.entries)

  same_numbers : same.scale * sum_by (λ e. e.num) row.entries ≡ same.other_scale * sum_by (λ e. e.num) other.entries
  same_numbers =
      sym (scaled_numbers same.scale row.entries)
      ∙ (ap (sum_by (λ e. e.num)) same.same_entries ∙ scaled_numbers same.other_scale other.entries)

-- two numbers that come out the same, multiplied by one
cancel : (k a b : ℕ) → 0 < k → k * a ≡ k * b → a ≡ b
cancel k a b some e =
    let up : a ≤ b = le_of_mul-le-mul_right {k = k} (omega (arith, e)) some in
    let down : b ≤ a = le_of_mul-le-mul_right {k = k} (omega (arith, e)) some in
    omega arith

below_scaled : (k n : ℕ) (es : List Entry) → All (λ e. e.to < n) (scaled_entries k es) → All (λ e. e.to < n) es
below_scaled k n [] h = All-nil (λ e. e.to < n)
below_scaled k n (e ∷ es) h =
    All-cons (λ f. f.to < n) e es (All-head (λ f. f.to < n) (scaled_entry k e) (scaled_entries k es) h)
    (below_scaled k n es (All-tail (λ f. f.to < n) (scaled_entry k e) (scaled_entries k es) h))

-- a row with the fractions of a sound one fits
pub fits_as : (n : ℕ) {row other : RowLists} → HaveSameFractions row other → IsSoundRow n other → row.den < 2 ^ 63 → IsFit n row
fits_as n {row} {other} same good fits = record {
  targets =
      below_scaled same.scale n row.entries
      (subst (All (λ e. e.to < n)) (sym same.same_entries)
      (All-map (λ e. e.to < n) (scaled_entry same.other_scale) other.entries good.targets));
  whole =
      cancel same.scale _ _ same.some_scale
      (same_numbers same ∙ (ap (λ z. same.other_scale * z) good.whole ∙ sym same.same_den));
  fits = fits;
}

-- a row that is multiplied, or is as it was, has the same fractions
pub same_itself : (row : RowLists) → HaveSameFractions row row
same_itself row = record {
  scale = 1;
  other_scale = 1;
  some_scale = omega arith;
  some_other_scale = omega arith;
  same_den = refl;
  same_entries = refl;
}

-- as a row that is multiplied, so as the row
pub as_unscaled : (k den : ℕ) {row other : RowLists} → 0 < k → den ≡ other.den * k
    → HaveSameFractions row (record { den = den; entries = scaled_entries k other.entries }) → HaveSameFractions row other
as_unscaled k den {row} {other} some e same = record {
  scale = same.scale;
  other_scale = same.other_scale * k;
  some_scale = same.some_scale;
  some_other_scale = mul-pos same.some_other_scale some;
  same_den = same.same_den ∙ omega (arith, ap (λ z. same.other_scale * z) e);
  same_entries = same.same_entries ∙ scaled_twice same.other_scale k other.entries;
}

-- a row of one entry surely leads to its target
pub sure_fractions : (es : List Entry) (k den : ℕ) (d : Entry) → 1 ≤ length es → length es < 2 → 0 < den → sum_by (λ e. e.num) es * k ≡ den
    → HaveSameFractions (record { den = 1; entries = record { to = (get_or es 0 d).to; num = 1 } ∷ [] })
    (record { den = den; entries = scaled_entries k es })
sure_fractions [] k den d l h some q = absurd (omega arith)
sure_fractions (x ∷ []) k den d l h some q = record {
  scale = den;
  other_scale = 1;
  some_scale = some;
  some_other_scale = omega arith;
  same_den = omega arith;
  same_entries = (
      let n : den * 1 ≡ 1 * (k * x.num) = omega (arith, ap (λ z. z * k) (sum_by-cons (λ e. e.num) x []), q) in
      ap (λ z. record { to = x.to; num = z } ∷ []) n);
}
sure_fractions (x ∷ y ∷ xs) k den d l h some q = absurd (omega arith)

-- numbers that are moved still fit
pub entries_fit : (es : List Entry) (den power : ℕ) → sum_by (λ e. e.num) es ≡ den → den * power < 2 ^ 63
    → All (λ e. e.num * power < 2 ^ 64) es
entries_fit es den power whole fits k d l =
    let small : (get_or es k d).num ≤ den = omega (arith, sum_by_more_le (λ e. e.num) es k d l, whole) in
    omega (arith, mul-le-mul_right power small, fits)
