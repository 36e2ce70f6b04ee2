-- The sums of a row's first entries, one entry more at a time.
use Rattle.std.proofs.Common.{◌≡◌, ℕ, zero, suc, ◌+◌, ◌*◌, ◌^◌, ◌<◌, ◌≤◌, List, [], ◌∷◌, ◌++◌, All, length, map, take, get_or, refl, sym, ap, ◌∙◌, subst, inl, inr, arith}
use Rattle.std.specs.List.{sum_by}
use Rattle.std.specs.Prelude.{slice_index}
use Rattle.std.proofs.Math.Nat.{mul-le-mul, mul-le-mul_left, mul-le-mul_right}
use Rattle.std.proofs.Math.Seq.{take-suc}
use Rattle.std.proofs.lemmas.Bool.{cases_eq}
use Rattle.std.proofs.lemmas.List.{get_or-map, get_or-take, length-map, length-take-le}
use Rattle.std.proofs.lemmas.List.Elements.{All-nil, All-head, All-tail, All-push}
use Rattle.std.proofs.lemmas.List.Sums.{sum_by-cons, sum_by_more_le}
use Rattle.bound_grid.specs.declared.board.Board.{Board}
use Rattle.bound_grid.specs.declared.board.Pass.{Pass}
use Rattle.bound_grid.specs.Passes.{seal_note}
use Rattle.round_out.specs.declared.entry.Entry.{Entry}
use Rattle.step_core.specs.FrameLists.{RowLists}
use Rattle.step_core.specs.Places.{block_of}
use Rattle.step_core.specs.SoundFrame.{Ascend}
use Rattle.tighten_step.specs.Quotients.{AreProducts}

-- ---- ascending numbers
pub ascend_far : (xs : List ℕ) → Ascend xs → (i j : ℕ) → j < i → i < length xs → slice_index xs j < slice_index xs i
ascend_far xs h zero j less lt = absurd (omega arith)
ascend_far xs h (suc i) j less lt =
    let next : i + 1 ≡ suc i = omega arith in
    let step : slice_index xs i < slice_index xs (suc i) =
    subst (λ m. slice_index xs i < slice_index xs m) next (h i (omega (arith, lt))) in
    elim (cases_eq j i) [
      | inl e ↦ subst (λ m. slice_index xs m < slice_index xs (suc i)) (sym e) step
      | inr ne ↦ (let far = ascend_far xs h i j (omega (arith, ne, less)) (omega (arith, lt)) in omega (arith, far, step))
    ]

-- the first entries of a row, as a row
abbrev pub first : List Entry → ℕ → RowLists
first es i = record { den = sum_by (λ e. e.num) (take i es); entries = take i es }

-- the targets of the entries before one are before its target
pub targets_before : (es : List Entry) (i : ℕ) (e d : Entry) → Ascend (map (λ f. f.to) es) → i < length es → e ≡ get_or es i d
    → All (λ f. f.to < e.to) (take i es)
targets_before es i e d up lt is j d' j_lt =
    let size : length (take i es) ≡ i = length-take-le i es (omega (arith, lt)) in
    let less : j < i = omega (arith, j_lt, size) in
    let there : j < length es = omega (arith, less, lt) in
    let far = ascend_far (map (λ f. f.to) es) up i j less (omega (arith, lt, length-map es (λ f. f.to))) in
    let at_j : slice_index (map (λ f. f.to) es) j ≡ (get_or (take i es) j d').to =
    get_or-map (λ f. f.to) es j d' 0 there ∙ ap (λ f. f.to) (sym (get_or-take i es j d' less)) in
    let at_i : slice_index (map (λ f. f.to) es) i ≡ e.to =
    get_or-map (λ f. f.to) es i d 0 lt ∙ ap (λ f. f.to) (sym is) in
    omega (arith, far, at_j, at_i)

-- ---- sums
sum_push : (f : Entry → ℕ) (es : List Entry) (e : Entry) → sum_by f (es ++ e ∷ []) ≡ sum_by f es + f e
sum_push f [] e = sum_by-cons f e [] ∙ omega arith
sum_push f (x ∷ es) e =
    sum_by-cons f x (es ++ e ∷ []) ∙ omega (arith, sum_push f es e, sum_by-cons f x es)

pub products_same : (es : List Entry) (f g : ℕ → ℕ) → All (λ e. g e.to ≡ f e.to) es
    → sum_by (λ e. e.num * g e.to) es ≡ sum_by (λ e. e.num * f e.to) es
products_same [] f g h = refl
products_same (e ∷ es) f g h =
    let here : g e.to ≡ f e.to = All-head (λ d. g d.to ≡ f d.to) e es h in
    let there = products_same es f g (All-tail (λ d. g d.to ≡ f d.to) e es h) in
    sum_by-cons (λ d. d.num * g d.to) e es
    ∙ (omega (arith, there, ap (λ z. e.num * z) here) ∙ sym (sum_by-cons (λ d. d.num * f d.to) e es))

-- the first entries' numbers are no more than all
pub first_le : (es : List Entry) (i : ℕ) → i ≤ length es → sum_by (λ e. e.num) (take i es) ≤ sum_by (λ e. e.num) es
first_le es zero l = omega arith
first_le [] (suc i) l = absurd (omega arith)
first_le (e ∷ es) (suc i) l =
    let there = first_le es i (omega (arith, l)) in
    omega (arith, there, sum_by-cons (λ d. d.num) e (take i es), sum_by-cons (λ d. d.num) e es)

module _ (b : Board) (p : Pass) (k : ℕ) (es : List Entry) (table : ℕ → ℕ) where
  pub products_none : (f : ℕ → ℕ) → AreProducts b p k (first es 0) f table 0
  products_none f = record { sum = refl; at_most_one = omega arith; exact = All-nil _ }

  -- one entry more, whose word is noted where the words of the entries before stay
  pub products_next : (f g : ℕ → ℕ) (i m x : ℕ) (e d : Entry) → i < length es → e ≡ get_or es i d → All (λ h. g h.to ≡ f h.to) (take i es)
      → g e.to ≡ x → x ≤ 2 ^ 62 → (seal_note b p k (block_of e.to) ≡ 1 → x ≡ table e.to) → AreProducts b p k (first es i) f table m
      → AreProducts b p k (first es (i + 1)) g table (m + e.num * x)
  products_next f g i m x e d lt is kept here small sealed was =
      let next : i + 1 ≡ suc i = omega arith in
      let more : take (i + 1) es ≡ take i es ++ e ∷ [] =
      ap (λ n. take n es) next ∙ (take-suc es i d lt ∙ ap (λ h. take i es ++ h ∷ []) (sym is)) in
      let numbers = sum_push (λ h. h.num) (take i es) e in
      let sums = sum_push (λ h. h.num * g h.to) (take i es) e in
      subst (λ xs. AreProducts b p k (record { den = sum_by (λ h. h.num) xs; entries = xs }) g table (m + e.num * x)) (sym more)
      (record {
        sum = omega (arith, was.sum, products_same (take i es) f g kept, sums, ap (λ z. e.num * z) here);
        at_most_one = omega (arith, was.at_most_one, mul-le-mul_left e.num small, numbers);
        exact = All-push (λ h. seal_note b p k (block_of h.to) ≡ 1 → g h.to ≡ table h.to) (take i es) e
            (λ j d' l on. kept j d' l ∙ was.exact j d' l on)
            (λ on. here ∙ sealed on);
      })

  -- the words of the entries stay
  pub products_stay : (row : RowLists) (f g : ℕ → ℕ) (m : ℕ) → All (λ e. g e.to ≡ f e.to) row.entries → AreProducts b p k row f table m
      → AreProducts b p k row g table m
  products_stay row f g m kept was = record {
    sum = was.sum ∙ sym (products_same row.entries f g kept);
    at_most_one = was.at_most_one;
    exact = λ j d l on. kept j d l ∙ was.exact j d l on;
  }

  pub products_all : (f : ℕ → ℕ) (i den m : ℕ) → take i es ≡ es → sum_by (λ e. e.num) es ≡ den → AreProducts b p k (first es i) f table m
      → AreProducts b p k (record { den = den; entries = es }) f table m
  products_all f i den m all whole was =
      let here = subst (λ xs. AreProducts b p k (record { den = sum_by (λ h. h.num) xs; entries = xs }) f table m) all was in
      subst (λ n. AreProducts b p k (record { den = n; entries = es }) f table m) whole here

  -- one product more fits
  pub product_fits : (f : ℕ → ℕ) (i m x n w : ℕ) (d : Entry) → i < length es → sum_by (λ e. e.num) es < 2 ^ 63 → x ≤ 2 ^ 62
      → n ≡ (get_or es i d).num → w ≡ x → AreProducts b p k (first es i) f table m → m + n * w < 2 ^ 128
  product_fits f i m x n w d lt fits small is_n is_w was =
      let some = first_le es i (omega (arith, lt)) in
      let num = sum_by_more_le (λ e. e.num) es i d lt in
      let product : n * w ≤ sum_by (λ e. e.num) es * 2 ^ 62 = mul-le-mul (omega (arith, num, is_n)) (omega (arith, small, is_w)) in
      let before = mul-le-mul_right (2 ^ 62) some in
      omega (arith, was.at_most_one, product, before, fits)
