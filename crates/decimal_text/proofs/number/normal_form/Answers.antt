use Rattle.std.proofs.Common.{◌≡◌, ℕ, ◌+◌, ◌-◌, ◌*◌, ◌%◌, ◌^◌, ◌<◌, ◌≤◌, ◌≢◌, ◌⊎◌, inl, inr, ap, sym, subst, ◌∙◌, arith, pow-add}
use Rattle.decimal_text.specs.declared.exponent.Exponent.{Exponent}
use Rattle.decimal_text.specs.declared.exponent.Exponent.TheVariants.{Up, Down}
use Rattle.decimal_text.specs.DecimalNumber.{DecimalNumber, IsNormalFormOf}
use Rattle.decimal_text.specs.Reading.{up_to_limit, IsScale, AreTens}
use Rattle.decimal_text.proofs.FixedDigits.{ten_pos}
use Rattle.decimal_text.proofs.Known.{known_times, big_shift}
use Rattle.decimal_text.proofs.number.normal_form.Goals as goal

-- what is left of the exponents where an exponent of 2^64 and more counts as 2^64 - 1
record SameGap (up down u d : ℕ) : Type 0 where
  less : up < down → down - up ≤ 18 → u + (down - up) ≡ d
  fine : up < down → 18 < down - up → u + 18 < d
  more : down ≤ up → up - down < 18 → u ≡ up - down + d
  much : down ≤ up → 18 ≤ up - down → 18 + d ≤ u

same_gap : (z f u d up down : ℕ) (e : Exponent) → z < 2 ^ 63 → f < 2 ^ 63 → IsScale e u d → AreTens z f e up down
    → SameGap up down (z + u) (f + d)
same_gap z f u d up down (Up n) few short s t = record {
  less = λ a b. omega arith;
  fine = λ a b. omega arith;
  more = λ a b. omega arith;
  much = λ a b. omega arith;
}
same_gap z f u d up down (Down n) few short s t = record {
  less = λ a b. omega arith;
  fine = λ a b. omega arith;
  more = λ a b. omega arith;
  much = λ a b. omega arith;
}

-- the powers of ten on both sides are the same
scaled : (m h z u x p d : ℕ) → m ≡ h * 10 ^ z → z + u + x ≡ p + d → m * 10 ^ u * 10 ^ x ≡ h * 10 ^ p * 10 ^ d
scaled m h z u x p d e s =
    ap (λ w. w * 10 ^ u * 10 ^ x) e
    ∙ regroup h (10 ^ z) (10 ^ u) (10 ^ x)
    ∙ ap (λ w. h * w) (sym (pow-add 10 (z + u) x ∙ ap (λ w. w * 10 ^ x) (pow-add 10 z u)) ∙ ap (λ w. 10 ^ w) s ∙ pow-add 10 p d)
    ∙ two h (10 ^ p) (10 ^ d)
  where
    regroup : (h a b c : ℕ) → h * a * b * c ≡ h * (a * b * c)
    regroup h a b c = omega arith

    two : (h a b : ℕ) → h * (a * b) ≡ h * a * b
    two h a b = omega arith

abbrev form : ℕ → ℕ → DecimalNumber
form c x = record { c = c; x = x }

-- a number with decimals
fraction : (m h z u x d : ℕ) → m ≡ h * 10 ^ z → h % 10 ≢ 0 → z + u + x ≡ d → IsNormalFormOf m u d (form h x)
fraction m h z u x d e n s = record {
  normal = λ _. n;
  same = scaled m h z u x 0 d e (omega arith) ∙ ap (λ w. w * 10 ^ d) (one h);
}
  where
    one : (h : ℕ) → h * 1 ≡ h
    one h = omega arith

-- a number without decimals
whole : (m h z u p d : ℕ) → m ≡ h * 10 ^ z → z + u ≡ p + d → IsNormalFormOf m u d (form (h * 10 ^ p) 0)
whole m h z u p d e s = record { normal = λ l. absurd (omega arith); same = scaled m h z u 0 p d e (omega arith) }

some_digits : (g h : ℕ) → g ≡ up_to_limit h → g ≢ 0 → 0 < h
some_digits g h a n = omega arith

few_digits : (g h : ℕ) → g ≡ up_to_limit h → g < 10 ^ 18 → h ≡ g
few_digits g h a l = omega arith

many_digits : (g h : ℕ) → g ≡ up_to_limit h → 10 ^ 18 ≤ g → 10 ^ 18 ≤ h
many_digits g h a l = omega arith

pub returns-then-down-up : goal.returns-then-down-up
returns-then-down-up c m u d h s =
    let z = c.args.significand.zeros in
    let gap = same_gap z c.args.decimals u d _ _ c.args.exponent (omega arith) (omega arith) s c.tens-up.ensures in
    let fine : z + u + 18 < c.args.decimals + d = gap.fine (omega arith) (omega arith) in
    let x : ℕ = c.args.decimals + d - (z + u) in
    let some = some_digits c.args.significand.digits h.digits h.known (omega arith) in
    (form h.digits x, fraction m h.digits z u x (c.args.decimals + d) h.number (h.last some) (omega arith), omega arith)

pub returns-then-significand-ge-LIMIT : goal.returns-then-significand-ge-LIMIT
returns-then-significand-ge-LIMIT c m u d h s =
    let z = c.args.significand.zeros in
    let gap = same_gap z c.args.decimals u d _ _ c.args.exponent (omega arith) (omega arith) s c.tens-up.ensures in
    let x : ℕ = c.tens-up.result.1 - c.tens-up.result.0 in
    let less : z + u + x ≡ c.args.decimals + d = gap.less (omega arith) (omega arith) in
    let some = some_digits c.args.significand.digits h.digits h.known (omega arith) in (
      form h.digits x,
      fraction m h.digits z u x (c.args.decimals + d) h.number (h.last some) less,
      omega arith,
      many_digits c.args.significand.digits h.digits h.known (omega arith),
    )

pub returns-then-up-down : goal.returns-then-up-down
returns-then-up-down c m u d h s =
    let z = c.args.significand.zeros in
    let gap = same_gap z c.args.decimals u d _ _ c.args.exponent (omega arith) (omega arith) s c.tens-up.ensures in
    let x : ℕ = c.tens-up.result.1 - c.tens-up.result.0 in
    let less : z + u + x ≡ c.args.decimals + d = gap.less (omega arith) (omega arith) in
    let some = some_digits c.args.significand.digits h.digits h.known (omega arith) in
    let form_of_digits =
    subst (λ g. IsNormalFormOf m u (c.args.decimals + d) (form g x)) (few_digits c.args.significand.digits h.digits h.known (omega arith))
    (fraction m h.digits z u x (c.args.decimals + d) h.number (h.last some) less)
    in
    (record { below = omega arith; decimals = omega arith; normal = form_of_digits.normal }, form_of_digits)

-- the digits that are shifted, as far as they are known
shifted_known : (g h k c : ℕ) → g ≡ up_to_limit h → c ≡ up_to_limit (g * 10 ^ k) → c ≡ up_to_limit (h * 10 ^ k)
shifted_known g h k c a b = b ∙ known_times g h (10 ^ k) a (ten_pos k)

few_or_many : (k : ℕ) → (k < 18) ⊎ (18 ≤ k)
few_or_many k = Prim.grind arith

too_big : (m h z u d k c : ℕ) → (18 ≤ k → 18 + d ≤ z + u) → (k < 18 → z + u ≡ k + d) → m ≡ h * 10 ^ z → 0 < h
    → c ≡ up_to_limit (h * 10 ^ k) → 10 ^ 18 ≤ c → (e : DecimalNumber) × IsNormalFormOf m u d e × (e.x ≤ 18) × (10 ^ 18 ≤ e.c)
too_big m h z u d k c much more e some known big =
    elim (few_or_many k) [
      | inl few ↦ (form (h * 10 ^ k) 0, whole m h z u k d e (more few), omega arith, many_digits c _ known big)
      | inr many ↦
          let p : ℕ = z + u - d in
          let split : z + u ≡ p + d = let far = much many in omega arith in
          let far : 18 ≤ p = let far = much many in omega arith in
          (form (h * 10 ^ p) 0, whole m h z u p d e split, omega arith, big_shift h p some far)
    ]

in_range : (m h z u d k c : ℕ) → (k < 18 → z + u ≡ k + d) → m ≡ h * 10 ^ z → 0 < h → c ≡ up_to_limit (h * 10 ^ k) → c < 10 ^ 18
    → IsNormalFormOf m u d (form c 0)
in_range m h z u d k c more e some known small =
    elim (few_or_many k) [
      | inl few ↦ subst (λ g. IsNormalFormOf m u d (form g 0)) (few_digits c _ known small) (whole m h z u k d e (more few))
      | inr many ↦ let big = big_shift h k some many in absurd (omega arith)
    ]

pub returns-then-c-ge-LIMIT : goal.returns-then-c-ge-LIMIT
returns-then-c-ge-LIMIT c m u d h s =
    let z = c.args.significand.zeros in
    let gap = same_gap z c.args.decimals u d _ _ c.args.exponent (omega arith) (omega arith) s c.tens-up.ensures in
    let k : ℕ = c.tens-up.result.0 - c.tens-up.result.1 in
    let known = shifted_known c.args.significand.digits h.digits k c.shifted-c.result h.known c.shifted-c.ensures in
    let some = some_digits c.args.significand.digits h.digits h.known (omega arith) in
    too_big m h.digits z u (c.args.decimals + d) k c.shifted-c.result (gap.much (omega arith)) (gap.more (omega arith)) h.number some known
    (omega arith)

pub returns : goal.returns
returns c m u d h s =
    let z = c.args.significand.zeros in
    let gap = same_gap z c.args.decimals u d _ _ c.args.exponent (omega arith) (omega arith) s c.tens-up.ensures in
    let k : ℕ = c.tens-up.result.0 - c.tens-up.result.1 in
    let known = shifted_known c.args.significand.digits h.digits k c.shifted-c.result h.known c.shifted-c.ensures in
    let some = some_digits c.args.significand.digits h.digits h.known (omega arith) in (
      record { below = omega arith; decimals = omega arith; normal = λ l. absurd (omega arith) },
      in_range m h.digits z u (c.args.decimals + d) k c.shifted-c.result (gap.more (omega arith)) h.number some known (omega arith),
    )
