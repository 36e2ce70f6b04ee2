-- The greatest number of decimals.
use Rattle.std.proofs.Common.{◌≡◌, ℕ, ◌≤◌, max, List, [], ◌∷◌, ◌++◌, refl, arith}
use Rattle.std.specs.List.{All}
use Rattle.std.proofs.lemmas.List.Elements.{All-nil, All-cons, All-head, All-tail}
use Rattle.decimal_text.specs.DecimalNumber.{DecimalNumber}
use Rattle.decimal_text.specs.Scale.{greatest_decimals}

-- of none
pub greatest-none : greatest_decimals [] ≡ 0
unfolding greatest_decimals
greatest-none = refl

-- of one more
pub greatest-push : (ds : List DecimalNumber) (d : DecimalNumber) → greatest_decimals (ds ++ d ∷ []) ≡ max (greatest_decimals ds) d.x
unfolding greatest_decimals
greatest-push [] d = omega arith
greatest-push (e ∷ es) d = omega (arith, greatest-push es d)

-- none has more
pub within_scale : (scale : ℕ) (ds : List DecimalNumber) → greatest_decimals ds ≤ scale → All (λ d. d.x ≤ scale) ds
unfolding greatest_decimals
within_scale scale [] h = All-nil (λ (d : DecimalNumber). d.x ≤ scale)
within_scale scale (d ∷ ds) h = All-cons (λ (d : DecimalNumber). d.x ≤ scale) d ds (omega arith) (within_scale scale ds (omega arith))

-- it is within a limit of each
pub greatest_within : (limit : ℕ) (ds : List DecimalNumber) → All (λ d. d.x ≤ limit) ds → greatest_decimals ds ≤ limit
unfolding greatest_decimals
greatest_within limit [] h = omega arith
greatest_within limit (d ∷ ds) h =
    omega (
      arith,
      All-head (λ (d : DecimalNumber). d.x ≤ limit) d ds h,
      greatest_within limit ds
          (All-tail (λ (d : DecimalNumber). d.x ≤ limit) d ds h),
    )
