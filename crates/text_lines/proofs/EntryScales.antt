-- The values of kept entries at a scale.
use Rattle.std.proofs.Common.{◌≡◌, ℕ, ◌+◌, ◌*◌, ◌^◌, ◌<◌, ◌≤◌, max, List, [], ◌∷◌, ◌++◌, length, map, take, get_or, ap, ◌∙◌, arith}
use Rattle.std.proofs.Math.Nat.{mul-le-mul, pow-le-pow_right}
use Rattle.std.proofs.lemmas.List.{take_more, map-append}
use Rattle.decimal_text.specs.Scale.{greatest_decimals}
use Rattle.decimal_text.proofs.Scales.{greatest-push}
use Rattle.text_lines.specs.EntryLines.{value_of}
use Rattle.text_lines.specs.declared.entry_line.EntryLine.{EntryLine}

-- the first elements, each by a function, with one more
pub map-more : {A B : Type 0} (f : A → B) (xs : List A) (i : ℕ) (d : A) → i < length xs
    → map f (take (i + 1) xs) ≡ map f (take i xs) ++ f (get_or xs i d) ∷ []
map-more f xs i d within = ap (map f) (take_more xs i d within) ∙ map-append f (take i xs) (get_or xs i d ∷ [])

-- the scale, with one entry more
pub scale-more : {K : Type 0} (entries : List (EntryLine K)) (i : ℕ) (d : EntryLine K) → i < length entries
    → greatest_decimals (map value_of (take (i + 1) entries)) ≡ max (greatest_decimals (map value_of (take i entries)))
    (get_or entries i d).decimals
scale-more entries i d within =
    ap greatest_decimals (map-more value_of entries i d within)
    ∙ greatest-push (map value_of (take i entries)) (value_of (get_or entries i d))

-- a number of 64 bits at a scale of at most 18
pub small-value : (c k : ℕ) → c < 2 ^ 64 → k ≤ 18 → c * 10 ^ k < 2 ^ 127
small-value c k below few =
    let power : 10 ^ k ≤ 10 ^ 18 = pow-le-pow_right (omega arith) few in
    omega (arith, mul-le-mul {n₁ = c} {m₁ = 10 ^ k} {n₂ = 2 ^ 64} {m₂ = 10 ^ 18} (omega arith) power)

pub same-decimals : {K : Type 0} (e f : EntryLine K) → e ≡ f → e.decimals ≡ f.decimals
same-decimals {K} e f is = ap (λ (z : EntryLine K). z.decimals) is
