-- Workers that are numbered one after another.
use Rattle.std.proofs.Common.{◌≡◌, ℕ, ◌+◌, List, [], ◌∷◌, ◌++◌, map, refl, sym, ap, ◌∙◌, arith}
use Rattle.std.specs.List.{range_with_len}
use Rattle.std.proofs.lemmas.List.{map-append}
use Rattle.std.proofs.lemmas.List.FromFn.{map-range_with_len_more}
use Rattle.column_workers.specs.Hands.{numbers}
use Rattle.column_workers.specs.declared.hand.Hand.{Hand}

map_same : (xs : List ℕ) → map (λ (j : ℕ). j) xs ≡ xs
map_same [] = refl
map_same (x ∷ xs) = ap (λ (l : List ℕ). x ∷ l) (map_same xs)

counting_more : (n : ℕ) → range_with_len 0 (n + 1) ≡ range_with_len 0 n ++ n ∷ []
counting_more n =
    sym (map_same (range_with_len 0 (n + 1)))
    ∙ map-range_with_len_more (λ (j : ℕ). j) 0 n n (omega arith)
    ∙ ap (λ (l : List ℕ). l ++ n ∷ []) (map_same (range_with_len 0 n))

-- one more
pub numbers_more : (hands : List Hand) (hand : Hand) (n : ℕ) → numbers hands ≡ range_with_len 0 n → hand.number ≡ n
    → numbers (hands ++ hand ∷ []) ≡ range_with_len 0 (n + 1)
numbers_more hands hand n so_far here =
    map-append (λ (h : Hand). h.number) hands (hand ∷ [])
    ∙ ap (λ (l : List ℕ). l ++ hand.number ∷ []) so_far
    ∙ ap (λ (k : ℕ). range_with_len 0 n ++ k ∷ []) here
    ∙ sym (counting_more n)
