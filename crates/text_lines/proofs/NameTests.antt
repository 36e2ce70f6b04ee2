-- The tests of a name, taken one after another.
use Rattle.std.proofs.Common.{◌≡◌, ℕ, Bool, true, false, ◌&&◌, not, List, ◌∷◌, refl, sym, ◌∙◌, ap}
use Rattle.std.specs.List.{list_all}
use Rattle.text_lines.specs.Name.{is_name, is_reserved, begins_name, continues_name}

-- where two tests pass, the third decides
last_test : (b a r : Bool) → b ≡ true → a ≡ true → not r ≡ (b && a && not r)
last_test true true r e f = refl
last_test true false r e f = cc
last_test false a r e f = cc

-- where one of two tests fails, all three together fail
first_tests : (b a r : Bool) → (b && a) ≡ false → false ≡ (b && a && r)
first_tests true true r e = cc
first_tests true false r e = refl
first_tests false a r e = refl

-- where the first two tests pass, the last one decides
pub is_name-last : (word : List ℕ) (first : ℕ) (rest : List ℕ) (reserved : Bool) → word ≡ first ∷ rest → begins_name first ≡ true
    → list_all continues_name rest ≡ true → reserved ≡ is_reserved word → not reserved ≡ is_name word
is_name-last word first rest reserved split begins continues same =
    ap not (same ∙ ap is_reserved split)
    ∙ last_test (begins_name first) (list_all continues_name rest) (is_reserved (first ∷ rest)) begins continues
    ∙ ap is_name (sym split)

-- where one of the first two tests fails, it is no name
pub is_name-fails : (word : List ℕ) (first : ℕ) (rest : List ℕ) → word ≡ first ∷ rest
    → (begins_name first && list_all continues_name rest) ≡ false → false ≡ is_name word
is_name-fails word first rest split fails =
    first_tests (begins_name first) (list_all continues_name rest) (not (is_reserved (first ∷ rest))) fails ∙ ap is_name (sym split)

-- the second test fails
pub second_fails : (b a : Bool) → a ≡ false → (b && a) ≡ false
second_fails true a e = e
second_fails false a e = refl

-- the first test fails
pub first_fails : (b a : Bool) → b ≡ false → (b && a) ≡ false
first_fails true a e = cc
first_fails false a e = refl
