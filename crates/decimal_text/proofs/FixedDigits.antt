-- Laws of `fixed_digits`, and of the number that its digits write.
use Rattle.std.proofs.Common.{◌≡◌, ℕ, zero, suc, ◌+◌, ◌*◌, ◌/◌, ◌%◌, ◌^◌, ◌<◌, List, [], ◌∷◌, ◌++◌, length, get_or, drop, set, ap, refl}
use Rattle.std.proofs.Common.{sym, ◌∙◌, append_assoc, append-nil, add-zero, zero-add, arith, length-append, pow-suc}
use Rattle.std.proofs.lemmas.List.{drop-set}
use Rattle.std.proofs.lemmas.Nat.{div-mul-add, mod-mul-add, div-add-mod', mod_below}
use Rattle.std.proofs.lemmas.Bool.Decides.{nat_tests}
use Rattle.std.proofs.lemmas.Int.Digits.{digits_value_push}
use Rattle.std.proofs.lemmas.Str.Parse.{digit_from_value, digit_at}
use Rattle.std.specs.Char.{digit_value}
use Rattle.std.specs.Int.{IsInRange}
use Rattle.std.specs.Str.Parse.{AllDigits, digits_value, digits_value_after}
use Rattle.decimal_text.specs.Digits.{fixed_digits}

pub ten_pos : (k : ℕ) → 0 < 10 ^ k
ten_pos zero = omega arith
ten_pos (suc k) = omega (arith, pow-suc 10 k, ten_pos k)

pub length-fixed_digits : (k v : ℕ) → length (fixed_digits k v) ≡ k
length-fixed_digits zero v = refl
length-fixed_digits (suc k) v =
    omega (arith, length-append (fixed_digits k (v / 10)) ((48 + v % 10) ∷ []), length-fixed_digits k (v / 10))

-- the digit d reads as d
pub digit_value_of_digit : (d : ℕ) → d < 10 → digit_value (48 + d) ≡ d
digit_value_of_digit d h = Prim.grind (arith, nat_tests)

-- a byte that reads as less than 10 is that digit
pub digit_of_digit_value : (c : ℕ) → digit_value c < 10 → 48 + digit_value c ≡ c
digit_of_digit_value c h = let r = digit_from_value c h in Prim.grind (arith, nat_tests)

pub AllDigits-push : (ds : List ℕ) (d : ℕ) → AllDigits 10 ds → d < 10 → AllDigits 10 (ds ++ (48 + d) ∷ [])
AllDigits-push [] d h l = (rw (digit_value_of_digit d l) l, tt)
AllDigits-push (c ∷ cs) d h l = (h.0, AllDigits-push cs d h.1 l)

pub AllDigits-fixed_digits : (k v : ℕ) → AllDigits 10 (fixed_digits k v)
AllDigits-fixed_digits zero v = tt
AllDigits-fixed_digits (suc k) v =
    AllDigits-push (fixed_digits k (v / 10)) (v % 10) (AllDigits-fixed_digits k (v / 10)) (omega arith)

-- each byte is one of `0` to `9`
pub fixed_digits_in_range : (k v i : ℕ) → i < k → IsInRange 48 57 (get_or (fixed_digits k v) i 0)
fixed_digits_in_range k v i h =
    digit_at (fixed_digits k v) i (AllDigits-fixed_digits k v) (omega (arith, length-fixed_digits k v))

-- one digit more
pub fixed_digits-push : (k v d : ℕ) → d < 10 → fixed_digits (suc k) (v * 10 + d) ≡ fixed_digits k v ++ (48 + d) ∷ []
fixed_digits-push k v d h =
    ap (λ z. fixed_digits k z ++ (48 + (v * 10 + d) % 10) ∷ []) (div-mul-add v 10 d h)
    ∙ ap (λ z. fixed_digits k v ++ (48 + z) ∷ []) (mod-mul-add v 10 d h)

get_or-push : (xs : List ℕ) (y k : ℕ) → length xs ≡ k → get_or (xs ++ y ∷ []) k 0 ≡ y
get_or-push [] y k e = rw (sym e) refl
get_or-push (x ∷ xs) y zero e = absurd (omega (arith, e))
get_or-push (x ∷ xs) y (suc k) e = get_or-push xs y k (omega (arith, e))

-- the last digit
pub last_of_fixed_digits : (k v : ℕ) → get_or (fixed_digits (suc k) v) k 0 ≡ 48 + v % 10
last_of_fixed_digits k v = get_or-push (fixed_digits k (v / 10)) (48 + v % 10) k (length-fixed_digits k (v / 10))

-- k digits write a number that has no more
pub digits_value-fixed_digits : (k v : ℕ) → v < 10 ^ k → digits_value 10 (fixed_digits k v) ≡ v
digits_value-fixed_digits zero v h = omega arith
digits_value-fixed_digits (suc k) v h =
    let less : v / 10 < 10 ^ k = omega (arith, pow-suc 10 k) in
    omega (
      arith,
      digits_value_push 10 (fixed_digits k (v / 10)) (48 + v % 10),
      digits_value-fixed_digits k (v / 10) less,
      digit_value_of_digit (v % 10) (omega arith),
    )

pub fixed_digits_injective : (k v w : ℕ) → v < 10 ^ k → w < 10 ^ k → fixed_digits k v ≡ fixed_digits k w → v ≡ w
fixed_digits_injective k v w a b e =
    sym (digits_value-fixed_digits k v a) ∙ ap (digits_value 10) e ∙ digits_value-fixed_digits k w b

-- digits that follow those of n
fixed_digits-digits_value_after : (k n : ℕ) (ds : List ℕ) → AllDigits 10 ds
    → fixed_digits (k + length ds) (digits_value_after 10 n ds) ≡ fixed_digits k n ++ ds
fixed_digits-digits_value_after k n [] h = rw (add-zero k) (sym (append-nil (fixed_digits k n)))
fixed_digits-digits_value_after k n (c ∷ cs) h =
    let next : ℕ = n * 10 + digit_value c in
    let longer : k + suc (length cs) ≡ suc k + length cs = omega arith in
    let pushed : fixed_digits (suc k) next ≡ fixed_digits k n ++ c ∷ [] =
    fixed_digits-push k n (digit_value c) h.0 ∙ ap (λ b. fixed_digits k n ++ b ∷ []) (digit_of_digit_value c h.0)
    in
    ap (λ m. fixed_digits m (digits_value_after 10 next cs)) longer
    ∙ fixed_digits-digits_value_after (suc k) next cs h.1
    ∙ ap (λ ds. ds ++ cs) pushed
    ∙ append_assoc (fixed_digits k n) (c ∷ []) cs

-- digits are those of the number that they write
pub fixed_digits-digits_value : (ds : List ℕ) → AllDigits 10 ds → fixed_digits (length ds) (digits_value 10 ds) ≡ ds
fixed_digits-digits_value ds h =
    ap (λ m. fixed_digits m (digits_value 10 ds)) (sym (zero-add (length ds)))
    ∙ fixed_digits-digits_value_after 0 0 ds h

-- the digits past the last k don't matter
pub fixed_digits-mod : (k v : ℕ) → fixed_digits k (v % 10 ^ k) ≡ fixed_digits k v
fixed_digits-mod zero v = refl
fixed_digits-mod (suc k) v =
    let high = v / 10 / 10 ^ k in
    let low = v / 10 % 10 ^ k in
    let below : low < 10 ^ k = mod_below (v / 10) (10 ^ k) (ten_pos k) in
    let split : v ≡ high * 10 ^ suc k + (low * 10 + v % 10) =
    omega (arith, div-add-mod' (v / 10) (10 ^ k), ap (λ z. high * z) (pow-suc 10 k))
    in
    let rest : v % 10 ^ suc k ≡ low * 10 + v % 10 =
    ap (λ z. z % 10 ^ suc k) split
    ∙ mod-mul-add high (10 ^ suc k) (low * 10 + v % 10) (omega (arith, pow-suc 10 k))
    in
    ap (fixed_digits (suc k)) rest
    ∙ fixed_digits-push k low (v % 10) (omega arith)
    ∙ ap (λ ds. ds ++ (48 + v % 10) ∷ []) (fixed_digits-mod k (v / 10))

-- the last digit of rest, written before those that stand from q on
pub one_digit_back : (k j p r q rest : ℕ) (text : List ℕ) → j ≡ suc k → r ≡ p → q ≡ p + 1 → p < length text
    → fixed_digits k (rest / 10) ++ drop r (set text p (48 + rest % 10)) ≡ fixed_digits j rest ++ drop q text
one_digit_back k j p r q rest text ej er eq l =
    rw (ej, er, eq, drop-set text p (48 + rest % 10) l)
    (sym (append_assoc (fixed_digits k (rest / 10)) ((48 + rest % 10) ∷ []) (drop (p + 1) text)))
