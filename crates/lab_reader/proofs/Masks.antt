-- Masks of labels: bit j for name j.
use Rattle.std.proofs.Common.{◌≡◌, ℕ, ◌*◌, ◌%◌, ◌^◌, ◌<◌, ◌==◌, inl, inr, IsTrue, List, [], ◌∷◌, ◌++◌, length, get_or, ap, refl, sym}
use Rattle.std.proofs.Common.{subst, ◌∙◌, append_assoc, append-nil, arith, bit_or, w64}
use Rattle.std.specs.Int.{bit_at}
use Rattle.std.specs.List.{All, Contains}
use Rattle.std.proofs.Math.Pow.{pow-lt}
use Rattle.std.proofs.lemmas.Bool.{cases_eq, cases_order, eqb-true, eq-eqb}
use Rattle.std.proofs.lemmas.List.Elements.{All-nil, All-push, All-contains, Contains-get_or, Contains-append_left, Contains-append_right}
use Rattle.std.proofs.lemmas.List.Elements.{Contains-push, Contains-push_cases}
use Rattle.std.proofs.lemmas.Nat.{or_lt, pow_pos}
use Rattle.std.proofs.lemmas.Nat.Bits.{bit_at-zero, bit_at_set_same, bit_at_set_other}
use Rattle.lab_reader.specs.Declarations.{AreNames}
use Rattle.lab_reader.specs.Reading.{IsMaskOf}

-- a bit is 1, as a test and as a fact
pub bit_on : (mask j : ℕ) → bit_at mask j ≡ 1 → IsTrue (bit_at mask j == 1)
bit_on mask j e = eq-eqb (bit_at mask j) 1 e

pub on_bit : (mask j : ℕ) → IsTrue (bit_at mask j == 1) → bit_at mask j ≡ 1
on_bit mask j t = eqb-true (bit_at mask j) 1 t

nothing_in : (x : List ℕ) → ¬ Contains [] x
nothing_in x (k, l, e) = omega (arith, l)

-- no labels
pub mask_none : (names : List (List ℕ)) → IsMaskOf names [] 0
mask_none names = record {
  within = omega (arith, pow_pos (length names));
  bits = λ j l. (λ t. absurd (omega (arith, on_bit 0 j t, bit_at-zero j)), λ h. absurd (nothing_in (get_or names j []) h));
}

-- names at two places differ
place_is_one : (names : List (List ℕ)) (i j : ℕ) → AreNames names → i < length names → j < length names
    → get_or names i [] ≡ get_or names j [] → i ≡ j
place_is_one names i j are l k e =
    elim (cases_order i j) [
      | inl same ↦ same
      | inr other ↦ elim other [
        | inl below ↦ absurd (are.distinct i j [] below k e)
        | inr above ↦ absurd (are.distinct j i [] above l (sym e))
      ]
    ]

-- one label more, which is the name at this place
pub mask_more : (names labels : List (List ℕ)) (label : List ℕ) (mask place : ℕ) → AreNames names → IsMaskOf names labels mask
    → place < length names → get_or names place [] ≡ label → IsMaskOf names (labels ++ label ∷ []) (bit_or mask (1 * 2 ^ place % 2 ^ 64))
mask_more names labels label mask place are h l is =
    let small : place < 64 = omega (arith, are.few) in
    let power : 2 ^ place < 2 ^ length names = pow-lt l in
    let name = λ (j : ℕ). get_or names j [] in
    let now = bit_or mask (1 * 2 ^ place % 2 ^ 64) in
    record {
      within = or_lt (length names) mask (1 * 2 ^ place % 2 ^ 64) h.within (omega arith);
      bits = λ j k. (
        λ t. elim (cases_eq j place) [
          | inl same ↦ subst (Contains (labels ++ label ∷ [])) (sym (ap name same ∙ is)) (Contains-push labels label)
          | inr other ↦
              Contains-append_left labels (label ∷ []) (name j)
              ((h.bits j k).0 (bit_on mask j (sym (bit_at_set_other w64 mask place small j other) ∙ on_bit now j t)))
        ],
        λ t. elim (cases_eq j place) [
          | inl same ↦ bit_on now j (subst (λ z. bit_at now z ≡ 1) (sym same) (bit_at_set_same w64 mask place small))
          | inr other ↦ elim (Contains-push_cases labels label (name j) t) [
            | inl there ↦ bit_on now j (bit_at_set_other w64 mask place small j other ∙ on_bit mask j ((h.bits j k).1 there))
            | inr here ↦ absurd (other (place_is_one names j place are k l (sym (is ∙ here))))
          ]
        ],
      );
    }

-- the labels before those that are left are declared, and this is their mask
pub record HasMasked (names all : List (List ℕ)) (mask : ℕ) (left : List (List ℕ)) : Type 0 where
  pub earlier : List (List ℕ)
  pub split : all ≡ earlier ++ left
  pub declared : All (Contains names) earlier
  pub mask_is : IsMaskOf names earlier mask

pub masked_none : (names all : List (List ℕ)) → HasMasked names all 0 all
masked_none names all = record { earlier = []; split = refl; declared = All-nil (Contains names); mask_is = mask_none names }

pub masked_more : (names all left : List (List ℕ)) (label : List ℕ) (mask place : ℕ) → AreNames names
    → HasMasked names all mask (label ∷ left) → place < length names → get_or names place [] ≡ label
    → HasMasked names all (bit_or mask (1 * 2 ^ place % 2 ^ 64)) left
masked_more names all left label mask place are h l is = record {
  earlier = h.earlier ++ label ∷ [];
  split = h.split ∙ sym (append_assoc h.earlier (label ∷ []) left);
  declared = All-push (Contains names) h.earlier label h.declared (subst (Contains names) is (Contains-get_or names place [] l));
  mask_is = mask_more names h.earlier label mask place are h.mask_is l is;
}

pub masked_all : (names all : List (List ℕ)) (mask : ℕ) → HasMasked names all mask [] → All (Contains names) all × IsMaskOf names all mask
masked_all names all mask h =
    let same : h.earlier ≡ all = sym (h.split ∙ append-nil h.earlier) in
    (subst (All (Contains names)) same h.declared, subst (λ z. IsMaskOf names z mask) same h.mask_is)

-- the next label isn't declared
pub masked_fails : (names all left : List (List ℕ)) (label : List ℕ) (mask : ℕ) → HasMasked names all mask (label ∷ left)
    → ¬ Contains names label → ¬ All (Contains names) all
masked_fails names all left label mask h none declared =
    none
    (All-contains (Contains names) all label declared
    (subst (λ z. Contains z label) (sym h.split) (Contains-append_right h.earlier (label ∷ left) label (0, omega arith, refl))))
