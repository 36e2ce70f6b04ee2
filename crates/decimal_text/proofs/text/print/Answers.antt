use Rattle.std.proofs.Common.{◌≡◌, ◌≢◌, ℕ, ◌-◌, ◌/◌, ◌^◌, ◌≤◌, ◌++◌, ◌∷◌, List, [], length, drop, take, ap, sym, subst, append_assoc}
use Rattle.std.proofs.Common.{arith, ◌∙◌, decimal}
use Rattle.std.proofs.lemmas.List.{take_all}
use Rattle.decimal_text.specs.Digits.{fixed_digits}
use Rattle.decimal_text.specs.DecimalNumber.{DecimalNumber, IsShortDecimal}
use Rattle.decimal_text.specs.NumberValue.{StandsFor}
use Rattle.decimal_text.specs.Text.{canonical_text}
use Rattle.decimal_text.proofs.FixedDigits.{fixed_digits-mod, length-fixed_digits}
use Rattle.decimal_text.proofs.CanonicalTexts.{text_stands, text-whole, text-point}
use Rattle.decimal_text.proofs.text.print.Goals as goal

-- what was written in three steps
written : (empty first second third whole digits : List ℕ) → empty ≡ [] → first ≡ empty ++ whole → second ≡ first ++ 46 ∷ []
    → third ≡ second ++ digits → third ≡ whole ++ 46 ∷ digits
written empty first second third whole digits e f s t =
    t ∙ ap (λ z. z ++ digits) (s ∙ ap (λ z. z ++ 46 ∷ []) (f ∙ ap (λ z. z ++ whole) e)) ∙ append_assoc whole (46 ∷ []) digits

-- the whole part, a point and the decimals
pointed : (d : DecimalNumber) (power : ℕ) (whole digits : List ℕ) → d.x ≢ 0 → power ≡ 10 ^ d.x → whole ≡ decimal (d.c / power)
    → digits ≡ fixed_digits d.x d.c → whole ++ 46 ∷ digits ≡ canonical_text d
pointed d power whole digits n p w g =
    ap (λ z. z ++ 46 ∷ digits) (w ∙ ap (λ q. decimal (d.c / q)) p)
    ∙ ap (λ z. decimal (d.c / 10 ^ d.x) ++ 46 ∷ z) (g ∙ sym (fixed_digits-mod d.x d.c))
    ∙ sym (text-point d n)

reads_back : (text : List ℕ) (d : DecimalNumber) → IsShortDecimal d → text ≡ canonical_text d → StandsFor text d
reads_back text d s e = subst (λ t. StandsFor t d) (sym e) (text_stands d s)

-- the last x bytes of an array of 18
end_of_array : (x : ℕ) (array end : List ℕ) → x ≤ 18 → drop (18 - x) array ≡ end → length end ≡ x
    → take (18 - (18 - x)) (drop (18 - x) array) ≡ end
end_of_array x array end l e n = take_all (18 - (18 - x)) (drop (18 - x) array) (omega (arith, ap length e, n)) ∙ e

pub returns-then-value-eq0-clause-reads_back : goal.returns-then-value-eq0-clause-reads_back
returns-then-value-eq0-clause-reads_back c =
    subst (StandsFor c.extend_from_slice.new.self.items) c.value.view_is
    (
    reads_back c.extend_from_slice.new.self.items _ c.value.invariant
    (c.in_ok-extend_from_slice.ensures.items ∙ ap (λ z. z ++ c.as_bytes.result.now) c.in_ok-text.ensures.items ∙ c.as_bytes.ensures.value
    ∙ c.format.ensures.text ∙ sym (text-whole _ c.if-value-eq0.true))
    )

pub returns-clause-text : goal.returns-clause-text
returns-clause-text c =
    written _ _ _ _ _ _ c.in_ok-text.ensures.items c.in_ok-extend_from_slice-2.ensures.items c.in_ok-push.ensures.items
    c.in_ok-extend_from_slice-3.ensures.items
    ∙ pointed _ c.power_of_ten.result _ _ c.if-value-eq0.false c.power_of_ten.ensures.power
    (c.as_bytes-2.ensures.value ∙ c.format-2.ensures.text)
    (end_of_array c.value.inside.x c.last_digits.result _ c.value.invariant.decimals c.last_digits.ensures
    (length-fixed_digits c.value.inside.x c.value.inside.c))
    ∙ ap canonical_text c.value.view_is

pub returns-clause-reads_back : goal.returns-clause-reads_back
returns-clause-reads_back c = reads_back _ c.args.value (subst IsShortDecimal c.value.view_is c.value.invariant) (returns-clause-text c)
