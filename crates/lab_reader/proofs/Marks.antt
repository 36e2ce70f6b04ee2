-- Marks of states, line by line.
use Rattle.std.proofs.Common.{◌≡◌, ◌≢◌, ℕ, ◌+◌, ◌-◌, ◌^◌, ◌<◌, ◌≤◌, ◌⊎◌, inl, inr, List, [], ◌∷◌, ◌++◌, length, get_or, set, replicate, ap}
use Rattle.std.proofs.Common.{sym, subst, ◌∙◌, arith, bit_or}
use Rattle.std.specs.Int.{bit_at}
use Rattle.std.specs.List.{Contains}
use Rattle.std.proofs.lemmas.Bool.{cases_eq}
use Rattle.std.proofs.lemmas.List.{same_lists, get_or_default, length-replicate, get_or-replicate, length-set, get_or-set_same}
use Rattle.std.proofs.lemmas.List.{get_or-set_other}
use Rattle.std.proofs.lemmas.List.Elements.{All-set, All-replicate, Contains-append_left, Contains-push, Contains-push_cases}
use Rattle.std.proofs.lemmas.Nat.{or_lt, pow_pos}
use Rattle.std.proofs.lemmas.Nat.Bits.{bit_at-zero, bit_at-lt, bit_at_or, same_from_bits_below}
use Rattle.text_lines.specs.WholeNumber.{whole_value}
use Rattle.text_lines.specs.WordLines.{WordLine}
use Rattle.lab_reader.specs.LabelLines.{BeginsWithNumber, GivesLabel}
use Rattle.lab_reader.specs.LabText.{AreMarks}
use Rattle.lab_reader.specs.Reading.{GivesMask}
use Rattle.lab_reader.proofs.Masks.{bit_on, on_bit}

-- ---- a line begins with one number

same_word : (v w : List ℕ) (vs ws : List (List ℕ)) → v ∷ vs ≡ w ∷ ws → v ≡ w
same_word v w vs ws e = cc

same_others : (v w : List ℕ) (vs ws : List (List ℕ)) → v ∷ vs ≡ w ∷ ws → vs ≡ ws
same_others v w vs ws e = cc

-- the number and the other words
pub one_number : (line : WordLine) (m n : ℕ) (vs ws : List (List ℕ)) → BeginsWithNumber line m vs → BeginsWithNumber line n ws
    → (m ≡ n) × (vs ≡ ws)
one_number line m n vs ws h k =
    let e : h.word ∷ vs ≡ k.word ∷ ws = sym h.words ∙ k.words in (
      sym h.whole.value ∙ ap whole_value (same_word h.word k.word vs ws e) ∙ k.whole.value,
      same_others h.word k.word vs ws e,
    )

-- ---- labels that lines give

no_line_in : (x : WordLine) → ¬ Contains [] x
no_line_in x (k, l, e) = omega (arith, l)

gives_earlier : (front : List WordLine) (line : WordLine) (state : ℕ) (name : List ℕ) → GivesLabel front state name
    → GivesLabel (front ++ line ∷ []) state name
gives_earlier front line state name h =
    record {
      line = h.line;
      there = Contains-append_left front (line ∷ []) h.line h.there;
      labels = h.labels;
      begins = h.begins;
      among
          = h.among;
    }

gives_here : (front : List WordLine) (line : WordLine) (state : ℕ) (labels : List (List ℕ)) (name : List ℕ)
    → BeginsWithNumber line state labels → Contains labels name → GivesLabel (front ++ line ∷ []) state name
gives_here front line state labels name b among =
    record { line = line; there = Contains-push front line; labels = labels; begins = b; among = among }

-- a line that begins with the number gives the label, or an earlier line gives it
gives_cases : (front : List WordLine) (line : WordLine) (state other : ℕ) (labels : List (List ℕ)) (name : List ℕ)
    → BeginsWithNumber line state labels → GivesLabel (front ++ line ∷ []) other name
    → GivesLabel front other name ⊎ ((other ≡ state) × Contains labels name)
gives_cases front line state other labels name b h =
    elim (Contains-push_cases front line h.line h.there) [
      | inl there ↦ inl (record { line = h.line; there = there; labels = h.labels; begins = h.begins; among = h.among })
      | inr here ↦
          let k : BeginsWithNumber line other h.labels = subst (λ z. BeginsWithNumber z other h.labels) (sym here) h.begins in
          let same = one_number line other state h.labels labels k b in
          inr (same.0, subst (λ z. Contains z name) same.1 h.among)
    ]

-- ---- marks

-- no lines, no marks
pub marks_none : (n : ℕ) (names : List (List ℕ)) → AreMarks n names [] (replicate n 0)
marks_none n names = record {
  each = length-replicate {A = ℕ} n 0;
  within = All-replicate (λ mark. mark < 2 ^ length names) n 0 (pow_pos (length names));
  given = λ s j l k. (
    λ t. absurd (omega (arith, on_bit (get_or (replicate n 0) s 0) j t, ap (λ z. bit_at z j) (get_or-replicate n s 0 0 l), bit_at-zero j)),
    λ h. absurd (no_line_in h.line h.there),
  );
}

bit_of_or : (a b j : ℕ) → bit_at (bit_or a b) j ≡ 1 → (bit_at a j ≡ 1) ⊎ (bit_at b j ≡ 1)
bit_of_or a b j e =
    elim (cases_eq (bit_at a j) 1) [
      | inl on ↦ inl on
      | inr off ↦ inr (omega (arith, bit_at_or a b j, bit_at-lt a j, bit_at-lt b j))
    ]

or_of_left : (a b j : ℕ) → bit_at a j ≡ 1 → bit_at (bit_or a b) j ≡ 1
or_of_left a b j e = omega (arith, bit_at_or a b j, bit_at-lt b j)

or_of_right : (a b j : ℕ) → bit_at b j ≡ 1 → bit_at (bit_or a b) j ≡ 1
or_of_right a b j e = omega (arith, bit_at_or a b j, bit_at-lt a j)

-- the marks with these labels added at this state
abbrev pub marks_with : List ℕ → ℕ → ℕ → List ℕ
marks_with marks state mask = set marks (state - 1) (bit_or (get_or marks (state - 1) 0) mask)

-- one line more
pub marks_more : (n : ℕ) (names : List (List ℕ)) (front : List WordLine) (line : WordLine) (state mask : ℕ) (marks : List ℕ)
    → AreMarks n names front marks → GivesMask n names line state mask
    → AreMarks n names (front ++ line ∷ []) (marks_with marks state mask)
marks_more n names front line state mask marks h g =
    let place = state - 1 in
    let now = marks_with marks state mask in
    let old = get_or marks place 0 in
    let first : 1 ≤ state = g.is.is_state.0 in
    let last : state ≤ n = g.is.is_state.1 in
    let inside : place < length marks = omega (arith, h.each) in
    let name = λ (j : ℕ). get_or names j [] in
    let here : get_or now place 0 ≡ bit_or old mask = get_or-set_same marks place (bit_or old mask) 0 inside in
    let elsewhere = λ (s : ℕ) (other : s ≢ place). get_or-set_other marks place s (bit_or old mask) 0 other in
    record {
      each = length-set marks place (bit_or old mask) ∙ h.each;
      within =
          All-set (λ mark. mark < 2 ^ length names) marks place (bit_or old mask)
          (or_lt (length names) old mask (h.within place 0 inside) g.mask_is.within) h.within;
      given = λ s j l k. (
        λ t. elim (cases_eq s place) [
          | inl same ↦
              let on : bit_at (bit_or old mask) j ≡ 1 =
              ap (λ z. bit_at z j) (sym (ap (λ z. get_or now z 0) same ∙ here)) ∙ on_bit (get_or now s 0) j t
              in
              let number : s + 1 ≡ state = omega arith in
              elim (bit_of_or old mask j on) [
                | inl before ↦
                    gives_earlier front line (s + 1) (name j)
                    ((h.given s j l k).0 (bit_on (get_or marks s 0) j (ap (λ z. bit_at (get_or marks z 0) j) same ∙ before)))
                | inr added ↦
                    gives_here front line (s + 1) g.labels (name j)
                    (subst (λ z. BeginsWithNumber line z g.labels) (sym number) g.is.begins) ((g.mask_is.bits j k).0 (bit_on mask j added))
              ]
          | inr other ↦
              gives_earlier front line (s + 1) (name j)
              ((h.given s j l k).0 (bit_on (get_or marks s 0) j
              (ap (λ z. bit_at z j) (sym (elsewhere s other)) ∙ on_bit (get_or now s 0) j t)))
        ],
        λ t. elim (gives_cases front line state (s + 1) g.labels (name j) g.is.begins t) [
          | inl before ↦
              let was : bit_at (get_or marks s 0) j ≡ 1 = on_bit (get_or marks s 0) j ((h.given s j l k).1 before) in
              elim (cases_eq s place) [
                | inl same ↦
                    bit_on (get_or now s 0) j
                    (ap (λ z. bit_at z j) (ap (λ z. get_or now z 0) same ∙ here) ∙ or_of_left old mask j
                    (ap (λ z. bit_at (get_or marks z 0) j) (sym same) ∙ was))
                | inr other ↦ bit_on (get_or now s 0) j (ap (λ z. bit_at z j) (elsewhere s other) ∙ was)
              ]
          | inr added ↦
              let same : s ≡ place = omega (arith, added.0) in
              bit_on (get_or now s 0) j
              (ap (λ z. bit_at z j) (ap (λ z. get_or now z 0) same ∙ here) ∙ or_of_right old mask j
              (on_bit mask j ((g.mask_is.bits j k).1 added.1)))
        ],
      );
    }

-- bits are equal where each is 1 when the other is
pub same_bit : (x y : ℕ) → x < 2 → y < 2 → (x ≡ 1 → y ≡ 1) → (y ≡ 1 → x ≡ 1) → x ≡ y
same_bit x y l m f g =
    elim (cases_eq x 1) [
      | inl on ↦ omega (arith, f on)
      | inr off ↦ elim (cases_eq y 1) [
        | inl on ↦ absurd (off (g on))
        | inr off2 ↦ omega arith
      ]
    ]

-- the marks that lines give are determined
pub one_marks : (n : ℕ) (names : List (List ℕ)) (body : List WordLine) (a b : List ℕ) → AreMarks n names body a → AreMarks n names body b
    → a ≡ b
one_marks n names body a b h k =
    same_lists a b (h.each ∙ sym k.each)
    (λ s d l.
    let small : s < n = omega (arith, h.each) in
    let there : s < length b = omega (arith, k.each) in
    same_mark s d l there small)
  where
    same_mark : (s d : ℕ) → s < length a → s < length b → s < n → get_or a s d ≡ get_or b s d
    same_mark s d l m small =
        let x = get_or a s 0 in
        let y = get_or b s 0 in
        get_or_default a s d 0 l
        ∙ same_from_bits_below (length names) x y (h.within s 0 l) (k.within s 0 m)
        (λ j i. same_bit (bit_at x j) (bit_at y j) (bit_at-lt x j) (bit_at-lt y j)
        (λ on. on_bit y j ((k.given s j small i).1 ((h.given s j small i).0 (bit_on x j on))))
        (λ on. on_bit x j ((h.given s j small i).1 ((k.given s j small i).0 (bit_on y j on)))))
        ∙ sym (get_or_default b s d 0 m)
