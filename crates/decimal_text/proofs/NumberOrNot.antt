-- Whether a word is in the grammar of numbers can be decided.
use Rattle.std.proofs.Common.{◌≡◌, ℕ, ◌+◌, ◌≤◌, ◌≢◌, ◌⊎◌, inl, inr, Option, Some, None, unwrap_or, List, [], ◌∷◌, ◌++◌, length, ap, refl}
use Rattle.std.proofs.Common.{sym, subst, append_assoc, ◌∙◌, arith}
use Rattle.std.proofs.lemmas.Bool.{cases_lt, cases_eq}
use Rattle.std.specs.Char.{digit_value}
use Rattle.std.specs.Str.Parse.{AllDigits, IsNumeral}
use Rattle.decimal_text.specs.Spelling.{decimals_text, Sign, NoSign, Plus, Minus, sign_text, ExponentSpelling, exponent_text, IsExponent}
use Rattle.decimal_text.specs.Spelling.{Spelling, IsSpelledAs, IsNumber}
use Rattle.decimal_text.specs.Reading.{BeginsWithNoDigit, BeginsWithNoPoint}
use Rattle.decimal_text.proofs.Grammar.{run_unique, exponent_after_digits, exponent_after_point}

-- the bytes are digits, or not
pub digits_or_not : (ds : List ℕ) → AllDigits 10 ds ⊎ ¬ AllDigits 10 ds
digits_or_not [] = inl tt
digits_or_not (c ∷ cs) =
    elim (cases_lt (digit_value c) 10) [
      | inl d ↦ elim (digits_or_not cs) [
        | inl h ↦ inl (d, h)
        | inr n ↦ inr (λ h. n h.1)
      ]
      | inr d ↦ inr (λ h. omega (arith, h.0, d))
    ]

-- the word is a digit or more and nothing else, or not
pub numeral_or_not : (ds : List ℕ) → IsNumeral 10 ds ⊎ ¬ IsNumeral 10 ds
numeral_or_not [] = inr (λ h. omega (arith, h.0))
numeral_or_not (c ∷ cs) =
    elim (digits_or_not (c ∷ cs)) [
      | inl h ↦ inl (omega arith, h)
      | inr n ↦ inr (λ h. n h.1)
    ]

-- the digits with which a text begins, and the rest
record Run (text : List ℕ) : Type 0 where
  digits : List ℕ
  rest : List ℕ
  split : text ≡ digits ++ rest
  all : AllDigits 10 digits
  ends : BeginsWithNoDigit rest

run_of : (text : List ℕ) → Run text
run_of [] = record { digits = []; rest = []; split = refl; all = tt; ends = tt }
run_of (c ∷ cs) =
    elim (cases_lt (digit_value c) 10) [
      | inl d ↦
          let r = run_of cs in
          record { digits = c ∷ r.digits; rest = r.rest; split = ap (λ z. c ∷ z) r.split; all = (d, r.all); ends = r.ends }
      | inr d ↦ record { digits = []; rest = c ∷ cs; split = refl; all = tt; ends = d }
    ]

-- a sign or none, and digits
record IsSigned (text : List ℕ) : Type 0 where
  sign : Sign
  digits : List ℕ
  spelled : text ≡ sign_text sign ++ digits
  numeral : IsNumeral 10 digits

same_first : (a b : ℕ) (xs ys : List ℕ) → a ∷ xs ≡ b ∷ ys → a ≡ b
same_first a b xs ys e = cc

same_rest : (a b : ℕ) (xs ys : List ℕ) → a ∷ xs ≡ b ∷ ys → xs ≡ ys
same_rest a b xs ys e = cc

-- text that begins with a sign's byte
signed_by : (sign : Sign) (c : ℕ) (cs : List ℕ) → sign_text sign ≡ c ∷ [] → 10 ≤ digit_value c → IsSigned (c ∷ cs) ⊎ ¬ IsSigned (c ∷ cs)
signed_by sign c cs e d =
    elim (numeral_or_not cs) [
      | inl n ↦ inl (record { sign = sign; digits = cs; spelled = ap (λ z. z ++ cs) (sym e); numeral = n })
      | inr n ↦ inr (λ h. not_signed c cs d n h.sign h.digits h.spelled h.numeral)
    ]
  where
    not_signed : (c : ℕ) (cs : List ℕ) → 10 ≤ digit_value c → ¬ IsNumeral 10 cs → (t : Sign) (ds : List ℕ) → c ∷ cs ≡ sign_text t ++ ds
        → IsNumeral 10 ds → ⊥
    not_signed c cs d n NoSign [] e m = cc
    not_signed c cs d n NoSign (b ∷ bs) e m = omega (arith, d, m.1.0, ap digit_value (same_first c b cs bs e))
    not_signed c cs d n Plus ds e m = n (subst (IsNumeral 10) (sym (same_rest c 43 cs ds e)) m)
    not_signed c cs d n Minus ds e m = n (subst (IsNumeral 10) (sym (same_rest c 45 cs ds e)) m)

not_plain : (c : ℕ) (cs : List ℕ) → c ≢ 43 → c ≢ 45 → ¬ IsNumeral 10 (c ∷ cs) → (t : Sign) (ds : List ℕ) → c ∷ cs ≡ sign_text t ++ ds
    → IsNumeral 10 ds → ⊥
not_plain c cs p m n NoSign ds e h = n (subst (IsNumeral 10) (sym e) h)
not_plain c cs p m n Plus ds e h = p (same_first c 43 cs ds e)
not_plain c cs p m n Minus ds e h = m (same_first c 45 cs ds e)

signed_or_not : (text : List ℕ) → IsSigned text ⊎ ¬ IsSigned text
signed_or_not [] = inr (λ h. none h.sign h.digits h.spelled h.numeral) where
  none : (t : Sign) (ds : List ℕ) → [] ≡ sign_text t ++ ds → IsNumeral 10 ds → ⊥
  none NoSign [] e m = omega (arith, m.0)
  none NoSign (b ∷ bs) e m = cc
  none Plus ds e m = cc
  none Minus ds e m = cc
signed_or_not (c ∷ cs) =
    elim (cases_eq c 43) [
      | inl e ↦ signed_by Plus c cs (ap (λ z. z ∷ []) (sym e)) (subst (λ z. 10 ≤ digit_value z) (sym e) (omega arith))
      | inr p ↦ elim (cases_eq c 45) [
        | inl e ↦ signed_by Minus c cs (ap (λ z. z ∷ []) (sym e)) (subst (λ z. 10 ≤ digit_value z) (sym e) (omega arith))
        | inr m ↦ elim (numeral_or_not (c ∷ cs)) [
          | inl n ↦ inl (record { sign = NoSign; digits = c ∷ cs; spelled = refl; numeral = n })
          | inr n ↦ inr (λ h. not_plain c cs p m n h.sign h.digits h.spelled h.numeral)
        ]
      ]
    ]

-- an exponent, or nothing
record IsExponentText (text : List ℕ) : Type 0 where
  exponent : Option ExponentSpelling
  spelled : text ≡ exponent_text exponent
  is : IsExponent exponent

by_letter : (c : ℕ) (cs : List ℕ) → (c ≡ 101) ⊎ (c ≡ 69) → IsExponentText (c ∷ cs) ⊎ ¬ IsExponentText (c ∷ cs)
by_letter c cs letter =
    elim (signed_or_not cs) [
      | inl s ↦
          inl (record {
            exponent = Some (record { letter = c; sign = s.sign; digits = s.digits });
            spelled = ap (λ z. c ∷ z) s.spelled;
            is = record { letter = letter; digits = s.numeral };
          })
      | inr n ↦ inr (λ h. not_written c cs n h.exponent h.spelled h.is)
    ]
  where
    not_written : (c : ℕ) (cs : List ℕ) → ¬ IsSigned cs → (o : Option ExponentSpelling) → c ∷ cs ≡ exponent_text o → IsExponent o → ⊥
    not_written c cs n None e w = cc
    not_written c cs n (Some x) e w =
        n (record { sign = x.sign; digits = x.digits; spelled = same_rest c x.letter cs _ e; numeral = w.digits })

no_letter : (c : ℕ) (cs : List ℕ) → c ≢ 101 → c ≢ 69 → (o : Option ExponentSpelling) → c ∷ cs ≡ exponent_text o → IsExponent o → ⊥
no_letter c cs n m None e w = cc
no_letter c cs n m (Some x) e w =
    let same : c ≡ x.letter = same_first c x.letter cs _ e in
    elim w.letter [
      | inl l ↦ n (same ∙ l)
      | inr l ↦ m (same ∙ l)
    ]

exponent_or_not : (text : List ℕ) → IsExponentText text ⊎ ¬ IsExponentText text
exponent_or_not [] = inl (record { exponent = None; spelled = refl; is = tt })
exponent_or_not (c ∷ cs) =
    elim (cases_eq c 101) [
      | inl e ↦ by_letter c cs (inl e)
      | inr n ↦ elim (cases_eq c 69) [
        | inl e ↦ by_letter c cs (inr e)
        | inr m ↦ inr (λ h. no_letter c cs n m h.exponent h.spelled h.is)
      ]
    ]

-- the longest text of a mantissa, which may lack digits, and the rest
record Front (word : List ℕ) : Type 0 where
  whole : List ℕ
  decimals : Option (List ℕ)
  rest : List ℕ
  split : word ≡ whole ++ (decimals_text decimals ++ rest)
  whole_digits : AllDigits 10 whole
  decimal_digits : AllDigits 10 (unwrap_or decimals [])
  digit : BeginsWithNoDigit rest
  point : decimals ≡ None → BeginsWithNoPoint rest

front_of : (word : List ℕ) → Front word
front_of word = let r = run_of word in at_rest word r.digits r.rest r.split r.all r.ends where
  no_point : (ds : List ℕ) → (Some ds ≡ None) → ⊥
  no_point ds e = cc

  at_rest : (word ds rest : List ℕ) → word ≡ ds ++ rest → AllDigits 10 ds → BeginsWithNoDigit rest → Front word
  at_rest word ds [] e h n = record {
    whole = ds;
    decimals = None;
    rest = [];
    split = e;
    whole_digits = h;
    decimal_digits = tt;
    digit = tt;
    point = λ _. tt;
  }
  at_rest word ds (c ∷ cs) e h n =
      elim (cases_eq c 46) [
        | inl p ↦
            let r = run_of cs in
            record {
              whole = ds;
              decimals = Some r.digits;
              rest = r.rest;
              split = e ∙ ap (λ z. ds ++ z ∷ cs) p ∙ ap (λ z. ds ++ 46 ∷ z) r.split;
              whole_digits = h;
              decimal_digits = r.all;
              digit = r.ends;
              point = λ none. absurd (no_point r.digits none);
            }
        | inr p ↦ record {
          whole = ds;
          decimals = None;
          rest = c ∷ cs;
          split = e;
          whole_digits = h;
          decimal_digits = tt;
          digit = n;
          point = λ _. p;
        }
      ]

point_starts : (rest more : List ℕ) → BeginsWithNoPoint rest → rest ≡ 46 ∷ more → ⊥
point_starts [] more n e = cc
point_starts (c ∷ cs) more n e = n (same_first c 46 cs more e)

after_digits : (o : Option (List ℕ)) (rest : List ℕ) → BeginsWithNoDigit rest → BeginsWithNoDigit (decimals_text o ++ rest)
after_digits None rest n = n
after_digits (Some ds) rest n = omega arith

same_decimals : (o q : Option (List ℕ)) (rest tail : List ℕ) → AllDigits 10 (unwrap_or o []) → AllDigits 10 (unwrap_or q [])
    → BeginsWithNoDigit rest → (o ≡ None → BeginsWithNoPoint rest) → BeginsWithNoDigit tail → BeginsWithNoPoint tail
    → decimals_text o ++ rest ≡ decimals_text q ++ tail → (o ≡ q) × (rest ≡ tail)
same_decimals None None rest tail a b n p m r e = (refl, e)
same_decimals None (Some es) rest tail a b n p m r e = absurd (point_starts rest (es ++ tail) (p refl) e)
same_decimals (Some ds) None rest tail a b n p m r e = absurd (point_starts tail (ds ++ rest) r (sym e))
same_decimals (Some ds) (Some es) rest tail a b n p m r e =
    let same = run_unique ds es rest tail a b n m (same_rest 46 46 _ _ e) in
    (ap Some same.0, same.1)

-- a number's mantissa is this one
record IsFrontOf (word : List ℕ) (f : Front word) (s : Spelling) : Type 0 where
  whole : f.whole ≡ s.mantissa.whole
  decimals : f.decimals ≡ s.mantissa.decimals
  rest : f.rest ≡ exponent_text s.exponent

front_is : (word : List ℕ) (f : Front word) (s : Spelling) → IsSpelledAs word s → IsFrontOf word f s
front_is word f s h =
    let tail = exponent_text s.exponent in
    let m = s.mantissa in
    let n = exponent_after_digits s.exponent h.parts.exponent in
    let p = exponent_after_point s.exponent h.parts.exponent in
    let same : f.whole ++ (decimals_text f.decimals ++ f.rest) ≡ m.whole ++ (decimals_text m.decimals ++ tail) =
    sym f.split ∙ h.text ∙ append_assoc m.whole (decimals_text m.decimals) tail
    in
    let whole =
    run_unique f.whole m.whole _ _ f.whole_digits h.parts.mantissa.whole (after_digits f.decimals f.rest f.digit)
    (after_digits m.decimals tail n) same
    in
    let more = same_decimals f.decimals m.decimals f.rest tail f.decimal_digits h.parts.mantissa.decimals f.digit f.point n p whole.1 in
    record { whole = whole.0; decimals = more.0; rest = more.1 }

-- the word is a number, or not
pub number_or_not : (word : List ℕ) → IsNumber word ⊎ ¬ IsNumber word
number_or_not word = by_front word (front_of word) where
  by_front : (word : List ℕ) → Front word → IsNumber word ⊎ ¬ IsNumber word
  by_front word f =
      elim (exponent_or_not f.rest) [
        | inr n ↦ inr (λ h. n (record { exponent = h.0.exponent; spelled = (front_is word f h.0 h.1).rest; is = h.1.parts.exponent }))
        | inl x ↦ elim (cases_lt 0 (length f.whole + length (unwrap_or f.decimals []))) [
          | inl some ↦
              inl (
                record { mantissa = record { whole = f.whole; decimals = f.decimals }; exponent = x.exponent },
                record {
                  text =
                      f.split
                      ∙ ap (λ z. f.whole ++ (decimals_text f.decimals ++ z)) x.spelled
                      ∙ sym (append_assoc f.whole (decimals_text f.decimals) (exponent_text x.exponent));
                  parts = record {
                    mantissa = record { whole = f.whole_digits; decimals = f.decimal_digits; some = some };
                    exponent = x.is;
                  };
                },
              )
          | inr none ↦ inr (λ h.
              let is = front_is word f h.0 h.1 in
              omega (arith, none, h.1.parts.mantissa.some, ap length is.whole, ap (λ z. length (unwrap_or z [])) is.decimals))
        ]
      ]
