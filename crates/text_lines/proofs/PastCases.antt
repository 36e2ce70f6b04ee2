-- The first of the lines whose entry goes past a limit, if there is one.
use Rattle.std.proofs.Common.{◌≡◌, ℕ, inl, inr, Option, Some, None, Bool, true, false, cond, List, [], ◌∷◌, ◌++◌, length, ap, refl, sym}
use Rattle.std.proofs.Common.{subst, ◌∙◌, append_assoc, append-nil, arith}
use Rattle.std.proofs.lemmas.Bool.{cases_Bool, cond-true, cond-false}
use Rattle.text_lines.specs.WordLines.{WordLine}

-- a limit that lists of entries keep or not, and a test for one entry more
pub record IsLimit {E : Type 0} (IsWithin IsPast : List E → Type 0) : Type 0 where
  pub none : IsWithin []
  pub fits : List E → E → Bool
  pub more : (es : List E) (e : E) → IsWithin es → fits es e ≡ true → IsWithin (es ++ e ∷ [])
  pub over : (es : List E) (e : E) → fits es e ≡ false → IsPast (es ++ e ∷ [])
  pub front : (es : List E) (e : E) (fs : List E) → IsWithin (es ++ e ∷ fs) → fits es e ≡ true
  pub past : (es : List E) (e : E) → IsWithin es → IsPast (es ++ e ∷ []) → fits es e ≡ false

module _ {E : Type 0} (IsWithin IsPast : List E → Type 0) where
  -- a line and its entry, which is the first that goes past the limit after the entries before
  pub record IsPastLine (before : List E) (lines : List WordLine) (entries : List E) (number : ℕ) : Type 0 where
    pub earlier : List WordLine
    pub line : WordLine
    pub later : List WordLine
    pub front : List E
    pub entry : E
    pub after : List E
    pub lines_split : lines ≡ earlier ++ line ∷ later
    pub entries_split : entries ≡ front ++ entry ∷ after
    pub place : length earlier ≡ length front
    pub within : IsWithin (before ++ front)
    pub past : IsPast ((before ++ front) ++ entry ∷ [])
    pub here : number ≡ line.number

  abbrev pub IsPastCase : List E → List WordLine → List E → Option ℕ → Type 0
  IsPastCase before lines entries None = IsWithin (before ++ entries)
  IsPastCase before lines entries (Some number) = IsPastLine before lines entries number

  one_more : (before : List E) (line : WordLine) (lines : List WordLine) (e : E) (es : List E) (c : Option ℕ)
      → IsPastCase (before ++ e ∷ []) lines es c
      → IsPastCase before (line ∷ lines) (e ∷ es) c
  one_more before line lines e es None h = subst IsWithin (append_assoc before (e ∷ []) es) h
  one_more before line lines e es (Some number) h = record {
    earlier = line ∷ h.earlier;
    line = h.line;
    later = h.later;
    front = e ∷ h.front;
    entry = h.entry;
    after = h.after;
    lines_split = ap (λ z. line ∷ z) h.lines_split;
    entries_split = ap (λ z. e ∷ z) h.entries_split;
    place = omega (arith, h.place);
    within = subst IsWithin (append_assoc before (e ∷ []) h.front) h.within;
    past = subst (λ z. IsPast (z ++ h.entry ∷ [])) (append_assoc before (e ∷ []) h.front) h.past;
    here = h.here;
  }

  module _ (is : IsLimit IsWithin IsPast) where
    -- after the entries before: the number of the first line that goes past the limit
    unfoldable pub first_past : List E → List WordLine → List E → Option ℕ
    first_past before [] entries = None
    first_past before (line ∷ lines) [] = None
    first_past before (line ∷ lines) (e ∷ es) = cond (is.fits before e) (first_past (before ++ e ∷ []) lines es) (Some line.number)

    first_past-within : (before : List E) (line : WordLine) (lines : List WordLine) (e : E) (es : List E) → is.fits before e ≡ true
        → first_past before (line ∷ lines) (e ∷ es) ≡ first_past (before ++ e ∷ []) lines es
    unfolding first_past
    first_past-within before line lines e es h = cond-true (is.fits before e) _ _ h

    first_past-past : (before : List E) (line : WordLine) (lines : List WordLine) (e : E) (es : List E) → is.fits before e ≡ false
        → first_past before (line ∷ lines) (e ∷ es) ≡ Some line.number
    unfolding first_past
    first_past-past before line lines e es h = cond-false (is.fits before e) _ _ h

    -- all entries are within the limit
    pub all_within : (before : List E) (lines : List WordLine) (entries : List E) → IsWithin (before ++ entries)
        → first_past before lines entries ≡ None
    unfolding first_past
    all_within before [] entries h = refl
    all_within before (line ∷ lines) [] h = refl
    all_within before (line ∷ lines) (e ∷ es) h =
        first_past-within before line lines e es (is.front before e es h)
        ∙ all_within (before ++ e ∷ []) lines es (subst IsWithin (sym (append_assoc before (e ∷ []) es)) h)

    -- this is the first line that isn't
    pub past_is : (before : List E) (earlier : List WordLine) (line : WordLine) (later : List WordLine) (front : List E) (e : E)
        (after : List E)
        → length earlier ≡ length front → IsWithin (before ++ front) → IsPast ((before ++ front) ++ e ∷ [])
        → first_past before (earlier ++ line ∷ later) (front ++ e ∷ after) ≡ Some line.number
    past_is before [] line later [] e after place within past =
        let all = append-nil before in
        first_past-past before line later e after
        (is.past before e (subst IsWithin all within) (subst (λ z. IsPast (z ++ e ∷ [])) all past))
    past_is before [] line later (f ∷ fs) e after place within past = absurd (omega (arith, place))
    past_is before (k ∷ ks) line later [] e after place within past = absurd (omega (arith, place))
    past_is before (k ∷ ks) line later (f ∷ fs) e after place within past =
        let joined = sym (append_assoc before (f ∷ []) fs) in
        first_past-within before k (ks ++ line ∷ later) f (fs ++ e ∷ after) (is.front before f fs within)
        ∙ past_is (before ++ f ∷ []) ks line later fs e after (omega (arith, place)) (subst IsWithin joined within)
        (subst (λ z. IsPast (z ++ e ∷ [])) joined past)

    -- what `first_past` says holds
    pub first_past_holds : (before : List E) (lines : List WordLine) (entries : List E) → length lines ≡ length entries → IsWithin before
        → IsPastCase before lines entries (first_past before lines entries)
    unfolding first_past
    first_past_holds before [] [] long h = subst IsWithin (sym (append-nil before)) h
    first_past_holds before [] (e ∷ es) long h = absurd (omega (arith, long))
    first_past_holds before (line ∷ lines) [] long h = absurd (omega (arith, long))
    first_past_holds before (line ∷ lines) (e ∷ es) long h =
        elim (cases_Bool (is.fits before e)) [
          | inl t ↦
              subst (IsPastCase before (line ∷ lines) (e ∷ es)) (sym (first_past-within before line lines e es t))
              (one_more before line lines e es (first_past (before ++ e ∷ []) lines es)
              (first_past_holds (before ++ e ∷ []) lines es (omega (arith, long)) (is.more before e h t)))
          | inr f ↦
              subst (IsPastCase before (line ∷ lines) (e ∷ es)) (sym (first_past-past before line lines e es f))
              (record {
                earlier = [];
                line = line;
                later = lines;
                front = [];
                entry = e;
                after = es;
                lines_split = refl;
                entries_split = refl;
                place = refl;
                within = subst IsWithin (sym (append-nil before)) h;
                past = subst (λ z. IsPast (z ++ e ∷ [])) (sym (append-nil before)) (is.over before e f);
                here = refl;
              })
        ]
