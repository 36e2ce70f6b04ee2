-- The two lines at the head are right, or one of them is the first that is wrong.
use Rattle.std.proofs.Common.{◌≡◌, ℕ, inl, inr, cond, nat_lt, List, [], ◌∷◌, ap, refl, sym, subst, ◌∙◌}
use Rattle.std.specs.Prelude.{codes, bytes_eq}
use Rattle.std.specs.Cmp.Lexicographic.{bytes_decides}
use Rattle.std.proofs.lemmas.Bool.{cases_lt, cases_Bool, lt-ltb, le-ltb, cond-true, cond-false, both_ways, false_from_ne_true}
use Rattle.std.specs.Str.Parse.{IsNumeral}
use Rattle.decimal_text.proofs.NumberOrNot.{numeral_or_not}
use Rattle.text_lines.specs.WholeNumber.{whole_value}
use Rattle.text_lines.specs.WordLines.{WordLine}
use Rattle.text_lines.specs.declared.fault.FileWhat.{FileWhat}
use Rattle.text_lines.specs.declared.fault.FileWhat.TheVariants as what
use Rattle.model_core.proofs.StateNumbers.{is_state, state_decides}
use Rattle.model_core.specs.declared.limits.TheConstants.{MOST_STATES, MOST_TRANSITIONS}
use Rattle.text_lines.proofs.WholeNumbers.{one_whole}
use Rattle.tra_reader.specs.Head.{BeginsWithCount, HasStates, HasHead}
use Rattle.tra_reader.specs.TraFault.{line_or_end, LacksCount, LacksTransitions, StatesOutOfRange, TransitionsOutOfRange, LinesHaveFault}

-- a line's number, its count, and the lines after it, where it is a keyword and a count
pub data CountCase : Type 0 where
  NoCount : CountCase
  Counts : ℕ → ℕ → List WordLine → CountCase

abbrev pub IsCountCase : List ℕ → List WordLine → CountCase → Type 0
IsCountCase keyword lines NoCount = (count : ℕ) (others : List WordLine) → ¬ BeginsWithCount keyword lines count others
IsCountCase keyword lines (Counts number count others) = (b : BeginsWithCount keyword lines count others) × (b.line.number ≡ number)

same_line : (l k : WordLine) (ls ks : List WordLine) → l ∷ ls ≡ k ∷ ks → l ≡ k
same_line l k ls ks e = cc

same_lines : (l k : WordLine) (ls ks : List WordLine) → l ∷ ls ≡ k ∷ ks → ls ≡ ks
same_lines l k ls ks e = cc

count_case_unique : (keyword : List ℕ) (lines : List WordLine) (p q : CountCase) → IsCountCase keyword lines p
    → IsCountCase keyword lines q → p ≡ q
count_case_unique keyword lines NoCount NoCount h k = refl
count_case_unique keyword lines NoCount (Counts number count others) h k = absurd (h count others k.0)
count_case_unique keyword lines (Counts number count others) NoCount h k = absurd (k count others h.0)
count_case_unique keyword lines (Counts number count others) (Counts number' count' others') h k =
    let e = sym h.0.first ∙ k.0.first in
    let line : h.0.line ≡ k.0.line = same_line h.0.line k.0.line others others' e in
    let numbers : number ≡ number' = sym h.1 ∙ ap (λ z. z.number) line ∙ k.1 in
    let said = h.0.says in
    let again = k.0.says in
    let words : said.word ≡ again.word = second keyword keyword said.word again.word (sym said.are ∙ ap (λ z. z.words) line ∙ again.are) in
    let counts : count ≡ count' = one_whole said.word again.word count count' said.whole again.whole words in
    let after : others ≡ others' = same_lines h.0.line k.0.line others others' e in
    cc
  where
    second : (a b c d : List ℕ) → a ∷ c ∷ [] ≡ b ∷ d ∷ [] → c ≡ d
    second a b c d e = cc

-- a first line with other words
not_two : (keyword : List ℕ) (line : WordLine) (lines : List WordLine)
    → ((word : List ℕ) → IsNumeral 10 word → line.words ≡ keyword ∷ word ∷ [] → ⊥) → IsCountCase keyword (line ∷ lines) NoCount
not_two keyword line lines n count others b =
    n b.says.word b.says.whole.digits (ap (λ z. z.words) (same_line line b.line lines others b.first) ∙ b.says.are)

of_two : (keyword : List ℕ) (line : WordLine) (lines : List WordLine) (a b : List ℕ) → line.words ≡ a ∷ b ∷ []
    → (c : CountCase) × IsCountCase keyword (line ∷ lines) c
of_two keyword line lines a b e =
    elim (cases_Bool (bytes_eq a keyword)) [
      | inr f ↦ (
        NoCount,
        not_two keyword line lines (λ word d h.
            let same : a ≡ keyword = first a keyword b word (sym e ∙ h) in
            both_ways (bytes_eq a keyword) f ((bytes_decides a keyword).1 same)),
      )
      | inl t ↦ elim (numeral_or_not b) [
        | inr n ↦ (NoCount, not_two keyword line lines (λ word d h. n (subst (IsNumeral 10) (second keyword a word b (sym h ∙ e)) d)))
        | inl d ↦
            let same : a ≡ keyword = (bytes_decides a keyword).0 t in
            let words : line.words ≡ keyword ∷ b ∷ [] = e ∙ ap (λ z. z ∷ b ∷ []) same in (
              Counts line.number (whole_value b) lines,
              (
                record { line = line; first = refl; says = record { word = b; are = words; whole = record { digits = d; value = refl } } },
                refl,
              ),
            )
      ]
    ]
  where
    first : (a b c d : List ℕ) → a ∷ c ∷ [] ≡ b ∷ d ∷ [] → a ≡ b
    first a b c d e = cc

    second : (a b c d : List ℕ) → a ∷ c ∷ [] ≡ b ∷ d ∷ [] → c ≡ d
    second a b c d e = cc

zero_words : (v w : List ℕ) → [] ≡ v ∷ w ∷ [] → ⊥
zero_words v w e = cc

one_word : (a v w : List ℕ) → a ∷ [] ≡ v ∷ w ∷ [] → ⊥
one_word a v w e = cc

more_words : (a b c : List ℕ) (more : List (List ℕ)) (v w : List ℕ) → a ∷ b ∷ c ∷ more ≡ v ∷ w ∷ [] → ⊥
more_words a b c more v w e = cc

some_count_case : (keyword : List ℕ) (lines : List WordLine) → (c : CountCase) × IsCountCase keyword lines c
some_count_case keyword [] = (NoCount, λ count others b. nothing others b.line b.first) where
  nothing : (ls : List WordLine) (l : WordLine) → [] ≡ l ∷ ls → ⊥
  nothing ls l e = cc
some_count_case keyword (line ∷ lines) = by_words keyword line lines line.words refl where
  by_words : (keyword : List ℕ) (line : WordLine) (lines : List WordLine) (words : List (List ℕ)) → line.words ≡ words
      → (c : CountCase) × IsCountCase keyword (line ∷ lines) c
  by_words keyword line lines [] e = (NoCount, not_two keyword line lines (λ word d h. zero_words keyword word (sym e ∙ h)))
  by_words keyword line lines (a ∷ []) e = (NoCount, not_two keyword line lines (λ word d h. one_word a keyword word (sym e ∙ h)))
  by_words keyword line lines (a ∷ b ∷ []) e = of_two keyword line lines a b e
  by_words keyword line lines (a ∷ b ∷ c ∷ more) e =
      (NoCount, not_two keyword line lines (λ word d h. more_words a b c more keyword word (sym e ∙ h)))

count_case : List ℕ → List WordLine → CountCase
count_case keyword lines = (some_count_case keyword lines).0

count_case_holds : (keyword : List ℕ) (lines : List WordLine) → IsCountCase keyword lines (count_case keyword lines)
unfolding count_case
count_case_holds keyword lines = (some_count_case keyword lines).1

count_case_is : (keyword : List ℕ) (lines : List WordLine) (c : CountCase) → IsCountCase keyword lines c → count_case keyword lines ≡ c
count_case_is keyword lines c h = count_case_unique keyword lines (count_case keyword lines) c (count_case_holds keyword lines) h

-- ---- the head

-- what the head of the lines is
pub data HeadCase : Type 0 where
  Head : ℕ → ℕ → List WordLine → HeadCase
  NoHead : ℕ → FileWhat → HeadCase

abbrev pub IsHeadCase : List WordLine → ℕ → HeadCase → Type 0
IsHeadCase lines end (Head n count body) = HasHead lines n count body
IsHeadCase lines end (NoHead number w) = LinesHaveFault lines end number w

abbrev by_transitions : ℕ → List WordLine → ℕ → CountCase → HeadCase
by_transitions n others end NoCount = NoHead (line_or_end others end) what.Header
by_transitions n others end (Counts number count body) =
    cond (nat_lt MOST_TRANSITIONS count) (NoHead number what.TransitionsRange) (Head n count body)

abbrev by_states : List WordLine → ℕ → CountCase → HeadCase
by_states lines end NoCount = NoHead (line_or_end lines end) what.Header
by_states lines end (Counts number n others) =
    cond (is_state MOST_STATES n) (by_transitions n others end (count_case (codes "TRANSITIONS") others)) (NoHead number what.StatesRange)

pub head_case : List WordLine → ℕ → HeadCase
head_case lines end = by_states lines end (count_case (codes "STATES") lines)

-- the line of the states is right
with_states : (lines : List WordLine) (end n : ℕ) (others : List WordLine) → HasStates lines n others
    → head_case lines end ≡ by_transitions n others end (count_case (codes "TRANSITIONS") others)
unfolding head_case
with_states lines end n others h =
    ap (by_states lines end) (count_case_is (codes "STATES") lines (Counts h.begins.line.number n others) (h.begins, refl))
    ∙ cond-true (is_state MOST_STATES n) _ _ ((state_decides MOST_STATES n).1 h.range)

with_head : (lines : List WordLine) (end n : ℕ) (others : List WordLine) (count : ℕ) (body : List WordLine) → HasStates lines n others
    → (b : BeginsWithCount (codes "TRANSITIONS") others count body)
    → head_case lines end ≡ by_transitions n others end (Counts b.line.number count body)
with_head lines end n others count body h b =
    with_states lines end n others h
    ∙ ap (by_transitions n others end) (count_case_is (codes "TRANSITIONS") others (Counts b.line.number count body) (b, refl))

-- the head is right
pub head_is : (lines : List WordLine) (end n count : ℕ) (body : List WordLine) → HasHead lines n count body
    → head_case lines end ≡ Head n count body
head_is lines end n count body h =
    with_head lines end n h.others count body h.states h.begins
    ∙ cond-false (nat_lt MOST_TRANSITIONS count) _ _ (le-ltb MOST_TRANSITIONS count h.few)

pub lacks_states : (lines : List WordLine) (end number : ℕ) → LacksCount (codes "STATES") lines end number
    → head_case lines end ≡ NoHead number what.Header
unfolding head_case
lacks_states lines end number h =
    ap (by_states lines end) (count_case_is (codes "STATES") lines NoCount h.lacks)
    ∙ ap (λ z. NoHead z what.Header) (sym h.here)

pub lacks_transitions : (lines : List WordLine) (end number : ℕ) → LacksTransitions lines end number
    → head_case lines end ≡ NoHead number what.Header
lacks_transitions lines end number h =
    with_states lines end h.n h.others h.states
    ∙ ap (by_transitions h.n h.others end) (count_case_is (codes "TRANSITIONS") h.others NoCount h.lacks.lacks)
    ∙ ap (λ z. NoHead z what.Header) (sym h.lacks.here)

pub states_outside : (lines : List WordLine) (end number : ℕ) → StatesOutOfRange lines number
    → head_case lines end ≡ NoHead number what.StatesRange
unfolding head_case
states_outside lines end number h =
    ap (by_states lines end) (count_case_is (codes "STATES") lines (Counts h.begins.line.number h.n h.others) (h.begins, refl))
    ∙ cond-false (is_state MOST_STATES h.n) _ _
    (false_from_ne_true (is_state MOST_STATES h.n) (λ t. h.outside ((state_decides MOST_STATES h.n).0 t)))
    ∙ ap (λ z. NoHead z what.StatesRange) (sym h.here)

pub transitions_outside : (lines : List WordLine) (end number : ℕ) → TransitionsOutOfRange lines number
    → head_case lines end ≡ NoHead number what.TransitionsRange
transitions_outside lines end number h =
    with_head lines end h.n h.others h.count h.body h.states h.begins
    ∙ cond-true (nat_lt MOST_TRANSITIONS h.count) _ _ (lt-ltb MOST_TRANSITIONS h.count h.outside)
    ∙ ap (λ z. NoHead z what.TransitionsRange) (sym h.here)

-- ---- the head is what `head_case` says

transitions_hold : (lines : List WordLine) (end n : ℕ) (others : List WordLine) (c : CountCase) → HasStates lines n others
    → IsCountCase (codes "TRANSITIONS") others c → IsHeadCase lines end (by_transitions n others end c)
transitions_hold lines end n others NoCount h k =
    inr (record { n = n; others = others; states = h; lacks = record { lacks = k; here = refl } })
transitions_hold lines end n others (Counts number count body) h k =
    let outside = NoHead number what.TransitionsRange in
    let right = Head n count body in
    elim (cases_lt MOST_TRANSITIONS count) [
      | inl more ↦
          subst (IsHeadCase lines end) (sym (cond-true (nat_lt MOST_TRANSITIONS count) outside right (lt-ltb MOST_TRANSITIONS count more)))
          (record { n = n; others = others; states = h; count = count; body = body; begins = k.0; outside = more; here = sym k.1 })
      | inr few ↦
          subst (IsHeadCase lines end) (sym (cond-false (nat_lt MOST_TRANSITIONS count) outside right (le-ltb MOST_TRANSITIONS count few)))
          (record { others = others; states = h; begins = k.0; few = few })
    ]

states_hold : (lines : List WordLine) (end : ℕ) (c : CountCase) → IsCountCase (codes "STATES") lines c
    → IsHeadCase lines end (by_states lines end c)
states_hold lines end NoCount k = inl (record { lacks = k; here = refl })
states_hold lines end (Counts number n others) k =
    let right = by_transitions n others end (count_case (codes "TRANSITIONS") others) in
    let outside = NoHead number what.StatesRange in
    elim (cases_Bool (is_state MOST_STATES n)) [
      | inl t ↦
          subst (IsHeadCase lines end) (sym (cond-true (is_state MOST_STATES n) right outside t))
          (transitions_hold lines end n others (count_case (codes "TRANSITIONS") others) (record {
            begins =
                k.0;
            range = (state_decides MOST_STATES n).0 t;
          }) (count_case_holds (codes "TRANSITIONS") others))
      | inr f ↦
          subst (IsHeadCase lines end) (sym (cond-false (is_state MOST_STATES n) right outside f))
          (record {
            n =
                n;
            others = others;
            begins = k.0;
            outside = λ r. both_ways (is_state MOST_STATES n) f ((state_decides MOST_STATES n).1 r);
            here = sym k.1;
          })
    ]

pub head_holds : (lines : List WordLine) (end : ℕ) → IsHeadCase lines end (head_case lines end)
unfolding head_case
head_holds lines end = states_hold lines end (count_case (codes "STATES") lines) (count_case_holds (codes "STATES") lines)
