-- The lines of a text: `line_bytes` gives them, and there are no others.
use Rattle.std.proofs.Common.{◌≡◌, ◌≢◌, ℕ, ◌+◌, ◌<◌, ◌≤◌, ◌⊎◌, inl, inr, Bool, true, false, ◌&&◌, ◌==◌, List, [], ◌∷◌, ◌++◌, length, map}
use Rattle.std.proofs.Common.{refl, sym, ap, subst, if◌then◌else◌, ◌∙◌, append_assoc, arith}
use Rattle.std.proofs.lemmas.Bool.{cases_Bool, cases_eq, ne_eqb, eqb-true, eqb-false, and_cases, both_ways, and_left, and_right, and_parts}
use Rattle.std.proofs.lemmas.List.Elements.{recursion_from_All, All-from_recursion}
use Rattle.std.specs.List.{AllByRecursion, onto_first}
use Rattle.text_lines.specs.Lines.{LineText, numbered_from, Ending, Lf, CrLf, ending_text, EndedLine, HasNoLf, EndsWithCr, IsEndedLine}
use Rattle.text_lines.specs.Lines.{ended_text, last_line, HasLines}
use Rattle.text_lines.specs.LinesOf.{begins_with_lf, line_bytes, lines_of}

abbrev IsNoLf : ℕ → Type 0
IsNoLf b = b ≢ 10

-- LF ends a line
line_bytes-lf : (bs : List ℕ) → line_bytes (10 ∷ bs) ≡ [] ∷ line_bytes bs
unfolding line_bytes
line_bytes-lf bs = refl

-- so does CR LF
line_bytes-cr_lf : (bs : List ℕ) → line_bytes (13 ∷ 10 ∷ bs) ≡ [] ∷ line_bytes bs
unfolding line_bytes
line_bytes-cr_lf bs = refl

-- and another byte belongs to a line
line_bytes-other : (b : ℕ) (bs : List ℕ) → (b == 10) ≡ false → (b == 13 && begins_with_lf bs) ≡ false
    → line_bytes (b ∷ bs) ≡ onto_first b (line_bytes bs)
unfolding line_bytes
line_bytes-other b bs e f = rw (e, f) refl

-- bytes without LF don't begin with it
begins_without : (bs : List ℕ) → AllByRecursion IsNoLf bs → begins_with_lf bs ≡ false
begins_without [] h = refl
begins_without (b ∷ bs) h = ne_eqb b 10 h.0

-- one byte of a line more, where no LF stands after it
line_more : (b : ℕ) (bs line : List ℕ) (more : List (List ℕ)) → b ≢ 10 → begins_with_lf bs ≡ false → line_bytes bs ≡ line ∷ more
    → line_bytes (b ∷ bs) ≡ (b ∷ line) ∷ more
line_more b bs line more n f e = line_bytes-other b bs (ne_eqb b 10 n) (and_right (b == 13) (begins_with_lf bs) f) ∙ ap (onto_first b) e

-- a line that LF ends
line_by_lf : (line after : List ℕ) → AllByRecursion IsNoLf line → ¬ EndsWithCr line
    → line_bytes (line ++ 10 ∷ after) ≡ line ∷ line_bytes after
line_by_lf [] after h n = line_bytes-lf after
line_by_lf (b ∷ []) after h n =
    line_bytes-other b (10 ∷ after) (ne_eqb b 10 h.0) (and_left (b == 13) true (ne_eqb b 13 (λ e. n ([], ap (λ z. z ∷ []) e))))
    ∙ ap (onto_first b) (line_bytes-lf after)
line_by_lf (b ∷ c ∷ cs) after h n =
    line_more b (c ∷ cs ++ 10 ∷ after) (c ∷ cs) (line_bytes after) h.0 (ne_eqb c 10 h.1.0)
    (line_by_lf (c ∷ cs) after h.1 (λ (front, e). n (b ∷ front, ap (λ z. b ∷ z) e)))

-- a line that CR LF ends
line_by_cr_lf : (line after : List ℕ) → AllByRecursion IsNoLf line → line_bytes (line ++ 13 ∷ 10 ∷ after) ≡ line ∷ line_bytes after
line_by_cr_lf [] after h = line_bytes-cr_lf after
line_by_cr_lf (b ∷ []) after h =
    line_more b (13 ∷ 10 ∷ after) [] (line_bytes after) h.0 refl (line_bytes-cr_lf after)
line_by_cr_lf (b ∷ c ∷ cs) after h =
    line_more b (c ∷ cs ++ 13 ∷ 10 ∷ after) (c ∷ cs) (line_bytes after) h.0 (ne_eqb c 10 h.1.0) (line_by_cr_lf (c ∷ cs) after h.1)

-- what is left without LF is the last line, if there is a byte
line_by_end : (rest : List ℕ) → AllByRecursion IsNoLf rest → line_bytes rest ≡ last_line rest
unfolding line_bytes
line_by_end [] h = refl
line_by_end (b ∷ []) h = line_bytes-other b [] (ne_eqb b 10 h.0) (and_right (b == 13) false refl)
line_by_end (b ∷ c ∷ cs) h = line_more b (c ∷ cs) (c ∷ cs) [] h.0 (ne_eqb c 10 h.1.0) (line_by_end (c ∷ cs) h.1)

-- an ended line stands first
line_by_ending : (bytes : List ℕ) (ending : Ending) (after : List ℕ) → HasNoLf bytes → (ending ≡ Lf → ¬ EndsWithCr bytes)
    → line_bytes (bytes ++ (ending_text ending ++ after)) ≡ bytes ∷ line_bytes after
line_by_ending bytes Lf after h n = line_by_lf bytes after (recursion_from_All IsNoLf bytes h) (n refl)
line_by_ending bytes CrLf after h n = line_by_cr_lf bytes after (recursion_from_All IsNoLf bytes h)

-- the lines of ended lines and a rest
line_bytes-spelled : (ended : List EndedLine) (rest : List ℕ) → AllByRecursion IsEndedLine ended → AllByRecursion IsNoLf rest
    → line_bytes (ended_text ended ++ rest) ≡ map (λ line. line.bytes) ended ++ last_line rest
line_bytes-spelled [] rest h n = line_by_end rest n
line_bytes-spelled (l ∷ ls) rest h n =
    let more = ended_text ls in
    let regrouped : (l.bytes ++ ending_text l.ending ++ more) ++ rest ≡ l.bytes ++ (ending_text l.ending ++ (more ++ rest))
    = append_assoc (l.bytes ++ ending_text l.ending) more rest ∙ append_assoc l.bytes (ending_text l.ending) (more ++ rest) in
    ap line_bytes regrouped
    ∙ line_by_ending l.bytes l.ending (more ++ rest) h.0.no_lf h.0.no_cr
    ∙ ap (λ z. l.bytes ∷ z) (line_bytes-spelled ls rest h.1 n)

-- a text has no other lines
pub lines_unique : (text : List ℕ) (lines : List LineText) → HasLines text lines → lines ≡ lines_of text
lines_unique text lines h =
    h.numbered
    ∙ ap (numbered_from 1) (sym (ap line_bytes h.spelled
    ∙ line_bytes-spelled h.ended h.rest (recursion_from_All IsEndedLine h.ended h.each) (recursion_from_All IsNoLf h.rest h.no_lf)))

-- how a text is made of its lines
record Parts (text : List ℕ) : Type 0 where
  pub ended : List EndedLine
  pub rest : List ℕ
  pub spelled : text ≡ ended_text ended ++ rest
  pub each : AllByRecursion IsEndedLine ended
  pub no_lf : AllByRecursion IsNoLf rest

-- an empty line, ended in one of the two ways, before the others
empty_line : (ending : Ending) (text : List ℕ) → Parts text → Parts (ending_text ending ++ text)
empty_line ending text p = record {
  ended = record { bytes = []; ending = ending } ∷ p.ended;
  rest = p.rest;
  spelled = ap (λ z. ending_text ending ++ z) p.spelled ∙ sym (append_assoc (ending_text ending) (ended_text p.ended) p.rest);
  each = (record { no_lf = All-from_recursion IsNoLf [] tt; no_cr = λ is. λ (front, e). no_cr_in_nothing front e }, p.each);
  no_lf = p.no_lf;
} where
  no_cr_in_nothing : (front : List ℕ) → [] ≡ front ++ 13 ∷ [] → ⊥
  no_cr_in_nothing [] e = cc
  no_cr_in_nothing (f ∷ fs) e = cc

-- one byte before a line that ends with no CR, unless it is one that LF follows
no_cr-more : (b : ℕ) (bytes : List ℕ) → (b ≡ 13 → bytes ≡ [] → ⊥) → ¬ EndsWithCr bytes → ¬ EndsWithCr (b ∷ bytes)
no_cr-more b bytes first n ([], e) =
    let cr : b ≡ 13 = cc in
    let none : bytes ≡ [] = cc in
    first cr none
no_cr-more b bytes first n (f ∷ fs, e) =
    let rest : bytes ≡ fs ++ 13 ∷ [] = cc in
    n (fs, rest)

-- one byte more of the first line
byte_before : (b : ℕ) (text : List ℕ) (ended : List EndedLine) (rest : List ℕ) → b ≢ 10 → (b ≡ 13 → begins_with_lf text ≡ true → ⊥)
    → text ≡ ended_text ended ++ rest → AllByRecursion IsEndedLine ended → AllByRecursion IsNoLf rest → Parts (b ∷ text)
byte_before b text [] rest n no_cr e h r = record { ended = []; rest = b ∷ rest; spelled = ap (λ z. b ∷ z) e; each = tt; no_lf = (n, r) }
byte_before b text (l ∷ ls) rest n no_cr e h r = record {
  ended = record { bytes = b ∷ l.bytes; ending = l.ending } ∷ ls;
  rest = rest;
  spelled = ap (λ z. b ∷ z) e;
  each = (
    record {
      no_lf = All-from_recursion IsNoLf (b ∷ l.bytes) (n, recursion_from_All IsNoLf l.bytes h.0.no_lf);
      no_cr =
          λ is. no_cr-more b l.bytes
          (λ cr none. no_cr cr (ap begins_with_lf
          (e ∙ ap (λ z. (z ++ ending_text l.ending ++ ended_text ls) ++ rest) none ∙ ap (λ z. (ending_text z ++ ended_text ls) ++ rest)
          is))) (h.0.no_cr is);
    },
    h.1,
  );
  no_lf = r;
}

-- one byte more of a text
parts_more : (b : ℕ) (bs : List ℕ) → (b ≡ 13 → begins_with_lf bs ≡ true → ⊥) → Parts bs → Parts (b ∷ bs)
parts_more b bs no_cr p =
    elim (cases_eq b 10) [
      | inl lf ↦ subst (λ z. Parts (z ∷ bs)) (sym lf) (empty_line Lf bs p)
      | inr other ↦ byte_before b bs p.ended p.rest other no_cr p.spelled p.each p.no_lf
    ]

-- each text is made so
parts_of : (text : List ℕ) → Parts text
parts_of [] = record { ended = []; rest = []; spelled = refl; each = tt; no_lf = tt }
parts_of (b ∷ []) = parts_more b [] (λ _ e. cc) (parts_of [])
parts_of (b ∷ c ∷ cs) =
    elim (cases_Bool (b == 13 && c == 10)) [
      | inl both ↦
          let parts = and_parts (b == 13) (c == 10) both in
          subst (λ z. Parts (z ∷ c ∷ cs)) (sym (eqb-true b 13 parts.0))
          (subst (λ z. Parts (13 ∷ z ∷ cs)) (sym (eqb-true c 10 parts.1)) (empty_line CrLf cs (parts_of cs)))
      | inr not_both ↦ parts_more b (c ∷ cs) (λ cr lf. one_of_two b c not_both cr lf) (parts_of (c ∷ cs))
    ]
  where
    one_of_two : (b c : ℕ) → (b == 13 && c == 10) ≡ false → b ≡ 13 → (c == 10) ≡ true → ⊥
    one_of_two b c e cr lf =
        elim (and_cases (b == 13) (c == 10) e) [ inl other ↦ eqb-false b 13 other cr | inr other ↦ both_ways (c == 10) other lf ]

-- `line_bytes` gives a text's lines
pub lines_exist : (text : List ℕ) → HasLines text (lines_of text)
lines_exist text =
    let p = parts_of text in record {
      ended = p.ended;
      rest = p.rest;
      spelled = p.spelled;
      each = All-from_recursion IsEndedLine p.ended p.each;
      no_lf = All-from_recursion IsNoLf p.rest p.no_lf;
      numbered = ap (numbered_from 1) (ap line_bytes p.spelled ∙ line_bytes-spelled p.ended p.rest p.each p.no_lf);
    }

-- as many lines as the list has
length-numbered_from : (n : ℕ) (lines : List (List ℕ)) → length (numbered_from n lines) ≡ length lines
length-numbered_from n [] = refl
length-numbered_from n (l ∷ ls) = omega (arith, length-numbered_from (n + 1) ls)

length-onto_first : (b : ℕ) (lines : List (List ℕ)) → length (onto_first b lines) ≤ length lines + 1
length-onto_first b [] = omega arith
length-onto_first b (l ∷ ls) = omega arith

-- no more lines than bytes
length-line_bytes : (text : List ℕ) → length (line_bytes text) ≤ length text
unfolding line_bytes
length-line_bytes [] = omega arith
length-line_bytes (b ∷ bs) = omega (arith, at_most (b == 10) (b == 13 && begins_with_lf bs) bs (length-line_bytes bs)) where
  at_most : (s t : Bool) (bs : List ℕ) → length (line_bytes bs) ≤ length bs
      → length (if s then [] ∷ line_bytes bs else if t then line_bytes bs else onto_first b (line_bytes bs)) ≤ length bs + 1
  at_most true t bs h = omega arith
  at_most false true bs h = omega arith
  at_most false false bs h = omega (arith, length-onto_first b (line_bytes bs))

-- no bytes, no lines
pub line_bytes-empty : (text : List ℕ) → length text ≡ 0 → line_bytes text ≡ []
line_bytes-empty [] e = line_by_end [] tt
line_bytes-empty (b ∷ bs) e = absurd (omega arith)

-- the front of bytes without LF has none
no_lf-front : (front more : List ℕ) → AllByRecursion IsNoLf (front ++ more) → AllByRecursion IsNoLf front
no_lf-front [] more h = tt
no_lf-front (b ∷ bs) more h = (h.0, no_lf-front bs more h.1)

-- the first line of a text that has LF, where `cut` is what stands before the LF without a CR at its end
pub line_bytes-first : (text line after cut : List ℕ) → text ≡ line ++ 10 ∷ after → HasNoLf line
    → (line ≡ cut ++ 13 ∷ []) ⊎ ((cut ≡ line) × (¬ EndsWithCr line)) → line_bytes text ≡ cut ∷ line_bytes after
line_bytes-first text line after cut e h (inl cr) =
    let no_lf : AllByRecursion IsNoLf (cut ++ 13 ∷ []) = subst (AllByRecursion IsNoLf) cr (recursion_from_All IsNoLf line h) in
    ap line_bytes (e ∙ ap (λ z. z ++ 10 ∷ after) cr ∙ append_assoc cut (13 ∷ []) (10 ∷ after))
    ∙ line_by_cr_lf cut after (no_lf-front cut (13 ∷ []) no_lf)
line_bytes-first text line after cut e h (inr same) =
    ap line_bytes e
    ∙ line_by_lf line after (recursion_from_All IsNoLf line h) same.1
    ∙ ap (λ z. z ∷ line_bytes after) (sym same.0)

-- a text without LF is one line
pub line_bytes-only : (text : List ℕ) → 0 < length text → HasNoLf text → line_bytes text ≡ text ∷ line_bytes []
unfolding line_bytes
line_bytes-only [] l h = absurd (omega arith)
line_bytes-only (b ∷ bs) l h = line_by_end (b ∷ bs) (recursion_from_All IsNoLf (b ∷ bs) h)

-- no more lines than bytes
pub length-lines_of : (text : List ℕ) → length (lines_of text) ≤ length text
length-lines_of text = omega (arith, length-numbered_from 1 (line_bytes text), length-line_bytes text)
