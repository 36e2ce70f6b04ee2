-- The words of a line: `words_from` gives them, and there are no others.
use Rattle.std.proofs.Common.{◌≡◌, ℕ, zero, suc, ◌+◌, ◌<◌, ◌≤◌, ◌⊎◌, ◌↔◌, inl, inr, Bool, true, false, not, IsTrue, List, [], ◌∷◌, ◌++◌}
use Rattle.std.proofs.Common.{length, take, drop, get_or, All, refl, sym, ap, subst, if◌then◌else◌, ◌∙◌, append_assoc, arith}
use Rattle.std.proofs.lemmas.Bool.{cases_Bool, both_ways, not-true, not-false}
use Rattle.std.proofs.lemmas.List.{take-append-drop, length-take-le}
use Rattle.std.proofs.Math.Seq.{drop-cons}
use Rattle.std.proofs.lemmas.List.Elements.{recursion_from_All, All-from_recursion}
use Rattle.std.proofs.lemmas.List.Kept.{AllPairs-cons}
use Rattle.std.specs.List.{AllByRecursion, AllPairs, Contains}
use Rattle.text_lines.specs.Words.{WordText, is_blank, HasNoBlank, LastIsBlank, FirstIsBlank, IsWordOf, HasWords, IsBlank}
use Rattle.text_lines.specs.WordsOf.{begins_word, lengthened, words_from, words_of}

abbrev pub IsBlankByte : ℕ → Type 0
IsBlankByte b = IsTrue (is_blank b)

abbrev pub IsWordByte : ℕ → Type 0
IsWordByte b = IsTrue (not (is_blank b))

-- a blank is passed over
words_from-blank : (column b : ℕ) (bs : List ℕ) → is_blank b ≡ true → words_from column (b ∷ bs) ≡ words_from (column + 1) bs
unfolding words_from
words_from-blank column b bs e = rw e refl

-- a byte between blanks is a word
words_from-alone : (column b : ℕ) (bs : List ℕ) → is_blank b ≡ false → begins_word bs ≡ false
    → words_from column (b ∷ bs) ≡ record { column = column; bytes = b ∷ [] } ∷ words_from (column + 1) bs
unfolding words_from
words_from-alone column b bs e f = rw (e, f) refl

-- a byte before a word lengthens it
words_from-more : (column b : ℕ) (bs : List ℕ) → is_blank b ≡ false → begins_word bs ≡ true
    → words_from column (b ∷ bs) ≡ lengthened column b (words_from (column + 1) bs)
unfolding words_from
words_from-more column b bs e f = rw (e, f) refl

-- no bytes, no words
words_from-nil : (column : ℕ) → words_from column [] ≡ []
unfolding words_from
words_from-nil column = refl

-- a blank first, or no byte
first_is_blank : (bs : List ℕ) → begins_word bs ≡ false → FirstIsBlank bs
first_is_blank [] e x more is = cc
first_is_blank (b ∷ bs) e x more is =
    let same : b ≡ x = cc in
    subst IsBlankByte same (not-false (is_blank b) e)

no_word_begins : (bs : List ℕ) → FirstIsBlank bs → begins_word bs ≡ false
no_word_begins [] h = refl
no_word_begins (b ∷ bs) h = ap not (h b bs refl)

-- a word that can't be longer stands first
words_from-word : (column : ℕ) (word after : List ℕ) (next : ℕ) → 0 < length word → AllByRecursion IsWordByte word → FirstIsBlank after
    → next ≡ column + length word → words_from column (word ++ after) ≡ record { column = column; bytes = word } ∷ words_from next after
words_from-word column [] after next l h n e = absurd (omega arith)
words_from-word column (b ∷ []) after next l h n e =
    let here : column + 1 ≡ next = omega arith in
    words_from-alone column b after (not-true (is_blank b) h.0) (no_word_begins after n)
    ∙ ap (λ z. record { column = column; bytes = b ∷ [] } ∷ words_from z after) here
words_from-word column (b ∷ d ∷ ds) after next l h n e =
    words_from-more column b (d ∷ ds ++ after) (not-true (is_blank b) h.0) h.1.0
    ∙ ap (lengthened column b) (words_from-word (column + 1) (d ∷ ds) after next (omega arith) h.1 n (omega arith))

-- blanks are passed over
words_from-blanks : (column : ℕ) (blanks rest : List ℕ) (next : ℕ) → AllByRecursion IsBlankByte blanks → next ≡ column + length blanks
    → words_from column (blanks ++ rest) ≡ words_from next rest
words_from-blanks column [] rest next h e = ap (λ z. words_from z rest) (omega arith)
words_from-blanks column (b ∷ bs) rest next h e =
    words_from-blank column b (bs ++ rest) h.0 ∙ words_from-blanks (column + 1) bs rest next h.1 (omega arith)

-- blanks have no words
words_from-none : (column : ℕ) (blanks : List ℕ) → AllByRecursion IsBlankByte blanks → words_from column blanks ≡ []
words_from-none column [] h = words_from-nil column
words_from-none column (b ∷ bs) h = words_from-blank column b bs h.0 ∙ words_from-none (column + 1) bs h.1

-- the longest front of bytes that are no blanks
record Run (bs : List ℕ) : Type 0 where
  pub word : List ℕ
  pub after : List ℕ
  pub is : bs ≡ word ++ after
  pub solid : AllByRecursion IsWordByte word
  pub ends : FirstIsBlank after

run_of : (bs : List ℕ) → Run bs
run_of [] = record { word = []; after = []; is = refl; solid = tt; ends = first_is_blank [] refl }
run_of (b ∷ bs) =
    let r = run_of bs in
    elim (cases_Bool (is_blank b)) [
      | inl blank ↦ record { word = []; after = b ∷ bs; is = refl; solid = tt; ends = first_is_blank (b ∷ bs) (ap not blank) }
      | inr solid ↦
          record { word = b ∷ r.word; after = r.after; is = ap (λ z. b ∷ z) r.is; solid = (ap not solid, r.solid); ends = r.ends }
    ]

-- the same where a word begins
record FirstWord (bs : List ℕ) : Type 0 where
  pub word : List ℕ
  pub after : List ℕ
  pub is : bs ≡ word ++ after
  pub some : 0 < length word
  pub solid : AllByRecursion IsWordByte word
  pub ends : FirstIsBlank after

first_word : (bs : List ℕ) → begins_word bs ≡ true → FirstWord bs
first_word [] e = cc
first_word (b ∷ bs) e =
    let r = run_of bs in
    record { word = b ∷ r.word; after = r.after; is = ap (λ z. b ∷ z) r.is; some = omega arith; solid = (e, r.solid); ends = r.ends }

-- ---- the words are in ascending order

-- the columns ascend from lowest on
Ascend : ℕ → List WordText → Type 0
Ascend lowest [] = Unit {0}
Ascend lowest (w ∷ ws) = (lowest ≤ w.column) × Ascend (w.column + 1) ws

ascend_from : (low lower : ℕ) (ws : List WordText) → lower ≤ low → Ascend low ws → Ascend lower ws
unfolding Ascend
ascend_from low lower [] l h = tt
ascend_from low lower (w ∷ ws) l h = (omega (arith, h.0), h.1)

ascend-lengthened : (column b : ℕ) (ws : List WordText) → Ascend (column + 1) ws → Ascend column (lengthened column b ws)
unfolding Ascend
ascend-lengthened column b [] h = (omega arith, tt)
ascend-lengthened column b (w ∷ ws) h = (omega arith, ascend_from (w.column + 1) (column + 1) ws (omega (arith, h.0)) h.1)

words_ascend : (column : ℕ) (bs : List ℕ) → Ascend column (words_from column bs)
unfolding Ascend
words_ascend column [] = subst (Ascend column) (sym (words_from-nil column)) tt
words_ascend column (b ∷ bs) =
    let later = words_ascend (column + 1) bs in
    elim (cases_Bool (is_blank b)) [
      | inl blank ↦
          subst (Ascend column) (sym (words_from-blank column b bs blank))
          (ascend_from (column + 1) column (words_from (column + 1) bs) (omega arith) later)
      | inr solid ↦ elim (cases_Bool (begins_word bs)) [
        | inl more ↦
            subst (Ascend column) (sym (words_from-more column b bs solid more))
            (ascend-lengthened column b (words_from (column + 1) bs) later)
        | inr alone ↦ subst (Ascend column) (sym (words_from-alone column b bs solid alone)) (omega arith, later)
      ]
    ]

-- w is one of the words
In : WordText → List WordText → Type 0
In w [] = ⊥
In w (v ∷ vs) = (v ≡ w) ⊎ In w vs

in_above : (lowest : ℕ) (ws : List WordText) (w : WordText) → Ascend lowest ws → In w ws → lowest ≤ w.column
unfolding Ascend In
in_above lowest [] w h i = absurd i
in_above lowest (v ∷ vs) w h (inl same) = omega (arith, h.0, ap (λ z. z.column) same)
in_above lowest (v ∷ vs) w h (inr later) = omega (arith, h.0, in_above (v.column + 1) vs w h.1 later)

contains_from_in : (ws : List WordText) (w : WordText) → In w ws → Contains ws w
unfolding In
contains_from_in [] w i = absurd i
contains_from_in (v ∷ vs) w (inl same) = (0, omega arith, same)
contains_from_in (v ∷ vs) w (inr later) =
    let c = contains_from_in vs w later in (suc c.0, omega (arith, c.1), c.2)

in_from_contains : (ws : List WordText) (w : WordText) (k : ℕ) → k < length ws → get_or ws k w ≡ w → In w ws
unfolding In
in_from_contains [] w k l e = absurd (omega arith)
in_from_contains (v ∷ vs) w zero l e = inl e
in_from_contains (v ∷ vs) w (suc k) l e = inr (in_from_contains vs w k (omega arith) e)

all_from_in : (P : WordText → Type 0) (ws : List WordText) → ((w : WordText) → In w ws → P w) → AllByRecursion P ws
unfolding In
all_from_in P [] h = tt
all_from_in P (v ∷ vs) h = (h v (inl refl), all_from_in P vs (λ w i. h w (inr i)))

pairs_ascend : (lowest : ℕ) (ws : List WordText) → Ascend lowest ws → AllPairs (λ v w. v.column < w.column) ws
unfolding Ascend
pairs_ascend lowest [] h = λ i j d l k. absurd (omega arith)
pairs_ascend lowest (v ∷ vs) h =
    let above : (w : WordText) → In w vs → v.column < w.column = λ w i. omega (arith, in_above (v.column + 1) vs w h.1 i) in
    AllPairs-cons (λ v w. v.column < w.column) v vs
    (All-from_recursion (λ w. v.column < w.column) vs (all_from_in (λ w. v.column < w.column) vs above))
    (pairs_ascend (v.column + 1) vs h.1)

-- ---- each of them is a word, and each word is one of them

-- w is a longest run of the bytes, the first of which stands in this column after a blank
record IsRunOf (column : ℕ) (bs : List ℕ) (w : WordText) : Type 0 where
  pub before : List ℕ
  pub after : List ℕ
  pub stands : bs ≡ before ++ (w.bytes ++ after)
  pub column_is : w.column ≡ length before + column
  pub some : 0 < length w.bytes
  pub solid : AllByRecursion IsWordByte w.bytes
  pub starts : LastIsBlank before
  pub ends : FirstIsBlank after

last_is_blank-nil : LastIsBlank []
last_is_blank-nil [] b e = cc
last_is_blank-nil (f ∷ fs) b e = cc

last_is_blank-one : (b : ℕ) (bs : List ℕ) → IsBlankByte b → LastIsBlank bs → LastIsBlank (b ∷ bs)
last_is_blank-one b bs blank h [] x e = let same : b ≡ x = cc in subst IsBlankByte same blank
last_is_blank-one b bs blank h (f ∷ fs) x e = let rest : bs ≡ fs ++ x ∷ [] = cc in h fs x rest

last_is_blank-more : (b c : ℕ) (cs : List ℕ) → LastIsBlank (c ∷ cs) → LastIsBlank (b ∷ c ∷ cs)
last_is_blank-more b c cs h [] x e = cc
last_is_blank-more b c cs h (f ∷ fs) x e = let rest : c ∷ cs ≡ fs ++ x ∷ [] = cc in h fs x rest

last_is_blank-rest : (b : ℕ) (bs : List ℕ) → LastIsBlank (b ∷ bs) → LastIsBlank bs
last_is_blank-rest b bs h front x e = h (b ∷ front) x (ap (λ z. b ∷ z) e)

-- a word at the head of bytes begins them
begins_with_word : (word after : List ℕ) → 0 < length word → AllByRecursion IsWordByte word → begins_word (word ++ after) ≡ true
begins_with_word [] after l h = absurd (omega arith)
begins_with_word (b ∷ bs) after l h = h.0

-- the same run with one byte more before it
run_later : (column b : ℕ) (bs : List ℕ) (w : WordText) (r : IsRunOf (column + 1) bs w) → LastIsBlank (b ∷ r.before)
    → IsRunOf column (b ∷ bs) w
run_later column b bs w r h = record {
  before = b ∷ r.before;
  after = r.after;
  stands = ap (λ z. b ∷ z) r.stands;
  column_is = omega (arith, r.column_is);
  some = r.some;
  solid = r.solid;
  starts = h;
  ends = r.ends;
}

-- a run that doesn't begin at once has a blank before it
starts_later : (b : ℕ) (before : List ℕ) → 0 < length before → LastIsBlank before → LastIsBlank (b ∷ before)
starts_later b [] l h = absurd (omega arith)
starts_later b (c ∷ cs) l h = last_is_blank-more b c cs h

-- where no word begins, each run has bytes before it
not_at_once : (column : ℕ) (bs : List ℕ) (w : WordText) (r : IsRunOf column bs w) → begins_word bs ≡ false → 0 < length r.before
not_at_once column bs w r e = go r.before r.stands where
  go : (before : List ℕ) → bs ≡ before ++ (w.bytes ++ r.after) → 0 < length before
  go [] same = absurd (both_ways (begins_word bs) e (ap begins_word same ∙ begins_with_word w.bytes r.after r.some r.solid))
  go (b ∷ before) same = omega arith

-- the first of the words where one byte or more begin it
words_from-first : (column b : ℕ) (bs : List ℕ) → IsWordByte b → (f : FirstWord bs)
    → words_from column (b ∷ bs) ≡ record { column = column; bytes = b ∷ f.word } ∷ words_from (column + 1 + length f.word) f.after
words_from-first column b bs h f =
    ap (λ z. words_from column (b ∷ z)) f.is
    ∙ words_from-word column (b ∷ f.word) f.after (column + 1 + length f.word) (omega arith) (h, f.solid) f.ends (omega arith)

words_from-begun : (column : ℕ) (bs : List ℕ) → (f : FirstWord bs)
    → words_from column bs ≡ record { column = column; bytes = f.word } ∷ words_from (column + length f.word) f.after
words_from-begun column bs f =
    ap (words_from column) f.is ∙ words_from-word column f.word f.after (column + length f.word) f.some f.solid f.ends refl

-- each of them is a word
each_is_run : (column : ℕ) (bs : List ℕ) (w : WordText) → In w (words_from column bs) → IsRunOf column bs w
unfolding In
each_is_run column [] w i = absurd (subst (In w) (words_from-nil column) i)
each_is_run column (b ∷ bs) w i =
    elim (cases_Bool (is_blank b)) [
      | inl blank ↦
          let r = each_is_run (column + 1) bs w (subst (In w) (words_from-blank column b bs blank) i) in
          run_later column b bs w r (last_is_blank-one b r.before blank r.starts)
      | inr solid ↦ elim (cases_Bool (begins_word bs)) [
        | inl more ↦ in_longer column b bs w (ap not solid) (first_word bs more) (λ j. each_is_run (column + 1) bs w j) i
        | inr alone ↦
            in_alone column b bs w (ap not solid) alone (λ j. each_is_run (column + 1) bs w j)
            (subst (In w) (words_from-alone column b bs solid alone) i)
      ]
    ]
  where
    in_alone : (column b : ℕ) (bs : List ℕ) (w : WordText) → IsWordByte b → begins_word bs ≡ false
        → (In w (words_from (column + 1) bs) → IsRunOf (column + 1) bs w)
        → (record { column = column; bytes = b ∷ [] } ≡ w) ⊎ In w (words_from (column + 1) bs) → IsRunOf column (b ∷ bs) w
    in_alone column b bs w h e later (inl same) = subst (IsRunOf column (b ∷ bs)) same (record {
      before = [];
      after = bs;
      stands = refl;
      column_is = omega arith;
      some = omega arith;
      solid = (h, tt);
      starts = last_is_blank-nil;
      ends = first_is_blank bs e;
    })
    in_alone column b bs w h e later (inr j) =
        let r = later j in run_later column b bs w r (starts_later b r.before (not_at_once (column + 1) bs w r e) r.starts)

    longer : (column b : ℕ) (bs : List ℕ) (w : WordText) → IsWordByte b → (f : FirstWord bs)
        → (In w (words_from (column + 1) bs) → IsRunOf (column + 1) bs w)
        → (record {
          column =
              column;
          bytes = b ∷ f.word;
        } ≡ w) ⊎ In w (words_from (column + 1 + length f.word) f.after) → IsRunOf column (b ∷ bs) w
    longer column b bs w h f later (inl same) = subst (IsRunOf column (b ∷ bs)) same (record {
      before = [];
      after = f.after;
      stands = ap (λ z. b ∷ z) f.is;
      column_is = omega arith;
      some = omega arith;
      solid = (h, f.solid);
      starts = last_is_blank-nil;
      ends = f.ends;
    })
    longer column b bs w h f later (inr j) =
        let r = later (subst (In w) (sym (words_from-begun (column + 1) bs f)) (inr j)) in
        let above =
        in_above (column + 1 + length f.word) (words_from (column + 1 + length f.word) f.after) w
        (words_ascend (column + 1 + length f.word) f.after) j
        in
        run_later column b bs w r (starts_later b r.before (omega (arith, above, r.column_is, f.some)) r.starts)

    in_longer : (column b : ℕ) (bs : List ℕ) (w : WordText) → IsWordByte b → (f : FirstWord bs)
        → (In w (words_from (column + 1) bs) → IsRunOf (column + 1) bs w)
        → In w (words_from column (b ∷ bs)) → IsRunOf column (b ∷ bs) w
    in_longer column b bs w h f later i = longer column b bs w h f later (subst (In w) (words_from-first column b bs h f) i)

-- and each word is one of them
run_is_in : (column : ℕ) (bs : List ℕ) (w : WordText) (before after : List ℕ) → bs ≡ before ++ (w.bytes ++ after)
    → w.column ≡ length before + column → 0 < length w.bytes → AllByRecursion IsWordByte w.bytes → LastIsBlank before → FirstIsBlank after
    → In w (words_from column bs)
unfolding In
run_is_in column bs w [] after is at some solid starts ends =
    let first = words_from-word column w.bytes after (column + length w.bytes) some solid ends refl in
    let here : column ≡ w.column = omega (arith, at) in
    subst (In w) (sym (ap (words_from column) is ∙ first)) (inl (ap (λ z. record { column = z; bytes = w.bytes }) here))
run_is_in column bs w (b ∷ before) after is at some solid starts ends =
    let rest = before ++ (w.bytes ++ after) in
    let later = run_is_in (column + 1) rest w before after refl (omega (arith, at)) some solid (last_is_blank-rest b before starts) ends in
    subst (λ z. In w (words_from column z)) (sym is) (elim (cases_Bool (is_blank b)) [
      | inl blank ↦ subst (In w) (sym (words_from-blank column b rest blank)) later
      | inr not_blank ↦ past_a_word column b rest w before not_blank at starts later
    ])
  where
    is_there : (b : ℕ) (before : List ℕ) → is_blank b ≡ false → LastIsBlank (b ∷ before) → 0 < length before
    is_there b [] e h = absurd (both_ways (is_blank b) e (h [] b refl))
    is_there b (c ∷ cs) e h = omega arith

    later_one : (column b : ℕ) (rest : List ℕ) (w : WordText) → IsWordByte b → (f : FirstWord rest) → column + 1 < w.column
        → (record {
          column =
              column + 1;
          bytes = f.word;
        } ≡ w) ⊎ In w (words_from (column + 1 + length f.word) f.after) → In w (words_from column (b ∷ rest))
    later_one column b rest w h f above (inl same) = absurd (omega (arith, above, ap (λ z. z.column) same))
    later_one column b rest w h f above (inr j) = subst (In w) (sym (words_from-first column b rest h f)) (inr j)

    past_a_word : (column b : ℕ) (rest : List ℕ) (w : WordText) (before : List ℕ) → is_blank b ≡ false
        → w.column ≡ length (b ∷ before) + column → LastIsBlank (b ∷ before) → In w (words_from (column + 1) rest)
        → In w (words_from column (b ∷ rest))
    past_a_word column b rest w before e at starts later =
        elim (cases_Bool (begins_word rest)) [
          | inl more ↦
              let f = first_word rest more in
              let above : column + 1 < w.column = omega (arith, at, is_there b before e starts) in
              later_one column b rest w (ap not e) f above (subst (In w) (words_from-begun (column + 1) rest f) later)
          | inr alone ↦ subst (In w) (sym (words_from-alone column b rest e alone)) (inr later)
        ]

-- the two ways to say that w is a word
word_from_run : (line : List ℕ) (w : WordText) → IsRunOf 1 line w → IsWordOf line w
word_from_run line w r = record {
  before = r.before;
  after = r.after;
  stands = r.stands ∙ sym (append_assoc r.before w.bytes r.after);
  column = r.column_is;
  some = r.some;
  solid = All-from_recursion IsWordByte w.bytes r.solid;
  starts = r.starts;
  ends = r.ends;
}

word_is_in : (line : List ℕ) (w : WordText) → IsWordOf line w → In w (words_of line)
word_is_in line w r =
    run_is_in 1 line w r.before r.after (r.stands ∙ append_assoc r.before w.bytes r.after) r.column r.some
    (recursion_from_All IsWordByte w.bytes r.solid) r.starts r.ends

-- `words_of` gives a line's words
pub words_exist : (line : List ℕ) → HasWords line (words_of line)
words_exist line = record {
  each =
      All-from_recursion (IsWordOf line) (words_of line)
      (all_from_in (IsWordOf line) (words_of line) (λ w i. word_from_run line w (each_is_run 1 line w i)));
  all = λ w h. contains_from_in (words_of line) w (word_is_in line w h);
  ascending = pairs_ascend 1 (words_of line) (words_ascend 1 line);
}

-- the first is before each later one
first_below : (v : WordText) (vs : List WordText) (w : WordText) → AllPairs (λ v w. v.column < w.column) (v ∷ vs) → In w vs
    → v.column < w.column
first_below v vs w h i =
    let c = contains_from_in vs w i in
    subst (λ (z : WordText). v.column < z.column) c.2 (h 0 (suc c.0) w (omega arith) (omega (arith, c.1)))

later_pairs : (v : WordText) (vs : List WordText) → AllPairs (λ v w. v.column < w.column) (v ∷ vs)
    → AllPairs (λ v w. v.column < w.column) vs
later_pairs v vs h = λ i j d l k. h (suc i) (suc j) d (omega (arith, l)) (omega (arith, k))

-- two ascending lists of the same words are the same
same_heads : (v w : WordText) (vs ws : List WordText) → AllPairs (λ v w. v.column < w.column) (v ∷ vs)
    → AllPairs (λ v w. v.column < w.column) (w ∷ ws) → (w ≡ v) ⊎ In v ws → (v ≡ w) ⊎ In w vs → v ≡ w
same_heads v w vs ws h k (inl same) there = sym same
same_heads v w vs ws h k (inr i) (inl same) = same
same_heads v w vs ws h k (inr i) (inr j) = absurd (omega (arith, first_below w ws v k i, first_below v vs w h j))

in_later : (v w u : WordText) (vs ws : List WordText) → v ≡ w → AllPairs (λ v w. v.column < w.column) (v ∷ vs) → In u vs
    → (w ≡ u) ⊎ In u ws → In u ws
in_later v w u vs ws same h i (inl is) = absurd (omega (arith, first_below v vs u h i, ap (λ z. z.column) same, ap (λ z. z.column) is))
in_later v w u vs ws same h i (inr j) = j

same_words : (vs ws : List WordText) → AllPairs (λ v w. v.column < w.column) vs → AllPairs (λ v w. v.column < w.column) ws
    → ((u : WordText) → In u vs → In u ws) → ((u : WordText) → In u ws → In u vs) → vs ≡ ws
unfolding In
same_words [] [] h k f g = refl
same_words [] (w ∷ ws) h k f g = absurd (g w (inl refl))
same_words (v ∷ vs) [] h k f g = absurd (f v (inl refl))
same_words (v ∷ vs) (w ∷ ws) h k f g =
    let same = same_heads v w vs ws h k (f v (inl refl)) (g w (inl refl)) in
    ap (λ z. z ∷ vs) same
    ∙ ap (λ z. w ∷ z) (same_words vs ws (later_pairs v vs h) (later_pairs w ws k)
    (λ u i. in_later v w u vs ws same h i (f u (inr i)))
    (λ u i. in_later w v u ws vs (sym same) k i (g u (inr i))))

-- a list's elements that are words
in_is_word : (P : WordText → Type 0) (ws : List WordText) (w : WordText) → AllByRecursion P ws → In w ws → P w
unfolding In
in_is_word P [] w h i = absurd i
in_is_word P (v ∷ vs) w h (inl same) = subst P same h.0
in_is_word P (v ∷ vs) w h (inr later) = in_is_word P vs w h.1 later

-- a line has no other words
pub words_unique : (line : List ℕ) (words : List WordText) → HasWords line words → words ≡ words_of line
words_unique line words h =
    same_words words (words_of line) h.ascending (pairs_ascend 1 (words_of line) (words_ascend 1 line))
    (λ w i. word_is_in line w (in_is_word (IsWordOf line) words w (recursion_from_All (IsWordOf line) words h.each) i))
    (λ w i. let c = h.all w (word_from_run line w (each_is_run 1 line w i)) in in_from_contains words w c.0 c.1 c.2)

-- ---- the first word that is left

-- the first word stands behind the blanks
pub words_from-next : (column n : ℕ) (bytes word rest : List ℕ) → n < length bytes → All IsBlankByte (take n bytes)
    → IsWordByte (get_or bytes n 0) → drop n bytes ≡ word ++ rest → HasNoBlank word → FirstIsBlank rest
    → words_from column bytes ≡ record { column = column + n; bytes = word } ∷ words_from (column + n + length word) rest
words_from-next column n bytes word rest l blanks solid is h ends =
    let begun : begins_word (word ++ rest) ≡ true = ap begins_word (sym is ∙ drop-cons bytes n 0 l) ∙ solid in
    let skipped = length-take-le n bytes (omega (arith, l)) in
    let split : bytes ≡ take n bytes ++ (word ++ rest) = sym (take-append-drop n bytes) ∙ ap (λ z. take n bytes ++ z) is in
    ap (words_from column) split
    ∙ words_from-blanks column (take n bytes) (word ++ rest) (column + n) (recursion_from_All IsBlankByte (take n bytes) blanks)
    (omega (arith, skipped))
    ∙ words_from-word (column + n) word rest (column + n + length word) (not_empty word rest begun ends)
    (recursion_from_All IsWordByte word h) ends refl
  where
    not_empty : (word rest : List ℕ) → begins_word (word ++ rest) ≡ true → FirstIsBlank rest → 0 < length word
    not_empty [] rest e f = absurd (both_ways (begins_word rest) (no_word_begins rest f) e)
    not_empty (b ∷ bs) rest e f = omega arith

-- no word is left
pub words_from-end : (column : ℕ) (bytes : List ℕ) → All IsBlankByte bytes → words_from column bytes ≡ []
words_from-end column bytes h = words_from-none column bytes (recursion_from_All IsBlankByte bytes h)

-- no more words than bytes
pub length-words_from : (column : ℕ) (bs : List ℕ) → length (words_from column bs) ≤ length bs
unfolding words_from
length-words_from column [] = omega arith
length-words_from column (b ∷ bs) =
    omega (arith, at_most (is_blank b) (begins_word bs) column b bs (words_from (column + 1) bs) (length-words_from (column + 1) bs)) where
      at_most : (s t : Bool) (column b : ℕ) (bs : List ℕ) (more : List WordText) → length more ≤ length bs
          → length (if s then more else if t then lengthened column b more else record { column = column; bytes = b ∷ [] } ∷ more) ≤ length
          bs + 1
      at_most true t column b bs more h = omega arith
      at_most false true column b bs [] h = omega arith
      at_most false true column b bs (w ∷ ws) h = omega arith
      at_most false false column b bs more h = omega arith

-- ---- blank lines

-- where there are no words, there are blanks alone
blanks_alone : (column : ℕ) (bs : List ℕ) → words_from column bs ≡ [] → AllByRecursion IsBlankByte bs
blanks_alone column [] e = tt
blanks_alone column (b ∷ bs) e =
    elim (cases_Bool (is_blank b)) [
      | inl blank ↦ (blank, blanks_alone (column + 1) bs (sym (words_from-blank column b bs blank) ∙ e))
      | inr solid ↦ elim (cases_Bool (begins_word bs)) [
        | inl more ↦
            let f = first_word bs more in
            let none = sym (words_from-first column b bs (ap not solid) f) ∙ e in
            cc
        | inr alone ↦
            let none = sym (words_from-alone column b bs solid alone) ∙ e in
            cc
      ]
    ]

-- a line is blank exactly where each of its bytes is a blank
pub blank_lines : (line : List ℕ) → IsBlank line ↔ All IsBlankByte line
blank_lines line = (
  λ h. All-from_recursion IsBlankByte line (blanks_alone 1 line (sym (words_unique line [] h))),
  λ h. subst (HasWords line) (words_from-end 1 line h) (words_exist line),
)
