-- How many lines of transitions there are, and those of them that the head says.
use Rattle.std.proofs.Common.{◌≡◌, ℕ, zero, suc, ◌-◌, ◌<◌, Option, Some, None, List, [], ◌∷◌, ◌++◌, length, take, drop, ap, refl, sym}
use Rattle.std.proofs.Common.{subst, ◌∙◌, append_assoc, length-append, arith}
use Rattle.std.proofs.lemmas.List.{take-append-drop, length-take}
use Rattle.text_lines.specs.EntryFault.{HasFailingLine}
use Rattle.text_lines.specs.Entries.{Kind}
use Rattle.text_lines.specs.WordLines.{WordLine}
use Rattle.text_lines.specs.declared.fault.FileWhat.{FileWhat}

-- ---- how many lines there are

-- where so many lines are due: the end line where there are fewer, and the number of the first one more
unfoldable pub miscount : ℕ → ℕ → List WordLine → Option ℕ
miscount end zero [] = None
miscount end zero (line ∷ lines) = Some line.number
miscount end (suc due) [] = Some end
miscount end (suc due) (line ∷ lines) = miscount end due lines

-- after lines that are due comes this one
pub record IsOneMore (due : ℕ) (lines : List WordLine) (number : ℕ) : Type 0 where
  pub front : List WordLine
  pub line : WordLine
  pub more : List WordLine
  pub split : lines ≡ front ++ line ∷ more
  pub full : length front ≡ due
  pub here : number ≡ line.number

pub data CountCase (end due : ℕ) (lines : List WordLine) (c : Option ℕ) : Type 0 where
  Exact : c ≡ None → length lines ≡ due → CountCase end due lines c
  Few : c ≡ Some end → length lines < due → CountCase end due lines c
  Many : (number : ℕ) → c ≡ Some number → IsOneMore due lines number → CountCase end due lines c

pub exact_is : (end due : ℕ) (lines : List WordLine) → length lines ≡ due → miscount end due lines ≡ None
unfolding miscount
exact_is end zero [] h = refl
exact_is end zero (line ∷ lines) h = absurd (omega arith)
exact_is end (suc due) [] h = absurd (omega arith)
exact_is end (suc due) (line ∷ lines) h = exact_is end due lines (omega arith)

pub few_is : (end due : ℕ) (lines : List WordLine) → length lines < due → miscount end due lines ≡ Some end
unfolding miscount
few_is end zero lines h = absurd (omega arith)
few_is end (suc due) [] h = refl
few_is end (suc due) (line ∷ lines) h = few_is end due lines (omega arith)

pub many_is : (end due : ℕ) (front : List WordLine) (line : WordLine) (more : List WordLine) → length front ≡ due
    → miscount end due (front ++ line ∷ more) ≡ Some line.number
unfolding miscount
many_is end zero [] line more h = refl
many_is end zero (f ∷ fs) line more h = absurd (omega arith)
many_is end (suc due) [] line more h = absurd (omega arith)
many_is end (suc due) (f ∷ fs) line more h = many_is end due fs line more (omega arith)

one_longer : (end due : ℕ) (line : WordLine) (lines : List WordLine) (c : Option ℕ) → CountCase end due lines c
    → CountCase end (suc due) (line ∷ lines) c
one_longer end due line lines c (Exact e h) = Exact e (omega arith)
one_longer end due line lines c (Few e h) = Few e (omega arith)
one_longer end due line lines c (Many number e h) =
    Many number e (record {
      front =
          line ∷ h.front;
      line = h.line;
      more = h.more;
      split = ap (λ z. line ∷ z) h.split;
      full = omega (arith, h.full);
      here = h.here;
    })

pub miscount_holds : (end due : ℕ) (lines : List WordLine) → CountCase end due lines (miscount end due lines)
unfolding miscount
miscount_holds end zero [] = Exact refl (omega arith)
miscount_holds end zero (line ∷ lines) =
    Many line.number refl (record { front = []; line = line; more = lines; split = refl; full = refl; here = refl })
miscount_holds end (suc due) [] = Few refl (omega arith)
miscount_holds end (suc due) (line ∷ lines) = one_longer end due line lines (miscount end due lines) (miscount_holds end due lines)

-- ---- the lines that the head says

take_length : (front more : List WordLine) → take (length front) (front ++ more) ≡ front
take_length [] more = take_none more where
  take_none : (xs : List WordLine) → take 0 xs ≡ []
  take_none [] = refl
  take_none (x ∷ xs) = refl
take_length (f ∷ fs) more = ap (λ z. f ∷ z) (take_length fs more)

take_past : (front : List WordLine) (line : WordLine) (more : List WordLine) (count : ℕ) → length front < count
    → take count (front ++ line ∷ more) ≡ front ++ line ∷ take (count - length front - 1) more
take_past front line more zero h = absurd (omega arith)
take_past [] line more (suc count) h = let left : suc count - 0 - 1 ≡ count = omega arith in ap (λ z. line ∷ take z more) (sym left)
take_past (f ∷ fs) line more (suc count) h =
    let left : suc count - suc (length fs) - 1 ≡ count - length fs - 1 = omega arith in
    ap (λ z. f ∷ z) (take_past fs line more count (omega arith)) ∙ ap (λ z. f ∷ (fs ++ line ∷ take z more)) (sym left)

pub take_front : (front more : List WordLine) (count : ℕ) → length front ≡ count → take count (front ++ more) ≡ front
take_front front more count h = subst (λ z. take z (front ++ more) ≡ front) h (take_length front more)

-- a line that fails among all lines, where it is due, and among those that are due
pub due_fails : {Key : Type 0} (kind : Kind Key) (lines : List WordLine) (count number : ℕ) (w : FileWhat)
    (h : HasFailingLine kind lines number w)
    → length h.front < count → HasFailingLine kind (take count lines) number w
due_fails kind lines count number w h due = record {
  front = h.front;
  line = h.line;
  more = take (count - length h.front - 1) h.more;
  entries = h.entries;
  split = ap (take count) h.split ∙ take_past h.front h.line h.more count due;
  are = h.are;
  fails = h.fails;
  here = h.here;
}

pub record FailsInTime {Key : Type 0} (kind : Kind Key) (lines : List WordLine) (count number : ℕ) (w : FileWhat) : Type 0 where
  pub line : HasFailingLine kind lines number w
  pub due : length line.front < count

pub fails_due : {Key : Type 0} (kind : Kind Key) (lines : List WordLine) (count number : ℕ) (w : FileWhat)
    → HasFailingLine kind (take count lines) number w
    → FailsInTime kind lines count number w
fails_due kind lines count number w h = record {
  line = record {
    front = h.front;
    line = h.line;
    more = h.more ++ drop count lines;
    entries = h.entries;
    split =
        sym (take-append-drop count lines)
        ∙ ap (λ z. z ++ drop count lines) h.split
        ∙ append_assoc h.front (h.line ∷ h.more) (drop count lines);
    are = h.are;
    fails = h.fails;
    here = h.here;
  };
  due = short;
}
  where
    short : length h.front < count
    short = omega (arith, length-take count lines, ap length h.split, length-append h.front (h.line ∷ h.more))
