-- The declarations of a file, line by line.
use Rattle.std.proofs.Common.{◌≡◌, ℕ, inl, inr, List, [], ◌∷◌, ◌++◌, ap, refl, sym, subst, ◌∙◌, append_assoc, append-nil}
use Rattle.std.proofs.lemmas.List.Concat.{flat_map-append}
use Rattle.std.proofs.lemmas.List.Elements.{All-nil, All-push}
use Rattle.text_lines.proofs.Telling.{told_weaker}
use Rattle.text_lines.specs.LinesOf.{end_line_of}
use Rattle.text_lines.specs.Told.{IsToldBy}
use Rattle.text_lines.specs.WordLines.{WordLine, word_lines_of}
use Rattle.text_lines.specs.declared.fault.FileWhat.{FileWhat}
use Rattle.text_lines.specs.declared.fault.FileWhat.TheVariants as what
use Rattle.text_lines.specs.declared.fault.ReadFault.{ReadFault}
use Rattle.lab_reader.specs.Declarations.{IsOpening, IsClosing, AreNames, words_in, Declares}
use Rattle.lab_reader.specs.LabFault.{HasFailingWord, HasFailingName, LinesHaveFault, LabFaultAt}
use Rattle.lab_reader.specs.Reading.{HasNames}
use Rattle.lab_reader.proofs.Declared.{names_none}

-- the opening line is there, and no name yet
pub opened : (lines others : List WordLine) (opening : WordLine) → IsOpening opening → lines ≡ opening ∷ others → HasNames lines [] others
opened lines others opening is e = record {
  declarations = [];
  begins = record { opening = opening; is_opening = is; split = e; not_closing = All-nil (λ line. ¬ IsClosing line); names = names_none };
  are = refl;
}

-- it isn't, and this is a fault
pub no_line : (n : ℕ) (lines : List WordLine) (end : ℕ) → lines ≡ [] → LinesHaveFault n lines end end what.Header
no_line n lines end none = inl (record { none = none; here = refl })

pub not_opened : (n : ℕ) (lines others : List WordLine) (first : WordLine) (end : ℕ) → ¬ IsOpening first → lines ≡ first ∷ others
    → LinesHaveFault n lines end first.number what.Header
not_opened n lines others first end other e = inr (inl (record { first = first; others = others; split = e; other = other; here = refl }))

-- one line of declarations more
pub names_line : (lines : List WordLine) (names now : List (List ℕ)) (line : WordLine) (others : List WordLine)
    → HasNames lines names (line ∷ others) → ¬ IsClosing line → now ≡ names ++ line.words → AreNames now → HasNames lines now others
names_line lines names now line others h other e right =
    let words : now ≡ words_in (h.declarations ++ line ∷ []) =
    e ∙ ap (λ z. z ++ line.words) h.are
    ∙ ap (λ z. words_in h.declarations ++ z) (sym (append-nil line.words))
    ∙ sym (flat_map-append (λ (l : WordLine). l.words) h.declarations (line ∷ []))
    in
    record {
      declarations = h.declarations ++ line ∷ [];
      begins = record {
        opening = h.begins.opening;
        is_opening = h.begins.is_opening;
        split = h.begins.split ∙ ap (λ z. h.begins.opening ∷ z) (sym (append_assoc h.declarations (line ∷ []) others));
        not_closing = All-push (λ l. ¬ IsClosing l) h.declarations line h.begins.not_closing other;
        names = subst AreNames words right;
      };
      are = words;
    }

-- the closing line
pub names_closed : (lines : List WordLine) (names : List (List ℕ)) (closing : WordLine) (body : List WordLine)
    → HasNames lines names (closing ∷ body) → IsClosing closing → Declares lines names body
names_closed lines names closing body h is =
    record { declarations = h.declarations; closing = closing; begins = h.begins; is_closing = is; are = h.are }

-- it is missing
pub not_closed : (n : ℕ) (lines : List WordLine) (names : List (List ℕ)) (end : ℕ) → HasNames lines names []
    → LinesHaveFault n lines end end what.Header
not_closed n lines names end h = inr (inr (record { declarations = h.declarations; begins = h.begins; here = refl }))

name_fault_holds : (n : ℕ) (lines : List WordLine) (end number : ℕ) (w : FileWhat) → HasFailingName lines number w
    → LinesHaveFault n lines end number w
name_fault_holds n lines end number what.Name h = h
name_fault_holds n lines end number what.RepeatedName h = h
name_fault_holds n lines end number what.LabelsRange h = h
name_fault_holds n lines end number other h = absurd h.word.fails

-- a word of the next line can't be declared
pub failing_name : (n : ℕ) (lines : List WordLine) (end : ℕ) (names : List (List ℕ)) (line : WordLine) (more : List WordLine) (w : FileWhat)
    → HasNames lines names (line ∷ more) → ¬ IsClosing line → HasFailingWord names line.words w → LinesHaveFault n lines end line.number w
failing_name n lines end names line more w h other f = name_fault_holds n lines end line.number w (record {
  declarations = h.declarations;
  line = line;
  more = more;
  begins = h.begins;
  not_closing = other;
  word = subst (λ z. HasFailingWord z line.words w) h.are f;
  here = refl;
})

-- so it is told
pub name_told : (text : List ℕ) (names : List (List ℕ)) (line : WordLine) (more : List WordLine)
    → HasNames (word_lines_of text) names (line ∷ more) → ¬ IsClosing line
    → (fault : ReadFault) → IsToldBy (λ number w. (number ≡ line.number) × HasFailingWord names line.words w) fault
    → IsToldBy (λ number w. (n : ℕ) → LabFaultAt text n number w) fault
name_told text names line more h other fault told =
    told_weaker (λ number w. (number ≡ line.number) × HasFailingWord names line.words w) (λ number w. (n : ℕ) → LabFaultAt text n number w)
    (λ number w f n. subst (λ z. LabFaultAt text n z w) (sym f.0)
    (failing_name n (word_lines_of text) (end_line_of text) names line more w h other f.1)) fault told

-- a fault of the declarations, which speak of no number of states
pub of_declarations : (text : List ℕ) (n : ℕ) (fault : ReadFault) → IsToldBy (λ number w. (k : ℕ) → LabFaultAt text k number w) fault
    → IsToldBy (LabFaultAt text n) fault
of_declarations text n fault h =
    told_weaker (λ number w. (k : ℕ) → LabFaultAt text k number w) (LabFaultAt text n) (λ number w f. f n) fault h
