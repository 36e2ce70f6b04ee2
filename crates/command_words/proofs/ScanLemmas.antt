-- One turn of the scan's loops.
use Rattle.std.proofs.Common.{◌≡◌, ◌∙◌, ◌+◌, ◌<◌, ◌↔◌, ℕ, false, sym, ap, subst, arith, zero, suc, List, [], ◌∷◌, length, map, drop, get_or, Option, Some, None, IsTrue, true≢false}
use Rattle.std.specs.Prelude.{option_and_then}
use Rattle.std.specs.Option.{option_map}
use Rattle.command_words.specs.declared.place.Place.{Place}
use Rattle.command_words.specs.OneWord.{Step, step_of}
use Rattle.command_words.specs.Parts.{Part}
use Rattle.command_words.specs.Reading.{HaveParts, parts_after, parts_from}
use Rattle.command_words.specs.Setting.{Text}

-- what is known of the words from a place on after one more part
more_parts : (P Q : List Part → Type 0) (part : Option Part) → ((parts : List Part) → P (parts_after part parts) ↔ Q parts)
    → (rest : Option (List Part)) → HaveParts P (option_map (parts_after part) rest) ↔ HaveParts Q rest
more_parts P Q part e None = (λ h. h, λ h. h)
more_parts P Q part e (Some parts) = e parts

no_more_parts : (P : List Part → Type 0) (part : Option Part) → ((parts : List Part) → ¬ P (parts_after part parts))
    → (rest : Option (List Part)) → ¬ HaveParts P (option_map (parts_after part) rest)
no_more_parts P part e None h = h
no_more_parts P part e (Some parts) h = e parts h

-- the step of a word, by the text that is borrowed of it
pub steps_to : {borrowed word : Text} {found : Option Step} (place : Place) → borrowed ≡ word → found ≡ step_of place borrowed
    → step_of place word ≡ found
steps_to place same e = ap (step_of place) (sym same) ∙ sym e

-- the words from one of them on
module _ {X : Type 0} (text : X → Text) where
  read_on : (words : List X) (i : ℕ) (word : X) → i < length words → word ≡ get_or words i word → (place : Place)
      → parts_from place (map text (drop i words)) ≡ parts_from place (text word ∷ map text (drop (i + 1) words))
  read_on [] i word l e place = absurd (omega arith)
  read_on (x ∷ xs) zero word l e place = ap (λ y. parts_from place (text y ∷ map text xs)) (sym e)
  read_on (x ∷ xs) (suc i) word l e place =
      let next : suc i + 1 ≡ suc (i + 1) = omega arith in
      rw next (read_on xs i word (omega arith) e place)

  -- the parts of the words from the i-th on
  abbrev pub parts_on : Place → List X → ℕ → Option (List Part)
  parts_on place words i = parts_from place (map text (drop i words))

  module _ (whole : Type 0) (words : List X) (i : ℕ) (word : X) (l : i < length words) (e : word ≡ get_or words i word)
      (place : Place) (step : Step) (s : step_of place (text word) ≡ Some step) where
    stepped : parts_on place words i ≡ option_map (parts_after step.part) (parts_on step.place words (i + 1))
    stepped =
        read_on words i word l e place
        ∙ ap (option_and_then (λ (t : Step). option_map (parts_after t.part) (parts_on t.place words (i + 1)))) s

    pub goes_on : (P Q : List Part → Type 0) → whole ↔ HaveParts P (parts_on place words i)
        → ((parts : List Part) → P (parts_after step.part parts) ↔ Q parts)
        → whole ↔ HaveParts Q (parts_on step.place words (i + 1))
    goes_on P Q w more =
        let now = subst (λ o. whole ↔ HaveParts P o) stepped w in
        let after = more_parts P Q step.part more (parts_on step.place words (i + 1)) in
        (λ h. after.0 (now.0 h), λ h. now.1 (after.1 h))

    pub stops : (P : List Part → Type 0) → whole ↔ HaveParts P (parts_on place words i)
        → ((parts : List Part) → ¬ P (parts_after step.part parts)) → IsTrue false ↔ whole
    stops P w none =
        let now = subst (λ o. whole ↔ HaveParts P o) stepped w in
        (λ f. absurd (true≢false (sym f)), λ h. absurd (no_more_parts P step.part none (parts_on step.place words (i + 1)) (now.0 h)))
