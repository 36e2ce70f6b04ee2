-- What words are read as, one after another from a place on.
use Rattle.std.specs.Prelude.{List, [], ◌∷◌, Option, Some, None, option_map, option_and_then}
use Rattle.command_words.specs.declared.place.Place.{Place}
use Rattle.command_words.specs.declared.place.Place.TheVariants.{Open, Value, Closed}
use Rattle.command_words.specs.Setting.{Text}
use Rattle.command_words.specs.Parts.{Part}
use Rattle.command_words.specs.OneWord.{step_of}

-- at the end no option may wait for its value
abbrev pub parts_at_end : Place → Option (List Part)
parts_at_end Open = Some []
parts_at_end (Value s) = None
parts_at_end Closed = Some []

abbrev pub parts_after : Option Part → List Part → List Part
parts_after None parts = parts
parts_after (Some part) parts = part ∷ parts

-- the parts of the words from a place on, if all of them can be read
abbrev pub parts_from : Place → List Text → Option (List Part)
parts_from place [] = parts_at_end place
parts_from place (word ∷ rest) =
    option_and_then (λ step. option_map (parts_after step.part) (parts_from step.place rest)) (step_of place word)

-- the words from a place on have parts of which P holds
abbrev pub HaveParts : (List Part → Type 0) → Option (List Part) → Type 0
HaveParts P None = ⊥
HaveParts P (Some parts) = P parts
