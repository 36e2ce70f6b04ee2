-- What is known of the command that the words say, and of what was read for it.
use Rattle.std.proofs.Common.{◌≡◌, ℕ, List, ◌++◌, Option, Some, None, IfSome, Result, Ok, Err, IfOk}
use Rattle.command_words.specs.Command.{Spoken}
use Rattle.command_words.specs.Words.{AreCommand}
use Rattle.command_words.specs.declared.command.Options.{Options}
use Rattle.model_core.specs.Model.{ModelLists}
use Rattle.outside.specs.Shelf.{Pair}
use Rattle.session.specs.Command.{IsCommandOf, Say, names_of}
use Rattle.session.specs.Reading.{IsInputOver, AsksBefore}
use Rattle.session.specs.declared.reading.Prepared.{Prepared}
use Rattle.session.specs.declared.reading.Prepared.TheVariants.{Usage as NoCommand, Faulty as FaultyFile, FormulasLong as LongInput, Lines}
use Rattle.session.specs.declared.reading.Stop.{Stop}
use Rattle.session.proofs.Readings.{asks_whole}

-- what is known of files that are told
pub told_names : (files : Option (List Pair)) (P Q : Type 0) → (P → Q) → IfSome files (λ _. P) → IfSome files (λ _. Q)
told_names None P Q f p = tt
told_names (Some pairs) P Q f p = f p

module _ (words : List (List ℕ)) (P : Option Spoken → Type 0) where
  -- words that are a command say one
  pub say_some : AreCommand words → ((command : Spoken) → P (Some command)) → Say words P
  say_some are holds = record { command = Some are.0; said = are.1; holds = holds are.0 }

  -- P of the command, where files are told
  pub told_say : (files : Option (List Pair)) (command : Option Spoken) → IsCommandOf words command → IfSome files (λ _. P command)
      → IfSome files (λ _. Say words P)
  told_say files command said h =
      told_names files (P command) (Say words P) (λ p. record { command = command; said = said; holds = p }) h

-- what holds of a read under the command that the words are, said of the words
pub read_say : (words : List (List ℕ)) (Q : Option Spoken → Prepared → Type 0) (command : Option Spoken) (r : Result Prepared Stop)
    → IsCommandOf words command → IfOk r (λ prepared. Q command prepared) → IfOk r (λ prepared. Say words (λ c. Q c prepared))
read_say words Q command (Ok prepared) said h = record { command = command; said = said; holds = h }
read_say words Q command (Err stop) said h = tt

-- after the formulas all names were asked for
asks_all : (command : Spoken) (model : ModelLists) (options : Options) (before now : Option (List ℕ)) (prepared : Prepared)
    (old new : List (List ℕ))
    → IsInputOver model options before now prepared → new ≡ old ++ names_of (Some command)
    → AsksBefore (Some command) (Ok prepared) old new
asks_all command model options before now NoCommand old new h e = absurd h
asks_all command model options before now (FaultyFile fault) old new h e = absurd h
asks_all command model options before now LongInput old new h e = e
asks_all command model options before now (Lines input) old new h e = e

pub asks_before : (files : Option (List Pair)) (command : Spoken) (model : ModelLists) (options : Options) (before now : Option (List ℕ))
    (r : Result Prepared Stop) (old new : List (List ℕ))
    → IfOk r (IsInputOver model options before now) → IfSome files (λ _. new ≡ old ++ names_of (Some command))
    → IfSome files (λ _. AsksBefore (Some command) r old new)
asks_before files command model options before now (Ok prepared) old new h asked =
    told_names files (new ≡ old ++ names_of (Some command)) (AsksBefore (Some command) (Ok prepared) old new)
    (asks_all command model options before now prepared old new h) asked
asks_before files command model options before now (Err stop) old new h asked =
    told_names files (new ≡ old ++ names_of (Some command)) (AsksBefore (Some command) (Err stop) old new)
    (asks_whole old (names_of (Some command)) new) asked
