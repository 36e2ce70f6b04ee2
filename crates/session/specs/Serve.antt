-- What the top call promises.
use Rattle.std.specs.Prelude.{◌≡◌, ℕ, ◌⊎◌, List, ◌++◌, take, Option, Some, IfSome, IsSome, IsSomeAnd}
use Rattle.std.specs.Io.KnownBytes.{Appends}
use Rattle.command_words.specs.Command.{Spoken}
use Rattle.outside.specs.Shelf.{Pair, file_named}
use Rattle.outside.specs.Whole.{WritesFront, AllFlushed}
use Rattle.session.specs.Command.{Say, names_of}
use Rattle.session.specs.ExactReply.{RepliesExactly, RefusesLongInput}
use Rattle.session.specs.Outcome.{Outcome, IsOutcome, AreAlike, outcome_text, outcome_status}
use Rattle.session.specs.declared.status.Fault.TheVariants.{Read, Write}
use Rattle.report.specs.declared.model_fault.Which.{Which}
use Rattle.report.specs.declared.model_fault.Which.TheVariants as which
use Rattle.session.specs.declared.status.Status.{Status}
use Rattle.session.specs.declared.status.Status.TheVariants.{Done, Refused, Usage, Model, Outside, Memory}

-- all of the text is written and flushed
pub record Says (before now : Option (List ℕ)) (flushed : Option ℕ) (text : List ℕ) : Type 0 where
  pub written : Appends before now text
  pub all_flushed : AllFlushed now flushed

-- the words, the files and the formulas have an outcome of this status, and its text is written and flushed
pub record Settles (words : List (List ℕ)) (files : Option (List Pair)) (left_before left_now before now : Option (List ℕ))
    (flushed : Option ℕ) (status : Status) : Type 0 where
  pub outcome : Outcome
  pub is_outcome : IsOutcome words files left_before left_now outcome
  pub is_status : status ≡ outcome_status outcome
  pub says : Says before now flushed (outcome_text outcome)

-- the text of an outcome is written that is like the given one
pub record SaysAlike (words : List (List ℕ)) (files : Option (List Pair)) (left_before left_now : Option (List ℕ)) (written : List ℕ)
    (now : Option (List ℕ)) (outcome : Outcome) : Type 0 where
  pub said : Outcome
  pub is_outcome : IsOutcome words files left_before left_now said
  pub alike : Say words (λ command. AreAlike command said outcome)
  pub text : now ≡ Some (written ++ outcome_text said)

-- the words say a command, whose files stand for a model, and what is printed of the formulas is exact
abbrev pub AnswersExactly : List (List ℕ) → Option (List Pair) → Option (List ℕ) → Option (List ℕ) → Option (List ℕ) → Option (List ℕ)
    → Status → Type 0
AnswersExactly words files left_before left_now before now status =
    Say words (λ command. IsSomeAnd command (λ c.
    RepliesExactly c files left_before left_now before now status ⊎ RefusesLongInput c files left_before left_now before now status))

-- a front of the outcome's text is written
pub record IsCutShort (words : List (List ℕ)) (files : Option (List Pair))
    (left_before left_now before now : Option (List ℕ)) : Type 0 where
  pub outcome : Outcome
  pub is_outcome : IsOutcome words files left_before left_now outcome
  pub front : WritesFront (outcome_text outcome) before now

-- these names were asked for, or a front of them
pub record AsksFor (names : List (List ℕ)) (old new : List (List ℕ)) : Type 0 where
  pub count : ℕ
  pub appended : new ≡ old ++ take count names

-- the names up to that of a file
abbrev pub names_through : Which → Option Spoken → List (List ℕ)
names_through which.TraFile command = take 1 (names_of command)
names_through which.LabFile command = take 2 (names_of command)
names_through which.RewFile command = names_of command

-- the names of the command that were asked for, where all was taken that the status needs
abbrev pub AsksBy : Status → Option Spoken → List (List ℕ) → List (List ℕ) → Type 0
AsksBy Done command old new = new ≡ old ++ names_of command
AsksBy Refused command old new = new ≡ old ++ names_of command
AsksBy Usage command old new = new ≡ old
AsksBy (Model fault) command old new = new ≡ old ++ names_through fault.file command
AsksBy (Outside fault) command old new = AsksFor (names_of command) old new
AsksBy Memory command old new = AsksFor (names_of command) old new

-- a status that may come where the words are no command
abbrev pub IsUsageOrLost : Status → Type 0
IsUsageOrLost Usage = Unit {0}
IsUsageOrLost (Outside Write) = Unit {0}
IsUsageOrLost Memory = Unit {0}
IsUsageOrLost (Outside Read) = ⊥
IsUsageOrLost Done = ⊥
IsUsageOrLost Refused = ⊥
IsUsageOrLost (Model fault) = ⊥

-- the formulas were answered or refused
abbrev pub IsAnswering : Status → Type 0
IsAnswering Done = Unit {0}
IsAnswering Refused = Unit {0}
IsAnswering Usage = ⊥
IsAnswering (Model fault) = ⊥
IsAnswering (Outside fault) = ⊥
IsAnswering Memory = ⊥

-- memory ran out, or else P; no fault of the outside is told
abbrev pub IsMemoryOr : Status → Type 0 → Type 0
IsMemoryOr Memory P = Unit {0}
IsMemoryOr (Outside fault) P = ⊥
IsMemoryOr Done P = P
IsMemoryOr Refused P = P
IsMemoryOr Usage P = P
IsMemoryOr (Model fault) P = P

-- the answer is lost to a fault or to want of memory, or else P
abbrev pub IsLostOr : Status → Type 0 → Type 0
IsLostOr (Outside fault) P = Unit {0}
IsLostOr Memory P = Unit {0}
IsLostOr Done P = P
IsLostOr Refused P = P
IsLostOr Usage P = P
IsLostOr (Model fault) P = P

-- all files of the command are there
pub record AreThere (command : Spoken) (pairs : List Pair) : Type 0 where
  pub tra : IsSome (file_named command.tra pairs)
  pub lab : IsSome (file_named command.lab pairs)
  pub rew : IfSome command.rew (λ name. IsSome (file_named name pairs))

-- the answer is lost to a fault or to want of memory
abbrev pub IsLost : Status → Type 0
IsLost (Outside fault) = Unit {0}
IsLost Memory = Unit {0}
IsLost Done = ⊥
IsLost Refused = ⊥
IsLost Usage = ⊥
IsLost (Model fault) = ⊥
