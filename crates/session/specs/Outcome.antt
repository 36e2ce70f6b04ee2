-- What is answered to the words, the files and the formulas.
use Rattle.std.specs.Prelude.{◌≡◌, ℕ, ◌+◌, ◌≤◌, List, ◌++◌, length, codes, if◌then◌else◌, Option, Some, None, IsNone, IsSomeAnd}
use Rattle.std.specs.Io.KnownBytes.{Consumes, Keeps, IsAtEnd}
use Rattle.command_words.specs.Command.{Spoken}
use Rattle.command_words.specs.declared.command.Options.{Options}
use Rattle.outside.specs.Shelf.{Pair}
use Rattle.session.specs.Command.{Say}
use Rattle.report.specs.FaultText.{model_fault_text}
use Rattle.report.specs.RefusalText.{refusal_line}
use Rattle.session.specs.LineReply.{NumberedReply, AreReplies, fixed_replies, all_answered, replies_text}
use Rattle.session.specs.ModelFiles.{IsFileFaulty, TakesModel, model_of}
use Rattle.session.specs.declared.reading.TheConstants.{FORMULAS_LIMIT}
use Rattle.report.specs.declared.model_fault.ModelFault.{ModelFault}
use Rattle.session.specs.declared.status.Status.{Status}

-- what is said: the usage, what is wrong with a file, that the formulas have too many bytes, or the replies to their lines
pub data Outcome : Type 0 where
  Usage : Outcome
  Faulty : ModelFault → Outcome
  FormulasLong : Outcome
  Replies : List NumberedReply → Outcome

-- the formulas were read to their end
pub record TakesInput (before now : Option (List ℕ)) : Type 0 where
  pub bytes : List ℕ
  pub taken : Consumes before now bytes
  pub within : length bytes ≤ FORMULAS_LIMIT
  pub end : IsAtEnd now

-- one byte more than the limit was read of the formulas
pub record TakesTooMuch (before now : Option (List ℕ)) : Type 0 where
  pub bytes : List ℕ
  pub taken : Consumes before now bytes
  pub long : length bytes ≡ FORMULAS_LIMIT + 1

-- the files stand for a model, and of the formulas there were too many
pub record HasLongInput (command : Spoken) (files : Option (List Pair)) (before now : Option (List ℕ)) : Type 0 where
  pub model : TakesModel command files
  pub long : TakesTooMuch before now

-- the files stand for a model, the formulas were read, and these are replies to their lines
pub record HasReplies (command : Spoken) (files : Option (List Pair)) (before now : Option (List ℕ))
    (replies : List NumberedReply) : Type 0 where
  pub model : TakesModel command files
  pub input : TakesInput before now
  pub are : AreReplies (model_of model) command.options input.bytes replies

-- what is answered to a command, or where there is none
abbrev pub IsOutcomeOf : Option Spoken → Option (List Pair) → Option (List ℕ) → Option (List ℕ) → Outcome → Type 0
IsOutcomeOf command files before now Usage = IsNone command × Keeps before now
IsOutcomeOf command files before now (Faulty fault) = IsSomeAnd command (λ c. IsFileFaulty c files fault × Keeps before now)
IsOutcomeOf command files before now FormulasLong = IsSomeAnd command (λ c. HasLongInput c files before now)
IsOutcomeOf command files before now (Replies replies) = IsSomeAnd command (λ c. HasReplies c files before now replies)

-- what is answered to the words, the files and the formulas
abbrev pub IsOutcome : List (List ℕ) → Option (List Pair) → Option (List ℕ) → Option (List ℕ) → Outcome → Type 0
IsOutcome words files before now outcome = Say words (λ command. IsOutcomeOf command files before now outcome)

-- the outcome, but for what depends on when each step of a run is taken: the brackets of the watched state, and those of an until whose run
-- may have ended early
abbrev pub fixed_outcome : Options → Outcome → Outcome
fixed_outcome options Usage = Usage
fixed_outcome options (Faulty fault) = Faulty fault
fixed_outcome options FormulasLong = FormulasLong
fixed_outcome options (Replies replies) = Replies (fixed_replies options replies)

-- two outcomes of a command are the same, but for that
abbrev pub AreAlike : Option Spoken → Outcome → Outcome → Type 0
AreAlike None a b = a ≡ b
AreAlike (Some command) a b = fixed_outcome command.options a ≡ fixed_outcome command.options b

abbrev pub usage_text : List ℕ
usage_text =
    codes "usage: mrmc_any (ctmc M.tra M.lab | cmrm M.tra M.lab M.rew)"
    ++ codes " [--workers 1..64] [--bits 8..48] [--jumps 1..16384] [--watch 0..1000] [--state 1..65536] [--until-decided]"

abbrev pub long_text : List ℕ
long_text = codes "refused FormulasLong"

abbrev pub outcome_text : Outcome → List ℕ
outcome_text Usage = refusal_line usage_text
outcome_text (Faulty fault) = refusal_line (model_fault_text fault)
outcome_text FormulasLong = refusal_line long_text
outcome_text (Replies replies) = replies_text replies

-- the status is `Refused` where the formulas have too many bytes or a line is refused
abbrev pub outcome_status : Outcome → Status
outcome_status Usage = Status.Usage
outcome_status (Faulty fault) = Status.Model fault
outcome_status FormulasLong = Status.Refused
outcome_status (Replies replies) = if all_answered replies then Status.Done else Status.Refused
