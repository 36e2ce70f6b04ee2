-- What is known after the words, the files and the formulas are read, and after replies are written.
use Rattle.std.specs.Prelude.{◌≡◌, ℕ, ◌<◌, ◌≤◌, Bool, List, [], ◌∷◌, ◌++◌, length, Option, Some, None, IsNone, IsSomeAnd, Vec, Result, Ok, Err}
use Rattle.std.specs.Borrow.{Bor}
use Rattle.std.specs.Io.KnownBytes.{Appends, Consumes, Keeps, IsAtEnd}
use Rattle.std.specs.declared.alloc.Global.{Global}
use Rattle.command_words.specs.Laws.{AreInRange}
use Rattle.command_words.specs.Command.{Spoken, text_in}
use Rattle.command_words.specs.declared.command.Options.{Options}
use Rattle.outside.specs.Shelf.{Pair, IsFile, IsTooBig}
use Rattle.outside.specs.Whole.{WritesFront}
use Rattle.outside.specs.declared.files.TheConstants.{FILE_LIMIT}
use Rattle.csl_syntax.specs.CanonicalText.{formula_text}
use Rattle.csl_syntax.specs.Tree.{tree_of, IsOver}
use Rattle.model_core.specs.Files.{TraLists, LabLists, RewLists}
use Rattle.model_core.specs.Model.{ModelLists, LabelledChain, IsBuiltOf, labelled_chain}
use Rattle.report.specs.Answer.{answer_lists}
use Rattle.session.specs.Command.{names_of}
use Rattle.session.specs.LineReply.{LineReply, Answered, Faulty as FaultyLine, Refused as RefusedLine, NumberedReply, IsReplyTo, AreReplies, is_answer, all_answered, reply_text, replies_text}
use Rattle.session.specs.ModelFiles.{TakesTra, IsTraFaulty, IsFileFaulty, TakesLab, IsLabFaulty, TakesRew, IsRewFaulty, TakesModel}
use Rattle.session.specs.Outcome.{Outcome, Usage, Faulty, FormulasLong, Replies, TakesTooMuch, HasLongInput, outcome_text, outcome_status}
use Rattle.report.specs.AnswerText.{IsWritable}
use Rattle.session.specs.Serve.{AsksFor, names_through}
use Rattle.session.specs.declared.line_reply.Reply.{Reply}
use Rattle.session.specs.declared.line_reply.Reply.TheVariants as reply
use Rattle.session.specs.declared.reading.Input.{Input}
use Rattle.session.specs.declared.reading.Prepared.{Prepared}
use Rattle.session.specs.declared.reading.Prepared.TheVariants.{Usage as NoCommand, Faulty as FaultyFile, FormulasLong as LongInput, Lines}
use Rattle.session.specs.declared.model_files.ModelReading.{ModelReading}
use Rattle.session.specs.declared.model_files.ModelReading.TheVariants.{Built, Faulty as FileFaulty}
use Rattle.session.specs.declared.reading.Stop.{Stop}
use Rattle.session.specs.declared.reading.TheConstants.{FORMULAS_LIMIT}
use Rattle.session.specs.declared.status.Status.{Status}
use Rattle.text_lines.specs.Lines.{LineText}
use Rattle.text_lines.specs.declared.fault.FileFault.{FileFault}

-- what a reply says, by the names of the labels
abbrev pub line_reply_of : List (List ℕ) → Reply → LineReply
line_reply_of names (reply.Answered formula answer) = Answered (formula_text names (tree_of formula)) (answer_lists answer)
line_reply_of names (reply.Faulty fault) = FaultyLine fault
line_reply_of names (reply.Refused refusal) = RefusedLine refusal

-- the lines of the reply can be written
abbrev pub IsReplyWritable : List (List ℕ) → Reply → Type 0
IsReplyWritable names (reply.Answered formula answer) = IsOver (length names) (tree_of formula) × IsWritable (answer_lists answer)
IsReplyWritable names (reply.Faulty fault) = Unit {0}
IsReplyWritable names (reply.Refused refusal) = Unit {0}

-- the name that is borrowed, if there is one
abbrev pub name_in : Option (Bor (List ℕ)) → Option (List ℕ)
name_in None = None
name_in (Some name) = Some name.now

-- a file's bytes, or none where there are too many
abbrev pub IsFileReading : List ℕ → Option (List Pair) → Option (Vec ℕ Global) → Type 0
IsFileReading name files None = IsTooBig name files
IsFileReading name files (Some bytes) = IsFile name files bytes.items × (length bytes.items ≤ FILE_LIMIT)

-- the chain of a file, which has the watched state, or what is wrong with it
abbrev pub IsTraReading : ℕ → List ℕ → Option (List Pair) → Result TraLists FileFault → Type 0
IsTraReading state name files (Ok tra) = TakesTra name files tra × (state < tra.n)
IsTraReading state name files (Err fault) = IsTraFaulty name files state fault.line fault.what

-- the labels of a file, or what is wrong with it
abbrev pub IsLabReading : ℕ → List ℕ → Option (List Pair) → Result LabLists FileFault → Type 0
IsLabReading n name files (Ok lab) = TakesLab n name files lab
IsLabReading n name files (Err fault) = IsLabFaulty n name files fault.line fault.what

-- the rewards of a file, or what is wrong with it; none where there is no file
abbrev pub IsRewReading : ℕ → Option (List ℕ) → Option (List Pair) → Result (Option RewLists) FileFault → Type 0
IsRewReading n name files (Ok rew) = TakesRew n name files rew
IsRewReading n name files (Err fault) = IsRewFaulty n name files fault.line fault.what

-- the files stand for what the model was built of
pub record IsModelOf (command : Spoken) (files : Option (List Pair)) (model : ModelLists) : Type 0 where
  pub takes : TakesModel command files
  pub built : IsBuiltOf model takes.tra takes.lab takes.rew

-- the model of the files, or the first that has a fault
abbrev pub IsModelReading : Spoken → Option (List Pair) → ModelReading → Type 0
IsModelReading command files (Built model) = IsModelOf command files model
IsModelReading command files (FileFaulty fault) = IsFileFaulty command files fault

-- the bytes of the formulas, or none where there are too many
abbrev pub IsInputReading : Option (List ℕ) → Option (List ℕ) → Option (Vec ℕ Global) → Type 0
IsInputReading before now None = TakesTooMuch before now
IsInputReading before now (Some bytes) = Consumes before now bytes.items × (length bytes.items ≤ FORMULAS_LIMIT) × IsAtEnd now

-- the files stand for the model, the options are the command's, and the formulas were read to their end
pub record IsInputOf (command : Spoken) (files : Option (List Pair)) (before now : Option (List ℕ)) (input : Input) : Type 0 where
  pub model : IsModelOf command files input.model
  pub options : input.options ≡ command.options
  pub text : IsInputReading before now (Some input.text)

-- what was read over a model: the formulas, or too many of them
abbrev pub IsInputOver : ModelLists → Options → Option (List ℕ) → Option (List ℕ) → Prepared → Type 0
IsInputOver model options before now LongInput = TakesTooMuch before now
IsInputOver model options before now (Lines input) =
    (input.model ≡ model) × (input.options ≡ options) × IsInputReading before now (Some input.text)
IsInputOver model options before now NoCommand = ⊥
IsInputOver model options before now (FaultyFile fault) = ⊥

-- the options are in their ranges, and the watched state is one of the model's
abbrev pub IsReady : Prepared → Type 0
IsReady NoCommand = Unit {0}
IsReady (FaultyFile fault) = Unit {0}
IsReady LongInput = Unit {0}
IsReady (Lines input) = AreInRange input.options × (input.options.state < input.model.n)

-- what was read
abbrev pub IsPrepared : Option Spoken → Option (List Pair) → Option (List ℕ) → Option (List ℕ) → Prepared → Type 0
IsPrepared command files before now NoCommand = IsNone command × Keeps before now
IsPrepared command files before now (FaultyFile fault) = IsSomeAnd command (λ c. IsFileFaulty c files fault × Keeps before now)
IsPrepared command files before now LongInput = IsSomeAnd command (λ c. HasLongInput c files before now)
IsPrepared command files before now (Lines input) = IsSomeAnd command (λ c. IsInputOf c files before now input)

-- the replies to the lines of the formulas
pub record HasRepliesTo (input : Input) (outcome : Outcome) : Type 0 where
  pub replies : List NumberedReply
  pub are : AreReplies (labelled_chain input.model) input.options input.text.items replies
  pub is : outcome ≡ Replies replies

-- what is said of what was read
abbrev pub IsSaidOf : Prepared → Outcome → Type 0
IsSaidOf NoCommand outcome = outcome ≡ Usage
IsSaidOf (FaultyFile fault) outcome = outcome ≡ Faulty fault
IsSaidOf LongInput outcome = outcome ≡ FormulasLong
IsSaidOf (Lines input) outcome = HasRepliesTo input outcome

-- the text of what is said is written, and this is the status
pub record Writes (prepared : Prepared) (before now : Option (List ℕ)) (status : Status) : Type 0 where
  pub outcome : Outcome
  pub said : IsSaidOf prepared outcome
  pub is_status : status ≡ outcome_status outcome
  pub written : Appends before now (outcome_text outcome)

-- a front of the text of what is said is written
pub record WritesFrontOf (prepared : Prepared) (before now : Option (List ℕ)) : Type 0 where
  pub outcome : Outcome
  pub said : IsSaidOf prepared outcome
  pub front : WritesFront (outcome_text outcome) before now

-- the reply to the line is written, and this says whether it is an answer
pub record WritesReply (over : LabelledChain) (options : Options) (line : LineText) (before now : Option (List ℕ))
    (answered : Bool) : Type 0 where
  pub reply : NumberedReply
  pub is : IsReplyTo over options line reply
  pub is_answered : answered ≡ is_answer reply.reply
  pub written : Appends before now (reply_text reply.number reply.reply)

-- a front of the reply to the line is written
pub record WritesFrontOfReply (over : LabelledChain) (options : Options) (line : LineText) (before now : Option (List ℕ)) : Type 0 where
  pub reply : NumberedReply
  pub is : IsReplyTo over options line reply
  pub front : WritesFront (reply_text reply.number reply.reply) before now

-- the replies to all lines are written, and this says whether each line is answered
pub record WritesReplies (over : LabelledChain) (options : Options) (input : List ℕ) (before now : Option (List ℕ))
    (answered : Bool) : Type 0 where
  pub replies : List NumberedReply
  pub are : AreReplies over options input replies
  pub is : answered ≡ all_answered replies
  pub written : Appends before now (replies_text replies)

-- a front of the replies to all lines is written
pub record WritesFrontOfReplies (over : LabelledChain) (options : Options) (input : List ℕ) (before now : Option (List ℕ)) : Type 0 where
  pub replies : List NumberedReply
  pub are : AreReplies over options input replies
  pub front : WritesFront (replies_text replies) before now

-- the name is asked for, or memory ran out
abbrev pub AsksForFile : {A : Type 0} → List ℕ → Result A Stop → List (List ℕ) → List (List ℕ) → Type 0
AsksForFile name (Ok value) old new = new ≡ old ++ name ∷ []
AsksForFile name (Err stop) old new = AsksFor (name ∷ []) old new

-- the name is asked for, if there is one, or memory ran out
abbrev pub AsksForRew : {A : Type 0} → Option (List ℕ) → Result A Stop → List (List ℕ) → List (List ℕ) → Type 0
AsksForRew name (Ok value) old new = new ≡ old ++ text_in name
AsksForRew name (Err stop) old new = AsksFor (text_in name) old new

-- the names that were asked for on the way to a model, or a front of them
abbrev pub AsksForModel : Spoken → Result ModelReading Stop → List (List ℕ) → List (List ℕ) → Type 0
AsksForModel command (Ok (Built model)) old new = new ≡ old ++ names_of (Some command)
AsksForModel command (Ok (FileFaulty fault)) old new = new ≡ old ++ names_through fault.file (Some command)
AsksForModel command (Err stop) old new = AsksFor (names_of (Some command)) old new

-- the names that were asked for before all was read
abbrev pub names_before : Prepared → Option Spoken → List (List ℕ)
names_before NoCommand command = []
names_before (FaultyFile fault) command = names_through fault.file command
names_before LongInput command = names_of command
names_before (Lines input) command = names_of command

abbrev pub AsksBefore : Option Spoken → Result Prepared Stop → List (List ℕ) → List (List ℕ) → Type 0
AsksBefore command (Ok prepared) old new = new ≡ old ++ names_before prepared command
AsksBefore command (Err stop) old new = AsksFor (names_of command) old new
