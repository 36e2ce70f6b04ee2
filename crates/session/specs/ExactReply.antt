-- When the reply to a line is exact: what a reader may rely on, whatever was computed.
use Rattle.std.specs.Prelude.{◌≡◌, ℕ, if◌then◌else◌, List, Option, Some}
use Rattle.std.specs.Io.KnownBytes.{Appends}
use Rattle.std.specs.List.{AllZip}
use Rattle.command_words.specs.Command.{Spoken}
use Rattle.command_words.specs.declared.command.Options.{Options}
use Rattle.csl_syntax.specs.CanonicalText.{formula_text}
use Rattle.csl_syntax.specs.FormulaFault.{FormulaFaultAt}
use Rattle.csl_syntax.specs.FormulaText.{FormulaSays}
use Rattle.csl_syntax.specs.Tree.{Tree}
use Rattle.model_core.specs.Model.{LabelledChain}
use Rattle.outside.specs.Shelf.{Pair}
use Rattle.report.specs.Answer.{AnswerLists}
use Rattle.report.specs.RefusalText.{refusal_line}
use Rattle.nested_verdict.specs.ExactAnswer.{IsExactAnswer}
use Rattle.nested_verdict.specs.FormulaAnswer.{first_refusal}
use Rattle.session.specs.FormulaLines.{formula_lines}
use Rattle.session.specs.LineReply.{LineReply, Answered, Faulty, Refused, NumberedReply, all_answered, replies_text}
use Rattle.session.specs.ModelFiles.{TakesModel, model_of}
use Rattle.session.specs.Outcome.{TakesInput, HasLongInput, long_text}
use Rattle.session.specs.declared.status.Status.{Status}
use Rattle.session.specs.declared.status.Status.TheVariants.{Done, Refused as RefusedStatus}
use Rattle.step_core.specs.declared.plan_error.PlanError.{PlanError}
use Rattle.text_lines.specs.Lines.{LineText}

-- the line stands for a formula, the text is that formula's, and the answer is exact
pub record AnswersExactly (over : LabelledChain) (options : Options) (line text : List ℕ) (answer : AnswerLists) : Type 0 where
  pub formula : Tree
  pub says : FormulaSays line over.names formula
  pub is_text : text ≡ formula_text over.names formula
  pub exact : IsExactAnswer over options formula answer

-- the line stands for a formula, and this is why the first of its untils that has no plan has none
pub record StandsForRefused (over : LabelledChain) (options : Options) (line : List ℕ) (refusal : PlanError) : Type 0 where
  pub formula : Tree
  pub says : FormulaSays line over.names formula
  pub cause : first_refusal over options formula ≡ Some refusal

-- the reply to the line is exact: an answer is, and a refusal has its cause
abbrev pub IsExactReply : LabelledChain → Options → List ℕ → LineReply → Type 0
IsExactReply over options line (Answered text answer) = AnswersExactly over options line text answer
IsExactReply over options line (Faulty fault) = FormulaFaultAt line over.names fault.column fault.what
IsExactReply over options line (Refused refusal) = StandsForRefused over options line refusal

pub record IsExactTo (over : LabelledChain) (options : Options) (line : LineText) (numbered : NumberedReply) : Type 0 where
  pub number : numbered.number ≡ line.number
  pub exact : IsExactReply over options line.bytes numbered.reply

-- the files stand for a model, and of the formulas each line that isn't blank, up to `quit`, has a reply, which is printed in its place and
-- exact; the status says whether all lines are answered
pub record RepliesExactly (command : Spoken) (files : Option (List Pair)) (left_before left_now before now : Option (List ℕ))
    (status : Status) : Type 0 where
  pub model : TakesModel command files
  pub input : TakesInput left_before left_now
  pub replies : List NumberedReply
  pub printed : Appends before now (replies_text replies)
  pub exact : AllZip (IsExactTo (model_of model) command.options) (formula_lines input.bytes) replies
  pub is_status : status ≡ (if all_answered replies then Done else RefusedStatus)

-- the files stand for a model, of the formulas there were too many, and this is printed and nothing else
pub record RefusesLongInput (command : Spoken) (files : Option (List Pair)) (left_before left_now before now : Option (List ℕ))
    (status : Status) : Type 0 where
  pub long : HasLongInput command files left_before left_now
  pub printed : Appends before now (refusal_line long_text)
  pub is_status : status ≡ RefusedStatus
