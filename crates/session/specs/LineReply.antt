-- What is replied to a line of the formulas.
use Rattle.std.specs.Prelude.{◌≡◌, ℕ, Bool, true, false, ◌&&◌, ◌++◌, List, [], ◌∷◌, map, Some, None}
use Rattle.std.specs.List.{AllZip}
use Rattle.command_words.specs.declared.command.Options.{Options}
use Rattle.csl_syntax.specs.CanonicalText.{formula_text}
use Rattle.csl_syntax.specs.FormulaFault.{FormulaFaultAt}
use Rattle.csl_syntax.specs.FormulaText.{FormulaSays}
use Rattle.csl_syntax.specs.Tree.{Tree}
use Rattle.csl_syntax.specs.declared.fault.FormulaFault.{FormulaFault}
use Rattle.model_core.specs.Model.{LabelledChain}
use Rattle.report.specs.Answer.{AnswerLists}
use Rattle.nested_verdict.specs.EarlyAnswer.{IsAnswerTo}
use Rattle.nested_verdict.specs.ExactAnswer.{IsExactAnswer}
use Rattle.nested_verdict.specs.FixedAnswer.{fixed_answer}
use Rattle.nested_verdict.specs.FormulaAnswer.{formula_answer, first_refusal}
use Rattle.nested_verdict.specs.UnwatchedAnswer.{unwatched_answer}
use Rattle.session.specs.FormulaLines.{formula_lines}
use Rattle.report.specs.AnswerText.{formula_line, answer_lines}
use Rattle.report.specs.RefusalText.{formula_fault_text, plan_refusal_text, refused_text, refusal_line}
use Rattle.nested_verdict.specs.WatchedBrackets.{IsWatched}
use Rattle.step_core.specs.declared.plan_error.PlanError.{PlanError}
use Rattle.text_lines.specs.Lines.{LineText}

-- a formula's text and its answer; what is wrong with the line; or why the formula is refused
pub data LineReply : Type 0 where
  Answered : List ℕ → AnswerLists → LineReply
  Faulty : FormulaFault → LineReply
  Refused : PlanError → LineReply

-- a reply, with the number of its line
pub record NumberedReply : Type 0 where
  pub number : ℕ
  pub reply : LineReply

-- the formula isn't refused, the text is its own, and this is an answer to it: of the whole run, or of one that ended early; and exact
pub record AnswersFormula (over : LabelledChain) (options : Options) (f : Tree) (text : List ℕ) (answer : AnswerLists) : Type 0 where
  pub accepted : first_refusal over options f ≡ None
  pub is_text : text ≡ formula_text over.names f
  pub is : IsAnswerTo options (formula_answer over options f) (unwatched_answer answer)
  pub watched : IsWatched options answer
  pub exact : IsExactAnswer over options f answer

-- this is a reply to the formula: an answer, or its refusal
abbrev pub IsFormulaReply : LabelledChain → Options → Tree → LineReply → Type 0
IsFormulaReply over options f (Answered text answer) = AnswersFormula over options f text answer
IsFormulaReply over options f (Faulty fault) = ⊥
IsFormulaReply over options f (Refused refusal) = first_refusal over options f ≡ Some refusal

-- the line stands for a formula, and this is a reply to it
pub record RepliesTo (over : LabelledChain) (options : Options) (line : List ℕ) (reply : LineReply) : Type 0 where
  pub formula : Tree
  pub says : FormulaSays line over.names formula
  pub is : IsFormulaReply over options formula reply

-- this is a reply to the line
abbrev pub IsLineReply : LabelledChain → Options → List ℕ → LineReply → Type 0
IsLineReply over options line (Faulty fault) = FormulaFaultAt line over.names fault.column fault.what
IsLineReply over options line (Answered text answer) = RepliesTo over options line (Answered text answer)
IsLineReply over options line (Refused refusal) = RepliesTo over options line (Refused refusal)

-- the reply has the line's number, and is one to it
pub record IsReplyTo (over : LabelledChain) (options : Options) (line : LineText) (numbered : NumberedReply) : Type 0 where
  pub number : numbered.number ≡ line.number
  pub reply : IsLineReply over options line.bytes numbered.reply

-- these are replies to the input, one for each line that is answered, in their order
abbrev pub AreReplies : LabelledChain → Options → List ℕ → List NumberedReply → Type 0
AreReplies over options input replies = AllZip (IsReplyTo over options) (formula_lines input) replies

-- the reply, but for what depends on when each step of a run is taken
abbrev pub fixed_reply : Options → LineReply → LineReply
fixed_reply options (Answered text answer) = Answered text (fixed_answer options answer)
fixed_reply options (Faulty fault) = Faulty fault
fixed_reply options (Refused refusal) = Refused refusal

abbrev pub fixed_replies : Options → List NumberedReply → List NumberedReply
fixed_replies options replies = map (λ r. record { number = r.number; reply = fixed_reply options r.reply }) replies

abbrev pub is_answer : LineReply → Bool
is_answer (Answered text answer) = true
is_answer (Faulty fault) = false
is_answer (Refused refusal) = false

-- no line is refused
abbrev pub all_answered : List NumberedReply → Bool
all_answered [] = true
all_answered (numbered ∷ replies) = is_answer numbered.reply && all_answered replies

-- the lines of a reply, by the number of its line
abbrev pub reply_text : ℕ → LineReply → List ℕ
reply_text number (Answered text answer) = formula_line text ++ answer_lines answer.verdicts answer.shown
reply_text number (Faulty fault) = refusal_line (refused_text number (formula_fault_text fault))
reply_text number (Refused refusal) = refusal_line (refused_text number (plan_refusal_text refusal))

-- the texts of the replies, one after another
abbrev pub replies_text : List NumberedReply → List ℕ
replies_text [] = []
replies_text (numbered ∷ replies) = reply_text numbered.number numbered.reply ++ replies_text replies
