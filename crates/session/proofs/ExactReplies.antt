-- The replies that are computed are exact.
use Rattle.std.proofs.Common.{ℕ, List, [], ◌∷◌}
use Rattle.std.specs.List.{AllZip}
use Rattle.command_words.specs.declared.command.Options.{Options}
use Rattle.model_core.specs.Model.{LabelledChain}
use Rattle.session.specs.ExactReply.{IsExactReply, IsExactTo}
use Rattle.session.specs.LineReply.{LineReply, Answered, Faulty, Refused, NumberedReply, IsLineReply, IsReplyTo}
use Rattle.text_lines.specs.Lines.{LineText}

module _ (over : LabelledChain) (options : Options) where
  exact_reply : (line : List ℕ) (reply : LineReply) → IsLineReply over options line reply → IsExactReply over options line reply
  exact_reply line (Answered text answer) h =
      record { formula = h.formula; says = h.says; is_text = h.is.is_text; exact = h.is.exact }
  exact_reply line (Faulty fault) h = h
  exact_reply line (Refused refusal) h = record { formula = h.formula; says = h.says; cause = h.is }

  pub exact_replies : (lines : List LineText) (replies : List NumberedReply) → AllZip (IsReplyTo over options) lines replies
      → AllZip (IsExactTo over options) lines replies
  exact_replies [] [] h = h
  exact_replies [] (r ∷ rs) h = absurd h
  exact_replies (line ∷ lines) [] h = absurd h
  exact_replies (line ∷ lines) (r ∷ rs) h =
      (record { number = h.0.number; exact = exact_reply line.bytes r.reply h.0.reply }, exact_replies lines rs h.1)
