-- Each line of the formulas has a reply, and each list of lines a list of replies; they are one, but for what isn't fixed of them.
use Rattle.std.proofs.Common.{◌≡◌, ℕ, ◌<◌, ◌⊎◌, inl, inr, false, List, [], ◌∷◌, Some, None, refl, sym, ap, ◌∙◌, subst}
use Rattle.std.specs.List.{AllZip}
use Rattle.command_words.specs.Laws.{AreInRange}
use Rattle.command_words.specs.declared.command.Options.{Options}
use Rattle.csl_syntax.specs.FormulaFault.{FormulaFaultAt}
use Rattle.csl_syntax.specs.Laws.{SaysSomeFormula, HasSomeFormulaFault}
use Rattle.csl_syntax.specs.declared.fault.FormulaFault.{FormulaFault}
use Rattle.csl_syntax.specs.declared.fault.FormulaWhat.{FormulaWhat}
use Rattle.csl_syntax.specs.Tree.{Tree}
use Rattle.csl_syntax.proofs.Outcomes.{formula_or_fault}
use Rattle.csl_syntax.proofs.Scanning.{formula_is_one, fault_is_one, formula_has_no_fault}
use Rattle.model_core.specs.Model.{LabelledChain}
use Rattle.report.specs.Answer.{AnswerLists}
use Rattle.nested_verdict.specs.EarlyAnswer.{IsAnswerTo}
use Rattle.nested_verdict.specs.FixedAnswer.{fixed_answer}
use Rattle.nested_verdict.specs.FormulaAnswer.{formula_answer}
use Rattle.nested_verdict.specs.UnwatchedAnswer.{unwatched_answer}
use Rattle.nested_verdict.proofs.EarlyAnswers.{fixed_same, fixed_unwatched}
use Rattle.session.specs.FormulaLines.{formula_lines}
use Rattle.session.specs.LineReply.{LineReply, Answered, Faulty, Refused, NumberedReply, fixed_reply, fixed_replies, IsFormulaReply, RepliesTo}
use Rattle.session.specs.LineReply.{IsLineReply, IsReplyTo, AreReplies}
use Rattle.session.proofs.FilledAnswers.{answer_whole, computed_reply, is_computed}
use Rattle.step_core.specs.declared.plan_error.PlanError.{PlanError}
use Rattle.text_lines.specs.Lines.{LineText}

-- ---- two replies to a formula
none_not_some : (r : PlanError) → None ≡ Some r → ⊥
none_not_some r e = cc

some_same : (r s : PlanError) → Some r ≡ Some s → r ≡ s
some_same r s e = cc

module _ (over : LabelledChain) (options : Options) (f : Tree) where
  same_answer : (x y : AnswerLists) → IsAnswerTo options (formula_answer over options f) (unwatched_answer x)
      → IsAnswerTo options (formula_answer over options f) (unwatched_answer y) → fixed_answer options x ≡ fixed_answer options y
  same_answer x y p q =
      let whole = formula_answer over options f in
      sym (fixed_unwatched options x)
      ∙ (fixed_same options whole (unwatched_answer x) p
      ∙ (sym (fixed_same options whole (unwatched_answer y) q) ∙ fixed_unwatched options y))

  same_reply : (a b : LineReply) → IsFormulaReply over options f a → IsFormulaReply over options f b
      → fixed_reply options a ≡ fixed_reply options b
  same_reply (Answered t x) (Answered u y) p q =
      ap (λ text. Answered text (fixed_answer options x)) (p.is_text ∙ sym q.is_text) ∙ ap (Answered u) (same_answer x y p.is q.is)
  same_reply (Answered t x) (Faulty fault) p q = absurd q
  same_reply (Answered t x) (Refused r) p q = absurd (none_not_some r (sym p.accepted ∙ q))
  same_reply (Faulty fault) b p q = absurd p
  same_reply (Refused r) (Answered u y) p q = absurd (none_not_some r (sym q.accepted ∙ p))
  same_reply (Refused r) (Faulty fault) p q = absurd q
  same_reply (Refused r) (Refused s) p q = ap Refused (some_same r s (sym p ∙ q))

-- ---- one line
module _ (over : LabelledChain) (options : Options) (line : List ℕ) where
  -- the line has a fault, and this is the reply that tells it
  record TellsFault (reply : LineReply) : Type 0 where
    fault : FormulaFault
    has : FormulaFaultAt line over.names fault.column fault.what
    is : reply ≡ Faulty fault

  -- a reply is that to a formula, or tells a fault
  formula_or_told : (reply : LineReply) → IsLineReply over options line reply → RepliesTo over options line reply ⊎ TellsFault reply
  formula_or_told (Answered text answer) h = inl h
  formula_or_told (Faulty fault) h = inr (record { fault = fault; has = h; is = refl })
  formula_or_told (Refused refusal) h = inl h

  fault_of : ℕ → FormulaWhat → FormulaFault
  fault_of column what = record { column = column; what = what }

  same_fault : (a b : FormulaFault) → FormulaFaultAt line over.names a.column a.what → FormulaFaultAt line over.names b.column b.what
      → a ≡ b
  unfolding fault_of
  same_fault a b p q =
      let same = fault_is_one line over.names a.column b.column a.what b.what p q in
      ap (λ column. fault_of column a.what) same.0 ∙ ap (fault_of b.column) same.1

  -- a line has one reply at most, but for what isn't fixed of it
  pub one_reply : (a b : LineReply) → IsLineReply over options line a → IsLineReply over options line b
      → fixed_reply options a ≡ fixed_reply options b
  one_reply a b p q = by_kind (formula_or_told a p) (formula_or_told b q)
    where
      by_kind : RepliesTo over options line a ⊎ TellsFault a → RepliesTo over options line b ⊎ TellsFault b
          → fixed_reply options a ≡ fixed_reply options b
      by_kind (inl p) (inl q) =
          let same : q.formula ≡ p.formula = formula_is_one line over.names q.formula p.formula q.says p.says in
          same_reply over options p.formula a b p.is (subst (λ f. IsFormulaReply over options f b) same q.is)
      by_kind (inl p) (inr q) = absurd (formula_has_no_fault line over.names p.formula q.fault.column q.fault.what p.says q.has)
      by_kind (inr p) (inl q) = absurd (formula_has_no_fault line over.names q.formula p.fault.column p.fault.what q.says p.has)
      by_kind (inr p) (inr q) =
          ap (fixed_reply options) (p.is ∙ ap Faulty (same_fault p.fault q.fault p.has q.has) ∙ sym q.is)

  -- a reply to the formula is one to the line that stands for it
  pub is_line_reply : (reply : LineReply) → RepliesTo over options line reply → IsLineReply over options line reply
  is_line_reply (Answered text answer) h = h
  is_line_reply (Faulty fault) h = absurd h.is
  is_line_reply (Refused refusal) h = h

  -- each line has a reply
  module _ (range : AreInRange options) (state : options.state < over.chain.states) where
    pub some_reply : (reply : LineReply) × IsLineReply over options line reply
    some_reply = by_kind (formula_or_fault line over.names)
      where
        by_kind : SaysSomeFormula line over.names ⊎ HasSomeFormulaFault line over.names
            → (reply : LineReply) × IsLineReply over options line reply
        by_kind (inl (f, says)) = (
          computed_reply over options f,
          is_line_reply (computed_reply over options f)
              (record { formula = f; says = says; is = is_computed over options range state f }),
        )
        by_kind (inr (column, what, has)) = (Faulty (record { column = column; what = what }), has)

-- ---- the lines of an input
module _ (over : LabelledChain) (options : Options) where
  abbrev numbered : ℕ → LineReply → NumberedReply
  numbered number reply = record { number = number; reply = reply }

  abbrev fixed : NumberedReply → NumberedReply
  fixed r = numbered r.number (fixed_reply options r.reply)

  one_numbered : (line : LineText) (a b : NumberedReply) → IsReplyTo over options line a → IsReplyTo over options line b
      → fixed a ≡ fixed b
  one_numbered line a b p q =
      ap (λ number. numbered number (fixed_reply options a.reply)) (p.number ∙ sym q.number)
      ∙ ap (numbered b.number) (one_reply over options line.bytes a.reply b.reply p.reply q.reply)

  pub one_list_of : (lines : List LineText) (xs ys : List NumberedReply) → AllZip (IsReplyTo over options) lines xs
      → AllZip (IsReplyTo over options) lines ys → fixed_replies options xs ≡ fixed_replies options ys
  one_list_of [] [] [] p q = refl
  one_list_of [] [] (y ∷ ys) p q = absurd q
  one_list_of [] (x ∷ xs) ys p q = absurd p
  one_list_of (line ∷ lines) [] ys p q = absurd p
  one_list_of (line ∷ lines) (x ∷ xs) [] p q = absurd q
  one_list_of (line ∷ lines) (x ∷ xs) (y ∷ ys) p q =
      ap (λ first. first ∷ fixed_replies options xs) (one_numbered line x y p.0 q.0)
      ∙ ap (λ others. fixed y ∷ others) (one_list_of lines xs ys p.1 q.1)

  -- an input has one list of replies at most, but for what isn't fixed of them
  pub one_list : (input : List ℕ) (xs ys : List NumberedReply) → AreReplies over options input xs → AreReplies over options input ys
      → fixed_replies options xs ≡ fixed_replies options ys
  one_list input xs ys p q = one_list_of (formula_lines input) xs ys p q

  -- each list of lines has replies
  module _ (range : AreInRange options) (state : options.state < over.chain.states) where
    pub some_list : (lines : List LineText) → (replies : List NumberedReply) × AllZip (IsReplyTo over options) lines replies
    some_list [] = ([], tt)
    some_list (line ∷ lines) =
        let first = some_reply over options line.bytes range state in
        let others = some_list lines in
        (record { number = line.number; reply = first.0 } ∷ others.0, (record { number = refl; reply = first.1 }, others.1))

    -- each input has replies
    pub some_replies : (input : List ℕ) → (replies : List NumberedReply) × AreReplies over options input replies
    some_replies input = some_list (formula_lines input)

  -- where no bracket is asked for and no run may end early, all of the replies is fixed
  module _ (none : options.watch ≡ 0) (never : options.until_decided ≡ false) where
    whole_reply : (line : List ℕ) (reply : LineReply) → IsLineReply over options line reply → fixed_reply options reply ≡ reply
    whole_reply line (Answered text answer) h = ap (Answered text) (answer_whole options none never answer h.is.watched)
    whole_reply line (Faulty fault) h = refl
    whole_reply line (Refused refusal) h = refl

    pub whole_replies : (lines : List LineText) (xs : List NumberedReply) → AllZip (IsReplyTo over options) lines xs
        → fixed_replies options xs ≡ xs
    whole_replies [] [] h = refl
    whole_replies [] (x ∷ xs) h = absurd h
    whole_replies (line ∷ lines) [] h = absurd h
    whole_replies (line ∷ lines) (x ∷ xs) h =
        ap (λ reply. numbered x.number reply ∷ fixed_replies options xs) (whole_reply line.bytes x.reply h.0.reply)
        ∙ ap (λ others. x ∷ others) (whole_replies lines xs h.1)
