-- The replies that are written, a line after the other.
use Rattle.std.proofs.Common.{◌≡◌, ℕ, ◌<◌, Bool, true, false, ◌&&◌, List, [], ◌∷◌, ◌++◌, Option, refl, sym, ap, ◌∙◌, subst, append_assoc, append-nil}
use Rattle.std.proofs.KnownBytes.{Appends-nil, Appends-trans}
use Rattle.std.specs.Io.KnownBytes.{Appends}
use Rattle.std.specs.List.{AllZip}
use Rattle.command_words.specs.Laws.{AreInRange}
use Rattle.command_words.specs.declared.command.Options.{Options}
use Rattle.model_core.specs.Model.{LabelledChain}
use Rattle.outside.specs.Whole.{WritesFront}
use Rattle.session.specs.FormulaLines.{formula_lines}
use Rattle.session.specs.LineReply.{NumberedReply, IsReplyTo, all_answered, is_answer, reply_text, replies_text}
use Rattle.session.specs.Reading.{WritesReply, WritesFrontOfReply, WritesReplies, WritesFrontOfReplies}
use Rattle.report.proofs.Fronts.{front_of_first, front_of_second, nothing_written}
use Rattle.session.proofs.LineReplies.{some_list}
use Rattle.text_lines.specs.Lines.{LineText}

and_assoc : (a b c : Bool) → (a && b) && c ≡ a && (b && c)
and_assoc true b c = refl
and_assoc false b c = refl

-- ---- replies to some lines, and then to others
texts_append : (xs ys : List NumberedReply) → replies_text (xs ++ ys) ≡ replies_text xs ++ replies_text ys
texts_append [] ys = refl
texts_append (x ∷ xs) ys =
    ap (λ l. reply_text x.number x.reply ++ l) (texts_append xs ys)
    ∙ sym (append_assoc (reply_text x.number x.reply) (replies_text xs) (replies_text ys))

one_text : (r : NumberedReply) → replies_text (r ∷ []) ≡ reply_text r.number r.reply
one_text r = append-nil (reply_text r.number r.reply)

answered_append : (xs : List NumberedReply) (r : NumberedReply)
    → all_answered (xs ++ r ∷ []) ≡ all_answered xs && is_answer r.reply
answered_append [] r = and_true (is_answer r.reply)
  where
    and_true : (a : Bool) → a && true ≡ true && a
    and_true true = refl
    and_true false = refl
answered_append (x ∷ xs) r =
    ap (λ a. is_answer x.reply && a) (answered_append xs r) ∙ sym (and_assoc (is_answer x.reply) (all_answered xs) (is_answer r.reply))

module _ (over : LabelledChain) (options : Options) where
  zip_append : (ls ms : List LineText) (xs ys : List NumberedReply) → AllZip (IsReplyTo over options) ls xs
      → AllZip (IsReplyTo over options) ms ys → AllZip (IsReplyTo over options) (ls ++ ms) (xs ++ ys)
  zip_append [] ms [] ys p q = q
  zip_append [] ms (x ∷ xs) ys p q = absurd p
  zip_append (l ∷ ls) ms [] ys p q = absurd p
  zip_append (l ∷ ls) ms (x ∷ xs) ys p q = (p.0, zip_append ls ms xs ys p.1 q)

module _ (over : LabelledChain) (options : Options) (input : List ℕ) (before : Option (List ℕ)) where
  -- the replies to all lines but these are written, and this says whether all of them are answers
  pub record HasReplied (lines : List LineText) (now : Option (List ℕ)) (answered : Bool) : Type 0 where
    pub front_lines : List LineText
    pub done : List NumberedReply
    pub splits : formula_lines input ≡ front_lines ++ lines
    pub are : AllZip (IsReplyTo over options) front_lines done
    pub written : Appends before now (replies_text done)
    pub so_far : all_answered done ≡ answered

  -- nothing is written at first
  pub none_replied : HasReplied (formula_lines input) before true
  none_replied = record {
    front_lines = [];
    done = [];
    splits = refl;
    are = tt;
    written = Appends-nil before;
    so_far = refl;
  }

  module _ (lines : List LineText) (now : Option (List ℕ)) (answered : Bool) (h : HasReplied lines now answered) where
    -- all replies, where these are those to the lines that are left
    all_are : (later : List NumberedReply) → AllZip (IsReplyTo over options) lines later
        → AllZip (IsReplyTo over options) (formula_lines input) (h.done ++ later)
    all_are later are =
        subst (λ l. AllZip (IsReplyTo over options) l (h.done ++ later)) (sym h.splits)
        (zip_append over options h.front_lines lines h.done later h.are are)

    -- after what is written, a front of the text of such replies
    then_front : (next : Option (List ℕ)) (later : List NumberedReply) → AllZip (IsReplyTo over options) lines later
        → WritesFront (replies_text later) now next → WritesFrontOfReplies over options input before next
    then_front next later are front = record {
      replies = h.done ++ later;
      are = all_are later are;
      front =
          subst (λ t. WritesFront t before next) (sym (texts_append h.done later))
          (front_of_second (replies_text h.done) (replies_text later) before now next h.written front);
    }

  -- what is written is a front
  pub front_replied : AreInRange options → options.state < over.chain.states → (lines : List LineText) (now : Option (List ℕ))
      (answered : Bool) → HasReplied lines now answered → WritesFrontOfReplies over options input before now
  front_replied range state lines now answered h =
      let later = some_list over options range state lines in
      then_front lines now answered h now later.0 later.1 (nothing_written (replies_text later.0) now)

  -- all is written where no line is left
  pub all_replied : (now : Option (List ℕ)) (answered : Bool) → HasReplied [] now answered
      → WritesReplies over options input before now answered
  all_replied now answered h = record {
    replies = h.done;
    are = subst (λ l. AllZip (IsReplyTo over options) l h.done) (sym (h.splits ∙ append-nil h.front_lines)) h.are;
    is = sym h.so_far;
    written = h.written;
  }

  -- ---- the next line, and the reply to it, where the lines that are left begin with the line
  module _ (left : List LineText) (line : LineText) (lines : List LineText) (begins : left ≡ line ∷ lines) (now : Option (List ℕ))
      (answered : Bool) (so_far : HasReplied left now answered) (next : Option (List ℕ)) where
    here : HasReplied (line ∷ lines) now answered
    here = subst (λ l. HasReplied l now answered) begins so_far

    -- a front of the reply is written
    pub front_of_next : AreInRange options → options.state < over.chain.states → WritesFrontOfReply over options line now next
        → WritesFrontOfReplies over options input before next
    front_of_next range state w =
        let later = some_list over options range state lines in
        then_front (line ∷ lines) now answered here next (w.reply ∷ later.0) (w.is, later.1)
        (front_of_first (reply_text w.reply.number w.reply.reply) (replies_text later.0) now next w.front)

    -- the reply is written
    pub next_replied : (is_answered : Bool) → WritesReply over options line now next is_answered
        → HasReplied lines next (answered && is_answered)
    next_replied is_answered w = record {
      front_lines = here.front_lines ++ line ∷ [];
      done = here.done ++ w.reply ∷ [];
      splits = here.splits ∙ sym (append_assoc here.front_lines (line ∷ []) lines);
      are = zip_append over options here.front_lines (line ∷ []) here.done (w.reply ∷ []) here.are (w.is, tt);
      written =
          subst (Appends before next)
          (sym (texts_append here.done (w.reply ∷ []) ∙ ap (λ t. replies_text here.done ++ t) (one_text w.reply)))
          (Appends-trans before now next (replies_text here.done) (reply_text w.reply.number w.reply.reply) here.written w.written);
      so_far =
          answered_append here.done w.reply ∙ ap (λ a. a && is_answer w.reply.reply) here.so_far
          ∙ ap (λ a. answered && a) (sym w.is_answered);
    }

  -- where none is left, all is written
  pub end_replied : (left : List LineText) → left ≡ [] → (now : Option (List ℕ)) (answered : Bool) → HasReplied left now answered
      → WritesReplies over options input before now answered
  end_replied left none now answered h = all_replied now answered (subst (λ l. HasReplied l now answered) none h)
