-- Words, files and formulas have one outcome at most, but for what isn't fixed of it.
use Rattle.std.proofs.Common.{◌≡◌, ℕ, ◌≤◌, false, List, ◌++◌, length, Option, Some, None, IsNone, IfSome, refl, sym, ap, ◌∙◌, subst, arith, append-nil, length-append}
use Rattle.std.specs.Io.KnownBytes.{Consumes, IsAtEnd}
use Rattle.std.proofs.lemmas.Bool.{false≢true}
use Rattle.command_words.specs.Command.{Spoken}
use Rattle.outside.specs.Shelf.{Pair}
use Rattle.session.specs.Command.{IsCommandOf, Say}
use Rattle.session.specs.FormulaLines.{formula_lines}
use Rattle.session.specs.Laws.{NeverEndEarly, WatchNothing}
use Rattle.session.specs.LineReply.{NumberedReply, AreReplies, fixed_replies}
use Rattle.session.specs.ModelFiles.{IsFileFaulty, TakesModel, model_of}
use Rattle.session.specs.Outcome.{Outcome, Usage, Faulty, FormulasLong, Replies, TakesInput, TakesTooMuch, HasReplies, IsOutcomeOf, IsOutcome, AreAlike, fixed_outcome}
use Rattle.report.specs.declared.model_fault.ModelFault.{ModelFault}
use Rattle.session.proofs.Commands.{same_command}
use Rattle.session.proofs.LineReplies.{one_list, whole_replies}
use Rattle.session.proofs.OneModel.{one_chain, no_model_fault, one_model_fault}

is_some : (command : Spoken) → IsNone (Some command) → ⊥
is_some command e = false≢true (sym e)

-- ---- one input is read in one way
module _ (left : List ℕ) where
  all_taken : (now : Option (List ℕ)) (bytes : List ℕ) → Consumes (Some left) now bytes → IsAtEnd now → left ≡ bytes
  all_taken None bytes p e = absurd p
  all_taken (Some rest) bytes p e = p ∙ ap (λ r. bytes ++ r) e ∙ append-nil bytes

  some_taken : (now : Option (List ℕ)) (bytes : List ℕ) → Consumes (Some left) now bytes → length bytes ≤ length left
  some_taken None bytes p = absurd p
  some_taken (Some rest) bytes p = omega (arith, ap length p, length-append bytes rest)

  one_input : (u v : Option (List ℕ)) (p : TakesInput (Some left) u) (q : TakesInput (Some left) v) → p.bytes ≡ q.bytes
  one_input u v p q = sym (all_taken u p.bytes p.taken p.end) ∙ all_taken v q.bytes q.taken q.end

  not_too_much : (u v : Option (List ℕ)) → TakesInput (Some left) u → TakesTooMuch (Some left) v → ⊥
  not_too_much u v p q =
      omega (arith, p.within, q.long, some_taken v q.bytes q.taken, ap length (all_taken u p.bytes p.taken p.end))

-- ---- one outcome
module _ (pairs : List Pair) (left : List ℕ) (u v : Option (List ℕ)) where
  no_command : (a : Outcome) → IsOutcomeOf None (Some pairs) (Some left) u a → a ≡ Usage
  no_command Usage p = refl
  no_command (Faulty fault) p = absurd p
  no_command FormulasLong p = absurd p
  no_command (Replies replies) p = absurd p

  module _ (command : Spoken) where
    no_fault : (fault : ModelFault) → IsFileFaulty command (Some pairs) fault → TakesModel command (Some pairs) → ⊥
    no_fault fault p model = no_model_fault pairs command model fault.file fault.line fault.what p

    same_replies : (xs ys : List NumberedReply) → HasReplies command (Some pairs) (Some left) u xs
        → HasReplies command (Some pairs) (Some left) v ys → fixed_replies command.options xs ≡ fixed_replies command.options ys
    same_replies xs ys p q =
        let over = sym (one_chain pairs command p.model q.model) in
        let input = sym (one_input left u v p.input q.input) in
        let are = subst (λ o. AreReplies o command.options q.input.bytes ys) over q.are in
        one_list (model_of p.model) command.options p.input.bytes xs ys p.are
        (subst (λ i. AreReplies (model_of p.model) command.options i ys) input are)

pub one_outcome : (pairs : List Pair) (left : List ℕ) (u v : Option (List ℕ)) (command : Option Spoken) (a b : Outcome)
    → IsOutcomeOf command (Some pairs) (Some left) u a → IsOutcomeOf command (Some pairs) (Some left) v b
    → AreAlike command a b
one_outcome pairs left u v None a b p q = no_command pairs left u v a p ∙ sym (no_command pairs left v u b q)
one_outcome pairs left u v (Some c) Usage b p q = absurd (is_some c p.0)
one_outcome pairs left u v (Some c) (Faulty a) Usage p q = absurd (is_some c q.0)
one_outcome pairs left u v (Some c) (Faulty a) (Faulty b) p q = ap Faulty (one_model_fault pairs c a b p.0 q.0)
one_outcome pairs left u v (Some c) (Faulty a) FormulasLong p q = absurd (no_fault pairs left u v c a p.0 q.model)
one_outcome pairs left u v (Some c) (Faulty a) (Replies ys) p q = absurd (no_fault pairs left u v c a p.0 q.model)
one_outcome pairs left u v (Some c) FormulasLong Usage p q = absurd (is_some c q.0)
one_outcome pairs left u v (Some c) FormulasLong (Faulty b) p q = absurd (no_fault pairs left u v c b q.0 p.model)
one_outcome pairs left u v (Some c) FormulasLong FormulasLong p q = refl
one_outcome pairs left u v (Some c) FormulasLong (Replies ys) p q = absurd (not_too_much left v u q.input p.long)
one_outcome pairs left u v (Some c) (Replies xs) Usage p q = absurd (is_some c q.0)
one_outcome pairs left u v (Some c) (Replies xs) (Faulty b) p q = absurd (no_fault pairs left u v c b q.0 p.model)
one_outcome pairs left u v (Some c) (Replies xs) FormulasLong p q = absurd (not_too_much left u v p.input q.long)
one_outcome pairs left u v (Some c) (Replies xs) (Replies ys) p q = ap Replies (same_replies pairs left u v c xs ys p q)

-- words, files and formulas have one outcome at most, but for what isn't fixed of it
pub same_outcome : (words : List (List ℕ)) (pairs : List Pair) (left : List ℕ) (u v : Option (List ℕ)) (a b : Outcome)
    → IsOutcome words (Some pairs) (Some left) u a → IsOutcome words (Some pairs) (Some left) v b
    → Say words (λ command. AreAlike command a b)
same_outcome words pairs left u v a b p q =
    let command = same_command words q.command p.command q.said p.said in
    record {
      command = p.command;
      said = p.said;
      holds = one_outcome pairs left u v p.command a b p.holds (subst (λ c. IsOutcomeOf c (Some pairs) (Some left) v b) command q.holds);
    }

-- ---- where no state is watched and no run may end early
module _ (pairs : List Pair) (left : List ℕ) (u : Option (List ℕ)) where
  whole_of : (command : Spoken) (a : Outcome) → command.options.watch ≡ 0 → command.options.until_decided ≡ false
      → IsOutcomeOf (Some command) (Some pairs) (Some left) u a → fixed_outcome command.options a ≡ a
  whole_of command Usage none never h = refl
  whole_of command (Faulty fault) none never h = refl
  whole_of command FormulasLong none never h = refl
  whole_of command (Replies replies) none never h =
      ap Replies (whole_replies (model_of h.model) command.options none never (formula_lines h.input.bytes) replies h.are)

-- outcomes that are alike are the same
alike_same : (pairs : List Pair) (left : List ℕ) (u v : Option (List ℕ)) (command : Option Spoken) (a b : Outcome)
    → IfSome command (λ c. c.options.watch ≡ 0) → IfSome command (λ c. c.options.until_decided ≡ false)
    → IsOutcomeOf command (Some pairs) (Some left) u a → IsOutcomeOf command (Some pairs) (Some left) v b → AreAlike command a b → a ≡ b
alike_same pairs left u v None a b none never p q alike = alike
alike_same pairs left u v (Some c) a b none never p q alike =
    sym (whole_of pairs left u c a none never p) ∙ (alike ∙ whole_of pairs left v c b none never q)

-- then words, files and formulas have one outcome at most
pub one_unwatched : (words : List (List ℕ)) (pairs : List Pair) (left : List ℕ) (u v : Option (List ℕ)) (a b : Outcome)
    → WatchNothing words → NeverEndEarly words → IsOutcome words (Some pairs) (Some left) u a
    → IsOutcome words (Some pairs) (Some left) v b → a ≡ b
one_unwatched words pairs left u v a b none never p q =
    let told : (c : Option Spoken) → IsCommandOf words c → c ≡ p.command = λ c said. same_command words c p.command said p.said in
    alike_same pairs left u v p.command a b
    (subst (λ c. IfSome c (λ (x : Spoken). x.options.watch ≡ 0)) (told none.command none.said) none.holds)
    (subst (λ c. IfSome c (λ (x : Spoken). x.options.until_decided ≡ false)) (told never.command never.said) never.holds) p.holds
    (subst (λ c. IsOutcomeOf c (Some pairs) (Some left) v b) (told q.command q.said) q.holds)
    (one_outcome pairs left u v p.command a b p.holds
    (subst (λ c. IsOutcomeOf c (Some pairs) (Some left) v b) (told q.command q.said) q.holds))
