-- What the top call promises, from what it read and wrote.
use Rattle.std.proofs.Common.{◌≡◌, ℕ, option_map, ◌⊎◌, inl, inr, List, ◌++◌, Option, Some, None, IfSome, IsSomeAnd, Ok, refl, sym, ap, ◌∙◌, subst, append-nil, Bool, true, false, ◌&&◌, [], ◌∷◌, if◌then◌else◌}
use Rattle.std.specs.Io.KnownBytes.{Appends, Keeps}
use Rattle.std.proofs.KnownBytes.{Appends-kept}
use Rattle.std.specs.List.Sorted.{IsPermutation}
use Rattle.std.proofs.lemmas.List.Sorted.{sum_by-IsPermutation}
use Rattle.std.proofs.Common.{rules}
use Rattle.command_words.specs.Command.{Spoken}
use Rattle.command_words.specs.declared.command.Options.{Options}
use Rattle.model_core.specs.declared.rate.Rate.{Rate}
use Rattle.model_core.specs.Model.{LabelledChain, listed_rewards, ModelLists, has_label, model_chain, labelled_chain}
use Rattle.ctmc_semantics.specs.Chain.{Chain}
use Rattle.model_core.specs.Files.{RewLists}
use Rattle.model_core.specs.Transitions.{chain_of}
use Rattle.outside.specs.Shelf.{Pair}
use Rattle.outside.specs.Whole.{WritesFront}
use Rattle.session.specs.Command.{IsCommandOf, Say, names_of}
use Rattle.session.specs.ExactReply.{RepliesExactly, RefusesLongInput}
use Rattle.session.specs.LineReply.{LineReply, Answered, Faulty as NotAFormula, Refused as NoPlan, NumberedReply, AreReplies, all_answered, is_answer, fixed_reply, fixed_replies}
use Rattle.session.specs.FormulaLines.{formula_lines}
use Rattle.command_words.specs.Words.{AreCommand}
use Rattle.session.specs.ModelFiles.{IsFileFaulty, model_of}
use Rattle.session.specs.ReadCause.{HasReadCause}
use Rattle.report.specs.declared.model_fault.ModelFault.{ModelFault}
use Rattle.session.specs.Outcome.{Outcome, Usage, Faulty, FormulasLong, Replies, HasReplies, IsOutcome, IsOutcomeOf, outcome_text, outcome_status, AreAlike, fixed_outcome}
use Rattle.session.specs.Reading.{IsModelOf, IsInputOf, IsPrepared, IsSaidOf, Writes, WritesFrontOf, WritesReplies, WritesFrontOfReplies, AsksBefore}
use Rattle.session.specs.Serve.{AnswersExactly, AsksFor, AsksBy, IsAnswering, IsCutShort, IsLostOr, IsUsageOrLost, SaysAlike, names_through}
use Rattle.session.specs.declared.reading.Input.{Input}
use Rattle.session.specs.declared.reading.Prepared.{Prepared}
use Rattle.session.specs.declared.reading.Prepared.TheVariants.{Usage as NoCommand, Faulty as FaultyFile, FormulasLong as LongInput, Lines}
use Rattle.report.specs.declared.model_fault.Which.{Which}
use Rattle.report.specs.declared.model_fault.Which.TheVariants as which
use Rattle.session.specs.declared.status.Status.{Status}
use Rattle.session.specs.declared.status.Status.TheVariants as status
use Rattle.session.proofs.ExactReplies.{exact_replies}
use Rattle.session.proofs.Outcomes.{same_outcome}
use Rattle.session.proofs.Readings.{asks_whole}
use Rattle.session.proofs.Said.{told_names}

-- ---- what is said of what was read is written
module _ (prepared other : Prepared) (same : prepared ≡ other) (before now : Option (List ℕ)) (outcome : Outcome)
    (said : IsSaidOf other outcome) where
  said_too : IsSaidOf prepared outcome
  said_too = subst (λ p. IsSaidOf p outcome) (sym same) said

  pub writes : (s : Status) → s ≡ outcome_status outcome → Appends before now (outcome_text outcome) → Writes prepared before now s
  writes s is written = record { outcome = outcome; said = said_too; is_status = is; written = written }

  pub writes_front : WritesFront (outcome_text outcome) before now → WritesFrontOf prepared before now
  writes_front front = record { outcome = outcome; said = said_too; front = front }

-- and stays so where nothing more is written
pub front_kept : (prepared : Prepared) (a b c : Option (List ℕ)) → WritesFrontOf prepared a b → Keeps b c → WritesFrontOf prepared a c
front_kept prepared a b c w kept = record {
  outcome = w.outcome;
  said = w.said;
  front = record { count = w.front.count; within = w.front.within; written = Appends-kept a b c _ w.front.written kept };
}

-- the replies to the lines
module _ (prepared : Prepared) (input : Input) (same : prepared ≡ Lines input) (before now : Option (List ℕ)) where
  pub writes_front_of_lines : WritesFrontOfReplies (labelled_chain input.model) input.options input.text.items before now
      → WritesFrontOf prepared before now
  writes_front_of_lines w =
      writes_front prepared (Lines input) same before now (Replies w.replies) (record { replies = w.replies; are = w.are; is = refl })
      w.front

  pub writes_lines : (answered : Bool) (s : Status)
      → WritesReplies (labelled_chain input.model) input.options input.text.items before now answered
      → s ≡ (if answered then status.Done else status.Refused) → Writes prepared before now s
  writes_lines answered s w is =
      writes prepared (Lines input) same before now (Replies w.replies) (record { replies = w.replies; are = w.are; is = refl }) s
      (is ∙ ap (λ a. if a then status.Done else status.Refused) w.is) w.written

-- ---- the outcome of what was read and said
same_chain : (n : ℕ) (xs ys : List Rate) → IsPermutation xs ys → chain_of n xs ≡ chain_of n ys
same_chain n xs ys h = search (rules, sum_by-IsPermutation)

module _ (command : Spoken) (files : Option (List Pair)) (model : ModelLists) (is : IsModelOf command files model) where
  chain_is : model_chain model ≡ chain_of is.takes.tra.n is.takes.tra.rates
  chain_is = ap (λ n. chain_of n model.rates) is.built.n ∙ sym (same_chain is.takes.tra.n is.takes.tra.rates model.rates is.built.rates)

  -- the model holds the labelled chain of the files
  pub labelled_is : labelled_chain model ≡ model_of is.takes
  labelled_is =
      let with : Chain → ℕ → List (List ℕ) → List ℕ → Option RewLists → LabelledChain =
      λ (c : Chain) (d : ℕ) (ns : List (List ℕ)) (ms : List ℕ) (rew : Option RewLists). record {
        chain = c;
        rate_decimals = d;
        names = ns;
        has = has_label ms;
        rewards = option_map listed_rewards rew;
      } in
      let chain = chain_of is.takes.tra.n is.takes.tra.rates in
      ap (λ c. with c model.scale model.names model.marks model.rewards) chain_is
      ∙ ap (λ d. with chain d model.names model.marks model.rewards) is.built.scale
      ∙ ap (λ n. with chain is.takes.tra.scale n model.marks model.rewards) is.built.names
      ∙ ap (λ m. with chain is.takes.tra.scale is.takes.lab.names m model.rewards) is.built.marks
      ∙ ap (λ r. with chain is.takes.tra.scale is.takes.lab.names is.takes.lab.marks r) is.built.rewards

module _ (files : Option (List Pair)) (before now : Option (List ℕ)) where
  replies_of : (command : Spoken) (input : Input) (replies : List NumberedReply) → IsInputOf command files before now input
      → AreReplies (labelled_chain input.model) input.options input.text.items replies → HasReplies command files before now replies
  replies_of command input replies is are = record {
    model = is.model.takes;
    input = record { bytes = input.text.items; taken = is.text.0; within = is.text.1; end = is.text.2 };
    are =
        subst (λ o. AreReplies (model_of is.model.takes) o input.text.items replies) is.options
        (subst (λ c. AreReplies c input.options input.text.items replies) (labelled_is command files input.model is.model) are);
  }

  pub outcome_of : (command : Option Spoken) (prepared : Prepared) (outcome : Outcome) → IsPrepared command files before now prepared
      → IsSaidOf prepared outcome → IsOutcomeOf command files before now outcome
  outcome_of command NoCommand outcome is said = subst (IsOutcomeOf command files before now) (sym said) is
  outcome_of command (FaultyFile fault) outcome is said = subst (IsOutcomeOf command files before now) (sym said) is
  outcome_of command LongInput outcome is said = subst (IsOutcomeOf command files before now) (sym said) is
  outcome_of None (Lines input) outcome is said = absurd is
  outcome_of (Some command) (Lines input) outcome is said =
      subst (IsOutcomeOf (Some command) files before now) (sym said.is) (replies_of command input said.replies is said.are)

  -- the outcome of the words
  pub outcome_is : (words : List (List ℕ)) (prepared : Prepared) (outcome : Outcome)
      → Say words (λ command. IsPrepared command files before now prepared) → IsSaidOf prepared outcome
      → IsOutcome words files before now outcome
  outcome_is words prepared outcome is said = record {
    command = is.command;
    said = is.said;
    holds = outcome_of is.command prepared outcome is.holds said;
  }

-- ---- what is printed is exact
module _ (words : List (List ℕ)) (files : Option (List Pair)) (left_before left_now before now : Option (List ℕ)) where
  abbrev Exactly : Spoken → Status → Type 0
  Exactly c s = RepliesExactly c files left_before left_now before now s ⊎ RefusesLongInput c files left_before left_now before now s

  exact_of : (command : Option Spoken) (s : Status) (outcome : Outcome) → IsCommandOf words command
      → IsOutcomeOf command files left_before left_now outcome → s ≡ outcome_status outcome → Appends before now (outcome_text outcome)
      → IsAnswering s → IsSomeAnd command (λ c. Exactly c s)
  exact_of command s Usage said h is printed answering = absurd (subst IsAnswering is answering)
  exact_of command s (Faulty fault) said h is printed answering = absurd (subst IsAnswering is answering)
  exact_of None s FormulasLong said h is printed answering = absurd h
  exact_of (Some c) s FormulasLong said h is printed answering = inr (record { long = h; printed = printed; is_status = is })
  exact_of None s (Replies replies) said h is printed answering = absurd h
  exact_of (Some c) s (Replies replies) said h is printed answering =
      inl (record {
        model = h.model;
        input = h.input;
        replies = replies;
        printed = printed;
        exact =
            exact_replies (model_of h.model) c.options (formula_lines h.input.bytes) replies h.are;
        is_status = is;
      })

  pub answers_exactly : (s : Status) (outcome : Outcome) → IsOutcome words files left_before left_now outcome → s ≡ outcome_status outcome
      → Appends before now (outcome_text outcome) → IsAnswering s
      → AnswersExactly words files left_before left_now before now s
  answers_exactly s outcome is e printed answering = record {
    command = is.command;
    said = is.said;
    holds = exact_of is.command s outcome is.said is.holds e printed answering;
  }

-- ---- status and text are a function of what is told
pub lost_or : (s : Status) (P : Type 0) → P → IsLostOr s P
lost_or status.Done P p = p
lost_or status.Refused P p = p
lost_or status.Usage P p = p
lost_or (status.Model fault) P p = p
lost_or (status.Outside fault) P p = tt
lost_or status.Memory P p = tt

appended : (written text : List ℕ) (now : Option (List ℕ)) → Appends (Some written) now text → now ≡ Some (written ++ text)
appended written text None p = absurd p
appended written text (Some xs) p = ap Some p

-- the status is fixed
module _ (options : Options) where
  same_answer : (reply : LineReply) → is_answer (fixed_reply options reply) ≡ is_answer reply
  same_answer (Answered text answer) = refl
  same_answer (NotAFormula fault) = refl
  same_answer (NoPlan refusal) = refl

  same_answered : (replies : List NumberedReply) → all_answered (fixed_replies options replies) ≡ all_answered replies
  same_answered [] = refl
  same_answered (r ∷ rs) =
      ap (λ a. a && all_answered (fixed_replies options rs)) (same_answer r.reply) ∙ ap (λ a. is_answer r.reply && a) (same_answered rs)

  same_status : (outcome : Outcome) → outcome_status (fixed_outcome options outcome) ≡ outcome_status outcome
  same_status Usage = refl
  same_status (Faulty fault) = refl
  same_status FormulasLong = refl
  same_status (Replies replies) = ap (λ a. if a then status.Done else status.Refused) (same_answered replies)

-- so outcomes that are alike have the same
alike_status : (command : Option Spoken) (a b : Outcome) → AreAlike command a b → outcome_status a ≡ outcome_status b
alike_status None a b alike = ap outcome_status alike
alike_status (Some c) a b alike = sym (same_status c.options a) ∙ (ap outcome_status alike ∙ same_status c.options b)

pub told : (words : List (List ℕ)) (files : Option (List Pair)) (left_before left_now before now : Option (List ℕ))
    (s : Status) (mine outcome : Outcome) (pairs : List Pair) (left written : List ℕ) (other : Option (List ℕ))
    → s ≡ outcome_status mine → IsOutcome words files left_before left_now mine → Appends before now (outcome_text mine)
    → files ≡ Some pairs → left_before ≡ Some left → before ≡ Some written → IsOutcome words (Some pairs) (Some left) other outcome
    → IsLostOr s ((s ≡ outcome_status outcome) × SaysAlike words (Some pairs) (Some left) left_now written now outcome)
told words files left_before left_now before now s mine outcome pairs left written other is h says e f w theirs =
    let h1 : IsOutcome words (Some pairs) left_before left_now mine = subst (λ o. IsOutcome words o left_before left_now mine) e h in
    let h2 : IsOutcome words (Some pairs) (Some left) left_now mine = subst (λ o. IsOutcome words (Some pairs) o left_now mine) f h1 in
    let alike = same_outcome words pairs left left_now other mine outcome h2 theirs in
    lost_or s _ (
      is ∙ alike_status alike.command mine outcome alike.holds,
      record {
        said = mine;
        is_outcome = h2;
        alike = alike;
        text = appended written (outcome_text mine) now (subst (λ o. Appends o now (outcome_text mine)) w says);
      },
    )

-- ---- the names that were asked for
module _ (command : Option Spoken) (old new : List (List ℕ)) where
  all_asked : new ≡ old ++ names_of command → AsksFor (names_of command) old new
  all_asked e = asks_whole old (names_of command) new e

  through : (file : Which) → new ≡ old ++ names_through file command → AsksFor (names_of command) old new
  through which.TraFile e = record { count = 1; appended = e }
  through which.LabFile e = record { count = 2; appended = e }
  through which.RewFile e = all_asked e

  -- where what is said is lost on its way out, a front of the command's names was asked for
  pub front_asked : (prepared : Prepared) → AsksBefore command (Ok prepared) old new → AsksFor (names_of command) old new
  front_asked NoCommand e = record { count = 0; appended = e }
  front_asked (FaultyFile fault) e = through fault.file e
  front_asked LongInput e = all_asked e
  front_asked (Lines input) e = all_asked e

  by_answered : (answered : Bool) → new ≡ old ++ names_of command
      → AsksBy (if answered then status.Done else status.Refused) command old new
  by_answered true e = e
  by_answered false e = e

  asked_by : (prepared : Prepared) (outcome : Outcome) → IsSaidOf prepared outcome → AsksBefore command (Ok prepared) old new
      → AsksBy (outcome_status outcome) command old new
  asked_by NoCommand outcome said e =
      subst (λ o. AsksBy (outcome_status o) command old new) (sym said) (e ∙ append-nil old)
  asked_by (FaultyFile fault) outcome said e = subst (λ o. AsksBy (outcome_status o) command old new) (sym said) e
  asked_by LongInput outcome said e = subst (λ o. AsksBy (outcome_status o) command old new) (sym said) e
  asked_by (Lines input) outcome said e =
      subst (λ o. AsksBy (outcome_status o) command old new) (sym said.is) (by_answered (all_answered said.replies) e)

  pub asked_for_status : (prepared : Prepared) (s : Status) (before now : Option (List ℕ)) → Writes prepared before now s
      → AsksBefore command (Ok prepared) old new → AsksBy s command old new
  asked_for_status prepared s before now w e =
      subst (λ t. AsksBy t command old new) (sym w.is_status) (asked_by prepared w.outcome w.said e)

-- the same of the command that the words say, where files are told
pub asked_then : (files : Option (List Pair)) (words : List (List ℕ)) (P Q : Option Spoken → Type 0)
    → ((command : Option Spoken) → P command → Q command)
    → IfSome files (λ _. Say words P) → IfSome files (λ _. Say words Q)
asked_then files words P Q f h =
    told_names files (Say words P) (Say words Q) (λ p. record { command = p.command; said = p.said; holds = f p.command p.holds }) h

-- ---- what is known of a status by its outcome
module _ (words : List (List ℕ)) (files : Option (List Pair)) (before now : Option (List ℕ)) where
  settled_fault : (outcome : Outcome) (fault : ModelFault) → outcome_status outcome ≡ status.Model fault → outcome ≡ Faulty fault
  settled_fault Usage fault e = cc
  settled_fault (Faulty told) fault e = cc
  settled_fault FormulasLong fault e = cc
  settled_fault (Replies replies) fault e = absurd (never (all_answered replies) e)
    where
      never : (answered : Bool) → (if answered then status.Done else status.Refused) ≡ status.Model fault → ⊥
      never true e = cc
      never false e = cc

  pub fault_told : (s : Status) (outcome : Outcome) (fault : ModelFault) → IsOutcome words files before now outcome
      → s ≡ outcome_status outcome → s ≡ status.Model fault
      → Say words (λ command. IsSomeAnd command (λ c. IsFileFaulty c files fault × Keeps before now))
  fault_told s outcome fault is e told = record {
    command = is.command;
    said = is.said;
    holds = subst (IsOutcomeOf is.command files before now) (settled_fault outcome fault (sym e ∙ told)) is.holds;
  }

  usage_of : (command : Option Spoken) (outcome : Outcome) → (¬ AreCommand words) → IsCommandOf words command
      → IsOutcomeOf command files before now outcome → outcome ≡ Usage
  usage_of (Some command) outcome none said h = absurd (none (command, said))
  usage_of None Usage none said h = refl
  usage_of None (Faulty fault) none said h = absurd h
  usage_of None FormulasLong none said h = absurd h
  usage_of None (Replies replies) none said h = absurd h

  pub usage_alone : (s : Status) (outcome : Outcome) → IsOutcome words files before now outcome → s ≡ outcome_status outcome
      → (¬ AreCommand words) → IsUsageOrLost s
  usage_alone s outcome is e none =
      subst IsUsageOrLost (sym (e ∙ ap outcome_status (usage_of is.command outcome none is.said is.holds))) tt

  -- a front of the outcome's text is written
  pub cut_short : (prepared : Prepared) (a b : Option (List ℕ)) → Say words (λ command. IsPrepared command files before now prepared)
      → WritesFrontOf prepared a b → IsCutShort words files before now a b
  cut_short prepared a b is w = record {
    outcome = w.outcome;
    is_outcome = outcome_is files before now words prepared w.outcome is w.said;
    front = w.front;
  }

-- the cause of a read fault, in other words
pub cause_so : (words : List (List ℕ)) (files : Option (List Pair)) (a b c d : ℕ) (P Q : Type 0) → (Q → P) → (P → Q)
    → Say words (λ command. HasReadCause command files a b c d P) → Say words (λ command. HasReadCause command files a b c d Q)
cause_so words files a b c d P Q f g h = record {
  command = h.command;
  said = h.said;
  holds = record {
    risen = λ q. h.holds.risen (f q);
    files_still = λ no. h.holds.files_still (λ p. no (g p));
    formulas_still = λ no. h.holds.formulas_still (λ p. no (g p));
  };
}
