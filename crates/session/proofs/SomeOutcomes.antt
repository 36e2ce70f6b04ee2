-- Words, files that are there, and formulas have an outcome.
use Rattle.std.proofs.Common.{◌≡◌, ℕ, ◌+◌, ◌<◌, ◌≤◌, inl, inr, List, [], length, take, drop, Option, Some, None, IsSome, IfSome, refl, sym, subst, arith, append-nil, length-take-le}
use Rattle.std.proofs.lemmas.List.{take-append-drop}
use Rattle.std.proofs.lemmas.Bool.{cases_lt, false≢true}
use Rattle.command_words.specs.Command.{Spoken}
use Rattle.command_words.specs.Laws.{AreInRange}
use Rattle.outside.specs.Shelf.{Pair, file_named}
use Rattle.model_core.specs.Files.{TraLists, LabLists}
use Rattle.lab_reader.specs.LabFault.{LabFaultAt}
use Rattle.lab_reader.specs.LabText.{LabSays}
use Rattle.rew_reader.specs.RewFault.{RewFaultAt}
use Rattle.rew_reader.specs.RewText.{RewSays}
use Rattle.tra_reader.specs.TraFault.{TraFaultAt}
use Rattle.tra_reader.specs.TraText.{TraSays}
use Rattle.session.specs.Command.{IsCommandOf}
use Rattle.session.specs.Laws.{AreNamed, SomeOutcome}
use Rattle.session.specs.ModelFiles.{TakesTra, TakesLab, TakesRew, TakesModel, IsRewFaulty, model_of}
use Rattle.session.specs.Outcome.{Outcome, Usage, Faulty, FormulasLong, Replies, IsOutcomeOf}
use Rattle.session.specs.Serve.{AreThere}
use Rattle.session.specs.declared.reading.TheConstants.{FORMULAS_LIMIT}
use Rattle.report.specs.declared.model_fault.ModelFault.{ModelFault}
use Rattle.report.specs.declared.model_fault.Which.TheVariants as which
use Rattle.text_lines.specs.declared.fault.FileWhat.TheVariants.{WatchState}
use Rattle.command_words.proofs.OneCommand.{options_in_range}
use Rattle.lab_reader.proofs.Readings.{lab_reading}
use Rattle.rew_reader.proofs.Readings.{rew_reading}
use Rattle.tra_reader.proofs.Readings.{tra_reading}
use Rattle.session.proofs.Commands.{some_command}
use Rattle.session.proofs.LineReplies.{some_replies}
use Rattle.session.proofs.OneFile as file

-- an outcome of what the words are, and what it leaves of the formulas
pub record OutcomeOf (command : Option Spoken) (pairs : List Pair) (left : List ℕ) : Type 0 where
  pub outcome : Outcome
  pub now : Option (List ℕ)
  pub is : IsOutcomeOf command (Some pairs) (Some left) now outcome

-- a file that is there has bytes
bytes_of : (found : Option (List ℕ)) → IsSome found → (bytes : List ℕ) × (found ≡ Some bytes)
bytes_of None h = absurd (false≢true h)
bytes_of (Some bytes) h = (bytes, refl)

module _ (pairs : List Pair) (left : List ℕ) (command : Spoken) (range : AreInRange command.options) where
  abbrev Found : Type 0
  Found = OutcomeOf (Some command) pairs left

  -- ---- a fault of a file
  faulty : (fault : ModelFault) → IsOutcomeOf (Some command) (Some pairs) (Some left) (Some left) (Faulty fault) → Found
  faulty fault h = record { outcome = Faulty fault; now = Some left; is = h }

  -- ---- the formulas
  module _ (model : TakesModel command (Some pairs)) where
    whole : length left ≤ FORMULAS_LIMIT → Found
    whole few =
        let replies = some_replies (model_of model) command.options range model.has_state left in
        record {
          outcome = Replies replies.0;
          now = Some [];
          is = record {
            model = model;
            input = record { bytes = left; taken = sym (append-nil left); within = few; end = refl };
            are = replies.1;
          };
        }

    too_much : FORMULAS_LIMIT < length left → Found
    too_much many = record {
      outcome = FormulasLong;
      now = Some (drop (FORMULAS_LIMIT + 1) left);
      is = record {
        model = model;
        long = record {
          bytes = take (FORMULAS_LIMIT + 1) left;
          taken = sym (take-append-drop (FORMULAS_LIMIT + 1) left);
          long = omega (arith, length-take-le (FORMULAS_LIMIT + 1) left (omega (arith, many)));
        };
      };
    }

    formulas : Found
    formulas = elim (cases_lt FORMULAS_LIMIT (length left)) [ inl many ↦ too_much many | inr few ↦ whole few ]

  -- ---- the files
  module _ (tra : TraLists) (takes_tra : TakesTra command.tra (Some pairs) tra) (has_state : command.options.state < tra.n) where
    module _ (lab : LabLists) (takes_lab : TakesLab tra.n command.lab (Some pairs) lab) where
      rewards : (rew : Option (List ℕ)) → command.rew ≡ rew → IfSome rew (λ name. IsSome (file_named name pairs)) → Found
      rewards None e there =
          formulas (record {
            tra = tra;
            lab = lab;
            rew = None;
            takes_tra = takes_tra;
            has_state = has_state;
            takes_lab = takes_lab;
            takes_rew = subst (λ name. TakesRew tra.n name (Some pairs) None) (sym e) tt;
          })
      rewards (Some name) e there =
          let bytes = bytes_of (file_named name pairs) there in
          elim (file.file_reading pairs name (λ text a. RewSays text tra.n a) (λ text. RewFaultAt text tra.n)
          (λ text. rew_reading text tra.n) bytes.0 bytes.1) [
            | inl r ↦ formulas (record {
              tra = tra;
              lab = lab;
              rew = Some r.0;
              takes_tra = takes_tra;
              has_state = has_state;
              takes_lab = takes_lab;
              takes_rew = subst (λ name. TakesRew tra.n name (Some pairs) (Some r.0)) (sym e) r.1;
            })
            | inr f ↦ faulty (record { file = which.RewFile; line = f.0; what = f.1 }) (
              record {
                tra = tra;
                lab = lab;
                takes_tra = takes_tra;
                has_state = has_state;
                takes_lab = takes_lab;
                faulty = subst (λ name. IsRewFaulty tra.n name (Some pairs) f.0 f.1) (sym e) f.2;
              },
              refl,
            )
          ]

    labels : AreThere command pairs → Found
    labels there =
        let bytes = bytes_of (file_named command.lab pairs) there.lab in
        elim (file.file_reading pairs command.lab (λ text a. LabSays text tra.n a) (λ text. LabFaultAt text tra.n)
        (λ text. lab_reading text tra.n) bytes.0 bytes.1) [
          | inl l ↦ rewards l.0 l.1 command.rew refl there.rew
          | inr f ↦ faulty (record { file = which.LabFile; line = f.0; what = f.1 }) (
            record { tra = tra; takes_tra = takes_tra; has_state = has_state; faulty = f.2 },
            refl,
          )
        ]

  watched : (tra : TraLists) → TakesTra command.tra (Some pairs) tra → AreThere command pairs → Found
  watched tra takes there =
      elim (cases_lt command.options.state tra.n) [
        | inl has ↦ labels tra takes has there
        | inr lacks ↦ faulty (record { file = which.TraFile; line = 0; what = WatchState }) (
          inr (record { tra = tra; takes = takes; lacks = lacks; at_no_line = refl; told = refl }),
          refl,
        )
      ]

  chain : AreThere command pairs → Found
  chain there =
      let bytes = bytes_of (file_named command.tra pairs) there.tra in
      elim (file.file_reading pairs command.tra TraSays TraFaultAt tra_reading bytes.0 bytes.1) [
        | inl t ↦ watched t.0 t.1 there
        | inr f ↦ faulty (record { file = which.TraFile; line = f.0; what = f.1 }) (inl f.2, refl)
      ]

pub some_outcome_of : (words : List (List ℕ)) (pairs : List Pair) (left : List ℕ) (command : Option Spoken) → IsCommandOf words command
    → IfSome command (λ c. AreThere c pairs) → OutcomeOf command pairs left
some_outcome_of words pairs left None said there = record { outcome = Usage; now = Some left; is = (refl, refl) }
some_outcome_of words pairs left (Some command) said there = chain pairs left command (options_in_range words command said) there

-- the files of the command that the words say are there
are_there : (words : List (List ℕ)) (pairs : List Pair) (command : Option Spoken) → IsCommandOf words command → AreNamed words pairs
    → IfSome command (λ c. AreThere c pairs)
are_there words pairs None said named = tt
are_there words pairs (Some command) said named = named command said

-- words, files that are there, and formulas have an outcome
pub some_outcome : (words : List (List ℕ)) (pairs : List Pair) (left : List ℕ) → AreNamed words pairs → SomeOutcome words pairs left
some_outcome words pairs left named =
    let command = some_command words in
    let some = some_outcome_of words pairs left command.0 command.1 (are_there words pairs command.0 command.1 named) in
    record { outcome = some.outcome; now = some.now; is = record { command = command.0; said = command.1; holds = some.is } }
