-- The worked example's input has the outcome that is worked out.
use Rattle.std.proofs.Common.{◌≡◌, ℕ, zero, suc, ◌+◌, ◌^◌, ◌==◌, ◌<◌, Bool, true, false, if◌then◌else◌, List, [], ◌∷◌, length, slice_index_or, Option, Some, None, IsTrue, ◌↔◌, refl, ap, ◌∙◌, arith, subst, sym, All, Contains}
use Rattle.std.proofs.lemmas.Bool.{false≢true}
use Rattle.std.specs.Prelude.{codes}
use Rattle.std.specs.Fmt.{digits}
use Rattle.std.specs.List.{AllZip}
use Rattle.decimal_text.specs.Scale.{greatest_decimals}
use Rattle.model_core.specs.Transitions.{exit_sum}
use Rattle.model_core.specs.declared.limits.TheConstants.{AMOUNT_LIMIT}
use Rattle.decimal_text.specs.DecimalNumber.{IsShortDecimal}
use Rattle.decimal_text.specs.DecimalWord.{IsDecimalWord}
use Rattle.decimal_text.proofs.CanonicalTexts.{text_stands}
use Rattle.model_core.specs.Files.{TraLists, LabLists}
use Rattle.tra_reader.specs.TraText.{TraSays}
use Rattle.lab_reader.specs.Declarations.{IsClosing}
use Rattle.lab_reader.specs.LabelLines.{BeginsWithNumber, GivesLabel, IsSomeLabelLine}
use Rattle.lab_reader.specs.LabText.{LabSays}
use Rattle.model_core.specs.Model.{has_label}
use Rattle.text_lines.specs.Name.{continues_name, is_name}
use Rattle.text_lines.specs.LinesOf.{line_bytes}
use Rattle.text_lines.specs.WordsOf.{words_from}
use Rattle.text_lines.specs.WholeNumber.{IsWholeNumber, whole_value}
use Rattle.text_lines.specs.WordLines.{WordLine, word_lines_of}
use Rattle.model_core.specs.Model.{LabelledChain, files_chain}
use Rattle.command_words.specs.Command.{Spoken}
use Rattle.command_words.specs.Laws.{AreInRange}
use Rattle.command_words.specs.Parts.{no_word, plain_word, plain}
use Rattle.command_words.specs.Words.{WordsSay}
use Rattle.command_words.specs.declared.command.Kind.TheVariants.{Ctmc}
use Rattle.command_words.proofs.Defaults.{default_options, default_is_chosen}
use Rattle.command_words.proofs.OneCommand.{one_command, options_in_range}
use Rattle.csl_semantics.specs.WorkedMeanings.{half, one, next_a}
use Rattle.csl_syntax.specs.FormulaFault.{FormulaFaultAt}
use Rattle.csl_syntax.specs.FormulaText.{FormulaSays, line_limits}
use Rattle.csl_syntax.specs.Grammar.{Spells, a_truth, a_name, a_next, an_atom, a_unary, a_conj}
use Rattle.csl_syntax.specs.Laws.{AreLabels}
use Rattle.csl_syntax.specs.Scanner.{EndsRun}
use Rattle.csl_syntax.specs.Tokens.{HasTokens, no_more}
use Rattle.csl_syntax.specs.Tree.{truth, label}
use Rattle.csl_syntax.specs.declared.fault.FormulaWhat.TheVariants.{UnknownLabel}
use Rattle.csl_syntax.specs.declared.token.Token.TheVariants.{Truth}
use Rattle.csl_syntax.proofs.CanonicalReads.{formula_reads}
use Rattle.csl_syntax.proofs.CanonicalTokens.{spelling}
use Rattle.csl_syntax.proofs.LongestTokens.{word_before}
use Rattle.csl_syntax.proofs.Runs.{nothing_first}
use Rattle.session.specs.FormulaLines.{formula_lines}
use Rattle.session.specs.Laws.{AreNamed, NeverEndEarly, WatchNothing}
use Rattle.session.specs.LineReply.{LineReply, Faulty, NumberedReply, IsLineReply, IsReplyTo, AreReplies}
use Rattle.session.specs.Outcome.{Outcome, Replies, IsOutcome, outcome_text, outcome_status}
use Rattle.session.specs.Serve.{AreThere}
use Rattle.session.specs.WorkedExample.{example_words, example_tra, example_lab, example_files, example_formulas, example_answer}
use Rattle.session.specs.declared.status.Status.TheVariants.{Refused}
use Rattle.session.proofs.Outcomes.{one_unwatched}
use Rattle.session.proofs.FilledAnswers.{computed_reply, is_computed}
use Rattle.session.proofs.LineReplies.{is_line_reply}

-- ---- the chain
abbrev pub tra : TraLists
tra = record { n = 2; scale = 0; rates = record { from = 0; to = 1; rate = 1 } ∷ [] }

abbrev states_line : WordLine
states_line = record { number = 1; words = codes "STATES" ∷ codes "2" ∷ [] }

abbrev count_line : WordLine
count_line = record { number = 2; words = codes "TRANSITIONS" ∷ codes "1" ∷ [] }

abbrev transition_line : WordLine
transition_line = record { number = 3; words = codes "1" ∷ codes "2" ∷ codes "1" ∷ [] }

tra_lines : word_lines_of example_tra ≡ states_line ∷ count_line ∷ transition_line ∷ []
unfolding words_from line_bytes
tra_lines = refl

one_whole : IsWholeNumber (codes "1") 1
one_whole = record { digits = (omega arith, (omega arith, record {})); value = refl }

two_whole : IsWholeNumber (codes "2") 2
two_whole = record { digits = (omega arith, (omega arith, record {})); value = refl }

one_short : IsShortDecimal one
one_short = record { below = omega arith; decimals = omega arith; normal = λ pos. absurd (omega arith) }

half_short : IsShortDecimal half
half_short = record { below = omega arith; decimals = omega arith; normal = λ pos e. absurd (omega arith) }

one_decimal : IsDecimalWord (codes "1") one
unfolding digits
one_decimal = record { stands = text_stands one one_short; short = one_short }

one_at_most : (out : Bool) → 0 + (if out then 1 else 0) < AMOUNT_LIMIT
one_at_most true = omega arith
one_at_most false = omega arith

exits_within : (s : ℕ) → exit_sum tra.rates s < AMOUNT_LIMIT
exits_within s = one_at_most (0 == s)

pub says_tra : TraSays example_tra tra
unfolding greatest_decimals
says_tra = record {
  count = 1;
  body = transition_line ∷ [];
  head = record {
    others = count_line ∷ transition_line ∷ [];
    states = record {
      begins = record { line = states_line; first = tra_lines; says = record { word = codes "2"; are = refl; whole = two_whole } };
      range = (omega arith, omega arith);
    };
    begins = record { line = count_line; first = refl; says = record { word = codes "1"; are = refl; whole = one_whole } };
    few = omega arith;
  };
  entries = record { key = record { from = 1; to = 2 }; value = record { c = 1; x = 0 } } ∷ [];
  are = record {
    each = (
      record {
        word = codes "1";
        key = record {
          writes = record { from_word = codes "1"; to_word = codes "2"; words = refl; from_whole = one_whole; to_whole = two_whole };
          in_range = record { from_state = (omega arith, omega arith); to_state = (omega arith, omega arith) };
        };
        value = one_decimal;
      },
      record {},
    );
    once = λ i j d l m. absurd (omega arith);
  };
  all = refl;
  scale = refl;
  rates = refl;
  exits = exits_within;
}

-- ---- the labels
abbrev pub lab : LabLists
lab = record { names = codes "a" ∷ []; marks = 0 ∷ 1 ∷ [] }

abbrev opening_line : WordLine
opening_line = record { number = 1; words = codes "#DECLARATION" ∷ [] }

abbrev names_line : WordLine
names_line = record { number = 2; words = codes "a" ∷ [] }

abbrev closing_line : WordLine
closing_line = record { number = 3; words = codes "#END" ∷ [] }

abbrev label_line : WordLine
label_line = record { number = 4; words = codes "2" ∷ codes "a" ∷ [] }

lab_lines : word_lines_of example_lab ≡ opening_line ∷ names_line ∷ closing_line ∷ label_line ∷ []
unfolding words_from line_bytes
lab_lines = refl

all_of_one : {A : Type 0} (P : A → Type 0) (x : A) → P x → All P (x ∷ [])
all_of_one P x p zero d l = p
all_of_one P x p (suc k) d l = absurd (omega arith)

all_of_two : {A : Type 0} (P : A → Type 0) (x y : A) → P x → P y → All P (x ∷ y ∷ [])
all_of_two P x y p q zero d l = p
all_of_two P x y p q (suc zero) d l = q
all_of_two P x y p q (suc (suc k)) d l = absurd (omega arith)

not_closing : ¬ IsClosing names_line
not_closing e = absurd (omega (arith, ap (λ words. length (slice_index_or words 0 [])) e))

-- the one line of labels is that of the second state
other_state : GivesLabel (label_line ∷ []) 1 (codes "a") → ⊥
other_state gives = by_place gives.there.0 gives.there.1 gives.there.2
  where
    by_place : (k : ℕ) → k < 1 → slice_index_or (label_line ∷ []) k gives.line ≡ gives.line → ⊥
    by_place zero l e =
        let words : codes "2" ∷ codes "a" ∷ [] ≡ gives.begins.word ∷ gives.labels = ap (λ line. line.words) e ∙ gives.begins.words in
        let word : codes "2" ≡ gives.begins.word = ap (λ ws. slice_index_or ws 0 []) words in
        let value : whole_value (codes "2") ≡ 1 = ap whole_value word ∙ gives.begins.whole.value in
        absurd (omega (arith, value))
    by_place (suc k) l e = absurd (omega arith)

begins_second : BeginsWithNumber label_line 2 (codes "a" ∷ [])
begins_second = record { word = codes "2"; words = refl; whole = two_whole }

second_state : GivesLabel (label_line ∷ []) 2 (codes "a")
second_state = record {
  line = label_line;
  there = (0, omega arith, refl);
  labels = codes "a" ∷ [];
  begins = begins_second;
  among = (0, omega arith, refl);
}

labels_given : (s j : ℕ) → s < 2 → j < 1
    → IsTrue (has_label lab.marks j s) ↔ GivesLabel (label_line ∷ []) (s + 1) (slice_index_or lab.names j [])
labels_given zero zero l m = (λ no. absurd (false≢true no), λ gives. absurd (other_state gives))
labels_given (suc zero) zero l m = (λ _. second_state, λ _. refl)
labels_given (suc (suc s)) zero l m = absurd (omega arith)
labels_given s (suc j) l m = absurd (omega arith)

pub says_lab : LabSays example_lab 2 lab
says_lab = record {
  body = label_line ∷ [];
  declares = record {
    declarations = names_line ∷ [];
    closing = closing_line;
    begins = record {
      opening = opening_line;
      is_opening = refl;
      split = lab_lines;
      not_closing = all_of_one (λ line. ¬ IsClosing line) names_line not_closing;
      names = record {
        each = all_of_one (λ word. IsTrue (is_name word)) (codes "a") refl;
        distinct = λ i j d l m. absurd (omega arith);
        few = omega arith;
      };
    };
    is_closing = refl;
    are = refl;
  };
  right = all_of_one (IsSomeLabelLine 2 lab.names) label_line (record {
    state = 2;
    labels = codes "a" ∷ [];
    is = record {
      begins = begins_second;
      is_state = (omega arith, omega arith);
      declared = all_of_one (Contains lab.names) (codes "a") (0, omega arith, refl);
    };
  });
  marks = record {
    each = refl;
    within = all_of_two (λ mark. mark < 2 ^ length lab.names) 0 1 (omega arith) (omega arith);
    given = labels_given;
  };
}

-- ---- the command
abbrev pub command : Spoken
command = record { kind = Ctmc; tra = codes "M.tra"; lab = codes "M.lab"; rew = None; options = default_options }

says_command : WordsSay example_words command
says_command = record {
  parts = plain (codes "ctmc") ∷ plain (codes "M.tra") ∷ plain (codes "M.lab") ∷ [];
  read = plain_word refl (plain_word refl (plain_word refl no_word));
  model = refl;
  rewards = refl;
  options = default_is_chosen;
  flag = refl;
}

pub are_named : AreNamed example_words example_files
are_named other said =
    subst (λ c. AreThere c example_files) (one_command example_words command other says_command said)
    (record { tra = refl; lab = refl; rew = tt })

options_range : AreInRange default_options
options_range = options_in_range example_words command says_command

-- ---- the line that is answered
abbrev over : LabelledChain
over = files_chain tra lab None

abbrev first_line : List ℕ
first_line = codes "P{>=0.5}[X a]"

are_labels : AreLabels lab.names
unfolding says_lab
are_labels = record { each = says_lab.declares.begins.names.each; distinct = says_lab.declares.begins.names.distinct }

spells_next : Spells (line_limits lab.names) (spelling next_a []) next_a
spells_next = a_conj (a_unary (an_atom (a_next (omega arith) (a_conj (a_unary (an_atom (a_name (omega arith))))))))

nothing_follows : EndsRun continues_name []
nothing_follows b more e = absurd (nothing_first b more e)

has_next : HasTokens lab.names first_line (spelling next_a []) []
unfolding digits
has_next =
    formula_reads lab.names are_labels next_a (omega arith, omega arith) (half_short, tt) [] [] nothing_follows no_more

says_next : FormulaSays first_line lab.names next_a
says_next = record { short = omega arith; tokens = spelling next_a []; has = has_next; spells = spells_next }

abbrev first_reply : LineReply
first_reply = computed_reply over default_options next_a

is_first_reply : IsLineReply over default_options first_line first_reply
is_first_reply =
    is_line_reply over default_options first_line first_reply
    (record { formula = next_a; says = says_next; is = is_computed over default_options options_range (omega arith) next_a })

-- ---- the line that is refused
is_unknown : FormulaFaultAt (codes "b") lab.names 1 UnknownLabel
is_unknown = record {
  short = omega arith;
  before = [];
  rest = codes "b";
  has = no_more;
  pass = (Truth ∷ [], truth, a_conj (a_unary (an_atom a_truth)));
  here = refl;
  fails = record {
    place = 1;
    more = [];
    next = record {
      text = codes "b";
      longest = word_before (codes "b") (codes "b") [] refl refl nothing_follows;
      writes = (refl, refl);
    };
    expected = (record { labels = 2; threshold = 1; nested = 0 }, ([], label 1, a_conj (a_unary (an_atom (a_name (omega arith))))));
    unknown = omega arith;
  };
}

-- ---- the outcome
abbrev replies : List NumberedReply
replies =
    record { number = 1; reply = first_reply }
    ∷ record { number = 2; reply = Faulty (record { column = 1; what = UnknownLabel }) } ∷ []

abbrev pub outcome : Outcome
outcome = Replies replies

two_lines : formula_lines example_formulas ≡ record { number = 1; bytes = first_line } ∷ record { number = 2; bytes = codes "b" } ∷ []
unfolding words_from line_bytes
two_lines = refl

are_replies : AreReplies over default_options example_formulas replies
are_replies =
    subst (λ lines. AllZip (IsReplyTo over default_options) lines replies) (sym two_lines)
    (record { number = refl; reply = is_first_reply }, (record { number = refl; reply = is_unknown }, tt))

pub is_outcome : IsOutcome example_words (Some example_files) (Some example_formulas) (Some []) outcome
is_outcome = record {
  command = Some command;
  said = says_command;
  holds = record {
    model = record {
      tra = tra;
      lab = lab;
      rew = None;
      takes_tra = record { bytes = example_tra; is_file = refl; within = omega arith; is_so = says_tra };
      has_state = omega arith;
      takes_lab = record { bytes = example_lab; is_file = refl; within = omega arith; is_so = says_lab };
      takes_rew = tt;
    };
    input = record { bytes = example_formulas; taken = refl; within = omega arith; end = refl };
    are = are_replies;
  };
}

pub status_is : outcome_status outcome ≡ Refused
status_is = refl

pub text_is : outcome_text outcome ≡ example_answer
unfolding digits
text_is = refl

-- no state is watched and no run may end early, and so there is no other outcome
watch_nothing : WatchNothing example_words
watch_nothing = record { command = Some command; said = says_command; holds = refl }

never_early : NeverEndEarly example_words
never_early = record { command = Some command; said = says_command; holds = refl }

pub no_other : (now : Option (List ℕ)) (said : Outcome) → IsOutcome example_words (Some example_files) (Some example_formulas) now said
    → said ≡ outcome
no_other now said h =
    one_unwatched example_words example_files example_formulas now (Some []) said outcome watch_nothing never_early h is_outcome
