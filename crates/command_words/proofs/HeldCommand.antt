-- The command that is read of matches.
use Rattle.std.proofs.Common.{◌≡◌, ◌-◌, ℕ, Bool, true, false, List, Some, codes, sym, subst, arith}
use Rattle.clap.specs.Matches.{first_value, one_text}
use Rattle.clap.specs.Values.{bool_text}
use Rattle.clap.specs.declared.parser.matches.Found.{Found}
use Rattle.command_words.specs.declared.command.Command.{Command}
use Rattle.command_words.specs.declared.command.Options.{Options}
use Rattle.command_words.specs.declared.setting.Setting.{Setting}
use Rattle.command_words.specs.declared.setting.Setting.TheVariants.{Bits, Jumps, State, Watch, Workers}
use Rattle.command_words.specs.Command.{Spoken, number_of, spoken_by, text_in}
use Rattle.command_words.specs.Laws.{AreInRange}
use Rattle.command_words.specs.Matches.{HoldsCommand, HoldsCommandOf}
use Rattle.command_words.specs.Setting.{IsChosen, Text, flag_name, name_of}
use Rattle.command_words.specs.Words.{AreCommand, WordsSay}
use Rattle.command_words.proofs.OneCommand.{one_number, one_options, options_in_range}

abbrev pub HoldsNumber : Found → Setting → ℕ → Type 0
HoldsNumber f s n = IsChosen s (text_in (first_value f (name_of s))) n

abbrev pub HoldsFlag : Found → Bool → Type 0
HoldsFlag f b = one_text f flag_name ≡ Some (bool_text b)

-- the flag as `get_flag` reads it
pub one_flag_text : (f : Found) (b read : Bool) → HoldsFlag f b → (one_text f flag_name ≡ Some (codes "true") → read ≡ true)
    → (one_text f flag_name ≡ Some (codes "false") → read ≡ false) → read ≡ b
one_flag_text f true read h set unset = set h
one_flag_text f false read h set unset = unset h

-- the numbers that are read are those of the command; the state is written from 1
pub held_options : (f : Found) (c : Spoken) (workers bits jumps watch state : ℕ) (until_decided : Bool) → HoldsCommand f c
    → HoldsNumber f Workers workers → HoldsNumber f Bits bits → HoldsNumber f Jumps jumps → HoldsNumber f Watch watch
    → HoldsNumber f State state → until_decided ≡ c.options.until_decided
    → ◌≡◌ {A = Options} (record {
      workers = workers;
      bits = bits;
      jumps = jumps;
      watch = watch;
      state = state - 1;
      until_decided = until_decided;
    }) c.options
held_options f c workers bits jumps watch state until_decided h w b j v t u = one_options read c.options each u
  where
    read : Options
    read = record { workers = workers; bits = bits; jumps = jumps; watch = watch; state = state - 1; until_decided = until_decided }

    same : (s : Setting) (n : ℕ) → HoldsNumber f s n → n ≡ number_of s c.options
    same s n k = one_number s (text_in (first_value f (name_of s))) n (number_of s c.options) k (h.options s)

    each : (s : Setting) → number_of s read ≡ number_of s c.options
    each Workers = same Workers workers w
    each Bits = same Bits bits b
    each Jumps = same Jumps jumps j
    each Watch = same Watch watch v
    each State = omega (arith, same State state t)

-- what is read of matches that hold the command of the words
module _ (words : List Text) (is : AreCommand words) (f : Found) (holds : HoldsCommandOf words f) (r : Command)
    (read : (c : Spoken) → HoldsCommand f c → spoken_by r ≡ c) where
  pub read_is_said : WordsSay words (spoken_by r)
  read_is_said = subst (WordsSay words) (sym (read is.0 (holds is.0 is.1))) is.1

  pub read_in_range : AreInRange r.options
  read_in_range = options_in_range words (spoken_by r) read_is_said
