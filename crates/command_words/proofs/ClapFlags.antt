-- A word as clap reads it: no flag, or a long flag.
use Rattle.std.proofs.Common.{◌≡◌, ◌||◌, Bool, true, false, not, refl, sym, subst, [], ◌∷◌, Option, Some, None, codes}
use Rattle.std.specs.Str.{bytes_eq}
use Rattle.std.proofs.lemmas.Slice.Eq.{bytes_eq-Decides}
use Rattle.clap.specs.Lexer.{long_of, short_of}
use Rattle.clap.specs.Walk.{Text}
use Rattle.command_words.specs.declared.setting.Setting.{Setting}
use Rattle.command_words.specs.declared.setting.Setting.TheVariants.{Bits, Jumps, State, Watch, Workers}
use Rattle.command_words.specs.Parts.{begins_with_hyphen, is_plain}
use Rattle.command_words.specs.Setting.{assignment_of, flag_name, flag_word, name_of, word_of}

-- the word is no flag of clap's, nor `--`
pub record IsNoFlag (word : Text) : Type 0 where
  pub divides : bytes_eq word (codes "--") ≡ false
  pub long : long_of word ≡ None
  pub short : short_of word ≡ None

pub no_hyphen : (word : Text) → begins_with_hyphen word ≡ false → IsNoFlag word
no_hyphen [] e = record { divides = refl; long = refl; short = refl }
no_hyphen (c ∷ cs) e = record { divides = rw e refl; long = rw e refl; short = rw e refl }

pub plain_no_flag : (word : Text) → is_plain word ≡ true → IsNoFlag word
plain_no_flag word e = go (begins_with_hyphen word) refl e
  where
    go : (b : Bool) → begins_with_hyphen word ≡ b → (not b || bytes_eq word (codes "-")) ≡ true → IsNoFlag word
    go false h f = no_hyphen word h
    go true h f = subst IsNoFlag (sym ((bytes_eq-Decides word (codes "-")).0 f)) (record { divides = refl; long = refl; short = refl })

-- the word is a long flag of clap's
pub record IsFlag (word name : Text) (value : Option Text) : Type 0 where
  pub divides : bytes_eq word (codes "--") ≡ false
  pub long : long_of word ≡ Some (name, value)

pub name_flag : (s : Setting) → IsFlag (word_of s) (name_of s) None
name_flag Workers = record { divides = refl; long = refl }
name_flag Bits = record { divides = refl; long = refl }
name_flag Jumps = record { divides = refl; long = refl }
name_flag Watch = record { divides = refl; long = refl }
name_flag State = record { divides = refl; long = refl }

pub flag_flag : IsFlag flag_word flag_name None
flag_flag = record { divides = refl; long = refl }

pub assignment_flag : (s : Setting) (value : Text) → IsFlag (assignment_of s value) (name_of s) (Some value)
assignment_flag Workers value = record { divides = refl; long = refl }
assignment_flag Bits value = record { divides = refl; long = refl }
assignment_flag Jumps value = record { divides = refl; long = refl }
assignment_flag Watch value = record { divides = refl; long = refl }
assignment_flag State value = record { divides = refl; long = refl }
