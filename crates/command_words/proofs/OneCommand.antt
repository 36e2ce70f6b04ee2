-- A list of words is one command at most.
use Rattle.std.proofs.Common.{◌≡◌, ◌∙◌, ℕ, Bool, true, false, refl, sym, ap, subst, arith, drop, List, [], ◌∷◌, Option, Some, None, true≢false, lit≤}
use Rattle.std.specs.Prelude.{is_some}
use Rattle.command_words.specs.declared.command.Kind.{Kind}
use Rattle.command_words.specs.declared.command.Kind.TheVariants.{Cmrm, Ctmc}
use Rattle.command_words.specs.declared.command.Options.{Options}
use Rattle.command_words.specs.declared.setting.Setting.{Setting}
use Rattle.command_words.specs.declared.setting.Setting.TheVariants.{Bits, Jumps, State, Watch, Workers}
use Rattle.command_words.specs.Flag.{flag_count, times}
use Rattle.command_words.specs.Command.{has_rewards, model_words, number_of, text_in}
use Rattle.command_words.specs.Laws.{OptionsAreInRange, WordsSayOneCommand}
use Rattle.command_words.specs.Parts.{plain_words, values_of}
use Rattle.command_words.specs.Setting.{IsChosen, IsInRange, Text, numbers_of}
use Rattle.command_words.proofs.ReadWords.{words_are_read_one_way}

pub one_number : (s : Setting) (values : List Text) (n m : ℕ) → IsChosen s values n → IsChosen s values m → n ≡ m
one_number s [] n m h k = h ∙ sym k
one_number s (value ∷ []) n m h k = sym h.whole.value ∙ k.whole.value
one_number s (value ∷ again ∷ more) n m h k = absurd h

one_kind : (a b : Kind) → has_rewards a ≡ has_rewards b → a ≡ b
one_kind Ctmc Ctmc e = refl
one_kind Ctmc Cmrm e = absurd (true≢false (sym e))
one_kind Cmrm Ctmc e = absurd (true≢false e)
one_kind Cmrm Cmrm e = refl

one_file : (a b : Option Text) → text_in a ≡ text_in b → a ≡ b
one_file None None e = refl
one_file None (Some b) e = cc
one_file (Some a) None e = cc
one_file (Some a) (Some b) e = cc

one_flag : (a b : Bool) → times a ≡ times b → a ≡ b
one_flag true true e = refl
one_flag true false e = absurd (omega (arith, e))
one_flag false true e = absurd (omega (arith, e))
one_flag false false e = refl

-- options are known by what their values write, and by the flag
pub one_options : (o p : Options) → ((s : Setting) → number_of s o ≡ number_of s p) → o.until_decided ≡ p.until_decided → o ≡ p
one_options o p same flag =
    let workers : o.workers ≡ p.workers = same Workers in
    let bits : o.bits ≡ p.bits = same Bits in
    let jumps : o.jumps ≡ p.jumps = same Jumps in
    let watch : o.watch ≡ p.watch = same Watch in
    let state : o.state ≡ p.state = omega (arith, same State) in
    λ i. record { workers = workers i; bits = bits i; jumps = jumps i; watch = watch i; state = state i; until_decided = flag i }

pub one_command : WordsSayOneCommand
one_command words c d p q =
    let parts : p.parts ≡ q.parts = words_are_read_one_way (drop 1 words) p.parts q.parts p.read q.read in
    let model : model_words c ≡ model_words d = sym p.model ∙ ap plain_words parts ∙ q.model in
    let tra : c.tra ≡ d.tra = cc in
    let lab : c.lab ≡ d.lab = cc in
    let names : text_in c.rew ≡ text_in d.rew = cc in
    let rew : c.rew ≡ d.rew = one_file c.rew d.rew names in
    let kind : c.kind ≡ d.kind = one_kind c.kind d.kind (sym p.rewards ∙ ap is_some rew ∙ q.rewards) in
    let options : c.options ≡ d.options =
    one_options c.options d.options
    (λ s. one_number s (values_of s q.parts) (number_of s c.options) (number_of s d.options)
    (subst (λ ps. IsChosen s (values_of s ps) (number_of s c.options)) parts (p.options s)) (q.options s))
    (one_flag c.options.until_decided d.options.until_decided (sym p.flag ∙ ap flag_count parts ∙ q.flag)) in
    λ i. record { kind = kind i; tra = tra i; lab = lab i; rew = rew i; options = options i }

default_in_range : (s : Setting) → IsInRange s ((numbers_of s).default)
default_in_range Workers = record { least = lit≤ tt; most = lit≤ tt }
default_in_range Bits = record { least = lit≤ tt; most = lit≤ tt }
default_in_range Jumps = record { least = lit≤ tt; most = lit≤ tt }
default_in_range Watch = record { least = lit≤ tt; most = lit≤ tt }
default_in_range State = record { least = lit≤ tt; most = lit≤ tt }

chosen_in_range : (s : Setting) (values : List Text) (n : ℕ) → IsChosen s values n → IsInRange s n
chosen_in_range s [] n h = subst (IsInRange s) (sym h) (default_in_range s)
chosen_in_range s (value ∷ []) n h = h.range
chosen_in_range s (value ∷ again ∷ more) n h = absurd h

pub options_in_range : OptionsAreInRange
options_in_range words c say = record {
  workers = in_range Workers;
  bits = in_range Bits;
  jumps = in_range Jumps;
  watch = in_range Watch;
  state = in_range State;
}
  where
    in_range : (s : Setting) → IsInRange s (number_of s c.options)
    in_range s = chosen_in_range s (values_of s say.parts) (number_of s c.options) (say.options s)
