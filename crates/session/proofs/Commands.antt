-- Words say one command or none, and which of the two can be found out.
use Rattle.std.proofs.Common.{◌≡◌, ℕ, ◌⊎◌, inl, inr, List, Option, Some, None, refl, ap}
use Rattle.command_words.specs.Command.{Spoken}
use Rattle.command_words.specs.Words.{AreCommand}
use Rattle.command_words.proofs.Deciding.{command_or_not}
use Rattle.command_words.proofs.OneCommand.{one_command}
use Rattle.session.specs.Command.{IsCommandOf}

pub same_command : (words : List (List ℕ)) (a b : Option Spoken) → IsCommandOf words a → IsCommandOf words b → a ≡ b
same_command words None None p q = refl
same_command words None (Some b) p q = absurd (p (b, q))
same_command words (Some a) None p q = absurd (q (a, p))
same_command words (Some a) (Some b) p q = ap Some (one_command words a b p q)

pub some_command : (words : List (List ℕ)) → (command : Option Spoken) × IsCommandOf words command
some_command words = by_kind (command_or_not words)
  where
    by_kind : AreCommand words ⊎ ¬ AreCommand words → (command : Option Spoken) × IsCommandOf words command
    by_kind (inl said) = (Some said.0, said.1)
    by_kind (inr none) = (None, none)
