-- Why a read fault is told, and what was taken of the formulas.
use Rattle.std.specs.Prelude.{◌≡◌, ℕ, ◌⊎◌, List, Option, IsSomeAnd}
use Rattle.std.specs.Io.KnownBytes.{Keeps}
use Rattle.outside.specs.Causes.{Rose}
use Rattle.outside.specs.Shelf.{Pair}
use Rattle.command_words.specs.Command.{Spoken}
use Rattle.session.specs.ModelFiles.{TakesModel}

-- there is a command, and its files stand for a model
abbrev pub HasModel : Option Spoken → Option (List Pair) → Type 0
HasModel command files = IsSomeAnd command (λ c. TakesModel c files)

-- nothing is taken of the formulas, unless the files stand for a model
abbrev pub IsUntouched : Option Spoken → Option (List Pair) → Option (List ℕ) → Option (List ℕ) → Type 0
IsUntouched command files before now = Keeps before now ⊎ HasModel command files

-- one call failed: one that took a file, or one that read the formulas, which are read where the files stand for a model
abbrev pub OneReadFailed : Option Spoken → Option (List Pair) → ℕ → ℕ → ℕ → ℕ → Type 0
OneReadFailed command files files_before files_now formulas_before formulas_now =
    (Rose files_before files_now × (formulas_now ≡ formulas_before))
    ⊎ (Rose formulas_before formulas_now × (files_now ≡ files_before) × HasModel command files)

-- a read fault is told where one call failed, and nowhere else
pub record HasReadCause (command : Option Spoken) (files : Option (List Pair)) (files_before files_now formulas_before formulas_now : ℕ)
    (faulted : Type 0) : Type 0 where
  pub risen : faulted → OneReadFailed command files files_before files_now formulas_before formulas_now
  pub files_still : ¬ faulted → files_now ≡ files_before
  pub formulas_still : ¬ faulted → formulas_now ≡ formulas_before
