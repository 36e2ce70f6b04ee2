-- The flag of the command line.
use Rattle.std.specs.Prelude.{ℕ, ◌+◌, Bool, true, false, List, [], ◌∷◌}
use Rattle.command_words.specs.Parts.{Part, given, flag, plain}

-- how often one part gives the flag
abbrev pub flags_in : Part → ℕ
flags_in (given s value) = 0
flags_in flag = 1
flags_in (plain word) = 0

-- how often the flag is given
abbrev pub flag_count : List Part → ℕ
flag_count [] = 0
flag_count (part ∷ parts) = flags_in part + flag_count parts

-- once, or not at all
abbrev pub times : Bool → ℕ
times true = 1
times false = 0
