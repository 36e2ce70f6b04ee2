-- The exit status of the program.
use Rattle.std.specs.Prelude.{ℕ}
use Rattle.session.specs.declared.status.Status.{Status}
use Rattle.session.specs.declared.status.Status.TheVariants.{Done, Refused, Usage, Model, Outside, Memory}

abbrev pub exit_code_of : Status → ℕ
exit_code_of Done = 0
exit_code_of Refused = 1
exit_code_of Usage = 2
exit_code_of (Model fault) = 3
exit_code_of (Outside fault) = 4
exit_code_of Memory = 5
