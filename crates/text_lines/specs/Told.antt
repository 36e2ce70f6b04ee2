-- What a reader tells.
use Rattle.std.specs.Prelude.{ℕ}
use Rattle.text_lines.specs.declared.fault.FileWhat.{FileWhat}
use Rattle.text_lines.specs.declared.fault.ReadFault.{ReadFault}
use Rattle.text_lines.specs.declared.fault.ReadFault.TheVariants.{At, Memory}

-- a fault that is told holds so; of want of memory nothing is said
abbrev pub IsToldBy : (ℕ → FileWhat → Type 0) → ReadFault → Type 0
IsToldBy Holds (At fault) = Holds fault.line fault.what
IsToldBy Holds Memory = Unit {0}
