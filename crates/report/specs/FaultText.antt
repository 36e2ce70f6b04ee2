-- The line of a fault of a file.
use Rattle.std.specs.Prelude.{ℕ, List, ◌∷◌, ◌++◌, codes, decimal}
use Rattle.decimal_text.specs.declared.number_fault.NumberFault.TheVariants.{NotNumber, TooFine, TooBig}
use Rattle.text_lines.specs.declared.fault.FileWhat.{FileWhat}
use Rattle.text_lines.specs.declared.fault.FileWhat.TheVariants as what
use Rattle.report.specs.declared.model_fault.ModelFault.{ModelFault}
use Rattle.report.specs.declared.model_fault.Which.{Which}
use Rattle.report.specs.declared.model_fault.Which.TheVariants.{TraFile, LabFile, RewFile}

-- each kind of file by its ending
abbrev pub which_text : Which → List ℕ
which_text TraFile = codes "tra"
which_text LabFile = codes "lab"
which_text RewFile = codes "rew"

-- each fault by its name; that of a number by the number's fault too
abbrev pub what_text : FileWhat → List ℕ
what_text what.Header = codes "Header"
what_text what.StatesRange = codes "StatesRange"
what_text what.TransitionsRange = codes "TransitionsRange"
what_text what.Word = codes "Word"
what_text what.StateRange = codes "StateRange"
what_text (what.Number NotNumber) = codes "Number NotNumber"
what_text (what.Number TooFine) = codes "Number TooFine"
what_text (what.Number TooBig) = codes "Number TooBig"
what_text what.Count = codes "Count"
what_text what.Repeated = codes "Repeated"
what_text what.RateRange = codes "RateRange"
what_text what.Name = codes "Name"
what_text what.RepeatedName = codes "RepeatedName"
what_text what.Undeclared = codes "Undeclared"
what_text what.LabelsRange = codes "LabelsRange"
what_text what.RewardScale = codes "RewardScale"
what_text what.TooBig = codes "TooBig"
what_text what.WatchState = codes "WatchState"

-- what the line of a refused file says
abbrev pub model_fault_text : ModelFault → List ℕ
model_fault_text fault =
    codes "refused " ++ which_text fault.file ++ codes " line " ++ decimal fault.line ++ 32 ∷ what_text fault.what
