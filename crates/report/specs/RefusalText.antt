-- What is printed of what isn't answered.
use Rattle.std.specs.Prelude.{ℕ, ◌+◌, List, [], ◌∷◌, ◌++◌, codes, decimal}
use Rattle.csl_syntax.specs.declared.fault.FormulaFault.{FormulaFault}
use Rattle.csl_syntax.specs.declared.fault.FormulaWhat.{FormulaWhat}
use Rattle.csl_syntax.specs.declared.fault.FormulaWhat.TheVariants as what
use Rattle.step_core.specs.declared.plan_error.PlanError.{PlanError}
use Rattle.step_core.specs.declared.plan_error.PlanError.TheVariants as why

-- the line of a refusal that says this
abbrev pub refusal_line : List ℕ → List ℕ
refusal_line text = text ++ 10 ∷ []

-- each fault of a formula by its name
abbrev pub what_text : FormulaWhat → List ℕ
what_text what.Token = codes "Token"
what_text what.Number = codes "Number"
what_text what.Expected = codes "Expected"
what_text what.UnknownLabel = codes "UnknownLabel"
what_text what.Threshold = codes "Threshold"
what_text what.Depth = codes "Depth"
what_text what.Length = codes "Length"

-- the column of a formula's fault, from 1, and what it is
abbrev pub formula_fault_text : FormulaFault → List ℕ
formula_fault_text fault = codes "column " ++ decimal fault.column ++ 32 ∷ what_text fault.what

-- a name, and the number of a state, which a file counts from 1
abbrev pub of_state : List ℕ → ℕ → List ℕ
of_state name s = name ++ codes " state " ++ decimal (s + 1)

-- each reason why an until has no plan by its name
abbrev pub plan_refusal_text : PlanError → List ℕ
plan_refusal_text why.TooLong = codes "TooLong"
plan_refusal_text why.TooLarge = codes "TooLarge"
plan_refusal_text why.NoRewards = codes "NoRewards"
plan_refusal_text (why.ZeroReward s) = of_state (codes "ZeroReward") s
plan_refusal_text (why.RewardRange s) = of_state (codes "RewardRange") s
plan_refusal_text why.BoundRange = codes "BoundRange"
plan_refusal_text why.Memory = codes "Memory"

-- what the line says that refuses the formula of a line of the input, by that line's number from 1
abbrev pub refused_text : ℕ → List ℕ → List ℕ
refused_text number why = codes "refused line " ++ decimal number ++ 32 ∷ why
