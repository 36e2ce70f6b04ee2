-- What the parser's own functions say of a line.
use Rattle.std.specs.Prelude.{◌≡◌, ℕ, ◌+◌, ◌⊎◌, List, Option, Some, None, Result, Ok, Err, length, ⊤}
use Rattle.csl_syntax.specs.declared.fault.FormulaWhat.{FormulaWhat}
use Rattle.csl_syntax.specs.declared.fault.FormulaWhat.TheVariants.{Expected}
use Rattle.csl_syntax.specs.declared.fault.ParseFault.{ParseFault}
use Rattle.csl_syntax.specs.declared.fault.ParseFault.TheVariants as faults
use Rattle.csl_syntax.specs.declared.formula.Formula.{Formula}
use Rattle.csl_syntax.specs.declared.limits.TheConstants.{MOST_NESTED}
use Rattle.csl_syntax.specs.declared.machine.Machine.{Machine}
use Rattle.csl_syntax.specs.declared.stop.Stop.{Stop}
use Rattle.csl_syntax.specs.declared.stop.Stop.TheVariants as stops
use Rattle.csl_syntax.specs.declared.token.Token.{Token}
use Rattle.csl_syntax.specs.FormulaFault.{FormulaFaultAt}
use Rattle.csl_syntax.specs.Machine.{stopped, start, step, run}
use Rattle.csl_syntax.specs.Scanner.{FailsAtHead}
use Rattle.csl_syntax.specs.Tokens.{BeginsWithToken, HasTokens}
use Rattle.csl_syntax.specs.Tree.{Tree, tree_of}
use Rattle.csl_syntax.specs.View.{state_of, IsCounted}

-- the machine has read the line up to the rest
pub record IsReadUpTo (line : List ℕ) (labels : List (List ℕ)) (machine : Machine) (rest : List ℕ) : Type 0 where
  pub tokens : List Token
  pub has : HasTokens labels line tokens rest
  pub state : state_of machine ≡ run (length labels) 1 (start MOST_NESTED) tokens
  pub counted : IsCounted machine

-- the fault is the line's; of want of memory nothing is said
abbrev pub IsFaultOf : List ℕ → List (List ℕ) → ParseFault → Type 0
IsFaultOf line labels (faults.At at) = FormulaFaultAt line labels at.column at.what
IsFaultOf line labels faults.Memory = ⊤

-- the machine went over the token at the head of the bytes
pub record Advances (labels : List (List ℕ)) (machine : Machine) (bytes : List ℕ) (next : Machine) (rest : List ℕ) : Type 0 where
  pub token : Token
  pub begins : BeginsWithToken labels bytes token rest
  pub state : state_of next ≡ step (length labels) 1 (state_of machine) token
  pub counted : IsCounted next

-- the machine stops at the token at the head of the bytes
pub record StopsAtToken (labels : List (List ℕ)) (machine : Machine) (bytes : List ℕ) (fault : FormulaWhat) : Type 0 where
  pub token : Token
  pub rest : List ℕ
  pub begins : BeginsWithToken labels bytes token rest
  pub state : step (length labels) 1 (state_of machine) token ≡ stopped fault

-- no token stands at the head of the bytes, or the machine stops at it
abbrev pub StopsAtHead : List (List ℕ) → Machine → List ℕ → Stop → Type 0
StopsAtHead labels machine bytes (stops.Fails fault) = FailsAtHead bytes fault ⊎ StopsAtToken labels machine bytes fault
StopsAtHead labels machine bytes stops.Memory = ⊤

-- the fault is told in the column where so many bytes are left of so many
abbrev pub IsToldAs : Stop → ℕ → ℕ → ParseFault → Type 0
IsToldAs (stops.Fails fault) all left (faults.At at) = (at.column + left ≡ all + 1) × (at.what ≡ fault)
IsToldAs (stops.Fails fault) all left faults.Memory = ⊥
IsToldAs stops.Memory all left told = told ≡ faults.Memory

-- the whole formula, where there is one, and else the fault behind so many bytes
abbrev pub EndsAs : ℕ → Result Formula ParseFault → Option Tree → Type 0
EndsAs all (Ok f) whole = whole ≡ Some (tree_of f)
EndsAs all (Err (faults.At at)) whole = (whole ≡ None) × (at ≡ record { column = all + 1; what = Expected })
EndsAs all (Err faults.Memory) whole = ⊤
