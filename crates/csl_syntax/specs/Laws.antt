-- What the laws say.
use Rattle.std.specs.Prelude.{◌≡◌, ◌≢◌, ℕ, ◌≤◌, ◌⊎◌, IsTrue, List, length, All, AllPairs}
use Rattle.text_lines.specs.Name.{is_name}
use Rattle.csl_syntax.specs.declared.limits.TheConstants.{MOST_BYTES}
use Rattle.csl_syntax.specs.declared.fault.FormulaWhat.{FormulaWhat}
use Rattle.csl_syntax.specs.Tree.{Tree, IsOver}
use Rattle.csl_syntax.specs.FormulaText.{FormulaSays}
use Rattle.csl_syntax.specs.FormulaFault.{FormulaFaultAt}
use Rattle.csl_syntax.specs.CanonicalText.{formula_text}

-- over some labels a line stands for one formula at most
abbrev pub OneFormula : Type 0
OneFormula = (line : List ℕ) (labels : List (List ℕ)) (f g : Tree) → FormulaSays line labels f → FormulaSays line labels g → f ≡ g

-- a line has one fault at most, in one column
abbrev pub OneFormulaFault : Type 0
OneFormulaFault =
    (line : List ℕ) (labels : List (List ℕ)) (k l : ℕ) (v w : FormulaWhat) → FormulaFaultAt line labels k v
    → FormulaFaultAt line labels l w
    → (k ≡ l) × (v ≡ w)

-- a line that stands for a formula has no fault
abbrev pub FormulaHasNoFault : Type 0
FormulaHasNoFault =
    (line : List ℕ) (labels : List (List ℕ)) (f : Tree) (k : ℕ) (v : FormulaWhat) → FormulaSays line labels f
    → ¬ FormulaFaultAt line labels k v

abbrev pub SaysSomeFormula : List ℕ → List (List ℕ) → Type 0
SaysSomeFormula line labels = (f : Tree) × FormulaSays line labels f

abbrev pub HasSomeFormulaFault : List ℕ → List (List ℕ) → Type 0
HasSomeFormulaFault line labels = (k : ℕ) × (v : FormulaWhat) × FormulaFaultAt line labels k v

-- each line stands for a formula or has a fault
abbrev pub FormulaOrFault : Type 0
FormulaOrFault = (line : List ℕ) (labels : List (List ℕ)) → SaysSomeFormula line labels ⊎ HasSomeFormulaFault line labels

-- the formula for which a line stands is over its labels
abbrev pub FormulasAreOverLabels : Type 0
FormulasAreOverLabels = (line : List ℕ) (labels : List (List ℕ)) (f : Tree) → FormulaSays line labels f → IsOver (length labels) f

-- names of labels, all different
pub record AreLabels (labels : List (List ℕ)) : Type 0 where
  pub each : All (λ label. IsTrue (is_name label)) labels
  pub distinct : AllPairs ◌≢◌ labels

-- a formula for which a line stands is read back from its text, where that isn't too long
abbrev pub TextReadsBack : Type 0
TextReadsBack =
    (line : List ℕ) (labels : List (List ℕ)) (f : Tree) → AreLabels labels → FormulaSays line labels f
    → length (formula_text labels f) ≤ MOST_BYTES → FormulaSays (formula_text labels f) labels f
