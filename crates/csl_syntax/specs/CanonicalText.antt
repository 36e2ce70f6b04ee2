-- The text of a formula as it is printed.
use Rattle.std.specs.Prelude.{ℕ, Bool, true, false, List, [], ◌++◌, slice_index_or, codes, if◌then◌else◌}
use Rattle.decimal_text.specs.DecimalNumber.{DecimalNumber}
use Rattle.decimal_text.specs.Text.{canonical_text}
use Rattle.csl_syntax.specs.declared.formula.Op.{Op}
use Rattle.csl_syntax.specs.declared.formula.Bound.{Bound}
use Rattle.csl_syntax.specs.declared.formula.Bound.TheVariants.{Unbounded, Time, Reward}
use Rattle.csl_syntax.specs.Tokens.{op_text}
use Rattle.csl_syntax.specs.Tree.{Tree, truth, falsehood, label, negation, conjunction, disjunction, next, until}

abbrev pub is_disjunction : Tree → Bool
is_disjunction (disjunction f g) = true
is_disjunction f = false

-- a conjunction or a disjunction
abbrev pub is_junction : Tree → Bool
is_junction (conjunction f g) = true
is_junction (disjunction f g) = true
is_junction f = false

-- the text in parentheses, where they are needed
abbrev pub guarded : Bool → List ℕ → List ℕ
guarded needed text = if needed then codes "(" ++ text ++ codes ")" else text

-- `U` and its bound
abbrev pub bound_text : Bound → List ℕ
bound_text Unbounded = codes "U"
bound_text (Time t) = codes "U[0," ++ canonical_text t ++ codes "]"
bound_text (Reward r) = codes "U[0,~][0," ++ canonical_text r ++ codes "]"

-- the probability operator over a path
abbrev pub probability_text : Op → DecimalNumber → List ℕ → List ℕ
probability_text op threshold path = codes "P{" ++ op_text op ++ canonical_text threshold ++ codes "}[" ++ path ++ codes "]"

-- the text of a formula over these labels: no space but round `&&`, `||` and `U` and behind `X`, parentheses only where they are needed,
-- and numbers as they are printed
abbrev pub formula_text : List (List ℕ) → Tree → List ℕ
formula_text labels truth = codes "tt"
formula_text labels falsehood = codes "ff"
formula_text labels (label j) = slice_index_or labels j []
formula_text labels (negation f) = codes "!" ++ guarded (is_junction f) (formula_text labels f)
formula_text labels (conjunction f g) =
    guarded (is_disjunction f) (formula_text labels f) ++ codes " && " ++ guarded (is_junction g) (formula_text labels g)
formula_text labels (disjunction f g) = formula_text labels f ++ codes " || " ++ guarded (is_disjunction g) (formula_text labels g)
formula_text labels (next op threshold f) = probability_text op threshold (codes "X " ++ formula_text labels f)
formula_text labels (until op threshold f bound g) =
    probability_text op threshold (formula_text labels f ++ codes " " ++ bound_text bound ++ codes " " ++ formula_text labels g)
