-- The state of the machine that a value of the code stands for.
use Rattle.std.specs.Prelude.{◌≡◌, ℕ, suc, ◌+◌, List, [], ◌∷◌, Option, Some, None, Result, Ok, Err, Box, ⊤}
use Rattle.std.specs.declared.alloc.Global.{Global}
use Rattle.csl_syntax.specs.declared.formula.Formula.{Formula}
use Rattle.csl_syntax.specs.declared.limits.TheConstants.{MOST_NESTED}
use Rattle.csl_syntax.specs.declared.machine.Context.{Context}
use Rattle.csl_syntax.specs.declared.machine.Kind.{Kind as KindOf}
use Rattle.csl_syntax.specs.declared.machine.Kind.TheVariants as kinds
use Rattle.csl_syntax.specs.declared.machine.Machine.{Machine}
use Rattle.csl_syntax.specs.declared.machine.Pending.{Pending}
use Rattle.csl_syntax.specs.declared.machine.Phase.{Phase as PhaseOf}
use Rattle.csl_syntax.specs.declared.machine.Phase.TheVariants as phases
use Rattle.csl_syntax.specs.declared.machine.Place.{Place}
use Rattle.csl_syntax.specs.declared.machine.Place.TheVariants.{Before, After, Within}
use Rattle.csl_syntax.specs.declared.lead.Lead.{Lead}
use Rattle.csl_syntax.specs.declared.lead.Lead.TheVariants.{To, Into, With, Nowhere}
use Rattle.csl_syntax.specs.declared.token.Token.{Token}
use Rattle.csl_syntax.specs.declared.stop.Stop.{Stop}
use Rattle.csl_syntax.specs.declared.stop.Stop.TheVariants.{Fails, Memory}
use Rattle.csl_syntax.specs.Tree.{Tree, tree_of}
use Rattle.csl_syntax.specs.Machine.{Layer, Kind, parens, of_next, until_left, until_right, Phase, p_brace, p_op, p_number, p_close}
use Rattle.csl_syntax.specs.Machine.{p_bracket, p_path, u_start, u_zero, u_comma, u_limit, u_close, u_any, u_again, v_zero, v_comma}
use Rattle.csl_syntax.specs.Machine.{v_limit, v_close, layer, begin, in_more, State, want, have, more, stopped}

abbrev pub tree_in : Option (Box Formula Global) → Option Tree
tree_in None = None
tree_in (Some f) = Some (tree_of f.value)

abbrev pub kind_of : KindOf → Kind
kind_of kinds.Parens = parens
kind_of (kinds.OfNext op q) = of_next op q
kind_of (kinds.UntilLeft op q) = until_left op q
kind_of (kinds.UntilRight op q f b) = until_right op q (tree_of f.value) b

abbrev pub phase_of : PhaseOf → Phase
phase_of phases.Brace = p_brace
phase_of phases.Compare = p_op
phase_of (phases.Threshold op) = p_number op
phase_of (phases.Close op q) = p_close op q
phase_of (phases.Bracket op q) = p_bracket op q
phase_of (phases.Path op q) = p_path op q
phase_of (phases.Start op q f) = u_start op q (tree_of f.value)
phase_of (phases.Zero op q f) = u_zero op q (tree_of f.value)
phase_of (phases.Comma op q f) = u_comma op q (tree_of f.value)
phase_of (phases.Limit op q f) = u_limit op q (tree_of f.value)
phase_of (phases.End op q f t) = u_close op q (tree_of f.value) t
phase_of (phases.Any op q f) = u_any op q (tree_of f.value)
phase_of (phases.Again op q f) = u_again op q (tree_of f.value)
phase_of (phases.RewardZero op q f) = v_zero op q (tree_of f.value)
phase_of (phases.RewardComma op q f) = v_comma op q (tree_of f.value)
phase_of (phases.RewardLimit op q f) = v_limit op q (tree_of f.value)
phase_of (phases.RewardEnd op q f t) = v_close op q (tree_of f.value) t

abbrev pub layer_of : Pending → Layer
layer_of x = record { kind = kind_of x.kind; either = tree_in x.either; both = tree_in x.both; bangs = x.bangs }

abbrev pub outer_from : List Layer → List Pending → List Layer
outer_from ls [] = ls
outer_from ls (x ∷ xs) = outer_from (layer_of x ∷ ls) xs

-- what is done at the place that the context encloses
abbrev pub in_context : Context → (ℕ → List Layer → Option Tree → Option Tree → State) → State
in_context x act = act x.room (outer_from [] x.outer.items) (tree_in x.either) (tree_in x.both)

abbrev pub state_at : Place → ℕ → List Layer → Option Tree → Option Tree → State
state_at (Before n) d ls o a = want d ls o a n
state_at (After f) d ls o a = have d ls o a (tree_of f.value)
state_at (Within p n) d ls o a = more (phase_of p) d ls o a n

abbrev pub state_of : Machine → State
state_of m = in_context m.context (state_at m.place)

abbrev pub StopsAs : Stop → State → Type 0
StopsAs Memory q = ⊤
StopsAs (Fails w) q = q ≡ stopped w

-- the machine goes to this state, or stops so, or memory runs out
abbrev pub Goes : Result Machine Stop → State → Type 0
Goes (Ok m) q = state_of m ≡ q
Goes (Err e) q = StopsAs e q

-- how many constructs of this context are open
abbrev pub nested : List Pending → ℕ
nested [] = 0
nested (x ∷ xs) = nested xs + suc x.bangs

-- so many `!` and what else is open fill the room
abbrev pub IsFilled : ℕ → Context → Type 0
IsFilled n x = x.room + n + nested x.outer.items ≡ MOST_NESTED

abbrev pub bangs_at : Place → ℕ
bangs_at (Before n) = n
bangs_at (After f) = 0
bangs_at (Within p n) = suc n

abbrev pub IsCounted : Machine → Type 0
IsCounted m = IsFilled (bangs_at m.place) m.context

-- a context within another: what the other encloses is part of a formula of the kind that is not at its end, after so many `!`
pub record IsContextWithin (context : Context) (kind : Kind) (bangs : ℕ) (inner : Context) : Type 0 where
  pub room : inner.room ≡ context.room
  pub layers : outer_from [] inner.outer.items ≡ layer kind (tree_in context.either) (tree_in context.both) bangs ∷ outer_from []
      context.outer.items
  pub count : nested inner.outer.items ≡ nested context.outer.items + suc bangs
  pub either : inner.either ≡ None
  pub both : inner.both ≡ None

-- of the formulas that are not at their end the innermost is of this kind, with this context and so many `!`
pub record IsInnermost (outer : List Pending) (kind : Kind) (context : Context) (bangs : ℕ) : Type 0 where
  pub layers : outer_from [] outer ≡ layer kind (tree_in context.either) (tree_in context.both) bangs ∷ outer_from [] context.outer.items
  pub count : nested outer ≡ nested context.outer.items + suc bangs

-- where a fixed part of a probability operator leads with the token
abbrev pub led : ℕ → Lead → Token → ℕ → List Layer → Option Tree → Option Tree → ℕ → State
led labels (To p) t d ls o a n = more (phase_of p) d ls o a n
led labels (Into k) t d ls o a n = want d (layer (kind_of k) o a n ∷ ls) None None 0
led labels (With k) t d ls o a n = begin labels 1 (kind_of k) t d ls o a n
led labels (Nowhere w) t d ls o a n = stopped w

abbrev pub Leads : Lead → Phase → Token → Type 0
Leads l p t = (labels d : ℕ) (ls : List Layer) (o a : Option Tree) (n : ℕ) → led labels l t d ls o a n ≡ in_more labels 1 p t d ls o a n
