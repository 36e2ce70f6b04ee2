-- Lemmas on what a machine stands for.
use Rattle.std.proofs.Common.{◌≡◌, ℕ, zero, suc, ◌+◌, Option, List, [], ◌∷◌, ◌++◌, refl, sym, ◌∙◌, ap, arith}
use Rattle.csl_syntax.specs.declared.machine.Pending.{Pending}
use Rattle.csl_syntax.specs.Tree.{Tree}
use Rattle.csl_syntax.specs.Machine.{Layer, have, negated, back, operand}
use Rattle.csl_syntax.specs.View.{layer_of, outer_from, nested}

pub outer_from-append : (ls : List Layer) (xs : List Pending) (x : Pending) → outer_from ls (xs ++ x ∷ []) ≡ layer_of x ∷ outer_from ls xs
outer_from-append ls [] x = refl
outer_from-append ls (y ∷ xs) x = outer_from-append (layer_of y ∷ ls) xs x

pub nested-append : (xs : List Pending) (x : Pending) → nested (xs ++ x ∷ []) ≡ nested xs + suc x.bangs
nested-append [] x = refl
nested-append (y ∷ xs) x = omega (arith, nested-append xs x)

-- with one more at the end
pub outer_with : (old new : List Pending) (x : Pending) → new ≡ old ++ x ∷ [] → outer_from [] new ≡ layer_of x ∷ outer_from [] old
outer_with old new x e = ap (outer_from []) e ∙ outer_from-append [] old x

pub nested_with : (old new : List Pending) (x : Pending) → new ≡ old ++ x ∷ [] → nested new ≡ nested old + suc x.bangs
nested_with old new x e = ap nested e ∙ nested-append old x

back_add : (n d : ℕ) → back n d ≡ d + n
back_add zero d = omega arith
back_add (suc n) d = omega (arith, back_add n (suc d))

pub operand_is : (n d : ℕ) (ls : List Layer) (o a : Option Tree) (f : Tree) → have (d + n) ls o a (negated n f) ≡ operand d ls o a n f
operand_is n d ls o a f = ap (λ v. have v ls o a (negated n f)) (sym (back_add n d))
