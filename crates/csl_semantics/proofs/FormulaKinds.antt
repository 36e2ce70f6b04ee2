-- Which kinds of formulas lie in which.
use Rattle.std.proofs.Common.{Bool, ◌&&◌, IsTrue, refl}
use Rattle.std.proofs.lemmas.Bool.{false≢true, and_parts, and_from}
use Rattle.csl_semantics.specs.Truth.{is_propositional, has_no_until, has_no_reward}
use Rattle.csl_syntax.specs.Tree.{Tree, truth, falsehood, label, negation, conjunction, disjunction, next, until}

both_follow : (a b c d : Bool) → (IsTrue a → IsTrue c) → (IsTrue b → IsTrue d) → IsTrue (a && b) → IsTrue (c && d)
both_follow a b c d f g h = and_from c d (f (and_parts a b h).0) (g (and_parts a b h).1)

pub propositional_no_until : (f : Tree) → IsTrue (is_propositional f) → IsTrue (has_no_until f)
propositional_no_until truth h = refl
propositional_no_until falsehood h = refl
propositional_no_until (label j) h = refl
propositional_no_until (negation f) h = propositional_no_until f h
propositional_no_until (conjunction f g) h =
    both_follow (is_propositional f) (is_propositional g) _ _ (propositional_no_until f) (propositional_no_until g) h
propositional_no_until (disjunction f g) h =
    both_follow (is_propositional f) (is_propositional g) _ _ (propositional_no_until f) (propositional_no_until g) h
propositional_no_until (next op q f) h = absurd (false≢true h)
propositional_no_until (until op q f bound g) h = absurd (false≢true h)

pub no_until_no_reward : (f : Tree) → IsTrue (has_no_until f) → IsTrue (has_no_reward f)
no_until_no_reward truth h = refl
no_until_no_reward falsehood h = refl
no_until_no_reward (label j) h = refl
no_until_no_reward (negation f) h = no_until_no_reward f h
no_until_no_reward (conjunction f g) h =
    both_follow (has_no_until f) (has_no_until g) _ _ (no_until_no_reward f) (no_until_no_reward g) h
no_until_no_reward (disjunction f g) h =
    both_follow (has_no_until f) (has_no_until g) _ _ (no_until_no_reward f) (no_until_no_reward g) h
no_until_no_reward (next op q f) h = no_until_no_reward f h
no_until_no_reward (until op q f bound g) h = absurd (false≢true h)
