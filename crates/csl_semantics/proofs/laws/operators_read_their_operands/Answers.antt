use Rattle.csl_semantics.proofs.Unique.{one_meaning, over_exact, both_exact, reward_exact}
use Rattle.csl_semantics.proofs.laws.operators_read_their_operands.Goals as goal

pub returns-clause-next : goal.returns-clause-next
returns-clause-next c = λ over op q f xs ys s x y l. (over_exact over.chain.states _ _ (one_meaning over f) xs ys x y).exact s l

pub returns-clause-time_until : goal.returns-clause-time_until
returns-clause-time_until c = λ over op q t f g xs ys zs s x y z l.
    (both_exact over.chain.states _ _ _ (one_meaning over f) (one_meaning over g) xs ys zs x y z).exact s l

pub returns-clause-reach_until : goal.returns-clause-reach_until
returns-clause-reach_until c = λ over op q f g xs ys zs s x y z l.
    (both_exact over.chain.states _ _ _ (one_meaning over f) (one_meaning over g) xs ys zs x y z).exact s l

pub returns-clause-reward_until : goal.returns-clause-reward_until
returns-clause-reward_until c = λ over op q r f g xs ys zs s earns x y z l.
    reward_exact over op q r f g xs ys zs earns x y z s l
