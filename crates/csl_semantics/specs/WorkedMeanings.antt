-- Formulas over a small chain, worked out by hand. From the first of three states there is one transition, at the rate 1, to the second,
-- which has the label `a`; the third state is never left, and can't be reached.
use Rattle.std.specs.Prelude.{◌==◌, if◌then◌else◌, true, false, [], ◌∷◌, None, Some, codes}
use Rattle.ctmc_semantics.specs.Table.{table_chain}
use Rattle.csl_semantics.specs.Meaning.{IsSat}
use Rattle.csl_syntax.specs.Tree.{Tree, truth, label, next, until}
use Rattle.csl_syntax.specs.declared.formula.Bound.TheVariants.{Unbounded, Time, Reward}
use Rattle.csl_syntax.specs.declared.formula.Op.TheVariants.{More, AtLeast}
use Rattle.decimal_text.specs.DecimalNumber.{DecimalNumber}
use Rattle.model_core.specs.Model.{LabelledChain}

abbrev pub worked_chain : LabelledChain
worked_chain = record {
  chain = table_chain 3 (0 ∷ 1 ∷ 0 ∷ 0 ∷ 0 ∷ 0 ∷ 0 ∷ 0 ∷ 0 ∷ []);
  rate_decimals = 0;
  names = codes "a" ∷ [];
  has = λ j s. s == 1;
  rewards = None;
}

abbrev pub half : DecimalNumber
half = record { c = 5; x = 1 }

abbrev pub one : DecimalNumber
one = record { c = 1; x = 0 }

-- `P{>=0.5}[X a]`
abbrev pub next_a : Tree
next_a = next AtLeast half (label 0)

-- after the first state comes one with the label, after the two others none
abbrev pub NextMeaning : Type 0
NextMeaning = IsSat worked_chain next_a (true ∷ false ∷ false ∷ [])

-- `P{>0.5}[tt U[0,1] a]`
abbrev pub soon_a : Tree
soon_a = until More half truth (Time one) (label 0)

-- from the first state the label is reached within the time 1 with the probability `1 - 1/e`; cut after two jumps it is 3/5, which is above
-- a half already
abbrev pub TimeUntilMeaning : Type 0
TimeUntilMeaning = IsSat worked_chain soon_a (true ∷ true ∷ false ∷ [])

-- `P{>=1}[tt U a]`
abbrev pub surely_a : Tree
surely_a = until AtLeast one truth Unbounded (label 0)

-- from the first two states the label is reached surely: the value is the threshold itself
abbrev pub ReachUntilMeaning : Type 0
ReachUntilMeaning = IsSat worked_chain surely_a (true ∷ true ∷ false ∷ [])

-- `P{>=0.5}[X P{>0.5}[tt U[0,1] a]]`: the inner formula holds in the second state, but after it no state comes
abbrev pub NestedMeaning : Type 0
NestedMeaning = IsSat worked_chain (next AtLeast half soon_a) (true ∷ false ∷ false ∷ [])

-- the same chain, whose first state earns 2 for each unit of time, and the two others 1
abbrev pub earning_chain : LabelledChain
earning_chain = record {
  chain = worked_chain.chain;
  rate_decimals = worked_chain.rate_decimals;
  names = worked_chain.names;
  has = worked_chain.has;
  rewards = Some (record { decimals = 0; reward = λ s. if s == 0 then 2 else 1 });
}

abbrev pub two : DecimalNumber
two = record { c = 2; x = 0 }

-- `P{>0.5}[tt U[0,~][0,2] a]`
abbrev pub cheaply_a : Tree
cheaply_a = until More half truth (Reward two) (label 0)

-- in the first state a reward of 2 is gathered within the time 1, so the probability is `1 - 1/e` again
abbrev pub RewardUntilMeaning : Type 0
RewardUntilMeaning = IsSat earning_chain cheaply_a (true ∷ true ∷ false ∷ [])
