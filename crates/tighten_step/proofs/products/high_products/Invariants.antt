use Rattle.tighten_step.specs.Quotients.{KnowsMoreWords, AreHighProducts}
use Rattle.tighten_step.proofs.PrefixSums.{first}
use Rattle.tighten_step.proofs.products.high_products.Given as goal

abbrev pub invariant-loop-entry : goal.invariant-loop-entry
invariant-loop-entry l = record {
  knows : KnowsMoreWords l.board l.initial.pass l.pass;
  products : AreHighProducts l.board l.initial.pass l.pass l.k (first l.row.entries.now l.entry-index) l.products;
}
