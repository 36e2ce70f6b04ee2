use Rattle.std.proofs.Common.{rules}
use Rattle.std.proofs.lemmas.List.Sorted.{IsNonDecreasingBy-from_sort_by_key}
use Rattle.model_core.specs.declared.rate.Rate.{Rate}
use Rattle.model_core.specs.Pairs.{pair_number}
use Rattle.model_core.proofs.model.in_order.Goals as goal

pub returns-clause-ascending : goal.returns-clause-ascending
returns-clause-ascending c =
    IsNonDecreasingBy-from_sort_by_key (λ (r : Rate). pair_number r.from r.to) _ c.sort_unstable_by_key.ensures.sorted
    (λ a r q k. search rules)
