use Rattle.std.proofs.Common.{length, ap, refl, sym, ◌∙◌, cond, ◌&&◌, ◌==◌}
use Rattle.std.proofs.lemmas.List.Sorted.{sum_by-IsPermutation}
use Rattle.model_core.specs.declared.rate.Rate.{Rate}
use Rattle.model_core.specs.Files.{TraLists, LabLists}
use Rattle.model_core.proofs.Order.{IsInOrder-from_sorted, IsNonDecreasingBy-from_numbers}
use Rattle.model_core.proofs.ModelLemmas.{IsTra-IsPermutation}
use Rattle.model_core.proofs.model.Model.build.Goals as goal

pub row_starts-requires-clause-order : goal.row_starts-requires-clause-order
row_starts-requires-clause-order c =
    let tra = IsTra-IsPermutation _ _ _ _ c.in_order-rates.ensures.same c.tra.invariant in
    rw c.deref.ensures.value (IsNonDecreasingBy-from_numbers _ _ tra.few_states tra.transitions c.in_order-rates.ensures.ascending)

pub invariant_of-result : goal.invariant_of-result
invariant_of-result c =
    let tra = IsTra-IsPermutation _ _ _ _ c.in_order-rates.ensures.same c.tra.invariant in
    record {
      lists = record {
        tra = tra;
        lab = c.lab.invariant;
        each_mark =
            ap (λ (lab : LabLists). length lab.marks) c.lab.view_is
            ∙ c.requires.marks
            ∙ sym (ap (λ (tra : TraLists). tra.n) c.tra.view_is);
        each_reward = λ rew is. c.requires.rewards rew is ∙ sym (ap (λ (tra : TraLists). tra.n) c.tra.view_is);
        order = IsInOrder-from_sorted _ _ tra.few_states tra.transitions tra.once c.in_order-rates.ensures.ascending;
      };
      long = c.in_ok-starts.ensures.long;
      begins = rw c.deref.ensures.value at c.in_ok-starts.ensures.begins;
    }

pub returns : goal.returns
returns c =
    let tra = IsTra-IsPermutation _ _ _ _ c.in_order-rates.ensures.same c.tra.invariant in
    rw (← c.tra.view_is, ← c.lab.view_is)
    (record {
      built = record {
        n = refl;
        scale = refl;
        rates = c.in_order-rates.ensures.same;
        order = IsInOrder-from_sorted _ _ tra.few_states tra.transitions tra.once c.in_order-rates.ensures.ascending;
        names = refl;
        marks = refl;
        rewards = refl;
        same_chain =
            λ s t. sum_by-IsPermutation (λ (r : Rate). cond ((r.from == s) && (r.to == t)) r.rate 0) _ _ c.in_order-rates.ensures.same;
      };
    })
