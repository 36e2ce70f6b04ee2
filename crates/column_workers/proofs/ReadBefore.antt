-- Brackets that a pass read after it had learned more.
use Rattle.std.proofs.Common.{ℕ, List}
use Rattle.column_workers.proofs.TakenLemmas.{encloses_then}
use Rattle.reader_pass.proofs.NotedLemmas.{narrower}
use Rattle.reader_pass.specs.StateBrackets.{AreRead}
use Rattle.step_core.specs.BoardRule.{NoWorse}
use Rattle.step_core.specs.Limits.{sizes_of}
use Rattle.step_core.specs.PlanLists.{PlanLists}
use Rattle.step_core.specs.SoundPlan.{IsSoundPlan}
use Rattle.step_core.specs.declared.bracket.Bracket.{Bracket}

-- they lie in what it knew before
pub read_before : (plan : PlanLists) (notes better : List ℕ) (brackets : List Bracket) → IsSoundPlan plan
    → NoWorse (sizes_of plan) notes better → AreRead plan better brackets → AreRead plan notes brackets
read_before plan notes better brackets sound worse read = record {
  each_state = read.each_state;
  words = λ s lt. (let is = read.words s lt in
      record {
        contains = is.contains;
        encloses = is.encloses;
        settled = is.settled;
        inside = encloses_then _ _ _ (narrower plan s lt sound notes better worse) is.inside;
      });
  lower_words = read.lower_words;
  upper_words = read.upper_words;
}
