-- Jumps lead to the goal from the states from which a walk does.
use Rattle.std.proofs.Common.{ℕ, ◌+◌, ◌<◌, Bool, true, false, cond, List, [], ◌∷◌, length, ◌∙◌, inl, inr, arith}
use Rattle.std.proofs.lemmas.Bool.{cases_Bool}
use Rattle.std.proofs.lemmas.List.Elements.{All-head, All-tail}
use Rattle.std.proofs.lemmas.List.Sums.{sum_by-cons}
use Rattle.std.specs.List.{All}
use Rattle.std.specs.Prelude.{◌↔◌, ◌==◌}
use Rattle.ctmc_semantics.specs.Sets.{holds_at}
use Rattle.graph_reach.specs.Sources.{count_to, IsLinked, IsJump}
use Rattle.graph_reach.specs.Search.{Leads, at_goal, onward, TellsLeads}
use Rattle.graph_reach.proofs.SearchLemmas.{state_of}
use Rattle.round_out.specs.declared.entry.Entry.{Entry}
use Rattle.step_core.specs.FrameLists.{FrameLists}
use Rattle.step_core.specs.FrameRows.{row_at, number_to}
use Rattle.step_core.specs.Reach.{CanReach, TellsReach}
use Rattle.step_core.specs.SoundFrame.{IsSoundFrame}
use Rattle.step_core.specs.Walk.{arrives, goes}

-- entries of positive numbers lead to a target exactly where their numbers to it are positive
counted_by_number : (b : Bool) (num count number : ℕ) → 0 < num → ((0 < count) ↔ (0 < number))
    → (0 < cond b 1 0 + count) ↔ (0 < cond b num 0 + number)
counted_by_number true num count number some rest = (λ h. omega (arith, some), λ h. omega arith)
counted_by_number false num count number some rest = (
  λ h. (let l = rest.0 (omega (arith, h)) in omega (arith, l)),
  λ h. (let l = rest.1 (omega (arith, h)) in omega (arith, l)),
)

counted : (es : List Entry) (t : ℕ) → All (λ e. 0 < e.num) es → (0 < count_to es t) ↔ (0 < number_to es t)
counted [] t numbers = (λ h. h, λ h. h)
counted (e ∷ es) t numbers =
    rw (sum_by-cons (λ (f : Entry). cond (f.to == t) 1 0) e es, sum_by-cons (λ (f : Entry). cond (f.to == t) f.num 0) e es)
    (counted_by_number (e.to == t) e.num (count_to es t) (number_to es t) (All-head (λ (f : Entry). 0 < f.num) e es numbers)
    (counted es t (All-tail (λ (f : Entry). 0 < f.num) e es numbers)))

module _ (frame : FrameLists) (sound : IsSoundFrame frame) (starts ends states : List ℕ)
    (exact : (s t : ℕ) → t < length frame.rows → IsLinked starts ends states s t
    ↔ IsJump frame.rows frame.sets.live_may frame.sets.goal_may s t) where
  row_counted : (s t : ℕ) → s < length frame.rows
      → (0 < count_to (row_at frame.rows s).entries t) ↔ (0 < number_to (row_at frame.rows s).entries t)
  row_counted s t inside = counted (row_at frame.rows s).entries t (sound.rows s record { den = 0; entries = [] } inside).numbers

  -- only from states do jumps lead to the goal
  leads_inside : {s : ℕ} → Leads starts ends states frame.sets.goal_may s → s < length frame.rows
  leads_inside (at_goal {s} won) = omega (arith, state_of frame.sets.goal_may s won, sound.sets.goal_may_states)
  leads_inside (onward {s} {t} linked rest) = ((exact s t (leads_inside rest)).0 linked).state

  walk_of : {s : ℕ} → Leads starts ends states frame.sets.goal_may s → CanReach frame s
  walk_of (at_goal won) = arrives won
  walk_of (onward {s} {t} linked rest) =
      let inside = leads_inside rest in
      let jump = (exact s t inside).0 linked in
      goes jump.is_live inside ((row_counted s t jump.state).0 jump.listed) (walk_of rest)

  -- a state of the goal needs no jump
  leads_of : {s : ℕ} → s < length frame.rows → CanReach frame s → Leads starts ends states frame.sets.goal_may s
  leads_of inside (arrives won) = at_goal won
  leads_of inside (goes {s} {t} is_live target positive walk) =
      elim (cases_Bool (holds_at frame.sets.goal_may s)) [
        | inl won ↦ at_goal won
        | inr not_goal ↦ (
            onward
            ((exact s t target).1
            record { state = inside; is_live = is_live; not_goal = not_goal; listed = (row_counted s t inside).1 positive })
            (leads_of target walk))
      ]

  pub tells : (reach : List Bool) → TellsLeads starts ends states frame.sets.goal_may reach → TellsReach frame reach
  tells reach found = record {
    states = found.as_long ∙ sound.sets.goal_may_states;
    exact = λ s inside. (λ h. walk_of ((found.exact s).0 h), λ walk. (found.exact s).1 (leads_of inside walk));
  }
