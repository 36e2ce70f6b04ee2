use Rattle.std.proofs.Common.{◌<◌, ◌^◌, ◌≤◌, ℕ, List, length, sym, subst, rules, arith}
use Rattle.std.proofs.lemmas.List.Elements.{All-push}
use Rattle.step_core.specs.declared.bracket.Bracket.{Bracket}
use Rattle.mix_columns.specs.MixNumbers.{StandsFor}
use Rattle.mix_columns.proofs.SideLemmas.{mixes_more}
use Rattle.mix_columns.proofs.mixers.Mixers.finish.Goals as goal

pub finish-requires-clause-stands : goal.finish-requires-clause-stands
finish-requires-clause-stands c =
    let inside : c.loop-state.state < length c.args.self = omega (arith, c.loop-state-test.true, c.states-states.ensures) in
    subst (λ m. (xs ys : List ℕ) × StandsFor c.args.plan.now m xs ys) (sym c.mixer.ensures)
    (c.requires.stand c.loop-state.state inside)

pub loop-state-preserved : goal.loop-state-preserved
loop-state-preserved c =
    let inv = c.loop-state.invariant in
    record {
      states = search rules;
      mixes =
          rw c.in_ok-push.ensures.items
          (mixes_more c.args.plan.now c.args.self c.loop-state.brackets.items c.loop-state.state c.finish.result _ inv.states inv.mixes
          c.mixer.ensures c.finish.ensures.mix);
      lower =
          rw c.in_ok-push.ensures.items
          (All-push (λ (b : Bracket). b.lower ≤ 2 ^ 62) c.loop-state.brackets.items c.finish.result inv.lower c.finish.ensures.lower);
      upper =
          rw c.in_ok-push.ensures.items
          (All-push (λ (b : Bracket). b.upper ≤ 2 ^ 62) c.loop-state.brackets.items c.finish.result inv.upper c.finish.ensures.upper);
    }
