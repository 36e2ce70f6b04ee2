use Rattle.std.proofs.Common.{◌≡◌, ◌<◌, ◌^◌, ◌≤◌, length, ap, sym, subst, ◌∙◌, rules, arith}
use Rattle.std.proofs.lemmas.List.{get_or_default}
use Rattle.std.proofs.lemmas.List.Elements.{All-set}
use Rattle.step_core.specs.declared.bracket.Bracket.{Bracket}
use Rattle.mix_columns.specs.Mixed.{plan_settle, words_of}
use Rattle.mix_columns.specs.SideBySide.{bracket_at}
use Rattle.window_engine.proofs.Settles.{settled_more, rest_stays}
use Rattle.window_engine.proofs.brackets.settle_all.Goals as goal

pub loop-state-preserved : goal.loop-state-preserved
loop-state-preserved c =
    let inv = c.loop-state.invariant in
    let old = c.loop-state.brackets.items in
    let n = c.loop-state.state in
    let inside : n < length old = omega (arith, inv.states, c.loop-state-test.true) in
    let read : c.index.result.now ≡ bracket_at c.args.brackets.items n =
    c.index.ensures ∙ get_or_default old n _ _ inside ∙ inv.rest n (omega arith) in
    let small_lower = subst (λ (b : Bracket). b.lower ≤ 2 ^ 62) (sym c.index.ensures) in
    let small_upper = subst (λ (b : Bracket). b.upper ≤ 2 ^ 62) (sym c.index.ensures) in
    record {
      states = search rules;
      done =
          settled_more c.args.plan.now c.args.brackets.items old n c.settle-settled.result inside inv.done
          (c.settle-settled.ensures.words ∙ ap (λ b. plan_settle c.args.plan.now n (words_of b)) read);
      rest = rest_stays c.args.plan.now c.args.brackets.items old n c.settle-settled.result inside inv.rest;
      lower =
          All-set (λ (b : Bracket). b.lower ≤ 2 ^ 62) old n c.settle-settled.result
          (c.settle-settled.ensures.lower (small_lower (inv.lower n c.index.result.now inside))) inv.lower;
      upper =
          All-set (λ (b : Bracket). b.upper ≤ 2 ^ 62) old n c.settle-settled.result
          (c.settle-settled.ensures.upper (small_upper (inv.upper n c.index.result.now inside))) inv.upper;
    }
