use Rattle.std.proofs.Common.{◌≡◌, ℕ, ◌+◌, ◌<◌, List, [], ◌∷◌, ◌++◌, All, ap, sym, subst, length, length-append, arith}
use Rattle.std.proofs.lemmas.List.Elements.{All-push}
use Rattle.model_core.specs.Model.{model_chain}
use Rattle.step_core.specs.FrameLists.{RowLists}
use Rattle.step_core.specs.FrameRows.{number_to, row_at}
use Rattle.step_core.specs.SoundFrame.{IsSoundRow}
use Rattle.uniformise.specs.JumpRow.{jump_number}
use Rattle.reward_dual.specs.Deciding.{row_factor, row_total}
use Rattle.reward_dual.proofs.DualRows.{dual_rows_stand, one_more}
use Rattle.reward_dual.proofs.dual_rows.dual_frame.Goals as goal

pub loop-s-preserved : goal.loop-s-preserved
loop-s-preserved c =
    let model = c.args.model.now in
    let chain = model_chain model in
    let row : RowLists = c.in_ok-dual_row.field-0 in
    let rows : List RowLists = c.loop-s.rows.items in
    let so_far = c.loop-s.invariant in
    let more = c.in_ok-dual_row.ensures in
    let grown : c.push.new.self.items ≡ rows ++ row ∷ [] = c.in_ok-push.ensures.items in
    record {
      states = omega (arith, ap length grown, length-append {A = RowLists}, so_far.states);
      sound = subst (All (IsSoundRow model.n)) (sym grown) (All-push (IsSoundRow model.n) rows row so_far.sound more.sound);
      divisors = λ rewards e.
          subst (λ (rs : List RowLists). (s : ℕ) → s < c.loop-s.s + 1 → (row_at rs s).den ≡ row_total chain rewards.reward s) (sym grown)
          (one_more (λ s r. r.den ≡ row_total chain rewards.reward s) rows row c.loop-s.s so_far.states (so_far.divisors rewards e)
          (more.divisor rewards e));
      numbers = λ rewards e s t l m.
          subst (λ (rs : List RowLists). number_to (row_at rs s).entries t
          ≡ jump_number chain (row_factor chain rewards.reward) (row_total chain rewards.reward s) s t) (sym grown)
          (one_more
          (λ s r. number_to r.entries t ≡ jump_number chain (row_factor chain rewards.reward) (row_total chain rewards.reward s) s t)
          rows row c.loop-s.s so_far.states (λ i k. so_far.numbers rewards e i t k m) (more.numbers rewards e t m) s l);
    }

pub returns-clause-stand : goal.returns-clause-stand
returns-clause-stand c = λ rewards e.
    let model = c.args.model.now in
    let end : c.loop-s.s ≡ model.n = omega (arith, c.loop-s-test.false, c.loop-s.auto.s-end, c.n-n.ensures.value) in
    let states : length c.loop-s.rows.items ≡ model.n = omega (arith, end, c.loop-s.invariant.states) in
    dual_rows_stand (model_chain model) rewards.reward (omega (arith, c.n-n.ensures.some, c.n-n.ensures.value))
    (c.requires.makes rewards e).positive c.loop-s.rows.items states
    (λ s l. c.loop-s.invariant.divisors rewards e s (omega (arith, l, end)))
    (λ s t l m. c.loop-s.invariant.numbers rewards e s t (omega (arith, l, end)) m)
