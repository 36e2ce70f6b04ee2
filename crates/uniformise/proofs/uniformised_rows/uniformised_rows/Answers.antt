use Rattle.std.proofs.Common.{List, [], ◌∷◌, ◌++◌, ◌∙◌, ◌≡◌, ap, length, length-append, sym, subst, All, arith}
use Rattle.std.proofs.lemmas.List.Elements.{All-push}
use Rattle.ctmc_semantics.proofs.UniformLemmas.{exit_le_uniform}
use Rattle.ctmc_semantics.specs.Uniformised.{uniformised}
use Rattle.model_core.specs.Model.{model_chain}
use Rattle.step_core.specs.FrameLists.{RowLists}
use Rattle.step_core.specs.FrameRows.{number_to, row_at}
use Rattle.step_core.specs.SoundFrame.{IsSoundRow}
use Rattle.uniformise.proofs.UniformRows.{one_row, rows_stand, uniform_number}
use Rattle.uniformise.proofs.uniformised_rows.uniformised_rows.Goals as goal

pub jump_row-requires-clause-within : goal.jump_row-requires-clause-within
jump_row-requires-clause-within c =
    omega (arith, exit_le_uniform (model_chain c.args.model.now) c.loop-s.s (omega (arith, c.loop-s-test.true, c.n-n.ensures.value)), c.requires.value)

pub loop-s-preserved : goal.loop-s-preserved
loop-s-preserved c =
    let model = c.args.model.now in
    let row : RowLists = c.in_ok-jump_row.field-0 in
    let rows : List RowLists = c.loop-s.rows.items in
    let grown : c.push.new.self.items ≡ rows ++ row ∷ [] = c.in_ok-push.ensures.items in
    record {
      states = omega (arith, ap length grown, length-append {A = RowLists}, c.loop-s.invariant.states);
      sound =
          subst (All (IsSoundRow model.n)) (sym grown)
          (All-push (IsSoundRow model.n) rows row c.loop-s.invariant.sound c.in_ok-jump_row.ensures.sound);
      divisors =
          subst (All (λ (r : RowLists). r.den ≡ c.args.uniform)) (sym grown)
          (All-push (λ (r : RowLists). r.den ≡ c.args.uniform) rows row c.loop-s.invariant.divisors
          c.in_ok-jump_row.ensures.divisor);
      numbers = λ i t l m.
          ap (λ (rs : List RowLists). number_to (row_at rs i).entries t) grown
          ∙ one_row model.n c.loop-s.s (uniformised (model_chain model)).weight rows row c.loop-s.invariant.states
          c.loop-s.invariant.numbers (λ t l. c.in_ok-jump_row.ensures.numbers t l ∙ uniform_number model c.args.uniform c.loop-s.s t c.requires.value) i t l m;
    }

pub returns-clause-stand : goal.returns-clause-stand
returns-clause-stand c =
    let model = c.args.model.now in
    rows_stand model c.args.uniform c.loop-s.rows.items (omega (arith, c.loop-s.invariant.states)) c.requires.value
    c.loop-s.invariant.sound c.loop-s.invariant.divisors
    (λ s t l m. c.loop-s.invariant.numbers s t (omega arith) m)
