use Rattle.std.proofs.Common.{◌≡◌, ℕ, Bool, List, [], length, ◌∙◌, ap, sym, subst}
use Rattle.atomic_table.specs.Table.{opening, Me}
use Rattle.flat_rows.specs.StateRows.{StateRowLists, AreStateRows}
use Rattle.step_core.specs.FrameLists.{RowLists, SetLists}
use Rattle.bound_grid.specs.Notes.{AreNotes}
use Rattle.bound_grid.specs.PassView.{PassView, first_view}
use Rattle.bound_grid.specs.TableRule.{IsKept}
use Rattle.step_core.specs.CoreLists.{stop_at}
use Rattle.step_core.specs.Limits.{sizes_of}
use Rattle.step_core.proofs.OpeningLemmas.{length-opening_words, first_stop}
use Rattle.bound_grid.proofs.KeptLemmas.{kept_first}
use Rattle.bound_grid.proofs.NoteLemmas.{notes_first}
use Rattle.bound_grid.proofs.board.Board.open.Goals as goal

-- of the same lists
same_rows : {rows rows' : List RowLists} {sets sets' : SetLists} {reach reach' : List Bool} {ready : List StateRowLists} → rows ≡ rows'
    → sets ≡ sets' → reach ≡ reach' → AreStateRows rows sets reach ready → AreStateRows rows' sets' reach' ready
same_rows {rows} {rows'} {sets} {sets'} {reach} {reach'} {ready} e f g are =
    subst (λ x. AreStateRows x sets' reach' ready) e
    (subst (λ x. AreStateRows rows x reach' ready) f (subst (λ x. AreStateRows rows sets x ready) g are))

pub of_words-requires : goal.of_words-requires
of_words-requires c =
    subst (λ (ws : List ℕ). IsKept c.args.plan (opening ws [] (first_view c.args.plan)))
    (sym (c.as_slice.ensures.value ∙ c.in_ok-words.ensures)) (kept_first c.args.plan c.requires.sound [])

pub invariant_of-board : goal.invariant_of-board
invariant_of-board c =
    let made = c.in_ok-table.ensures in
    record {
      made =
          let rows = c.deref.ensures.value ∙ (ap (λ p. p.frame.rows) c.plan-inside.view_is ∙ ap (λ p. p.frame.rows) c.plan.view_is) in
          let sets = ap (λ p. p.frame.sets) c.plan-inside.view_is ∙ ap (λ p. p.frame.sets) c.plan.view_is in
          let reach = c.deref-2.ensures.value ∙ (ap (λ p. p.reach.items) c.plan-inside.view_is ∙ ap (λ p. p.reach) c.plan.view_is) in
          same_rows rows sets reach c.in_ok-rows.ensures;
      laid = c.of-layout.ensures;
      keyed = made.5;
      sized = made.0 ∙ (ap (λ (ws : List ℕ). length ws) (c.as_slice.ensures.value ∙ c.in_ok-words.ensures)
          ∙ length-opening_words c.args.plan c.requires.sound);
      few = c.requires.cells;
    }

pub returns-clause-pass : goal.returns-clause-pass
returns-clause-pass c =
    let made = c.in_ok-table.ensures in
    let words = ap (λ (m : Me ℕ PassView). m.0.notes) made.4 in
    record {
      table = made.2;
      live = ap (λ (m : Me ℕ PassView). m.0.live) made.4;
      sizes = ap (λ (m : Me ℕ PassView). m.0.sizes) made.4;
      limits = ap (λ (m : Me ℕ PassView). m.0.limits) made.4;
      notes = subst (AreNotes c.args.plan) (sym words) (notes_first c.args.plan c.requires.sound);
    }

pub returns-clause-tickets : goal.returns-clause-tickets
returns-clause-tickets c = ap (λ (m : Me ℕ PassView). m.0.tickets) c.in_ok-table.ensures.4

pub returns-clause-draws : goal.returns-clause-draws
returns-clause-draws c = ap (λ (m : Me ℕ PassView). m.0.draws) c.in_ok-table.ensures.4

pub returns-clause-stop : goal.returns-clause-stop
returns-clause-stop c =
    ap (λ (m : Me ℕ PassView). stop_at (sizes_of c.args.plan) m.0.notes) c.in_ok-table.ensures.4 ∙ first_stop c.args.plan c.requires.sound
