use Rattle.std.proofs.Common.{◌≡◌, ◌+◌, ◌<◌, ◌∙◌, length, sym, subst, arith}
use Rattle.std.proofs.lemmas.Bool.{false≢true}
use Rattle.std.proofs.lemmas.List.{get_or_default}
use Rattle.step_core.specs.FrameRows.{row_at}
use Rattle.flat_rows.specs.AddedRow.{AddsRow}
use Rattle.flat_rows.specs.PlacedRow.{PlacedRow, HasPlace}
use Rattle.flat_rows.specs.RowsOf.{IsRowOf, IsFitRow, low_needs_row, high_needs_row}
use Rattle.flat_rows.proofs.Flattens.{more_places}
use Rattle.flat_rows.proofs.PlacedRows.{all_inserted, place_kept, place_added}
use Rattle.flat_rows.proofs.RowFractions.{fits_as}
use Rattle.flat_rows.proofs.flattening.flatten.Goals.{in-Some+in_ok-push, in_default}
use Rattle.flat_rows.proofs.flattening.flatten.Goals as goal

pub loop-place-preserved : goal.loop-place-preserved
loop-place-preserved c =
    let inv = c.loop-place.invariant in
    let rows = c.args.rows.now in
    let sets = c.args.sets.now in
    let reach = c.args.reach.now in
    let s = c.args.first + c.loop-place.place in
    let inside : s < length rows = omega (arith, c.loop-place-test.true, c.requires.inside) in
    elim c.match-sides_of.branch [
      | in-Some+in_ok-push w ↦ (
          let here : w.index-rows-state.result ≡ row_at rows s = w.index-rows-state.is ∙ get_or_default rows s _ _ inside in
          let adds = subst (λ r. AddsRow c.loop-place.place r w.in-Some.sides c.loop-place.flat w.push.new.self) here
          w.in_ok-push.ensures in
          let added : PlacedRow = record { place = c.loop-place.place; row = adds.added; sides = w.in-Some.sides } in
          let row : IsRowOf rows sets reach c.args.first c.args.count added =
          record { place = c.loop-place-test.true; fractions = adds.fractions; sides = w.in-Some.ensures.some } in
          let fit : IsFitRow (length rows) c.args.count added =
          record { fit = fits_as (length rows) adds.fractions (c.requires.rows s _ inside) adds.fits; place = c.loop-place-test.true } in
          rw w.flat-is
          (record {
            all_rows = all_inserted adds.inserts (IsRowOf rows sets reach c.args.first c.args.count) inv.all_rows row;
            fit = all_inserted adds.inserts (IsFitRow (length rows) c.args.count) inv.fit fit;
            low_place =
                more_places (λ p. low_needs_row sets reach (c.args.first + p)) (HasPlace w.push.new.self) c.loop-place.place
                (λ p l t. place_kept adds.inserts p (inv.low_place p l t)) (λ t. place_added adds.inserts);
            high_place =
                more_places (λ p. high_needs_row sets reach (c.args.first + p)) (HasPlace w.push.new.self) c.loop-place.place
                (λ p l t. place_kept adds.inserts p (inv.high_place p l t)) (λ t. place_added adds.inserts);
          }))
      | in_default w ↦ (
          let none = w.in_default.ensures.none in
          rw w.flat-is
          (record {
            all_rows = inv.all_rows;
            fit = inv.fit;
            low_place =
                more_places (λ p. low_needs_row sets reach (c.args.first + p)) (HasPlace c.loop-place.flat) c.loop-place.place
                inv.low_place (λ t. absurd (false≢true (sym none.0 ∙ t)));
            high_place =
                more_places (λ p. high_needs_row sets reach (c.args.first + p)) (HasPlace c.loop-place.flat) c.loop-place.place
                inv.high_place (λ t. absurd (false≢true (sym none.1 ∙ t)));
          }))
    ]
