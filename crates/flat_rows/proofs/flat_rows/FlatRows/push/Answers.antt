use Rattle.std.proofs.Common.{◌^◌, ◌<◌, ◌++◌, subst, map, arith}
use Rattle.std.proofs.lemmas.Nat.{pow_pos}
use Rattle.flat_rows.specs.AddedRow.{AddsRow}
use Rattle.flat_rows.specs.Fractions.{scaled_entries}
use Rattle.flat_rows.specs.Laid.{sure_row}
use Rattle.flat_rows.specs.declared.sides.Sides.TheVariants.{Both}
use Rattle.flat_rows.proofs.Additions.{inserts_end, adds_as_is, adds_unscaled}
use Rattle.flat_rows.proofs.PlacedRows.{inserts_after}
use Rattle.flat_rows.proofs.flat_rows.FlatRows.push.Goals as goal

pub returns-in_ok-push_both-in-Both : goal.returns-in_ok-push_both-in-Both
returns-in_ok-push_both-in-Both c =
    let den = c.scaled_den-den.result in
    let shift = c.shift_of-shift.result in
    let adds = subst
    (λ es. AddsRow c.args.place (record { den = den; entries = scaled_entries (2 ^ shift) es }) Both c.args.self.now c.push_both.new.self)
    c.deref.ensures.value c.in_ok-push_both-in-Both.ensures in
    subst (λ r. AddsRow c.args.place r c.args.sides c.args.self.now c.push_both.new.self) c.row.view_is
    (rw c.in-Both.is (adds_unscaled (pow_pos shift) c.scaled_den-den.ensures adds))

pub returns-in_ok-push-in-Low : goal.returns-in_ok-push-in-Low
returns-in_ok-push-in-Low c =
    let den = c.scaled_den-den.result in
    let shift = c.shift_of-shift.result in
    let new = map sure_row c.self.inside.ones.items ++ (c.self.inside.shorts.rows ++ c.push.new.self) in
    let fits : den < 2 ^ 63 = omega (arith, c.scaled_den-den.ensures, c.shift_of-shift.ensures.fits) in
    let inserts = inserts_after (map sure_row c.self.inside.ones.items)
    (inserts_after c.self.inside.shorts.rows (inserts_end c.in_ok-push-in-Low.ensures)) in
    let adds = subst
    (λ es. AddsRow c.args.place (record { den = den; entries = scaled_entries (2 ^ shift) es }) c.args.sides c.args.self.now new)
    c.deref-in-Low.ensures.value (adds_as_is fits c.self.view_is inserts) in
    subst (λ r. AddsRow c.args.place r c.args.sides c.args.self.now new) c.row.view_is
    (adds_unscaled (pow_pos shift) c.scaled_den-den.ensures adds)
