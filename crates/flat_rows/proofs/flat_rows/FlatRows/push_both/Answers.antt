use Rattle.std.proofs.Common.{◌≡◌, ◌^◌, ◌++◌, subst, map, arith}
use Rattle.flat_rows.specs.AddedRow.{InsertsRow}
use Rattle.flat_rows.specs.Fractions.{scaled_entries}
use Rattle.flat_rows.specs.Laid.{sure_row}
use Rattle.flat_rows.specs.declared.sides.Sides.TheVariants.{Both}
use Rattle.flat_rows.proofs.Additions.{inserts_end, adds_as_is, adds_sure}
use Rattle.flat_rows.proofs.PlacedRows.{inserts_after, inserts_before, inserts_pushed}
use Rattle.flat_rows.proofs.flat_rows.FlatRows.push_both.Goals as goal

pub returns-in_ok-push : goal.returns-in_ok-push
returns-in_ok-push c =
    adds_sure c.args.entries.now (2 ^ c.args.shift) (record { to = 0; num = 0 }) c.in-len1.len_at_least c.in-len1.len_below
    (omega (arith, c.requires.full)) c.requires.whole c.self.view_is
    (inserts_before (c.self.inside.shorts.rows ++ c.self.inside.longs)
    (inserts_pushed sure_row c.self.inside.ones.items c.push.new.self.items _ c.in_ok-push.ensures.items))

pub returns-in_ok-push-2 : goal.returns-in_ok-push-2
returns-in_ok-push-2 c =
    let moved = scaled_entries (2 ^ c.args.shift) c.args.entries.now in
    let same : c.self.inside.shorts.den ≡ c.args.den = omega (arith, c.if-den.true, c.den.ensures) in
    adds_as_is c.requires.full_fits c.self.view_is
    (inserts_after (map sure_row c.self.inside.ones.items)
    (inserts_before c.self.inside.longs
    (subst (λ d. InsertsRow
    (record { place = c.args.place; row = record { den = d; entries = moved }; sides = Both })
    c.self.inside.shorts.rows c.push-then-den.new.self.rows) same c.in_ok-push-2.ensures)))

pub returns-in_ok-push-3 : goal.returns-in_ok-push-3
returns-in_ok-push-3 c =
    adds_as_is c.requires.full_fits c.self.view_is
    (inserts_after (map sure_row c.self.inside.ones.items) (inserts_after c.self.inside.shorts.rows (inserts_end c.in_ok-push-3.ensures)))
