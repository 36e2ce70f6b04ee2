use Rattle.std.proofs.Common.{ℕ, length, ◌≤◌, ◌^◌, ◌∙◌, [], ◌∷◌, ◌++◌, ap, arith}
use Rattle.std.proofs.lemmas.List.Elements.{All-weaker}
use Rattle.flat_rows.specs.declared.long_row.LongRow.{LongRow}
use Rattle.flat_rows.specs.Fractions.{scaled_entries}
use Rattle.flat_rows.specs.Laid.{IsInside}
use Rattle.flat_rows.specs.PlacedRow.{PlacedRow}
use Rattle.flat_rows.proofs.EntryRanges.{row_pushed}
use Rattle.flat_rows.proofs.long_rows.LongRows.push.Goals as goal

pub returns : goal.returns
returns c =
    let n = length c.self.inside.entries.items in
    let moved = scaled_entries (2 ^ c.args.shift) c.args.entries.now in
    let placed : ℕ → PlacedRow = λ d. record { place = c.args.place; row = record { den = d; entries = moved }; sides = c.args.sides } in
    row_pushed (λ (r : LongRow). r.first) (λ (r : LongRow). r.end)
    (λ (r : LongRow) es. record { place = r.place; row = record { den = r.divisor; entries = es }; sides = r.sides })
    c.self.inside.entries.items moved c.push_scaled.new.all.items c.self.inside.rows.items c.push.new.self.items
    (record { place = c.args.place; sides = c.args.sides; divisor = c.new.result; first = c.len-first.result; end = c.len-end.result })
    (All-weaker (IsInside n) (λ r. (r.first ≤ r.end) × (r.end ≤ n)) (λ r is. (is.ordered, is.inside)) c.self.inside.rows.items
    c.self.invariant)
    c.in_ok-push_scaled.ensures.items c.in_ok-push.ensures.items
    (omega (arith, c.len-first.ensures, c.self.inside.entries.ok.0))
    (omega (arith, c.len-end.ensures, c.push_scaled.new.all.ok.0))
    ∙ (ap (λ z. z ++ placed c.new.result ∷ []) c.self.view_is ∙ ap (λ d. c.args.self.now ++ placed d ∷ []) c.new.ensures)
