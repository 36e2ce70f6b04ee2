use Rattle.std.proofs.Common.{◌≡◌, ℕ, length, ◌*◌, ◌≤◌, ◌^◌, ◌∙◌, [], ◌∷◌, ◌++◌, ap, arith}
use Rattle.std.proofs.lemmas.List.Elements.{All-weaker}
use Rattle.flat_rows.specs.declared.laid_row.LaidRow.{LaidRow}
use Rattle.flat_rows.specs.Fractions.{scaled_entries}
use Rattle.flat_rows.specs.Laid.{LiesInside}
use Rattle.flat_rows.specs.StateRows.{StateRowLists}
use Rattle.flat_rows.proofs.EntryRanges.{row_pushed}
use Rattle.flat_rows.proofs.ReadyRows.{scaled_quotients, scaled_whole}
use Rattle.flat_rows.proofs.state_rows.StateRows.push.Goals as goal

pub returns : goal.returns
returns c =
    let row = c.args.row.now in
    let k : ℕ = 2 ^ c.shift_of-shift.result in
    let den : ℕ = c.scaled_den-den.result in
    let n = length c.self.inside.entries.items in
    let is_den : den ≡ row.den * k = c.scaled_den-den.ensures ∙ ap (λ r. r.den * k) c.row.view_is in
    let moved = scaled_entries k row.entries in
    let ready : ℕ → StateRowLists = λ d. record { low = c.args.low; high = c.args.high; row = record { den = d; entries = moved } } in
    record {
      added = record { den = den; entries = moved };
      same = scaled_quotients k den row is_den;
      whole = scaled_whole k den row is_den c.requires.whole;
      full = omega (arith, c.scaled_den-den.ensures, c.shift_of-shift.ensures.full);
      fits = omega (arith, c.scaled_den-den.ensures, c.shift_of-shift.ensures.fits);
      rows = row_pushed (λ (r : LaidRow). r.first) (λ (r : LaidRow). r.end)
          (λ (r : LaidRow) es. record { low = r.low; high = r.high; row = record { den = r.divisor; entries = es } })
          c.self.inside.entries.items moved c.push_scaled.new.all.items c.self.inside.rows.items c.push.new.self.items
          (record { low = c.args.low; high = c.args.high; divisor = c.new.result; first = c.len-first.result; end = c.len-end.result })
          (All-weaker (LiesInside n) (λ r. (r.first ≤ r.end) × (r.end ≤ n)) (λ r is. (is.ordered, is.inside)) c.self.inside.rows.items
          c.self.invariant)
          (c.in_ok-push_scaled.ensures.items
          ∙ ap (λ es. c.self.inside.entries.items ++ scaled_entries k es) (c.deref.ensures.value ∙ ap (λ r. r.entries) c.row.view_is))
          c.in_ok-push.ensures.items
          (omega (arith, c.len-first.ensures, c.self.inside.entries.ok.0))
          (omega (arith, c.len-end.ensures, c.push_scaled.new.all.ok.0))
          ∙ (ap (λ z. z ++ ready c.new.result ∷ []) c.self.view_is ∙ ap (λ d. c.args.self.now ++ ready d ∷ []) c.new.ensures);
    }
