use Rattle.std.proofs.Common.{get_or, sym, arith}
use Rattle.decimal_text.proofs.Scales.{greatest-none}
use Rattle.text_lines.proofs.EntryScales.{scale-more, same-decimals}
use Rattle.text_lines.proofs.entry_line.scale_of.Goals as goal
use Rattle.text_lines.proofs.entry_line.scale_of.Goals.{then-entry-most, else-entry-most}

pub loop-entry-init : goal.loop-entry-init
loop-entry-init g c = sym greatest-none

pub loop-entry-preserved : goal.loop-entry-preserved
loop-entry-preserved g c =
    let entries = c.args.entries.now in
    let i = c.loop-entry.entry-index in
    let e = c.entry-item.result in
    let more = scale-more {K = g.row.K.Denot} entries i e c.loop-entry-test.true in
    let there = same-decimals {K = g.row.K.Denot} e (get_or entries i e) c.entry-item.is in
    elim c.if-entry-most.branch [
      | then-entry-most w ↦ omega (arith, c.loop-entry.invariant, more, there)
      | else-entry-most w ↦ omega (arith, c.loop-entry.invariant, more, there)
    ]
