use Rattle.round_out.specs.declared.entry.Entry.{Entry}
use Rattle.tighten_step.proofs.LoadedWords.{words_lower, lower_is_noted}
use Rattle.tighten_step.proofs.OneEntry.{one_in, low_one}
use Rattle.tighten_step.specs.Quotients.{lists_of}
use Rattle.tighten_step.proofs.quotients.low_quotient.Goals as goal

pub returns-in-len1-clause-knows : goal.returns-in-len1-clause-knows
returns-in-len1-clause-knows c =
    let b = c.args.board.now in
    let row = lists_of c.args.row.now in
    let d : Entry = record { to = 0; num = 0 } in
    let load = c.load_lower in
    let t_in = one_in b c.args.pass.now load.new.pass c.args.k load.result row d c.requires.row c.in-len1.len_at_least
    c.in-len1.len_below in
    words_lower b c.args.pass.now load.new.pass c.args.k _ load.result c.requires.layer t_in load.ensures.knows load.ensures.notes

pub returns-in-len1-clause-quotient : goal.returns-in-len1-clause-quotient
returns-in-len1-clause-quotient c =
    let b = c.args.board.now in
    let row = lists_of c.args.row.now in
    let d : Entry = record { to = 0; num = 0 } in
    let load = c.load_lower in
    let t_in = one_in b c.args.pass.now load.new.pass c.args.k load.result row d c.requires.row c.in-len1.len_at_least
    c.in-len1.len_below in
    low_one b c.args.pass.now load.new.pass c.args.k load.result row d c.requires.row c.in-len1.len_at_least c.in-len1.len_below
    (lower_is_noted b c.args.pass.now load.new.pass c.args.k _ load.result c.requires.layer t_in load.ensures.knows load.ensures.notes
    c.requires.pass)
    load.ensures.sealed
