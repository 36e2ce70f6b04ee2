use Rattle.std.proofs.Common.{◌∙◌}
use Rattle.round_out.specs.declared.entry.Entry.{Entry}
use Rattle.tighten_step.proofs.LoadedWords.{words_lower, words_upper, words_then, lower_is_noted, upper_is_noted, lower_stays_noted}
use Rattle.tighten_step.proofs.OneEntry.{one_in, low_one, high_one}
use Rattle.tighten_step.specs.Quotients.{lists_of}
use Rattle.tighten_step.proofs.quotients.both_quotients.Goals as goal

pub returns-in-len1-clause-knows : goal.returns-in-len1-clause-knows
returns-in-len1-clause-knows c =
    let b = c.args.board.now in
    let k = c.args.k in
    let p = c.args.pass.now in
    let row = lists_of c.args.row.now in
    let d : Entry = record { to = 0; num = 0 } in
    let one = c.load_lower-low in
    let two = c.load_upper-high in
    let some = c.in-len1.len_at_least in
    let only = c.in-len1.len_below in
    let le = c.requires.layer in
    let t_in = one_in b p two.new.pass k two.result row d c.requires.row some only in
    let half = words_lower b p one.new.pass k _ one.result le t_in one.ensures.knows one.ensures.notes in
    words_then b p one.new.pass two.new.pass half
    (words_upper b one.new.pass two.new.pass k _ two.result le t_in two.ensures.knows two.ensures.notes)

pub returns-in-len1-clause-low : goal.returns-in-len1-clause-low
returns-in-len1-clause-low c =
    let b = c.args.board.now in
    let k = c.args.k in
    let p = c.args.pass.now in
    let row = lists_of c.args.row.now in
    let d : Entry = record { to = 0; num = 0 } in
    let one = c.load_lower-low in
    let two = c.load_upper-high in
    let some = c.in-len1.len_at_least in
    let only = c.in-len1.len_below in
    let le = c.requires.layer in
    let t_in = one_in b p two.new.pass k two.result row d c.requires.row some only in
    low_one b p two.new.pass k one.result row d c.requires.row some only
    (lower_stays_noted b one.new.pass two.new.pass k _ two.result le t_in two.ensures.knows two.ensures.notes k _ le t_in
    ∙ lower_is_noted b p one.new.pass k _ one.result le t_in one.ensures.knows one.ensures.notes c.requires.pass)
    one.ensures.sealed

pub returns-in-len1-clause-high : goal.returns-in-len1-clause-high
returns-in-len1-clause-high c =
    let b = c.args.board.now in
    let k = c.args.k in
    let p = c.args.pass.now in
    let row = lists_of c.args.row.now in
    let d : Entry = record { to = 0; num = 0 } in
    let one = c.load_lower-low in
    let two = c.load_upper-high in
    let some = c.in-len1.len_at_least in
    let only = c.in-len1.len_below in
    let le = c.requires.layer in
    let t_in = one_in b p two.new.pass k two.result row d c.requires.row some only in
    let half = words_lower b p one.new.pass k _ one.result le t_in one.ensures.knows one.ensures.notes in
    high_one b p two.new.pass k two.result row d c.requires.row some only
    (upper_is_noted b one.new.pass two.new.pass k _ two.result le t_in two.ensures.knows two.ensures.notes half.knows.pass)
    (λ on. two.ensures.sealed (half.seals k _ ∙ on))
