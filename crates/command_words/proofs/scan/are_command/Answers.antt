use Rattle.std.proofs.Common.{map, string_bytes}
use Rattle.command_words.proofs.CommandLemmas.{after_first_word, opening_parts, parts_of_command}
use Rattle.command_words.proofs.scan.are_command.Goals as goal

pub returns : goal.returns
returns c =
    let words = map string_bytes c.args.words.now in
    let rest = after_first_word string_bytes c.args.words.now in
    let whole = rw rest at c.complete.ensures in
    (λ yes. opening_parts words (whole.0 yes), λ is. whole.1 (parts_of_command words is))
