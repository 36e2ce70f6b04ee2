use Rattle.std.proofs.Common.{map, string_bytes}
use Rattle.clap.specs.Matches.{found_of}
use Rattle.command_words.proofs.HeldCommand.{read_in_range, read_is_said}
use Rattle.command_words.proofs.reading.read_words.Goals as goal

pub returns-clause-command : goal.returns-clause-command
returns-clause-command c =
    read_is_said (map string_bytes c.args.words.now) (c.are_command.ensures.0 c.if-not-are_command.false) (found_of c.in-Ok.matches)
    c.in-Ok.ensures.found c.in_ok-read_command.field-0 c.in_ok-read_command.ensures

pub returns-clause-range : goal.returns-clause-range
returns-clause-range c =
    read_in_range (map string_bytes c.args.words.now) (c.are_command.ensures.0 c.if-not-are_command.false) (found_of c.in-Ok.matches)
    c.in-Ok.ensures.found c.in_ok-read_command.field-0 c.in_ok-read_command.ensures
