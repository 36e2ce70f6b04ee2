use Rattle.std.proofs.Common.{Some, map, string_bytes, rules}
use Rattle.command_words.specs.Command.{spoken_by}
use Rattle.command_words.specs.Words.{AreCommand}
use Rattle.session.specs.Command.{names_of}
use Rattle.session.specs.Reading.{IsPrepared}
use Rattle.session.proofs.Readings.{none_asked}
use Rattle.session.proofs.Said.{read_say, say_some, told_say}
use Rattle.session.proofs.reading.prepare.Goals as goal

pub returns-in-Err-Memory-clause-untouched : goal.returns-in-Err-Memory-clause-untouched
returns-in-Err-Memory-clause-untouched g c =
    let are : AreCommand (map string_bytes c.args.words.now) = c.in-Err-Memory.ensures.memory cc in
    say_some (map string_bytes c.args.words.now) _ are (λ command. search rules)

pub returns-in-Err-Memory-clause-cause : goal.returns-in-Err-Memory-clause-cause
returns-in-Err-Memory-clause-cause g c =
    let are : AreCommand (map string_bytes c.args.words.now) = c.in-Err-Memory.ensures.memory cc in
    say_some (map string_bytes c.args.words.now) _ are (λ command. search rules)

pub returns-in-Err-Memory-clause-asked : goal.returns-in-Err-Memory-clause-asked
returns-in-Err-Memory-clause-asked g c =
    let are : AreCommand (map string_bytes c.args.words.now) = c.in-Err-Memory.ensures.memory cc in
    told_say (map string_bytes c.args.words.now) _ (g.F.Files.files c.args.files.now) (Some are.0) are.1
    (none_asked (g.F.Files.files c.args.files.now) (names_of (Some are.0)) (g.F.Files.asked c.args.files.now))

pub returns-clause-asked : goal.returns-clause-asked
returns-clause-asked g c =
    told_say (map string_bytes c.args.words.now) _ (g.F.Files.files c.args.files.now) (Some (spoken_by c.in-Ok.command))
    c.in-Ok.ensures.command c.read_named.ensures.asked

pub returns-clause-prepared : goal.returns-clause-prepared
returns-clause-prepared g c =
    read_say (map string_bytes c.args.words.now)
    (λ command prepared. IsPrepared command (g.F.Files.files c.args.files.now) (g.S.Source.left c.args.formulas.now)
    (g.S.Source.left c.read_named.new.formulas) prepared)
    (Some (spoken_by c.in-Ok.command)) c.read_named.result c.in-Ok.ensures.command c.read_named.ensures.prepared
