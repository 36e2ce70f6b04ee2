use Rattle.std.proofs.Common.{Ok, IfSome, subst}
use Rattle.command_words.specs.Command.{spoken_by}
use Rattle.session.specs.Reading.{AsksForModel}
use Rattle.session.proofs.Said.{asks_before}
use Rattle.session.proofs.reading.read_named.Goals as goal

pub returns-in-Built-clause-asked : goal.returns-in-Built-clause-asked
returns-in-Built-clause-asked g c =
    let spoken = spoken_by c.args.command.now in
    let files = g.F.Files.files c.args.files.now in
    let old = g.F.Files.asked c.args.files.now in
    let new = g.F.Files.asked c.read_model.new.files in
    asks_before files spoken c.in-Built.model c.args.command.now.options _ _ c.read_input.result old new c.read_input.ensures.input
    (subst (λ r. IfSome files (λ _. AsksForModel spoken (Ok r) old new)) c.in-Built.is c.in_ok-fault.ensures.asked)
