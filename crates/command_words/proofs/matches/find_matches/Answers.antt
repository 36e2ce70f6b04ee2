use Rattle.std.proofs.Common.{◌∙◌, ap, map, string_bytes}
use Rattle.std.proofs.lemmas.Result.{IfErr-weaker, IfOk-weaker}
use Rattle.clap.specs.Simple.{App, app_of}
use Rattle.clap.specs.Takes.{takes}
use Rattle.command_words.proofs.FoundCommand.{holds_command, takes_command}
use Rattle.command_words.proofs.matches.find_matches.Goals as goal

pub returns-clause-found : goal.returns-clause-found
returns-clause-found c =
    let parse = c.try_get_matches_from in
    let words = map string_bytes c.args.words.now in
    IfOk-weaker parse.result _ _
    (λ m h. holds_command (app_of c.in_ok-command_of_clap.field-0) words m c.in_ok-command_of_clap.ensures h) parse.ensures.matches

pub returns-clause-memory : goal.returns-clause-memory
returns-clause-memory c =
    let parse = c.try_get_matches_from in
    let words = map string_bytes c.args.words.now in
    IfErr-weaker parse.result _ _
    (λ e h. h (ap (λ (a : App). takes a words) c.in_ok-command_of_clap.ensures ∙ takes_command words c.requires)) parse.ensures.passes
