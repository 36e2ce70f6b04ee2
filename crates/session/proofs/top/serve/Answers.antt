use Rattle.std.proofs.Common.{◌≡◌, inr, map, string_bytes, refl, rules, Ok}
use Rattle.session.specs.Command.{names_of}
use Rattle.session.specs.Reading.{AsksBefore}
use Rattle.session.specs.Serve.{AsksBy, AsksFor}
use Rattle.session.specs.declared.status.Status.TheVariants as status
use Rattle.session.specs.declared.status.Fault.TheVariants.{Read}
use Rattle.session.proofs.Served.{outcome_is, answers_exactly, lost_or, told, asked_then, asked_for_status, front_asked, fault_told, usage_alone, cut_short, cause_so}
use Rattle.session.proofs.top.serve.Goals as goal

pub returns-in-Err-Read-clause-read : goal.returns-in-Err-Read-clause-read
returns-in-Err-Read-clause-read g c =
    cause_so (map string_bytes c.args.words.now) _ _ _ _ _ _ (status.Outside Read ≡ status.Outside Read) (λ _. search rules) (λ _. refl)
    c.in-Err-Read.ensures.cause

pub returns-in-Ok-say-clause-exact : goal.returns-in-Ok-say-clause-exact
returns-in-Ok-say-clause-exact g c = λ answering.
    let words = map string_bytes c.args.words.now in
    let w = c.in-Ok-say.ensures.written in
    answers_exactly words _ _ _ _ _ c.in-Ok-say.status w.outcome
    (outcome_is _ _ _ words c.in-Ok.prepared w.outcome c.in-Ok.ensures.prepared w.said) w.is_status w.written answering

pub returns-in-Ok-say-clause-reason : goal.returns-in-Ok-say-clause-reason
returns-in-Ok-say-clause-reason g c =
    let words = map string_bytes c.args.words.now in
    let w = c.in-Ok-say.ensures.written in
    lost_or c.in-Ok-say.status _
    (record {
      outcome = w.outcome;
      is_outcome = outcome_is _ _ _ words c.in-Ok.prepared w.outcome c.in-Ok.ensures.prepared w.said;
      is_status = w.is_status;
      says = record { written = w.written; all_flushed = c.in-Ok-say.ensures.flushed };
    })

pub returns-in-Ok-say-clause-model : goal.returns-in-Ok-say-clause-model
returns-in-Ok-say-clause-model g c = λ fault e.
    let words = map string_bytes c.args.words.now in
    let w = c.in-Ok-say.ensures.written in
    fault_told words _ _ _ c.in-Ok-say.status w.outcome fault
    (outcome_is _ _ _ words c.in-Ok.prepared w.outcome c.in-Ok.ensures.prepared w.said) w.is_status e

pub returns-in-Ok-say-clause-told : goal.returns-in-Ok-say-clause-told
returns-in-Ok-say-clause-told g c = λ pairs left written now outcome e f h theirs.
    let words = map string_bytes c.args.words.now in
    let w = c.in-Ok-say.ensures.written in
    told words _ _ _ _ _ c.in-Ok-say.status w.outcome outcome pairs left written now w.is_status
    (outcome_is _ _ _ words c.in-Ok.prepared w.outcome c.in-Ok.ensures.prepared w.said) w.written e f h theirs

pub returns-in-Ok-say-clause-only_usage : goal.returns-in-Ok-say-clause-only_usage
returns-in-Ok-say-clause-only_usage g c = λ none.
    let words = map string_bytes c.args.words.now in
    let w = c.in-Ok-say.ensures.written in
    let files = g.F.Files.files c.args.files.now in
    let before = g.S.Source.left c.args.formulas.now in
    let now = g.S.Source.left c.prepare.new.formulas in
    usage_alone words files before now c.in-Ok-say.status w.outcome
    (outcome_is files before now words c.in-Ok.prepared w.outcome c.in-Ok.ensures.prepared w.said) w.is_status none

pub returns-in-Ok-say-clause-asked : goal.returns-in-Ok-say-clause-asked
returns-in-Ok-say-clause-asked g c =
    let old = g.F.Files.asked c.args.files.now in
    let new = g.F.Files.asked c.prepare.new.files in
    asked_then (g.F.Files.files c.args.files.now) (map string_bytes c.args.words.now)
    (λ command. AsksBefore command (Ok c.in-Ok.prepared) old new)
    (λ command. AsksBy c.in-Ok-say.status command old new)
    (λ command. asked_for_status command old new c.in-Ok.prepared c.in-Ok-say.status _ _ c.in-Ok-say.ensures.written)
    c.in-Ok.ensures.asked

pub returns-in-Err-Failed-clause-cut_short : goal.returns-in-Err-Failed-clause-cut_short
returns-in-Err-Failed-clause-cut_short g c = λ _.
    cut_short (map string_bytes c.args.words.now) _ _ _ c.in-Ok.prepared _ _ c.in-Ok.ensures.prepared c.say.ensures.front

pub returns-in-Err-Failed-clause-asked : goal.returns-in-Err-Failed-clause-asked
returns-in-Err-Failed-clause-asked g c =
    let old = g.F.Files.asked c.args.files.now in
    let new = g.F.Files.asked c.prepare.new.files in
    asked_then (g.F.Files.files c.args.files.now) (map string_bytes c.args.words.now)
    (λ command. AsksBefore command (Ok c.in-Ok.prepared) old new)
    (λ command. AsksFor (names_of command) old new)
    (λ command. front_asked command old new c.in-Ok.prepared)
    c.in-Ok.ensures.asked

pub returns-clause-memory : goal.returns-clause-memory
returns-clause-memory g c = λ _.
    inr (cut_short (map string_bytes c.args.words.now) _ _ _ c.in-Ok.prepared _ _ c.in-Ok.ensures.prepared c.say.ensures.front)

pub returns-clause-asked : goal.returns-clause-asked
returns-clause-asked g c =
    let old = g.F.Files.asked c.args.files.now in
    let new = g.F.Files.asked c.prepare.new.files in
    asked_then (g.F.Files.files c.args.files.now) (map string_bytes c.args.words.now)
    (λ command. AsksBefore command (Ok c.in-Ok.prepared) old new)
    (λ command. AsksFor (names_of command) old new)
    (λ command. front_asked command old new c.in-Ok.prepared)
    c.in-Ok.ensures.asked
