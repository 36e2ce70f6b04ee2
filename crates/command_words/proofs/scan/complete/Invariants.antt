use Rattle.std.proofs.Common.{◌↔◌, drop, map, string_bytes}
use Rattle.command_words.specs.declared.place.Place.TheVariants.{Open}
use Rattle.command_words.specs.declared.scan.TheConstants.Seen.{NOTHING}
use Rattle.command_words.specs.Reading.{HaveParts, parts_from}
use Rattle.command_words.specs.Scan.{Completes}
use Rattle.command_words.proofs.scan.complete.Given as goal

abbrev pub invariant-loop-word : goal.invariant-loop-word
invariant-loop-word l =
    HaveParts (Completes NOTHING) (parts_from Open (map string_bytes l.words))
    ↔ HaveParts (Completes l.seen) (parts_from l.place (map string_bytes (drop l.word-index l.words)))
