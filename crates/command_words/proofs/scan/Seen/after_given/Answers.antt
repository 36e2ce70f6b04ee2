use Rattle.std.proofs.Common.{◌∙◌, sym, true≢false}
use Rattle.command_words.proofs.scan.Seen.after_given.Goals.{then-has-via-then-has, then-has-via-else-has+then-not-accepts}
use Rattle.command_words.proofs.SeenLemmas.{given_goes_on, no_number_stops, twice_stops}
use Rattle.command_words.proofs.scan.Seen.after_given.Goals as goal

pub returns-then-has : goal.returns-then-has
returns-then-has c =
    elim c.then-has.branch [
      | then-has-via-then-has w ↦ twice_stops c.args.self c.args.setting c.args.value.now (sym c.has.ensures ∙ w.if-has.true)
      | then-has-via-else-has+then-not-accepts w ↦
          no_number_stops c.args.self c.args.setting c.args.value.now
          (λ n. true≢false (sym (w.accepts.ensures.1 n) ∙ w.if-not-accepts.true))
    ]

pub returns : goal.returns
returns c =
    given_goes_on c.args.self c.args.setting c.args.value.now c.with-given.result (sym c.has.ensures ∙ c.if-has.false)
    (c.accepts.ensures.0 c.if-not-accepts.false) c.with-given.ensures
