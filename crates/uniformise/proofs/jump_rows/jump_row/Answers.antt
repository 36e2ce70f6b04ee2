use Rattle.std.proofs.Common.{◌≡◌, ◌∙◌, ◌++◌, ◌<◌, true, get_or, ap, length, sym, arith}
use Rattle.ctmc_semantics.specs.Chain.{exit_rate}
use Rattle.model_core.specs.Model.{model_chain}
use Rattle.model_core.specs.declared.rate.Rate.{Rate}
use Rattle.uniformise.specs.JumpRow.{all_times, times}
use Rattle.uniformise.specs.UniformisedRow.{transition_entries}
use Rattle.uniformise.proofs.UniformRows.{row_sound, row_numbers, one_transition, whole_row, kept_share, spent_share, rate_within, times_at, times_counted}
use Rattle.uniformise.proofs.jump_rows.jump_row.Goals as goal
use Rattle.uniformise.proofs.jump_rows.jump_row.Goals.{then-transition-s, else-transition-s}

abbrev none : Rate
none = record { from = 0; to = 0; rate = 0 }

pub times-requires : goal.times-requires
times-requires c =
    omega (
      arith,
      c.requires.fits,
      rate_within (exit_rate (model_chain c.args.model.now) c.args.s) c.args.factor c.args.total c.row-row.result.now
          c.loop-transition.transition-index none (omega (arith, c.loop-transition-test.true)) (c.row-row.ensures.rates_into (λ u. true)) c.requires.within,
    )

pub push_transition-requires-clause-rate : goal.push_transition-requires-clause-rate
push_transition-requires-clause-rate c =
    omega (
      arith,
      ap (λ (r : Rate). r.rate) c.times.ensures,
      c.requires.fits,
      rate_within (exit_rate (model_chain c.args.model.now) c.args.s) c.args.factor c.args.total c.row-row.result.now
          c.loop-transition.transition-index none (omega (arith, c.loop-transition-test.true)) (c.row-row.ensures.rates_into (λ u. true)) c.requires.within,
    )

pub loop-transition-preserved : goal.loop-transition-preserved
loop-transition-preserved c =
    let s = c.args.s in
    let factor = c.args.factor in
    let rs = c.row-row.result.now in
    let i = c.loop-transition.transition-index in
    let all = all_times factor rs in
    let share = c.loop-transition.share in
    let l : i < length rs = omega (arith, c.loop-transition-test.true) in
    let here : get_or all i none ≡ times factor (get_or rs i none) = times_at factor rs i none none l in
    let target : (get_or all i none).to ≡ (get_or rs i none).to = ap (λ (r : Rate). r.to) here in
    let grown : c.push_transition.new.entries.items ≡ c.loop-transition.entries.items ++ transition_entries s share (get_or all i none) =
    c.in_ok-push_transition.ensures
    ∙ ap (λ r. c.loop-transition.entries.items ++ transition_entries s share r) (c.times.ensures ∙ sym here) in
    let more =
    one_transition s share c.if-transition-s.share i all none _ _ _ (omega (arith, l, times_counted factor rs))
    c.loop-transition.invariant.entries grown in
    elim c.if-transition-s.branch [
      | then-transition-s w ↦ record {
        entries =
            more (kept_share s share c.if-transition-s.share (get_or all i none).to (omega (arith, target, w.if-transition-s.true)) w.share-is);
        share = omega (arith, w.share-is, c.loop-transition.invariant.share);
      }
      | else-transition-s w ↦ record {
        entries =
            more (spent_share s share c.if-transition-s.share (get_or all i none).to (omega (arith, target, w.if-transition-s.false)) w.share-is);
        share = omega (arith, w.share-is);
      }
    ]

pub returns-clause-sound : goal.returns-clause-sound
returns-clause-sound c =
    let rs = c.row-row.result.now in
    let all = all_times c.args.factor rs in
    let are =
    whole_row c.args.s c.loop-transition.share c.loop-transition.transition-index all _ _ _
    (omega (arith, times_counted c.args.factor rs, c.loop-transition-test.false)) c.loop-transition.invariant.entries
    c.in_ok-push_share.ensures in
    row_sound c.args.model.now c.args.s c.args.factor c.args.total rs c.push_share.new.entries.items c.requires.state c.requires.some
    c.requires.within c.row-row.ensures.rates_into are c.requires.positive c.requires.fits c.row-row.ensures.ascending
    c.row-row.ensures.transitions

pub returns-clause-numbers : goal.returns-clause-numbers
returns-clause-numbers c =
    let rs = c.row-row.result.now in
    let all = all_times c.args.factor rs in
    let are =
    whole_row c.args.s c.loop-transition.share c.loop-transition.transition-index all _ _ _
    (omega (arith, times_counted c.args.factor rs, c.loop-transition-test.false)) c.loop-transition.invariant.entries
    c.in_ok-push_share.ensures in
    row_numbers c.args.model.now c.args.s c.args.factor c.args.total rs c.push_share.new.entries.items c.requires.state c.requires.some
    c.requires.within c.row-row.ensures.rates_into are
