use Rattle.std.proofs.Common.{rules, ◌≡◌, ℕ, ◌<◌, List, [], ◌∷◌, ◌++◌, length, set, sym, ap, ◌∙◌}
use Rattle.std.proofs.lemmas.Bool.{cond-true}
use Rattle.std.proofs.lemmas.List.{get_or_append_left, set-append_left}
use Rattle.std.specs.Prelude.{IsTrue}
use Rattle.step_core.specs.CoreLists.{PassLists, CoreLists, drawer_of, pass_with, no_pass, pass_at}
use Rattle.step_core.specs.Events.{split}
use Rattle.step_core.specs.MeetSteps.{pass_like, pass_added, with_fewer, draws_given}
use Rattle.step_core.specs.Tickets.{given_draws, split_kept, split_off}
use Rattle.step_core.proofs.CoreLemmas.{live_in}
use Rattle.step_core.proofs.machine.Core.split_pass.Goals as goal

module _ (core : CoreLists) (pass : ℕ) (there : pass < length core.passes) (live : IsTrue (pass_at core pass).live) where
  abbrev mine : PassLists
  mine = pass_at core pass

  abbrev off : PassLists
  off = pass_with (split_off (drawer_of mine)) mine.notes

  added_and_given : (draws : ℕ) → draws ≡ given_draws mine.draws → draws_given (pass_added core pass draws) pass draws ≡ split core pass
  added_and_given draws e =
      let same : pass_at (pass_added core pass draws) pass ≡ mine =
      get_or_append_left core.passes (pass_like mine draws ∷ []) no_pass pass there in
      let like : pass_like mine draws ≡ off =
      (λ t. record { live = sym live t; notes = mine.notes; tickets = []; draws = e t }) in
      ap (λ (vs : List PassLists). record { sizes = core.sizes; words = core.words; passes = vs })
      ((λ t. set (core.passes ++ like t ∷ []) pass (pass_with (with_fewer (same t) (e t)) (same t).notes))
      ∙ set-append_left core.passes (off ∷ []) pass (pass_with (split_kept (drawer_of mine)) mine.notes) there)

  is_split : (now after : CoreLists) (draws : ℕ) → draws ≡ given_draws mine.draws → now ≡ pass_added core pass draws
      → after ≡ draws_given now pass draws → after ≡ split core pass
  is_split now after draws e en ea = ea ∙ ((λ t. draws_given (en t) pass draws) ∙ added_and_given draws e)

pub returns-clause-given : goal.returns-clause-given
returns-clause-given c =
    let core : CoreLists = c.args.self.now in
    let on = sym c.is_live.ensures ∙ c.if-not-is_live.false in
    is_split core c.args.pass (live_in core c.args.pass on) on c.add_pass.new.self _ c.min-draws.result
    (search rules)
    c.in_ok-add_pass.ensures.given c.give.ensures
    ∙ sym (cond-true (pass_at core c.args.pass).live (split core c.args.pass) core on)
