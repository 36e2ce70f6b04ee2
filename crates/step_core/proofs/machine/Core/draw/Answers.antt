use Rattle.std.proofs.Common.{◌≡◌, ◌+◌, ◌<◌, List, ℕ, length, set, sym, ap, ◌∙◌}
use Rattle.std.proofs.lemmas.Bool.{and_parts, cond-true}
use Rattle.std.specs.Prelude.{nat_lt}
use Rattle.step_core.specs.CoreLists.{PassLists, CoreLists, drawer_of, pass_with, pass_at, ticket_at}
use Rattle.step_core.specs.Events.{can_draw, turned, drawn}
use Rattle.step_core.specs.Limits.{sizes_of}
use Rattle.step_core.specs.MeetSteps.{ticket_got}
use Rattle.step_core.specs.Places.{Sizes, ticket_place}
use Rattle.step_core.specs.PlanLists.{PlanLists}
use Rattle.step_core.specs.Tickets.{with_ticket}
use Rattle.step_core.proofs.CoreLemmas.{live_in}
use Rattle.step_core.proofs.MeetLemmas.{kept_is, set_twice}
use Rattle.step_core.proofs.machine.Core.draw.Goals as goal

module _ (plan : PlanLists) (core : CoreLists) (pass : ℕ) (there : pass < length core.passes) where
  abbrev next : ℕ
  next = ticket_at (sizes_of plan) core.words

  abbrev at : ℕ
  at = ticket_place (sizes_of plan)

  -- the ticket that was got is noted
  got_and_turned : turned (ticket_got core pass next) pass at (next + 1) ≡ drawn plan core pass
  got_and_turned =
      let d = with_ticket (drawer_of (pass_at core pass)) next in
      let ns : List ℕ = (pass_at core pass).notes in
      let is = kept_is core pass there d ns in
      ap (λ (vs : List PassLists). record { sizes = core.sizes; words = set core.words at (next + 1); passes = vs })
      ((λ t. set (set core.passes pass (pass_with d ns)) pass (pass_with (drawer_of (is t)) (set (is t).notes at (next + 1))))
      ∙ set_twice core.passes pass (pass_with d ns) (pass_with d (set ns at (next + 1))))

  is_drawn : (got after : CoreLists) (ticket place : ℕ) → ticket ≡ next → place ≡ at → got ≡ ticket_got core pass ticket
      → after ≡ turned got pass place (ticket + 1) → after ≡ drawn plan core pass
  is_drawn got after ticket place et ep eg ea =
      ea ∙ ((λ t. turned (eg t) pass (ep t) (ticket + 1))
      ∙ ((λ t. turned (ticket_got core pass (et t)) pass at (et t + 1)) ∙ got_and_turned))

pub returns-in_ok-take_ticket-clause-given : goal.returns-in_ok-take_ticket-clause-given
returns-in_ok-take_ticket-clause-given c =
    let plan : PlanLists = c.args.plan.now in
    let core : CoreLists = c.args.self.now in
    let on = sym c.can_draw.ensures ∙ c.if-can_draw.true in
    let live = and_parts (pass_at core c.args.pass).live (nat_lt 0 (pass_at core c.args.pass).draws) on in
    is_drawn plan core c.args.pass (live_in core c.args.pass live.0) c.take_ticket.new.self _ c.ticket-ticket.result
    c.ticket_place.result
    (c.ticket-ticket.ensures ∙ ap (λ (z : Sizes). ticket_at z core.words) c.requires.good.sizes)
    (c.ticket_place.ensures.place ∙ ap ticket_place c.of.ensures)
    c.in_ok-take_ticket.ensures.given c.turn.ensures
    ∙ sym (cond-true (can_draw core c.args.pass) (drawn plan core c.args.pass) core on)
