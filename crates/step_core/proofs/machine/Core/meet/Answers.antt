use Rattle.std.proofs.Common.{◌≡◌, ◌≢◌, ◌+◌, ◌<◌, ◌≤◌, ℕ, length, sym, ap, ◌∙◌, subst, arith}
use Rattle.std.proofs.lemmas.Bool.{and_parts, cond-true, not-true, eqb-false}
use Rattle.std.specs.Prelude.{IsTrue, ◌==◌, not}
use Rattle.step_core.specs.CoreLists.{CoreLists, pass_at}
use Rattle.step_core.specs.Events.{can_meet, met}
use Rattle.step_core.specs.Good.{Good}
use Rattle.step_core.specs.Limits.{sizes_of}
use Rattle.step_core.specs.Places.{Sizes, word_count}
use Rattle.step_core.specs.PlanLists.{PlanLists}
use Rattle.step_core.proofs.CoreLemmas.{live_in, size-notes, met_draws_fit}
use Rattle.step_core.proofs.MeetLemmas.{Meeting, meeting_begins, meeting_goes_on, meeting_ends, meeting_there, meeting_sizes}
use Rattle.step_core.proofs.machine.Core.meet.Goals as goal

-- what the condition of a meeting says
record Two (core : CoreLists) (kept other : ℕ) : Type 0 where
  kept_live : IsTrue (pass_at core kept).live
  ended_live : IsTrue (pass_at core other).live
  apart : other ≢ kept

two : (core : CoreLists) (kept other : ℕ) → IsTrue (can_meet core kept other) → Two core kept other
two core kept other h =
    let a = and_parts (pass_at core kept).live _ h in
    let b = and_parts (pass_at core other).live (not (kept == other)) a.1 in
    record {
      kept_live = a.0;
      ended_live = b.0;
      apart = λ e. eqb-false kept other (not-true (kept == other) b.1) (sym e);
    }

pub join_draws-requires-clause-room : goal.join_draws-requires-clause-room
join_draws-requires-clause-room c =
    let core : CoreLists = c.args.self.now in
    let t = two core c.args.kept c.args.other (sym c.can_meet.ensures ∙ c.if-can_meet.true) in
    let fit = met_draws_fit c.args.plan.now core c.requires.good c.args.kept c.args.other t.kept_live t.ended_live t.apart in
    omega (arith, fit)

pub loop-place-init : goal.loop-place-init
loop-place-init c =
    let core : CoreLists = c.args.self.now in
    let t = two core c.args.kept c.args.other (sym c.can_meet.ensures ∙ c.if-can_meet.true) in
    meeting_begins core c.args.kept c.args.other (live_in core c.args.kept t.kept_live) t.apart _ c.in_ok-join_draws.ensures.given

-- the sizes of the meeting's notes, as the loop counts them
count_is : (plan : PlanLists) (core : CoreLists) (kept count : ℕ) (z : Sizes) → Good plan core → IsTrue (pass_at core kept).live
    → count ≡ word_count z → z ≡ sizes_of plan → length (pass_at core kept).notes ≡ count
count_is plan core kept count z good live e is = size-notes plan core good kept live ∙ (sym (ap word_count is) ∙ sym e)

pub meet_word-requires-clause-kept : goal.meet_word-requires-clause-kept
meet_word-requires-clause-kept c =
    let core : CoreLists = c.args.self.now in
    let t = two core c.args.kept c.args.other (sym c.can_meet.ensures ∙ c.if-can_meet.true) in
    let there = live_in core c.args.kept t.kept_live in
    meeting_there core c.args.kept c.args.other there t.apart c.loop-place.place c.args.kept c.loop-place.self there
    c.loop-place.invariant

pub meet_word-requires-clause-other : goal.meet_word-requires-clause-other
meet_word-requires-clause-other c =
    let core : CoreLists = c.args.self.now in
    let t = two core c.args.kept c.args.other (sym c.can_meet.ensures ∙ c.if-can_meet.true) in
    meeting_there core c.args.kept c.args.other (live_in core c.args.kept t.kept_live) t.apart c.loop-place.place c.args.other
    c.loop-place.self (live_in core c.args.other t.ended_live) c.loop-place.invariant

pub meet_word-requires-clause-place : goal.meet_word-requires-clause-place
meet_word-requires-clause-place c =
    let core : CoreLists = c.args.self.now in
    let t = two core c.args.kept c.args.other (sym c.can_meet.ensures ∙ c.if-can_meet.true) in
    let sizes =
    meeting_sizes core c.args.kept c.args.other (live_in core c.args.kept t.kept_live) t.apart c.loop-place.place
    c.loop-place.self c.loop-place.invariant
    ∙ (c.requires.good.sizes ∙ sym c.of.ensures) in
    let count = c.word_count-place-end.ensures ∙ sym (ap word_count sizes) in
    let test = c.loop-place-test.true in
    subst (λ (m : ℕ). c.loop-place.place < m) count test

pub end-requires : goal.end-requires
end-requires c =
    let core : CoreLists = c.args.self.now in
    let t = two core c.args.kept c.args.other (sym c.can_meet.ensures ∙ c.if-can_meet.true) in
    record {
      pass =
          meeting_there core c.args.kept c.args.other (live_in core c.args.kept t.kept_live) t.apart c.loop-place.place
          c.args.other c.loop-place.self (live_in core c.args.other t.ended_live) c.loop-place.invariant;
    }

pub loop-place-preserved : goal.loop-place-preserved
loop-place-preserved c =
    let core : CoreLists = c.args.self.now in
    let t = two core c.args.kept c.args.other (sym c.can_meet.ensures ∙ c.if-can_meet.true) in
    let size =
    count_is c.args.plan.now core c.args.kept c.word_count-place-end.result c.of.result c.requires.good t.kept_live
    c.word_count-place-end.ensures c.of.ensures in
    let test = c.loop-place-test.true in
    let inside : c.loop-place.place < length (pass_at core c.args.kept).notes = omega (arith, size, test) in
    subst (Meeting core c.args.kept c.args.other (c.loop-place.place + 1)) (sym c.meet_word.ensures)
    (meeting_goes_on core c.args.kept c.args.other (live_in core c.args.kept t.kept_live) t.apart c.loop-place.place
    c.loop-place.self inside c.loop-place.invariant)

pub returns-after-loop-place-clause-given : goal.returns-after-loop-place-clause-given
returns-after-loop-place-clause-given c =
    let core : CoreLists = c.args.self.now in
    let on = sym c.can_meet.ensures ∙ c.if-can_meet.true in
    let t = two core c.args.kept c.args.other on in
    let size =
    count_is c.args.plan.now core c.args.kept c.word_count-place-end.result c.of.result c.requires.good t.kept_live
    c.word_count-place-end.ensures c.of.ensures in
    let test = c.loop-place-test.false in
    let past : length (pass_at core c.args.kept).notes ≤ c.loop-place.place = omega (arith, size, test) in
    let ends =
    meeting_ends core c.args.kept c.args.other (live_in core c.args.kept t.kept_live) t.apart c.args.plan.now c.loop-place.place
    c.loop-place.self c.requires.good.sizes past c.loop-place.invariant in
    c.end.ensures ∙ (ends ∙ sym (cond-true (can_meet core c.args.kept c.args.other)
    (met c.args.plan.now core c.args.kept c.args.other) core on))
