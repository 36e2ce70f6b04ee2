-- The invariant of the machine by layers, states, blocks and passes.
use Rattle.std.proofs.Common.{ℕ, ◌<◌, ◌≤◌, Bool, ◌∙◌, refl, sym, subst, zero-le, arith}
use Rattle.std.proofs.lemmas.List.{get_or_default}
use Rattle.std.specs.Prelude.{slice_index}
use Rattle.step_core.specs.BoardRule.{Better, worst}
use Rattle.step_core.specs.GoodLaws.{WordsLieBeside, FirstLayerIsDone, SealsAreSetOrNot, FirstLayerIsSealed, SealedIsDone, NotesAreNoBetter, SealNotesAreNoBetter, StopIsSetOrNot, StopNotesAreNoBetter, DrawsHaveRoom, TicketsAreBelow, TicketsStandOnce, TicketsAreApart}
use Rattle.step_core.specs.CoreLists.{drawer_of, pass_at}
use Rattle.step_core.specs.Limits.{sizes_of, limits_of}
use Rattle.step_core.specs.Places.{lower_place, upper_place, seal_place, stop_place, lower, upper, seal, block_of}
use Rattle.step_core.proofs.CoreLemmas.{live_in, fits, note_le_one, next, drawers, drawer_at, drawer_in}
use Rattle.step_core.proofs.LimitLemmas.{lower_limit, upper_limit, seal_limit, stop_limit}
use Rattle.step_core.proofs.PlaceLemmas.{lower_rises, upper_falls, seal_rises, stop_rises, seal_of_lower, seal_of_upper}
use Rattle.step_core.proofs.TicketLemmas.{ticket_below, ticket_once, ticket_apart}

pub words_lie_beside : WordsLieBeside
words_lie_beside plan core k s good le lt =
    let z = sizes_of plan in
    let l : ℕ = lower_place z k s in
    let u : ℕ = upper_place z k s in
    let limits = limits_of plan in
    record {
      lower =
          subst (λ x. slice_index core.words l ≤ x) (lower_limit plan k s le lt)
          (subst (λ (b : Bool). Better b (slice_index core.words l) (slice_index limits l)) (lower_rises z k s le lt)
          (good.words.within l).end);
      upper =
          subst (λ x. x ≤ slice_index core.words u) (upper_limit plan k s le lt)
          (subst (λ (b : Bool). Better b (slice_index core.words u) (slice_index limits u)) (upper_falls z k s le lt)
          (good.words.within u).end);
      at_most_one =
          subst (λ (b : Bool). Better b (worst b) (slice_index core.words u)) (upper_falls z k s le lt) (good.words.within u).start;
    }

pub first_layer_is_done : FirstLayerIsDone
first_layer_is_done plan core s good lt = record {
  lower = good.words.layer_zero (lower_place (sizes_of plan) 0 s) (lower s lt refl) ∙ lower_limit plan 0 s zero-le lt;
  upper = good.words.layer_zero (upper_place (sizes_of plan) 0 s) (upper s lt refl) ∙ upper_limit plan 0 s zero-le lt;
}

pub seals_are_set_or_not : SealsAreSetOrNot
seals_are_set_or_not plan core k b good le lt =
    let i : ℕ = seal_place (sizes_of plan) k b in
    subst (λ x. slice_index core.words i ≤ x) (seal_limit plan k b le lt)
    (subst (λ (c : Bool). Better c (slice_index core.words i) (slice_index (limits_of plan) i)) (seal_rises (sizes_of plan) k b)
    (good.words.within i).end)

pub first_layer_is_sealed : FirstLayerIsSealed
first_layer_is_sealed plan core b good lt =
    good.words.layer_zero (seal_place (sizes_of plan) 0 b) (seal b lt refl) ∙ seal_limit plan 0 b zero-le lt

pub sealed_is_done : SealedIsDone
sealed_is_done plan core k s good le lt set =
    let z = sizes_of plan in
    let on : 0 < slice_index core.words (seal_place z k (block_of s)) = omega (arith, set) in
    record {
      lower = good.words.sealed _ (lower_place z k s) (seal_of_lower z k s le lt) on ∙ lower_limit plan k s le lt;
      upper = good.words.sealed _ (upper_place z k s) (seal_of_upper z k s le lt) on ∙ upper_limit plan k s le lt;
    }

pub notes_are_no_better : NotesAreNoBetter
notes_are_no_better plan core pass k s good live le lt =
    let z = sizes_of plan in
    let f = fits plan core good pass live in
    let l : ℕ = lower_place z k s in
    let u : ℕ = upper_place z k s in
    let ns = (pass_at core pass).notes in
    record {
      lower = subst (λ (b : Bool). Better b (slice_index ns l) (slice_index core.words l)) (lower_rises z k s le lt) (f.below l);
      upper = subst (λ (b : Bool). Better b (slice_index ns u) (slice_index core.words u)) (upper_falls z k s le lt) (f.below u);
      at_most_one = note_le_one plan core good pass live k s le lt;
    }

pub seal_notes_are_no_better : SealNotesAreNoBetter
seal_notes_are_no_better plan core pass k b good live le lt =
    let i : ℕ = seal_place (sizes_of plan) k b in
    subst (λ (c : Bool). Better c (slice_index (pass_at core pass).notes i) (slice_index core.words i)) (seal_rises (sizes_of plan) k b)
    ((fits plan core good pass live).below i)

pub stop_is_set_or_not : StopIsSetOrNot
stop_is_set_or_not plan core good =
    let i : ℕ = stop_place (sizes_of plan) in
    subst (λ x. slice_index core.words i ≤ x) (stop_limit plan)
    (subst (λ (c : Bool). Better c (slice_index core.words i) (slice_index (limits_of plan) i)) (stop_rises (sizes_of plan))
    (good.words.within i).end)

pub stop_notes_are_no_better : StopNotesAreNoBetter
stop_notes_are_no_better plan core pass good live =
    let i : ℕ = stop_place (sizes_of plan) in
    subst (λ (c : Bool). Better c (slice_index (pass_at core pass).notes i) (slice_index core.words i)) (stop_rises (sizes_of plan))
    ((fits plan core good pass live).below i)

pub draws_have_room : DrawsHaveRoom
draws_have_room plan core good = good.tickets.room

pub tickets_are_below : TicketsAreBelow
tickets_are_below plan core pass good live a d lt =
    let there = live_in core pass live in
    let h =
    ticket_below (next plan core good) (drawers plan core good) good.tickets pass (drawer_in plan core good pass there)
    (drawer_of (pass_at core pass)) (drawer_at plan core good pass there) live a lt in
    let e = get_or_default (pass_at core pass).tickets a d 0 lt in
    omega (arith, h, e)

pub tickets_stand_once : TicketsStandOnce
tickets_stand_once plan core pass a b good live ina inb same =
    let there = live_in core pass live in
    ticket_once (next plan core good) (drawers plan core good) good.tickets pass (drawer_in plan core good pass there)
    (drawer_of (pass_at core pass)) (drawer_at plan core good pass there) live a b ina inb same

pub tickets_are_apart : TicketsAreApart
tickets_are_apart plan core one two a b good ne live live' ina inb same =
    let there = live_in core one live in
    let there' = live_in core two live' in
    ticket_apart (next plan core good) (drawers plan core good) good.tickets one (drawer_in plan core good one there)
    (drawer_of (pass_at core one)) (drawer_at plan core good one there) two (drawer_in plan core good two there')
    (λ e. ne (sym e)) (drawer_of (pass_at core two)) (drawer_at plan core good two there') live live' a b ina inb same
