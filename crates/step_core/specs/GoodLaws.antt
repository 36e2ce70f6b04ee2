-- What the invariant of the machine says, by layers, states, blocks and passes.
use Rattle.std.specs.Prelude.{◌≡◌, ◌≢◌, ℕ, ◌+◌, ◌<◌, ◌≤◌, IsTrue, List, All, map, length, slice_index}
use Rattle.ctmc_semantics.specs.RoundedTables.{one_word}
use Rattle.step_core.specs.CoreLists.{CoreLists, drawer_of, pass_at, lower_at, upper_at, seal_at, ticket_at, stop_at}
use Rattle.step_core.specs.Good.{Good}
use Rattle.step_core.specs.Limits.{sizes_of}
use Rattle.step_core.specs.Places.{blocks, block_of}
use Rattle.step_core.specs.PlanLists.{PlanLists}
use Rattle.step_core.specs.PlanTables.{plan_low, plan_high}
use Rattle.step_core.specs.Tickets.{draws_left}
use Rattle.step_core.specs.declared.draws.TheConstants.{MOST_DRAWS}

-- both words of a state in a layer lie on their sides of the tables
pub record LieBeside (plan : PlanLists) (words : List ℕ) (k s : ℕ) : Type 0 where
  pub lower : lower_at (sizes_of plan) words k s ≤ plan_low plan k s
  pub upper : plan_high plan k s ≤ upper_at (sizes_of plan) words k s
  pub at_most_one : upper_at (sizes_of plan) words k s ≤ one_word

-- both words equal the tables
pub record EqualTables (plan : PlanLists) (words : List ℕ) (k s : ℕ) : Type 0 where
  pub lower : lower_at (sizes_of plan) words k s ≡ plan_low plan k s
  pub upper : upper_at (sizes_of plan) words k s ≡ plan_high plan k s

-- the notes of a state in a layer are no better than the words
pub record NoBetter (plan : PlanLists) (words notes : List ℕ) (k s : ℕ) : Type 0 where
  pub lower : lower_at (sizes_of plan) notes k s ≤ lower_at (sizes_of plan) words k s
  pub upper : upper_at (sizes_of plan) words k s ≤ upper_at (sizes_of plan) notes k s
  pub at_most_one : upper_at (sizes_of plan) notes k s ≤ one_word

abbrev pub WordsLieBeside : Type 0
WordsLieBeside =
    (plan : PlanLists) (core : CoreLists) (k s : ℕ) → Good plan core → k ≤ plan.layers → s < length plan.frame.rows
    → LieBeside plan core.words k s

-- the words of layer 0 equal the tables
abbrev pub FirstLayerIsDone : Type 0
FirstLayerIsDone =
    (plan : PlanLists) (core : CoreLists) (s : ℕ) → Good plan core → s < length plan.frame.rows → EqualTables plan core.words 0 s

-- a seal is 0 or 1, and in layer 0 it is 1
abbrev pub SealsAreSetOrNot : Type 0
SealsAreSetOrNot =
    (plan : PlanLists) (core : CoreLists) (k b : ℕ) → Good plan core → k ≤ plan.layers → b < blocks (sizes_of plan)
    → seal_at (sizes_of plan) core.words k b ≤ 1

abbrev pub FirstLayerIsSealed : Type 0
FirstLayerIsSealed =
    (plan : PlanLists) (core : CoreLists) (b : ℕ) → Good plan core → b < blocks (sizes_of plan)
    → seal_at (sizes_of plan) core.words 0 b ≡ 1

-- where the seal of its block is set, a state's words equal the tables
abbrev pub SealedIsDone : Type 0
SealedIsDone =
    (plan : PlanLists) (core : CoreLists) (k s : ℕ) → Good plan core → k ≤ plan.layers → s < length plan.frame.rows
    → seal_at (sizes_of plan) core.words k (block_of s) ≡ 1 → EqualTables plan core.words k s

abbrev pub NotesAreNoBetter : Type 0
NotesAreNoBetter =
    (plan : PlanLists) (core : CoreLists) (pass k s : ℕ) → Good plan core → IsTrue (pass_at core pass).live
    → k ≤ plan.layers → s < length plan.frame.rows → NoBetter plan core.words (pass_at core pass).notes k s

abbrev pub SealNotesAreNoBetter : Type 0
SealNotesAreNoBetter =
    (plan : PlanLists) (core : CoreLists) (pass k b : ℕ) → Good plan core → IsTrue (pass_at core pass).live
    → k ≤ plan.layers → b < blocks (sizes_of plan)
    → seal_at (sizes_of plan) (pass_at core pass).notes k b ≤ seal_at (sizes_of plan) core.words k b

-- the stop word is 0 or 1
abbrev pub StopIsSetOrNot : Type 0
StopIsSetOrNot = (plan : PlanLists) (core : CoreLists) → Good plan core → stop_at (sizes_of plan) core.words ≤ 1

abbrev pub StopNotesAreNoBetter : Type 0
StopNotesAreNoBetter =
    (plan : PlanLists) (core : CoreLists) (pass : ℕ) → Good plan core → IsTrue (pass_at core pass).live
    → stop_at (sizes_of plan) (pass_at core pass).notes ≤ stop_at (sizes_of plan) core.words

-- the next ticket and the draws that all live passes have left add up to no more than all draws
abbrev pub DrawsHaveRoom : Type 0
DrawsHaveRoom =
    (plan : PlanLists) (core : CoreLists) → Good plan core
    → ticket_at (sizes_of plan) core.words + draws_left (map drawer_of core.passes) ≤ MOST_DRAWS

-- a live pass's tickets are below the next one, and no two of them are one
abbrev pub TicketsAreBelow : Type 0
TicketsAreBelow =
    (plan : PlanLists) (core : CoreLists) (pass : ℕ) → Good plan core → IsTrue (pass_at core pass).live
    → All (λ t. t < ticket_at (sizes_of plan) core.words) (pass_at core pass).tickets

abbrev pub TicketsStandOnce : Type 0
TicketsStandOnce =
    (plan : PlanLists) (core : CoreLists) (pass a b : ℕ) → Good plan core → IsTrue (pass_at core pass).live
    → a < length (pass_at core pass).tickets → b < length (pass_at core pass).tickets
    → slice_index (pass_at core pass).tickets a ≡ slice_index (pass_at core pass).tickets b → a ≡ b

-- two live passes have no ticket in common
abbrev pub TicketsAreApart : Type 0
TicketsAreApart =
    (plan : PlanLists) (core : CoreLists) (one two a b : ℕ) → Good plan core → one ≢ two → IsTrue (pass_at core one).live
    → IsTrue (pass_at core two).live → a < length (pass_at core one).tickets → b < length (pass_at core two).tickets
    → slice_index (pass_at core one).tickets a ≢ slice_index (pass_at core two).tickets b
