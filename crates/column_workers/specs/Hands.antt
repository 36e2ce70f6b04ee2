-- A list of workers before their run and after it, and the brackets that a reader has taken so far.
use Rattle.std.specs.Prelude.{ℕ, ◌+◌, ◌≤◌, Bool, List, All, map}
use Rattle.bound_grid.specs.Passes.{IsPassOf, draws_of}
use Rattle.bound_grid.specs.declared.board.Board.{Board}
use Rattle.ctmc_semantics.specs.RoundedTables.{one_word}
use Rattle.ctmc_semantics.specs.WordBracket.{WordBracket}
use Rattle.column_workers.specs.DrawnBlocks.{HasEnded, IsFresh, block_tickets}
use Rattle.column_workers.specs.Watched.{AreTaken}
use Rattle.column_workers.specs.declared.hand.Hand.{Hand}
use Rattle.mix_columns.specs.Mixed.{words_of}
use Rattle.mix_columns.specs.MixLaws.{EnclosesWords}
use Rattle.mix_columns.specs.PlanUntil.{ContainsUntil}
use Rattle.step_core.specs.PlanLists.{PlanLists}
use Rattle.step_core.specs.declared.bracket.Bracket.{Bracket}
use Rattle.step_core.specs.declared.draws.TheConstants.{SPLIT_DRAWS}

abbrev pub numbers : List Hand → List ℕ
numbers hands = map (λ (h : Hand). h.number) hands

-- a pass that hasn't drawn, and that has as many draws as one which is split off
pub record IsReady (board : Board) (hand : Hand) : Type 0 where
  pub fresh : IsFresh board hand.pass
  pub draws : SPLIT_DRAWS ≤ draws_of hand.pass

-- one that has ended, and took no more draws than it needs
pub record IsDone (board : Board) (early : Bool) (hand : Hand) : Type 0 where
  pub is_pass : IsPassOf board hand.pass
  pub ended : HasEnded board early hand.pass
  pub draws : SPLIT_DRAWS ≤ draws_of hand.pass + (block_tickets board.plan + 1)

abbrev pub AreReady : Board → List Hand → Type 0
AreReady board hands = All (IsReady board) hands

abbrev pub AreDone : Board → Bool → List Hand → Type 0
AreDone board early hands = All (IsDone board early) hands

-- the brackets were taken one after another, and `now` lies in each
pub record AreTakenSoFar (plan : PlanLists) (s : ℕ) (outer now : WordBracket) (watched : List Bracket) : Type 0 where
  pub taken : AreTaken plan s outer watched
  pub now_inside : EnclosesWords outer now
  pub now_last : All (λ w. EnclosesWords (words_of w) now) watched

-- brackets that were taken one after another are so still, however many were added while what is known grew from `before` to `after`
pub record StayTaken (plan : PlanLists) (s : ℕ) (before after : WordBracket) (old new : List Bracket) : Type 0 where
  pub within : (outer : WordBracket) → AreTakenSoFar plan s outer before old → AreTakenSoFar plan s outer after new

-- the bracket may be taken next
pub record IsNext (plan : PlanLists) (s : ℕ) (now : WordBracket) (w : Bracket) : Type 0 where
  pub inside : EnclosesWords now (words_of w)
  pub contains : ContainsUntil plan s (words_of w)
  pub lower_word : w.lower ≤ one_word
  pub upper_word : w.upper ≤ one_word
