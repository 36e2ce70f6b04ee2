-- The brackets of all states of a plan.
use Rattle.std.specs.Prelude.{◌≡◌, ℕ, ◌<◌, ◌≤◌, All, List, length}
use Rattle.ctmc_semantics.specs.RoundedTables.{one_word}
use Rattle.ctmc_semantics.specs.WordBracket.{WordBracket}
use Rattle.mix_columns.specs.Mixed.{one_thread_words, plan_settle, words_of}
use Rattle.mix_columns.specs.MixLaws.{EnclosesWords}
use Rattle.mix_columns.specs.PlanUntil.{ContainsUntil}
use Rattle.mix_columns.specs.SideBySide.{bracket_at}
use Rattle.reader_pass.specs.NotedWords.{noted_words}
use Rattle.step_core.specs.PlanLists.{PlanLists}
use Rattle.step_core.specs.declared.bracket.Bracket.{Bracket}

-- each state has a bracket, in words of at most `2^62`, of which P holds
pub record AreBrackets (plan : PlanLists) (P : ℕ → WordBracket → Type 0) (brackets : List Bracket) : Type 0 where
  pub each_state : length brackets ≡ length plan.frame.rows
  pub words : (s : ℕ) → s < length plan.frame.rows → P s (words_of (bracket_at brackets s))
  pub lower_words : All (λ w. w.lower ≤ one_word) brackets
  pub upper_words : All (λ w. w.upper ≤ one_word) brackets

-- each is the one that one thread computes
abbrev pub AreOneThread : PlanLists → List Bracket → Type 0
AreOneThread plan brackets = AreBrackets plan (λ s w. w ≡ one_thread_words plan s) brackets

-- a bracket that a pass reads of a state, where it had these notes before: it contains the plan's until, encloses the bracket that one thread
-- computes and is settled as that is, and lies in the bracket of the notes
pub record IsRead (plan : PlanLists) (notes : List ℕ) (s : ℕ) (w : WordBracket) : Type 0 where
  pub contains : ContainsUntil plan s w
  pub encloses : EnclosesWords w (one_thread_words plan s)
  pub settled : w ≡ plan_settle plan s w
  pub inside : EnclosesWords (noted_words plan notes s) w

abbrev pub AreRead : PlanLists → List ℕ → List Bracket → Type 0
AreRead plan notes brackets = AreBrackets plan (IsRead plan notes) brackets
