-- When the answer at a state is exact: what a reader may rely on, whatever was computed.
use Rattle.std.specs.Prelude.{◌≡◌, ℕ, ◌+◌, ◌-◌, ◌*◌, ◌^◌, ◌≤◌, ◌↔◌, Bool}
use Rattle.ctmc_semantics.specs.Bracket.{Bracket, printed_bracket, ContainsProbability}
use Rattle.ctmc_semantics.specs.Fraction.{Fraction, fraction, ◌≼◌}
use Rattle.ctmc_semantics.specs.Horizon.{greatest_width}
use Rattle.ctmc_semantics.specs.RoundedOut.{IsRoundedDown, IsRoundedUp, IsRoundedOut}
use Rattle.ctmc_semantics.specs.JumpValue.{jump_value}
use Rattle.ctmc_semantics.specs.Jumps.{Jumps}
use Rattle.ctmc_semantics.specs.RoundedTables.{one_word, set_words, exact_word}
use Rattle.ctmc_semantics.specs.Sets.{KnownSets}
use Rattle.ctmc_semantics.specs.Threshold.{Comparison}
use Rattle.ctmc_semantics.specs.Value.{ValueMeets, ValueFails}
use Rattle.ctmc_semantics.specs.Verdict.{BracketSatisfies, BracketRefutes}
use Rattle.ctmc_semantics.specs.WordBracket.{WordBracket, word_bracket}
use Rattle.nested_verdict.specs.declared.state_answer.StateAnswer.{StateAnswer}
use Rattle.report.specs.declared.answer.Printed.{Printed}
use Rattle.report.specs.declared.answer.Verdict.TheVariants.{Satisfied, Refuted, Undecided}

-- the answer of a next operator whose probability lies between the ends of b: the printed numbers are these ends rounded down and up, and the
-- verdict is exactly what they show of the threshold q
pub record IsExactNext (by : Comparison) (b : Bracket) (q : Fraction) (answer : StateAnswer) : Type 0 where
  pub low : IsRoundedDown b.low answer.bracket.low
  pub high : IsRoundedUp b.high answer.bracket.high
  pub satisfied : (answer.verdict ≡ Satisfied) ↔ BracketSatisfies by b q
  pub refuted : (answer.verdict ≡ Refuted) ↔ BracketRefutes by b q

-- the words are no further than the horizon makes them from the averages that surely are: the lower one from those of what must hold, and
-- the upper one from those of what may
pub record IsNearTime (last bits : ℕ) (sure possible : ℕ → Fraction) (words : WordBracket) : Type 0 where
  pub lower : (n : ℕ) → last ≤ n → sure n ≼ fraction (words.lower + greatest_width last bits) one_word
  pub upper : (n : ℕ) → last ≤ n → fraction (words.upper - greatest_width last bits) one_word ≼ possible n

-- the words are near the exact ones: the lower word is below that of reaching what surely is the goal within `last` jumps by at most `last`,
-- and the upper word is above that of being, after `last` jumps, at what may be the goal or in a state from which it may still be reached,
-- by at most `last`
pub record IsNearReach (last : ℕ) (j : Jumps) (sets : KnownSets) (reach : ℕ → Bool) (s : ℕ) (words : WordBracket) : Type 0 where
  pub lower : one_word * jump_value j sets.live_must sets.goal_must last s ≤ (words.lower + last) * j.total ^ last
  pub upper : words.upper * j.total ^ last ≤ exact_word j sets.live_may sets.goal_may (set_words reach) last s + last * j.total ^ last

-- the words are no wider apart than the horizon makes them
abbrev pub AreNarrow : ℕ → ℕ → WordBracket → Type 0
AreNarrow last bits words = words.upper ≤ words.lower + greatest_width last bits

-- two words of `2^-62` lie behind the answer: their bracket contains the until, they are near, the printed numbers are these words rounded
-- down and up, and the verdict is exactly what they show of the threshold q
pub record HasWords (by : Comparison) (Contains : Bracket → Type 0) (AreNear : WordBracket → Type 0) (q : Fraction)
    (answer : StateAnswer) : Type 0 where
  pub words : WordBracket
  pub contains : Contains (word_bracket words)
  pub near : AreNear words
  pub printed : IsRoundedOut (word_bracket words) answer.bracket.low answer.bracket.high
  pub satisfied : (answer.verdict ≡ Satisfied) ↔ BracketSatisfies by (word_bracket words) q
  pub refuted : (answer.verdict ≡ Refuted) ↔ BracketRefutes by (word_bracket words) q

-- what needs no counting is printed exactly: 1 where it is sure, and 0 where it is out of reach
pub record IsSettled (sure out_of_reach : Type 0) (bracket : Printed) : Type 0 where
  pub one : sure → (bracket.low ≡ 10 ^ 12) × (bracket.high ≡ 10 ^ 12)
  pub none : out_of_reach → (bracket.low ≡ 0) × (bracket.high ≡ 0)

-- the answer of an until, whatever its operands' lists are: for each values x that they give, what is said satisfied or refuted is so of the
-- value of x. The printed bracket contains the until, a threshold that is left undecided lies in the bracket, no lazier answer would do, and a
-- state that surely is the goal or can't reach what may be has the bracket of 1 or of 0 alone
pub record IsExactUntil (by : Comparison) (Each : ((ℕ → Fraction) → Type 0) → Type 0) (Contains : Bracket → Type 0)
    (AreNear : WordBracket → Type 0) (sure out_of_reach : Type 0) (q : Fraction) (answer : StateAnswer) : Type 0 where
  pub contains : Contains (printed_bracket answer.bracket.low answer.bracket.high)
  pub meets : answer.verdict ≡ Satisfied → Each (λ x. ValueMeets by x q)
  pub fails : answer.verdict ≡ Refuted → Each (λ x. ValueFails by x q)
  pub undecided : answer.verdict ≡ Undecided → ContainsProbability (printed_bracket answer.bracket.low answer.bracket.high) q
  pub tight : HasWords by Contains AreNear q answer
  pub settled : IsSettled sure out_of_reach answer.bracket
