-- What the reader's own functions say of the rates of the transitions that are kept.
use Rattle.std.specs.Prelude.{◌≡◌, ℕ, ◌<◌, ◌≤◌, List}
use Rattle.std.specs.List.{slice_index_or}
use Rattle.model_core.specs.Files.{TraLists}
use Rattle.model_core.specs.Transitions.{exit_sum}
use Rattle.model_core.specs.declared.limits.TheConstants.{AMOUNT_LIMIT}
use Rattle.text_lines.specs.Entries.{scale_of}
use Rattle.text_lines.specs.EntryLines.{entries_of, IsFirstPast}
use Rattle.text_lines.specs.declared.entry_line.EntryLine.{EntryLine}
use Rattle.text_lines.specs.declared.fault.FileWhat.{FileWhat}
use Rattle.text_lines.specs.declared.fault.FileWhat.TheVariants.{RateRange}
use Rattle.tra_reader.specs.Pairs.{pair_of}
use Rattle.tra_reader.specs.TraText.{AreWithin, HasTooLarge, chain_rates}
use Rattle.tra_reader.specs.declared.entry.Pair.{Pair}

-- a transition between two of n states, with a rate of at most 18 decimals
pub record IsKept (n : ℕ) (e : EntryLine Pair) : Type 0 where
  pub from_state : e.key.from < n
  pub to_state : e.key.to < n
  pub decimals : e.decimals ≤ 18

-- the place of the first entry at which the rates out of its state add up to `2^63` or more
abbrev pub IsFirstLarge : ℕ → List (EntryLine Pair) → ℕ → Type 0
IsFirstLarge scale entries place = IsFirstPast pair_of (AreWithin scale) (HasTooLarge scale) entries place

-- the chain of n states with these entries
pub record IsChainOf (n : ℕ) (entries : List (EntryLine Pair)) (tra : TraLists) : Type 0 where
  pub states : tra.n ≡ n
  pub scale : tra.scale ≡ scale_of (entries_of pair_of entries)
  pub rates : tra.rates ≡ chain_rates tra.scale (entries_of pair_of entries)
  pub exits : (s : ℕ) → exit_sum tra.rates s < AMOUNT_LIMIT

-- this is the line of the first entry at which the rates out of its state add up to too much
pub record HasRateFault (entries : List (EntryLine Pair)) (line : ℕ) (what : FileWhat) : Type 0 where
  pub place : ℕ
  pub first : IsFirstLarge (scale_of (entries_of pair_of entries)) entries place
  pub here : (d : EntryLine Pair) → line ≡ (slice_index_or entries place d).line
  pub is : what ≡ RateRange
