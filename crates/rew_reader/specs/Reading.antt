-- What the reader's own functions say of the rewards that are kept.
use Rattle.std.specs.Prelude.{ℕ, ◌<◌, ◌≤◌, List, length, take, All}
use Rattle.std.specs.List.{slice_index_or}
use Rattle.decimal_text.specs.Scale.{scaled}
use Rattle.model_core.specs.declared.limits.TheConstants.{AMOUNT_LIMIT}
use Rattle.text_lines.specs.EntryLines.{value_of}
use Rattle.text_lines.specs.declared.entry_line.EntryLine.{EntryLine}

-- the reward is below `2^63` at the scale
abbrev pub IsInRange : ℕ → EntryLine ℕ → Type 0
IsInRange scale e = scaled scale (value_of e) < AMOUNT_LIMIT

-- the place of the first entry whose reward isn't
pub record IsFirstLarge (scale : ℕ) (entries : List (EntryLine ℕ)) (place : ℕ) : Type 0 where
  pub there : place < length entries
  pub before : All (IsInRange scale) (take place entries)
  pub large : (e : EntryLine ℕ) → AMOUNT_LIMIT ≤ scaled scale (value_of (slice_index_or entries place e))
