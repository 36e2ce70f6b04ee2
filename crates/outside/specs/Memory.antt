-- What the streams in memory hold.
use Rattle.std.specs.Prelude.{ℕ, ◌==◌, List, min, if◌then◌else◌}

-- a source: the bytes that are left, the numbers of the calls that fail, the greatest count of one call (0: none),
-- and how many calls there were and failed
pub record SourceState : Type 0 where
  pub left : List ℕ
  pub fail : List ℕ
  pub cut : ℕ
  pub calls : ℕ
  pub faults : ℕ

-- a source that doesn't fail
pub record SureSourceState : Type 0 where
  pub left : List ℕ
  pub cut : ℕ

-- a sink: the bytes written, how many of them are flushed, the numbers of the calls that fail, the greatest count of
-- one call (0: none), and how many calls there were and failed
pub record SinkState : Type 0 where
  pub written : List ℕ
  pub flushed : ℕ
  pub fail : List ℕ
  pub cut : ℕ
  pub calls : ℕ
  pub faults : ℕ

-- a sink that doesn't fail
pub record SureSinkState : Type 0 where
  pub written : List ℕ
  pub flushed : ℕ
  pub cut : ℕ

-- how many of so many bytes one call moves: all of them, and where the cut isn't 0 at most that many
abbrev pub moved_count : ℕ → ℕ → ℕ
moved_count count cut = if cut == 0 then count else min count cut
