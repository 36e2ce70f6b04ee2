-- What is known after a text was read or written in part.
use Rattle.std.specs.Prelude.{◌≡◌, ℕ, ◌≤◌, List, length, take, Option, IfSome}
use Rattle.std.specs.Io.KnownBytes.{Appends, Consumes}

-- so many bytes are taken, and no more
pub record TakesCount (count : ℕ) (before now : Option (List ℕ)) : Type 0 where
  pub bytes : List ℕ
  pub taken : Consumes before now bytes
  pub counted : length bytes ≡ count

-- some bytes are taken, at most so many
pub record TakesUpTo (limit : ℕ) (before now : Option (List ℕ)) : Type 0 where
  pub bytes : List ℕ
  pub taken : Consumes before now bytes
  pub within : length bytes ≤ limit

-- a front of the text is written
pub record WritesFront (text : List ℕ) (before now : Option (List ℕ)) : Type 0 where
  pub count : ℕ
  pub within : count ≤ length text
  pub written : Appends before now (take count text)

-- all bytes that are written are flushed, where both are told
abbrev pub AllFlushed : Option (List ℕ) → Option ℕ → Type 0
AllFlushed written flushed = IfSome written (λ bytes. IfSome flushed (λ count. count ≡ length bytes))
