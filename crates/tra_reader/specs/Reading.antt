-- What the reader's own functions say of the lines.
use Rattle.std.specs.Prelude.{◌≡◌, ℕ, ◌+◌, min, List, [], ◌∷◌, ◌<◌, length}
use Rattle.text_lines.specs.EntryLines.{IsEntryLine, FailsAnyway, HasRead, AreRead}
use Rattle.text_lines.specs.WordLines.{WordLine}
use Rattle.text_lines.specs.declared.entry_line.EntryLine.{EntryLine}
use Rattle.text_lines.specs.declared.fault.FileWhat.{FileWhat}
use Rattle.tra_reader.specs.Entries.{transition_lines}
use Rattle.tra_reader.specs.Head.{SaysCount, BeginsWithCount, HasHead}
use Rattle.tra_reader.specs.Pairs.{pair_of}
use Rattle.tra_reader.specs.TraFault.{LinesHaveFault}
use Rattle.tra_reader.specs.declared.body.Body.{Body}
use Rattle.tra_reader.specs.declared.body.Stop.{Stop}
use Rattle.tra_reader.specs.declared.body.Stop.TheVariants.{AllRead, Missing, Further, Failing}
use Rattle.tra_reader.specs.declared.entry.Pair.{Pair}
use Rattle.tra_reader.specs.declared.head.CountLine.{CountLine}
use Rattle.tra_reader.specs.declared.head.Head.{Head}

-- c is the count that the words say after the keyword, or limit + 1 where that is greater than the limit
abbrev pub IsCountUpTo : ℕ → List ℕ → List (List ℕ) → ℕ → Type 0
IsCountUpTo limit keyword words c = (count : ℕ) × SaysCount keyword words count × (c ≡ min count (limit + 1))

-- the first of the lines says the count after the keyword; c is this count, or limit + 1 where it is greater than the limit, and the
-- line's number
pub record IsNextCount (limit : ℕ) (keyword : List ℕ) (rows : List WordLine) (c : CountLine) (others : List WordLine) : Type 0 where
  pub count : ℕ
  pub begins : BeginsWithCount keyword rows count others
  pub here : c.number ≡ begins.line.number
  pub known : c.count ≡ min count (limit + 1)

-- the counts of a head
abbrev pub IsHead : List WordLine → Head → List WordLine → Type 0
IsHead rows head body = HasHead rows head.states head.transitions body

-- after all lines of transitions comes one more, of this number
pub record IsFurther (count done : ℕ) (more : List WordLine) (number : ℕ) : Type 0 where
  pub line : WordLine
  pub others : List WordLine
  pub is : more ≡ line ∷ others
  pub full : done ≡ count
  pub here : number ≡ line.number

-- the next line, of this number, fails so
pub record IsFailing (n count done : ℕ) (more : List WordLine) (number : ℕ) (what : FileWhat) : Type 0 where
  pub line : WordLine
  pub others : List WordLine
  pub is : more ≡ line ∷ others
  pub due : done < count
  pub fails : FailsAnyway (transition_lines n) line what
  pub here : number ≡ line.number

-- why no more than so many of the lines of transitions were read, where these come next
abbrev pub StopsAt : ℕ → ℕ → ℕ → List WordLine → Stop → Type 0
StopsAt n count done more AllRead = (more ≡ []) × (done ≡ count)
StopsAt n count done more Missing = (more ≡ []) × (done < count)
StopsAt n count done more (Further number) = IsFurther count done more number
StopsAt n count done more (Failing number what) = IsFailing n count done more number what

-- the first of the lines writes the transition, and the others are left
pub record IsNextEntry (n : ℕ) (rows : List WordLine) (e : EntryLine Pair) (others : List WordLine) : Type 0 where
  pub line : WordLine
  pub first : rows ≡ line ∷ others
  pub is : IsEntryLine (transition_lines n) pair_of line e

-- the first of the lines write the transitions of the body, and then it stops so
pub record IsBody (n count : ℕ) (rows : List WordLine) (body : Body) : Type 0 where
  pub more : List WordLine
  pub read : HasRead (transition_lines n) pair_of rows body.entries.items more
  pub stops : StopsAt n count (length body.entries.items) more body.stop

-- the lines of the body write these transitions, as many as the head says, and none of them twice
pub record AreAllRead (n count : ℕ) (rows : List WordLine) (entries : List (EntryLine Pair)) : Type 0 where
  pub read : AreRead (transition_lines n) pair_of rows entries
  pub all : length rows ≡ count

-- nothing is wrong with the lines of transitions, their rates' sums aside
abbrev pub IsWhole : Body → Type 0
IsWhole body = (n count : ℕ) (rows : List WordLine) → IsBody n count rows body → AreAllRead n count rows body.entries.items

-- this is wrong with the body, which came after the head of these lines
abbrev pub IsBodyFault : List WordLine → ℕ → Body → ℕ → FileWhat → Type 0
IsBodyFault lines end body number what =
    (n count : ℕ) (rows : List WordLine) → HasHead lines n count rows → IsBody n count rows body → LinesHaveFault lines end number what
