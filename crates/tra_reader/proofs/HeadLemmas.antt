-- The lines of the head.
use Rattle.std.proofs.Common.{◌≡◌, ◌≢◌, ℕ, ◌<◌, ◌≤◌, ◌⊎◌, inl, inr, List, [], ◌∷◌, codes, refl, sym, ap, ◌∙◌, arith}
use Rattle.text_lines.specs.Lines.{LineText}
use Rattle.text_lines.specs.WordLines.{WordLine, word_line}
use Rattle.model_core.specs.declared.limits.TheConstants.{MOST_STATES, MOST_TRANSITIONS}
use Rattle.tra_reader.specs.Head.{SaysCount}
use Rattle.tra_reader.specs.Reading.{IsCountUpTo, IsNextCount}
use Rattle.text_lines.specs.Items.{line_words}
use Rattle.tra_reader.specs.TraFault.{LacksCount, StatesOutOfRange, TransitionsOutOfRange, line_or_end}
use Rattle.tra_reader.specs.declared.head.CountLine.{CountLine}

-- the lines begin with the count that the first of them says
pub count-said : (limit : ℕ) (keyword : List ℕ) (line : LineText) (rows others : List WordLine) (c : ℕ) → rows ≡ word_line line ∷ others
    → IsCountUpTo limit keyword (line_words line.bytes) c
    → IsNextCount limit keyword rows (record { number = line.number; count = c }) others
count-said limit keyword line rows others c first said =
    record {
      count = said.0;
      begins = record { line = word_line line; first = first; says = said.1 };
      here = refl;
      known = said.2;
    }

-- and with no count where it says none
pub count-lacking : (keyword : List ℕ) (line : LineText) (rows others : List WordLine) (end : ℕ) → rows ≡ word_line line ∷ others
    → ((count : ℕ) → ¬ SaysCount keyword (line_words line.bytes) count) → LacksCount keyword rows end line.number
count-lacking keyword line rows others end first none = record {
  lacks = λ count more b.
      let both : word_line line ∷ others ≡ b.line ∷ more = sym first ∙ b.first in
      none count (record { word = b.says.word; are = ap words_of_first both ∙ b.says.are; whole = b.says.whole });
  here = ap (λ rs. line_or_end rs end) (sym first);
}
  where
    words_of_first : List WordLine → List (List ℕ)
    words_of_first [] = []
    words_of_first (row ∷ rows) = row.words

-- ---- counts out of range

module _ (limit : ℕ) (most : limit ≡ MOST_STATES) (rows others : List WordLine) (s : CountLine)
    (is : IsNextCount limit (codes "STATES") rows s others) where
  -- the number of states is 0 or more than the greatest one
  pub states-outside : (s.count ≡ 0) ⊎ ((s.count ≢ 0) × (limit < s.count)) → StatesOutOfRange rows s.number
  states-outside range = record {
    n = is.count;
    others = others;
    begins = is.begins;
    outside =
        λ within. elim range [ inl none ↦ omega (arith, is.known, within.0) | inr many ↦ omega (arith, most, is.known, within.1, many.1) ];
    here = is.here;
  }

  -- the number of states is in range, and that of the transitions is not
  pub transitions-outside : (body : List WordLine) (c : CountLine) → s.count ≢ 0 → s.count ≤ limit
      → IsNextCount MOST_TRANSITIONS (codes "TRANSITIONS") others c body
      → MOST_TRANSITIONS < c.count → TransitionsOutOfRange rows c.number
  transitions-outside body c some few next many = record {
    n = is.count;
    others = others;
    states = record { begins = is.begins; range = (omega (arith, is.known), omega (arith, most, is.known, few)) };
    count = next.count;
    body = body;
    begins = next.begins;
    outside = omega (arith, next.known, many);
    here = next.here;
  }
