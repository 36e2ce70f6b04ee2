-- Words that write whole numbers.
use Rattle.std.proofs.Common.{◌≡◌, ℕ, List, ap, sym, ◌∙◌}
use Rattle.text_lines.specs.WholeNumber.{IsWholeNumber, whole_value}

-- a word writes one whole number
pub one_whole : (v w : List ℕ) (m n : ℕ) → IsWholeNumber v m → IsWholeNumber w n → v ≡ w → m ≡ n
one_whole v w m n h k e = sym h.value ∙ ap whole_value e ∙ k.value
