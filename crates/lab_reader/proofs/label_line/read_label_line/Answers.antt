use Rattle.std.proofs.Common.{◌≡◌, ℕ, ◌+◌, ◌<◌, ◌⊎◌, min, inl, inr, List, ◌∷◌, ap, sym, refl, ◌∙◌, arith}
use Rattle.model_core.specs.StateNumber.{IsState}
use Rattle.text_lines.specs.Items.{line_text}
use Rattle.text_lines.specs.WholeNumber.{IsWhole, whole_value}
use Rattle.text_lines.specs.WordLines.{WordLine, word_line}
use Rattle.lab_reader.specs.LabFault.{HasNoState}
use Rattle.lab_reader.specs.Reading.{bytes_of}
use Rattle.lab_reader.proofs.label_line.read_label_line.Goals as goal

outside_of : (n limit state value : ℕ) → limit ≡ n → state ≡ min value (limit + 1) → (state ≡ 0) ⊎ ((state ≡ 0 → ⊥) × (limit < state))
    → ¬ IsState n value
outside_of n limit state value same e (inl none) is = omega (arith, is.0, is.1)
outside_of n limit state value same e (inr above) is = omega (arith, above.1, is.0, is.1)

-- a line whose number is no state
no_state : (n limit state : ℕ) (line : WordLine) (word : List ℕ) (others : List (List ℕ)) → line.words ≡ word ∷ others → IsWhole word
    → limit ≡ n → state ≡ min (whole_value word) (limit + 1) → (state ≡ 0) ⊎ ((state ≡ 0 → ⊥) × (limit < state)) → HasNoState n line
no_state n limit state line word others words whole same e either = record {
  state = whole_value word;
  others = others;
  begins = record { word = word; words = words; whole = record { digits = whole; value = refl } };
  outside = outside_of n limit state (whole_value word) same e either;
}

pub returns-then-state-eq0 : goal.returns-then-state-eq0
returns-then-state-eq0 c =
    let line = word_line (line_text c.args.line.now) in
    let word = c.in-Some.first.bytes.now in
    let h = c.in-Some-whole.ensures in
    no_state c.args.n c.from-limit.result c.in-Some-whole.state line word (bytes_of c.next.new.self)
    (ap bytes_of (sym c.words-rest.ensures.computed ∙ c.in-Some.ensures.steps)) h.0 c.from-limit.ensures h.1 c.then-state-eq0.either
