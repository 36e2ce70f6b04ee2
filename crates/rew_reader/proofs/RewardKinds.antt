-- What a line of a `.rew` file is.
use Rattle.std.proofs.Common.{◌≡◌, ℕ, ◌+◌, ◌≤◌, ◌==◌, min, inl, inr, List, [], ◌∷◌, refl, sym, subst, ◌∙◌, arith}
use Rattle.std.proofs.lemmas.Bool.Decides.{Decides-eqb}
use Rattle.std.specs.Str.Parse.{IsNumeral}
use Rattle.decimal_text.proofs.NumberOrNot.{numeral_or_not}
use Rattle.model_core.proofs.StateNumbers.{is_state, state_decides}
use Rattle.text_lines.proofs.EntryCases.{KeyCase, NoKey, SomeKey, IsKeyCase, IsDecided}
use Rattle.text_lines.proofs.WholeNumbers.{one_whole}
use Rattle.text_lines.specs.EntryFault.{HasKeyOutOfRange}
use Rattle.text_lines.specs.WholeNumber.{IsWhole, whole_value}
use Rattle.text_lines.specs.WordLines.{WordLine}
use Rattle.rew_reader.specs.RewardLines.{HasNumber, reward_lines}

one_number : (line : WordLine) (k l : ℕ) (v w : List ℕ) → HasNumber line k v → HasNumber line l w → (k ≡ l) × (v ≡ w)
one_number line k l v w h i =
    let words : h.word ∷ v ∷ [] ≡ i.word ∷ w ∷ [] = sym h.words ∙ i.words in
    let firsts : h.word ≡ i.word = cc in
    let seconds : v ≡ w = cc in
    (one_whole h.word i.word k l h.whole i.whole firsts, seconds)

module _ (n : ℕ) (line : WordLine) where
  abbrev Case : Type 0
  Case = (c : KeyCase ℕ) × IsKeyCase (reward_lines n) line c

  not_two : (words : List (List ℕ)) → line.words ≡ words → ((a b : List ℕ) → words ≡ a ∷ b ∷ [] → ⊥) → Case
  not_two words e n = (NoKey, λ number reward h. n h.word reward (sym e ∙ h.words))

  of_two : (a b : List ℕ) → line.words ≡ a ∷ b ∷ [] → Case
  of_two a b e =
      elim (numeral_or_not a) [
        | inr n ↦ (NoKey, λ number reward h. n (subst (IsNumeral 10) (first h.word reward (sym h.words ∙ e)) h.whole.digits))
        | inl x ↦ (SomeKey (whole_value a) b, record { word = a; words = e; whole = record { digits = x; value = refl } })
      ]
    where
      first : (d f : List ℕ) → d ∷ f ∷ [] ≡ a ∷ b ∷ [] → d ≡ a
      first d f h = cc

  by_words : (words : List (List ℕ)) → line.words ≡ words → Case
  by_words [] e = not_two [] e (λ a b h. cc)
  by_words (a ∷ []) e = not_two (a ∷ []) e (λ x y h. cc)
  by_words (a ∷ b ∷ []) e = of_two a b e
  by_words (a ∷ b ∷ c ∷ more) e = not_two (a ∷ b ∷ c ∷ more) e (λ x y h. cc)

-- it can be told what it is
pub rewards_decided : (n : ℕ) → IsDecided (reward_lines n)
rewards_decided n = record {
  some = λ line. by_words n line line.words refl;
  one = one_number;
  in_range = is_state n;
  range_decides = state_decides n;
  same = λ k l. k == l;
  same_decides = Decides-eqb;
}

-- the whole number is no state, where this is the number up to n
pub no_state : (n a : ℕ) (line : WordLine) (u w : List ℕ) → line.words ≡ u ∷ w ∷ [] → IsWhole u → a ≡ min (whole_value u) (n + 1)
    → ((1 ≤ a) × (a ≤ n) → ⊥) → HasKeyOutOfRange (reward_lines n) line
no_state n a line u w words whole is outside = record {
  key = whole_value u;
  word = w;
  writes = record { word = u; words = words; whole = record { digits = whole; value = refl } };
  outside = λ are. outside (omega (arith, are.0, are.1), omega (arith, are.0, are.1));
}
