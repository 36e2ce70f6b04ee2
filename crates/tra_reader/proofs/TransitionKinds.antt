-- What a line of a transition is.
use Rattle.std.proofs.Common.{◌≡◌, ℕ, ◌+◌, ◌≤◌, ◌==◌, ◌&&◌, min, inl, inr, Bool, Decides, List, [], ◌∷◌, ap, refl, sym, subst, ◌∙◌, arith}
use Rattle.std.proofs.lemmas.Bool.Decides.{Decides-eqb, Decides-and, Decides-like}
use Rattle.std.specs.Str.Parse.{IsNumeral}
use Rattle.decimal_text.proofs.NumberOrNot.{numeral_or_not}
use Rattle.model_core.specs.StateNumber.{IsState}
use Rattle.model_core.proofs.StateNumbers.{is_state, state_decides}
use Rattle.text_lines.proofs.EntryCases.{KeyCase, NoKey, SomeKey, IsKeyCase, IsDecided}
use Rattle.text_lines.proofs.WholeNumbers.{one_whole}
use Rattle.text_lines.specs.EntryFault.{HasKeyOutOfRange}
use Rattle.text_lines.specs.WholeNumber.{IsWhole, whole_value}
use Rattle.text_lines.specs.WordLines.{WordLine}
use Rattle.tra_reader.specs.Entries.{StatePair, HasPair, AreStates, transition_lines}

abbrev pair : ℕ → ℕ → StatePair
pair from to = record { from = from; to = to }

pub same_pair : (p q : StatePair) → p.from ≡ q.from → p.to ≡ q.to → p ≡ q
same_pair p q from to = ap (λ z. pair z p.to) from ∙ ap (pair q.from) to

one_pair : (line : WordLine) (p q : StatePair) (v w : List ℕ) → HasPair line p v → HasPair line q w → (p ≡ q) × (v ≡ w)
one_pair line p q v w h k =
    let words : h.from_word ∷ h.to_word ∷ v ∷ [] ≡ k.from_word ∷ k.to_word ∷ w ∷ [] = sym h.words ∙ k.words in
    let from_words : h.from_word ≡ k.from_word = cc in
    let to_words : h.to_word ≡ k.to_word = cc in
    let rates : v ≡ w = cc in (
      same_pair p q (one_whole h.from_word k.from_word p.from q.from h.from_whole k.from_whole from_words)
          (one_whole h.to_word k.to_word p.to q.to h.to_whole k.to_whole to_words),
      rates,
    )

module _ (n : ℕ) (line : WordLine) where
  abbrev Case : Type 0
  Case = (c : KeyCase StatePair) × IsKeyCase (transition_lines n) line c

  not_three : (words : List (List ℕ)) → line.words ≡ words → ((a b c : List ℕ) → words ≡ a ∷ b ∷ c ∷ [] → ⊥) → Case
  not_three words e n = (NoKey, λ p rate h. n h.from_word h.to_word rate (sym e ∙ h.words))

  of_three : (a b c : List ℕ) → line.words ≡ a ∷ b ∷ c ∷ [] → Case
  of_three a b c e =
      elim (numeral_or_not a) [
        | inr n ↦ (NoKey, λ p rate h. n (subst (IsNumeral 10) (first h.from_word h.to_word rate (sym h.words ∙ e)) h.from_whole.digits))
        | inl x ↦ elim (numeral_or_not b) [
          | inr n ↦ (NoKey, λ p rate h. n (subst (IsNumeral 10) (second h.from_word h.to_word rate (sym h.words ∙ e)) h.to_whole.digits))
          | inl y ↦ (
            SomeKey (pair (whole_value a) (whole_value b)) c,
            record {
              from_word = a;
              to_word = b;
              words = e;
              from_whole = record { digits = x; value = refl };
              to_whole = record { digits = y; value = refl };
            },
          )
        ]
      ]
    where
      first : (d f g : List ℕ) → d ∷ f ∷ g ∷ [] ≡ a ∷ b ∷ c ∷ [] → d ≡ a
      first d f g h = cc

      second : (d f g : List ℕ) → d ∷ f ∷ g ∷ [] ≡ a ∷ b ∷ c ∷ [] → f ≡ b
      second d f g h = cc

  by_words : (words : List (List ℕ)) → line.words ≡ words → Case
  by_words [] e = not_three [] e (λ a b c h. cc)
  by_words (a ∷ []) e = not_three (a ∷ []) e (λ x y z h. cc)
  by_words (a ∷ b ∷ []) e = not_three (a ∷ b ∷ []) e (λ x y z h. cc)
  by_words (a ∷ b ∷ c ∷ []) e = of_three a b c e
  by_words (a ∷ b ∷ c ∷ d ∷ more) e = not_three (a ∷ b ∷ c ∷ d ∷ more) e (λ x y z h. cc)

abbrev are_states : ℕ → StatePair → Bool
are_states n p = is_state n p.from && is_state n p.to

states_decide : (n : ℕ) (p : StatePair) → Decides (are_states n p) (AreStates n p)
states_decide n p =
    Decides-like {P =
    IsState n p.from × IsState n p.to} (are_states n p) (λ h. record { from_state = h.0; to_state = h.1 }) (λ h.
    (h.from_state, h.to_state))
    (Decides-and (is_state n p.from) (is_state n p.to) (state_decides n p.from) (state_decides n p.to))

abbrev is_same_pair : StatePair → StatePair → Bool
is_same_pair p q = p.from == q.from && p.to == q.to

same_decides : (p q : StatePair) → Decides (is_same_pair p q) (p ≡ q)
same_decides p q =
    Decides-like {P =
    (p.from ≡ q.from) × (p.to ≡ q.to)} (is_same_pair p q) (λ h. same_pair p q h.0 h.1) (λ e. (ap (λ z. z.from) e, ap (λ z. z.to) e))
    (Decides-and (p.from == q.from) (p.to == q.to) (Decides-eqb p.from q.from) (Decides-eqb p.to q.to))

-- it can be told what it is
pub transitions_decided : (n : ℕ) → IsDecided (transition_lines n)
transitions_decided n = record {
  some = λ line. by_words n line line.words refl;
  one = one_pair;
  in_range = are_states n;
  range_decides = states_decide n;
  same = is_same_pair;
  same_decides = same_decides;
}

-- the two whole numbers are no states, where these are the numbers up to n
pub no_states : (n a b : ℕ) (line : WordLine) (u v w : List ℕ) → line.words ≡ u ∷ v ∷ w ∷ [] → IsWhole u → IsWhole v
    → a ≡ min (whole_value u) (n + 1)
    → b ≡ min (whole_value v) (n + 1) → ((1 ≤ a) × (a ≤ n) × (1 ≤ b) × (b ≤ n) → ⊥) → HasKeyOutOfRange (transition_lines n) line
no_states n a b line u v w words from to a_is b_is outside = record {
  key = pair (whole_value u) (whole_value v);
  word = w;
  writes = record {
    from_word = u;
    to_word = v;
    words = words;
    from_whole = record { digits = from; value = refl };
    to_whole = record { digits = to; value = refl };
  };
  outside = λ are.
      let from_state = are.from_state in
      let to_state = are.to_state in
      outside (
        omega (arith, from_state.0, from_state.1),
        omega (arith, from_state.0, from_state.1),
        omega (arith, to_state.0, to_state.1),
        omega
            (arith, to_state.0, to_state.1),
      );
}
