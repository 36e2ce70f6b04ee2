-- The name of a label is read as that label.
use Rattle.std.proofs.Common.{◌≡◌, ℕ, ◌<◌, ◌≤◌, true, not, ◌&&◌, List, [], ◌∷◌, length, refl, sym, arith}
use Rattle.std.specs.Prelude.{slice_index_or}
use Rattle.std.specs.List.{list_all, position_or_len}
use Rattle.std.specs.Str.{bytes_eq}
use Rattle.std.proofs.lemmas.Bool.{false_from_ne_true}
use Rattle.std.proofs.lemmas.List.Sums.{position_or_len_is}
use Rattle.std.proofs.lemmas.Slice.Eq.{bytes_eq-Decides}
use Rattle.text_lines.specs.Name.{is_name, is_reserved, begins_name, continues_name}
use Rattle.csl_syntax.specs.TokenText.{is_word}
use Rattle.csl_syntax.specs.Tokens.{Writes}
use Rattle.csl_syntax.specs.declared.token.Token.TheVariants.{Name}
use Rattle.csl_syntax.specs.Laws.{AreLabels}
use Rattle.csl_syntax.proofs.Runs.{and_left}

pub name_is_word : (w : List ℕ) → is_name w ≡ true → is_word w ≡ true
name_is_word [] h = h
name_is_word (b ∷ s) h = and_left (begins_name b && list_all continues_name s) (not (is_reserved (b ∷ s))) h

module _ (labels : List (List ℕ)) (are : AreLabels labels) where
  number_is : (j : ℕ) → j < length labels → position_or_len (λ label. bytes_eq label (slice_index_or labels j [])) labels ≡ j
  number_is j h =
      let name = slice_index_or labels j [] in
      let within : j ≤ length labels = omega arith in
      position_or_len_is (λ label. bytes_eq label name) labels j [] within
      (λ k l.
      false_from_ne_true (bytes_eq (slice_index_or labels k []) name)
      (λ e. are.distinct k j [] l h ((bytes_eq-Decides (slice_index_or labels k []) name).0 e)))
      (λ l. (bytes_eq-Decides name name).1 refl)

  -- a label's name writes its number
  pub name_writes : (j : ℕ) → j < length labels → Writes labels (slice_index_or labels j []) (Name j)
  name_writes j h = (are.each j [] h, sym (number_is j h))

  pub label_is_word : (j : ℕ) → j < length labels → is_word (slice_index_or labels j []) ≡ true
  label_is_word j h = name_is_word (slice_index_or labels j []) (are.each j [] h)
