-- A formula's text has its canonical tokens, each the longest at its place.
use Rattle.std.proofs.Common.{◌≡◌, ℕ, Bool, true, false, None, List, [], ◌∷◌, ◌++◌, length, refl, sym, ◌∙◌, ap, subst, arith}
use Rattle.std.proofs.Common.{append_assoc, append-nil}
use Rattle.std.specs.Prelude.{codes, slice_index_or}
use Rattle.std.specs.Char.{is_ascii_digit}
use Rattle.std.proofs.lemmas.Bool.Decides.{nat_tests}
use Rattle.decimal_text.specs.DecimalNumber.{DecimalNumber, IsShortDecimal}
use Rattle.decimal_text.specs.DecimalWord.{IsDecimalWord}
use Rattle.decimal_text.specs.Text.{canonical_text}
use Rattle.text_lines.specs.Name.{continues_name}
use Rattle.csl_syntax.specs.declared.formula.Op.{Op}
use Rattle.csl_syntax.specs.declared.formula.Op.TheVariants.{Less, AtMost, More, AtLeast}
use Rattle.csl_syntax.specs.declared.formula.Bound.{Bound}
use Rattle.csl_syntax.specs.declared.formula.Bound.TheVariants.{Unbounded, Time, Reward}
use Rattle.csl_syntax.specs.declared.token.Token.{Token}
use Rattle.csl_syntax.specs.declared.token.Token.TheVariants.{Truth, Falsehood, Name, ProbabilityWord, NextWord, UntilWord, Bang, AndAnd}
use Rattle.csl_syntax.specs.declared.token.Token.TheVariants.{OrOr, OpenParen, CloseParen, OpenBrace, CloseBrace, OpenBracket}
use Rattle.csl_syntax.specs.declared.token.Token.TheVariants.{CloseBracket, Comma, Tilde, Compare, Number}
use Rattle.csl_syntax.specs.Scanner.{EndsRun}
use Rattle.csl_syntax.specs.TokenText.{is_word, is_symbol, IsTokenBefore}
use Rattle.csl_syntax.specs.Tokens.{op_text, Writes, HasTokens, no_more, skip, take_token}
use Rattle.csl_syntax.specs.Tree.{Tree, truth, falsehood, label, negation, conjunction, disjunction, next, until, IsOver}
use Rattle.csl_syntax.specs.Grammar.{operator}
use Rattle.csl_syntax.specs.CanonicalText.{is_disjunction, is_junction, guarded, bound_text, probability_text, formula_text}
use Rattle.csl_syntax.specs.Laws.{AreLabels, TextReadsBack}
use Rattle.csl_syntax.proofs.Runs.{same_first, nothing_first}
use Rattle.csl_syntax.proofs.LongestTokens.{word_before, EndsNumber}
use Rattle.csl_syntax.proofs.Fronts.{pair_before, single_before}
use Rattle.csl_syntax.proofs.Outcomes.{formulas_are_over}
use Rattle.csl_syntax.proofs.CanonicalTokens.{nought, wrapped, bound_tokens, spelling, spelled_again}
use Rattle.csl_syntax.proofs.CanonicalShort.{HasShortLimit, HasShortNumbers, short_tokens, short_numbers}
use Rattle.csl_syntax.proofs.CanonicalNumbers.{IsDigitsAndPoints, text_is, plain_number_before, word_of, ends_number, word_of_nought}
use Rattle.csl_syntax.proofs.CanonicalNumbers.{nought_is}
use Rattle.csl_syntax.proofs.CanonicalNames.{name_writes, label_is_word}

-- the first of the bytes goes on with no name
ends : (b : ℕ) (more : List ℕ) → continues_name b ≡ false → EndsRun continues_name (b ∷ more)
ends b more h c r e = ap continues_name (sym (same_first b c more r e)) ∙ h

-- no comparison of two bytes ends with a digit
digit_ends_less : (c : ℕ) → is_ascii_digit c ≡ true → is_symbol (60 ∷ c ∷ []) ≡ false
digit_ends_less c h = grind (arith, nat_tests)

digit_ends_more : (c : ℕ) → is_ascii_digit c ≡ true → is_symbol (62 ∷ c ∷ []) ≡ false
digit_ends_more c h = grind (arith, nat_tests)

module _ (labels : List (List ℕ)) where
  abbrev Has : List ℕ → List Token → Type 0
  Has bytes ts = HasTokens labels bytes ts []

  -- the text has the tokens, whatever follows that doesn't go on with its last word
  abbrev pub Reads : List ℕ → (List Token → List Token) → Type 0
  Reads text s = (after : List ℕ) (ts : List Token) → EndsRun continues_name after → Has after ts → Has (text ++ after) (s ts)

  token : (text after : List ℕ) (t : Token) (ts : List Token) → IsTokenBefore (text ++ after) text after → Writes labels text t →
      Has after ts → Has (text ++ after) (t ∷ ts)
  token text after t ts b w h = take_token (record { text = text; longest = b; writes = w }) h

  word : (text after : List ℕ) (t : Token) (ts : List Token) → is_word text ≡ true → Writes labels text t →
      EndsRun continues_name after → Has after ts → Has (text ++ after) (t ∷ ts)
  word text after t ts i w e h = token text after t ts (word_before (text ++ after) text after refl i e) w h

  -- the byte is a symbol, and with the next one it is none
  single : (b : ℕ) (after : List ℕ) (t : Token) (ts : List Token) → is_symbol (b ∷ []) ≡ true →
      ((c : ℕ) (r : List ℕ) → after ≡ c ∷ r → is_symbol (b ∷ c ∷ []) ≡ false) → Writes labels (b ∷ []) t →
      Has after ts → Has (b ∷ after) (t ∷ ts)
  single b after t ts i e w h = token (b ∷ []) after t ts (single_before (b ∷ after) b after refl i e) w h

  pair : (b c : ℕ) (after : List ℕ) (t : Token) (ts : List Token) → is_symbol (b ∷ c ∷ []) ≡ true →
      Writes labels (b ∷ c ∷ []) t → Has after ts → Has (b ∷ c ∷ after) (t ∷ ts)
  pair b c after t ts i w h = token (b ∷ c ∷ []) after t ts (pair_before (b ∷ c ∷ after) b c after refl i) w h

  number : (text after : List ℕ) (d : DecimalNumber) (ts : List Token) → IsDigitsAndPoints text → IsDecimalWord text d →
      EndsNumber None after → Has after ts → Has (text ++ after) (Number d ∷ ts)
  number text after d ts i w e h = token text after (Number d) ts (plain_number_before text after i e) w h

  guarded_reads : (needed : Bool) (text : List ℕ) (s : List Token → List Token) → Reads text s →
      Reads (guarded needed text) (wrapped needed s)
  guarded_reads false text s reads after ts e h = reads after ts e h
  guarded_reads true text s reads after ts e h =
      single 40 ((text ++ codes ")") ++ after) OpenParen (s (CloseParen ∷ ts)) refl (λ c r f. refl) refl
      (subst (λ bytes. Has bytes (s (CloseParen ∷ ts))) (sym (append_assoc text (codes ")") after))
      (reads (41 ∷ after) (CloseParen ∷ ts) (ends 41 after refl) (single 41 after CloseParen ts refl (λ c r f. refl) refl h)))

  -- two texts with a symbol of two equal bytes between them
  joined : (left right : List ℕ) (s r : List Token → List Token) (b : ℕ) (t : Token) → is_symbol (b ∷ b ∷ []) ≡ true →
      Writes labels (b ∷ b ∷ []) t → Reads left s → Reads right r →
      Reads (left ++ (32 ∷ b ∷ b ∷ 32 ∷ []) ++ right) (λ ts. s (t ∷ r ts))
  joined left right s r b t i w reads reads_right after ts e h =
      let middle = 32 ∷ b ∷ b ∷ 32 ∷ [] in
      let behind : Has (b ∷ b ∷ 32 ∷ (right ++ after)) (t ∷ r ts) =
      pair b b (32 ∷ (right ++ after)) t (r ts) i w (skip refl refl (reads_right after ts e h)) in
      subst (λ bytes. Has bytes (s (t ∷ r ts)))
      (sym (append_assoc (left ++ middle) right after ∙ append_assoc left middle (right ++ after)))
      (reads (32 ∷ b ∷ b ∷ 32 ∷ (right ++ after)) (t ∷ r ts) (ends 32 _ refl) (skip refl refl behind))

  -- a comparison, and then a digit
  compared : (op : Op) (after : List ℕ) (ts : List Token) →
      ((c : ℕ) (r : List ℕ) → after ≡ c ∷ r → is_ascii_digit c ≡ true) → Has after ts → Has (op_text op ++ after) (Compare op ∷ ts)
  compared Less after ts d h = single 60 after (Compare Less) ts refl (λ c r e. digit_ends_less c (d c r e)) refl h
  compared AtMost after ts d h = pair 60 61 after (Compare AtMost) ts refl refl h
  compared More after ts d h = single 62 after (Compare More) ts refl (λ c r e. digit_ends_more c (d c r e)) refl h
  compared AtLeast after ts d h = pair 62 61 after (Compare AtLeast) ts refl refl h

  zero_before : (b : ℕ) (more : List ℕ) (ts : List Token) → EndsNumber None (b ∷ more) → Has (b ∷ more) ts →
      Has (48 ∷ b ∷ more) (Number nought ∷ ts)
  zero_before b more ts e h = number (codes "0") (b ∷ more) nought ts nought_is word_of_nought e h

  -- a decimal, and then the end of brackets or braces
  limit : (d : DecimalNumber) → IsShortDecimal d → (b : ℕ) (more : List ℕ) (ts : List Token) → EndsNumber None (b ∷ more) →
      Has (b ∷ more) ts → Has (canonical_text d ++ (b ∷ more)) (Number d ∷ ts)
  limit d short b more ts e h = number (canonical_text d) (b ∷ more) d ts (text_is d short) (word_of d short) e h

  -- a decimal, and then a bracket that closes
  closed : (d : DecimalNumber) → IsShortDecimal d → (after : List ℕ) (ts : List Token) → Has after ts →
      Has ((canonical_text d ++ codes "]") ++ after) (Number d ∷ CloseBracket ∷ ts)
  closed d short after ts h =
      subst (λ bytes. Has bytes (Number d ∷ CloseBracket ∷ ts)) (sym (append_assoc (canonical_text d) (codes "]") after))
      (limit d short 93 after (CloseBracket ∷ ts) (ends_number 93 after refl refl)
      (single 93 after CloseBracket ts refl (λ c r f. refl) refl h))

  bound_reads : (b : Bound) → HasShortLimit b → Reads (bound_text b) (λ ts. UntilWord ∷ bound_tokens b ts)
  bound_reads Unbounded short after ts e h = word (codes "U") after UntilWord ts refl refl e h
  bound_reads (Time t) short after ts e h =
      let inner = (canonical_text t ++ codes "]") ++ after in
      word (codes "U") (91 ∷ 48 ∷ 44 ∷ inner) UntilWord _ refl refl (ends 91 _ refl)
      (single 91 (48 ∷ 44 ∷ inner) OpenBracket _ refl (λ c r f. refl) refl
      (zero_before 44 inner _ (ends_number 44 inner refl refl)
      (single 44 inner Comma _ refl (λ c r f. refl) refl (closed t short after ts h))))
  bound_reads (Reward t) short after ts e h =
      let inner = (canonical_text t ++ codes "]") ++ after in
      word (codes "U") (91 ∷ 48 ∷ 44 ∷ 126 ∷ 93 ∷ 91 ∷ 48 ∷ 44 ∷ inner) UntilWord _ refl refl (ends 91 _ refl)
      (single 91 (48 ∷ 44 ∷ 126 ∷ 93 ∷ 91 ∷ 48 ∷ 44 ∷ inner) OpenBracket _ refl (λ c r f. refl) refl
      (zero_before 44 (126 ∷ 93 ∷ 91 ∷ 48 ∷ 44 ∷ inner) _ (ends_number 44 _ refl refl)
      (single 44 (126 ∷ 93 ∷ 91 ∷ 48 ∷ 44 ∷ inner) Comma _ refl (λ c r f. refl) refl
      (single 126 (93 ∷ 91 ∷ 48 ∷ 44 ∷ inner) Tilde _ refl (λ c r f. refl) refl
      (single 93 (91 ∷ 48 ∷ 44 ∷ inner) CloseBracket _ refl (λ c r f. refl) refl
      (single 91 (48 ∷ 44 ∷ inner) OpenBracket _ refl (λ c r f. refl) refl
      (zero_before 44 inner _ (ends_number 44 inner refl refl)
      (single 44 inner Comma _ refl (λ c r f. refl) refl (closed t short after ts h)))))))))

  first_digit : (text more : List ℕ) → IsDigitsAndPoints text → (c : ℕ) (r : List ℕ) → text ++ more ≡ c ∷ r → is_ascii_digit c ≡ true
  first_digit text more i c r e =
      ap is_ascii_digit (sym (same_first i.first c (i.others ++ more) r (sym (ap (λ s. s ++ more) i.split) ∙ e))) ∙ i.digit

  parts : (op threshold path after : List ℕ) →
      (codes "P{" ++ op ++ threshold ++ codes "}[" ++ path ++ codes "]") ++ after
      ≡ 80 ∷ 123 ∷ (op ++ (threshold ++ (125 ∷ 91 ∷ (path ++ (93 ∷ after)))))
  parts op threshold path after = six (codes "P{") op threshold (codes "}[") path (codes "]") after
    where
      six : (a b c d e f g : List ℕ) → (a ++ b ++ c ++ d ++ e ++ f) ++ g ≡ a ++ (b ++ (c ++ (d ++ (e ++ (f ++ g)))))
      six a b c d e f g = simp append_assoc

  -- the probability operator over a path
  operator_reads : (op : Op) (q : DecimalNumber) (path : List ℕ) (s : List Token → List Token) → IsShortDecimal q → Reads path s →
      Reads (probability_text op q path) (λ ts. operator op q (s (CloseBracket ∷ ts)))
  operator_reads op q path s short reads after ts e h =
      let inner = path ++ (93 ∷ after) in
      let bracket : Has inner (s (CloseBracket ∷ ts)) =
      reads (93 ∷ after) (CloseBracket ∷ ts) (ends 93 after refl) (single 93 after CloseBracket ts refl (λ c r f. refl) refl h) in
      let threshold : Has (canonical_text q ++ (125 ∷ 91 ∷ inner)) (Number q ∷ CloseBrace ∷ OpenBracket ∷ s (CloseBracket ∷ ts)) =
      limit q short 125 (91 ∷ inner) _ (ends_number 125 _ refl refl)
      (single 125 (91 ∷ inner) CloseBrace _ refl (λ c r f. refl) refl (single 91 inner OpenBracket _ refl (λ c r f. refl) refl bracket)) in
      subst (λ bytes. Has bytes (operator op q (s (CloseBracket ∷ ts)))) (sym (parts (op_text op) (canonical_text q) path after))
      (word (codes "P") (123 ∷ (op_text op ++ (canonical_text q ++ (125 ∷ 91 ∷ inner)))) ProbabilityWord _ refl refl (ends 123 _ refl)
      (single 123 (op_text op ++ (canonical_text q ++ (125 ∷ 91 ∷ inner))) OpenBrace _ refl (λ c r f. refl) refl
      (compared op (canonical_text q ++ (125 ∷ 91 ∷ inner)) _
      (first_digit (canonical_text q) (125 ∷ 91 ∷ inner) (text_is q short)) threshold)))

  next_reads : (text : List ℕ) (s : List Token → List Token) → Reads text s → Reads (codes "X " ++ text) (λ ts. NextWord ∷ s ts)
  next_reads text s reads after ts e h =
      word (codes "X") (32 ∷ (text ++ after)) NextWord (s ts) refl refl (ends 32 _ refl) (skip refl refl (reads after ts e h))

  until_reads : (left bound right : List ℕ) (s t r : List Token → List Token) → Reads left s → Reads bound t → Reads right r →
      Reads (left ++ codes " " ++ bound ++ codes " " ++ right) (λ ts. s (t (r ts)))
  until_reads left bound right s t r reads reads_bound reads_right after ts e h =
      let behind : Has (32 ∷ (right ++ after)) (r ts) = skip refl refl (reads_right after ts e h) in
      let middle : Has (32 ∷ (bound ++ (32 ∷ (right ++ after)))) (t (r ts)) =
      skip refl refl (reads_bound (32 ∷ (right ++ after)) (r ts) (ends 32 _ refl) behind) in
      subst (λ bytes. Has bytes (s (t (r ts)))) (sym (five left (codes " ") bound (codes " ") right after))
      (reads (32 ∷ (bound ++ (32 ∷ (right ++ after)))) (t (r ts)) (ends 32 _ refl) middle)
    where
      five : (a b c d e f : List ℕ) → (a ++ b ++ c ++ d ++ e) ++ f ≡ a ++ (b ++ (c ++ (d ++ (e ++ f))))
      five a b c d e f = simp append_assoc

  module _ (are : AreLabels labels) where
    -- a formula's text has its canonical tokens
    pub formula_reads : (f : Tree) → IsOver (length labels) f → HasShortNumbers f → Reads (formula_text labels f) (spelling f)
    formula_reads truth over short = λ after ts e h. word (codes "tt") after Truth ts refl refl e h
    formula_reads falsehood over short = λ after ts e h. word (codes "ff") after Falsehood ts refl refl e h
    formula_reads (label j) over short = λ after ts e h.
        word (slice_index_or labels j []) after (Name j) ts (label_is_word labels are j over) (name_writes labels are j over) e h
    formula_reads (negation f) over short = λ after ts e h.
        single 33 (guarded (is_junction f) (formula_text labels f) ++ after) Bang _ refl (λ c r g. refl) refl
        (guarded_reads (is_junction f) (formula_text labels f) (spelling f) (formula_reads f over short) after ts e h)
    formula_reads (conjunction f g) (over, over_right) (short, short_right) =
        joined _ _ (wrapped (is_disjunction f) (spelling f)) (wrapped (is_junction g) (spelling g)) 38 AndAnd refl refl
        (guarded_reads (is_disjunction f) (formula_text labels f) (spelling f) (formula_reads f over short))
        (guarded_reads (is_junction g) (formula_text labels g) (spelling g) (formula_reads g over_right short_right))
    formula_reads (disjunction f g) (over, over_right) (short, short_right) =
        joined _ _ (spelling f) (wrapped (is_disjunction g) (spelling g)) 124 OrOr refl refl (formula_reads f over short)
        (guarded_reads (is_disjunction g) (formula_text labels g) (spelling g) (formula_reads g over_right short_right))
    formula_reads (next op q f) over short =
        operator_reads op q (codes "X " ++ formula_text labels f) (λ ts. NextWord ∷ spelling f ts) short.0
        (next_reads (formula_text labels f) (spelling f) (formula_reads f over.1 short.1))
    formula_reads (until op q f b g) over short =
        operator_reads op q _ (λ ts. spelling f (UntilWord ∷ bound_tokens b (spelling g ts))) short.0
        (until_reads (formula_text labels f) (bound_text b) (formula_text labels g)
        (spelling f) (λ ts. UntilWord ∷ bound_tokens b ts) (spelling g)
        (formula_reads f over.1 short.1) (bound_reads b short.2) (formula_reads g over.2 short.3))

pub text_reads_back : TextReadsBack
text_reads_back line labels f are says fits =
    let over = formulas_are_over line labels f says in
    let short = short_numbers says.spells (short_tokens says.has) in
    let has = formula_reads labels are f over short.0 [] [] (λ b more e. absurd (nothing_first b more e)) no_more in
    record {
      short = fits;
      tokens = spelling f [];
      has = subst (λ bytes. HasTokens labels bytes (spelling f []) []) (append-nil (formula_text labels f)) has;
      spells = spelled_again (length labels) 1 says.spells;
    }
