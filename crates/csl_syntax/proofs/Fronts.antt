-- What stands at the head of bytes: a token, a number that is none, or nothing.
use Rattle.std.proofs.Common.{◌≡◌, ◌≢◌, ℕ, suc, ◌<◌, ◌≤◌, ◌⊎◌, inl, inr, Bool, true, false, ◌&&◌, ◌==◌, not, Some, None, List, [], ◌∷◌}
use Rattle.std.proofs.Common.{◌++◌, length, refl, sym, ◌∙◌, ap, subst, arith, append_assoc}
use Rattle.std.specs.Prelude.{IsTrue}
use Rattle.std.specs.Char.{is_ascii_digit}
use Rattle.std.specs.List.{list_all}
use Rattle.std.proofs.lemmas.Bool.{eqb-true, eqb-false}
use Rattle.decimal_text.specs.Spelling.{exponent_text}
use Rattle.decimal_text.proofs.DecimalCases.{WordCase, Writes as IsWritten, Lacks, IsWordCase, some_word_case}
use Rattle.text_lines.specs.Name.{is_reserved, reserved_words, begins_name, continues_name}
use Rattle.text_lines.specs.Words.{is_blank}
use Rattle.csl_syntax.specs.Scanner.{EndsRun, SplitsRun, BeginsWithDigits, BeginsWithExponent, HasNoExponent}
use Rattle.csl_syntax.specs.TokenText.{is_word, is_digit_or_point, IsNumberText, symbols, is_symbol, IsTokenText, IsTokenBefore}
use Rattle.csl_syntax.specs.Tokens.{label_number, Writes, BeginsWithToken}
use Rattle.csl_syntax.specs.FormulaFault.{HasNoToken, HasFaultyNumber}
use Rattle.csl_syntax.specs.declared.formula.Op.TheVariants.{Less, AtMost, More, AtLeast}
use Rattle.csl_syntax.specs.declared.token.Token.{Token}
use Rattle.csl_syntax.specs.declared.token.Token.TheVariants.{Truth, Falsehood, Name, ProbabilityWord, NextWord, UntilWord, ReservedWord}
use Rattle.csl_syntax.specs.declared.token.Token.TheVariants.{Bang, AndAnd, OrOr, OpenParen, CloseParen, OpenBrace, CloseBrace}
use Rattle.csl_syntax.specs.declared.token.Token.TheVariants.{OpenBracket, CloseBracket, Comma, Tilde, Compare, Number}
use Rattle.csl_syntax.proofs.Runs.{true_is_false, both_ways, and_both, same_first, same_rest, nothing_first}
use Rattle.csl_syntax.proofs.LongestTokens.{AllOf, one_of, word_starts, number_starts, symbol_short, word_before, symbol_before}
use Rattle.csl_syntax.proofs.LongestTokens.{number_before}
use Rattle.csl_syntax.proofs.Exponents.{IsLetter, IsSignByte, plain_exponent, signed_exponent, no_signed_exponent, no_plain_exponent}
use Rattle.csl_syntax.proofs.Exponents.{no_letter}

-- the text writes some token
abbrev pub WritesSome : List (List ℕ) → List ℕ → Type 0
WritesSome labels text = (t : Token) × Writes labels text t

module _ (labels : List (List ℕ)) where
  reserved_write : AllOf (WritesSome labels) reserved_words
  reserved_write = (
    (Truth, refl),
    (
      (Falsehood, refl),
      ((ProbabilityWord, refl), ((ReservedWord, inl refl), ((NextWord, refl), ((UntilWord, refl), ((ReservedWord, inr refl), tt))))),
    ),
  )

  name_or_reserved : (b a r : Bool) → (b && a) ≡ true → r ≡ false → (b && a && not r) ≡ true
  name_or_reserved true true true e h = cc
  name_or_reserved true true false e h = refl
  name_or_reserved true false r e h = cc
  name_or_reserved false a r e h = cc

  word_by : (b : ℕ) (s : List ℕ) (r : Bool) → is_reserved (b ∷ s) ≡ r → is_word (b ∷ s) ≡ true → WritesSome labels (b ∷ s)
  word_by b s true e h = one_of (WritesSome labels) (b ∷ s) reserved_words e reserved_write
  word_by b s false e h =
      (Name (label_number labels (b ∷ s)), (name_or_reserved (begins_name b) (list_all continues_name s) (is_reserved (b ∷ s)) h e, refl))

  -- a word writes some token
  pub word_writes : (w : List ℕ) → is_word w ≡ true → WritesSome labels w
  word_writes [] h = absurd (true_is_false (sym h))
  word_writes (b ∷ s) h = word_by b s (is_reserved (b ∷ s)) refl h

  symbols_write : AllOf (WritesSome labels) symbols
  symbols_write = (
    (AndAnd, refl),
    (
      (OrOr, refl),
      (
        (Bang, refl),
        (
          (OpenParen, refl),
          (
            (CloseParen, refl),
            (
              (OpenBrace, refl),
              (
                (CloseBrace, refl),
                (
                  (OpenBracket, refl),
                  (
                    (CloseBracket, refl),
                    (
                      (Comma, refl),
                      (
                        (Tilde, refl),
                        (
                          (Compare AtMost, refl),
                          ((Compare AtLeast, refl), ((Compare Less, refl), ((Compare More, refl), tt))),
                        ),
                      ),
                    ),
                  ),
                ),
              ),
            ),
          ),
        ),
      ),
    ),
  )

  -- a symbol writes some token
  pub symbol_writes : (w : List ℕ) → is_symbol w ≡ true → WritesSome labels w
  symbol_writes w h = one_of (WritesSome labels) w symbols h symbols_write

-- the longest run at the head of bytes
record Split (p : ℕ → Bool) (bytes : List ℕ) : Type 0 where
  run : List ℕ
  rest : List ℕ
  splits : SplitsRun p bytes run rest

split_by : (p : ℕ → Bool) (b : ℕ) (s : List ℕ) (r : Bool) → p b ≡ r → Split p s → Split p (b ∷ s)
split_by p b s true e h = record {
  run = b ∷ h.run;
  rest = h.rest;
  splits =
      record { split = ap (λ v. b ∷ v) h.splits.split; all = and_both (p b) (list_all p h.run) e h.splits.all; ends = h.splits.ends };
}
split_by p b s false e h = record {
  run = [];
  rest = b ∷ s;
  splits = record { split = refl; all = refl; ends = λ c m f. ap p (sym (same_first b c s m f)) ∙ e };
}

split : (p : ℕ → Bool) (bytes : List ℕ) → Split p bytes
split p [] = record { run = []; rest = []; splits = record { split = refl; all = refl; ends = λ b m e. absurd (nothing_first b m e) } }
split p (b ∷ s) = split_by p b s (p b) refl (split p s)

-- digits at the head of bytes
digits_by : (s run rest : List ℕ) → SplitsRun is_ascii_digit s run rest → ((k : List ℕ) × BeginsWithDigits s k) ⊎ EndsRun is_ascii_digit s
digits_by s [] rest h = inr (λ b m e. h.ends b m (sym h.split ∙ e))
digits_by s (d ∷ ds) rest h =
    let some : 0 < suc (length ds) = omega arith in inl (rest, record { digits = d ∷ ds; some = some; splits = h })

digits_front : (s : List ℕ) → ((k : List ℕ) × BeginsWithDigits s k) ⊎ EndsRun is_ascii_digit s
digits_front s = let h = split is_ascii_digit s in digits_by s h.run h.rest h.splits

-- one of two bytes, or neither
either_byte : (b x y : ℕ) (p q : Bool) → (b == x) ≡ p → (b == y) ≡ q → ((b ≡ x) ⊎ (b ≡ y)) ⊎ ((b ≢ x) × (b ≢ y))
either_byte b x y true q e f = inl (inl (eqb-true b x e))
either_byte b x y false true e f = inl (inr (eqb-true b y f))
either_byte b x y false false e f = inr (eqb-false b x e, eqb-false b y f)

neither : {b x y : ℕ} → (b ≢ x) × (b ≢ y) → ¬ ((b ≡ x) ⊎ (b ≡ y))
neither (h, g) (inl e) = h e
neither (h, g) (inr e) = g e

abbrev pub ExponentFront : List ℕ → Type 0
ExponentFront s = ((k : List ℕ) × BeginsWithExponent s k) ⊎ HasNoExponent s

signed_front : (l b : ℕ) (s : List ℕ) → IsLetter l → IsSignByte b → ((k : List ℕ) × BeginsWithDigits s k) ⊎ EndsRun is_ascii_digit s
    → ExponentFront (l ∷ b ∷ s)
signed_front l b s h g (inl (k, d)) = inl (k, signed_exponent (l ∷ b ∷ s) s k l b h g refl d)
signed_front l b s h g (inr d) = inr (no_signed_exponent (l ∷ b ∷ s) s l b refl g d)

plain_front : (l : ℕ) (s : List ℕ) → IsLetter l → ((b : ℕ) (m : List ℕ) → s ≡ b ∷ m → ¬ IsSignByte b)
    → ((k : List ℕ) × BeginsWithDigits s k) ⊎ EndsRun is_ascii_digit s → ExponentFront (l ∷ s)
plain_front l s h g (inl (k, d)) = inl (k, plain_exponent (l ∷ s) s k l h refl d)
plain_front l s h g (inr d) = inr (no_plain_exponent (l ∷ s) s l refl g d)

sign_front : (l b : ℕ) (s : List ℕ) → IsLetter l → IsSignByte b ⊎ ((b ≢ 43) × (b ≢ 45)) → ExponentFront (l ∷ b ∷ s)
sign_front l b s h (inl g) = signed_front l b s h g (digits_front s)
sign_front l b s h (inr g) =
    plain_front l (b ∷ s) h (λ c m e k. neither g (subst IsSignByte (sym (same_first b c s m e)) k)) (digits_front (b ∷ s))

letter_front : (l : ℕ) (s : List ℕ) → IsLetter l → ExponentFront (l ∷ s)
letter_front l [] h = plain_front l [] h (λ b m e k. nothing_first b m e) (digits_front [])
letter_front l (b ∷ s) h = sign_front l b s h (either_byte b 43 45 (b == 43) (b == 45) refl refl)

first_front : (l : ℕ) (s : List ℕ) → IsLetter l ⊎ ((l ≢ 101) × (l ≢ 69)) → ExponentFront (l ∷ s)
first_front l s (inl h) = letter_front l s h
first_front l s (inr h) = inr (no_letter (l ∷ s) (λ b c e k. neither h (subst IsLetter (sym (same_first l b s c e)) k)))

exponent_front : (s : List ℕ) → ExponentFront s
exponent_front [] = inr (no_letter [] (λ l c e k. nothing_first l c e))
exponent_front (l ∷ s) = first_front l s (either_byte l 101 69 (l == 101) (l == 69) refl refl)

-- where with two bytes and with one no symbol stands, none does
no_symbol_text : (b : ℕ) (m text k : List ℕ) → is_symbol (b ∷ []) ≡ false
    → ((c : ℕ) (r : List ℕ) → m ≡ c ∷ r → is_symbol (b ∷ c ∷ []) ≡ false) → b ∷ m ≡ text ++ k →
    is_symbol text ≡ true → length text ≤ 2 → ⊥
no_symbol_text b m [] k h g e f l = true_is_false (sym f)
no_symbol_text b m (x ∷ []) k h g e f l = both_ways (is_symbol (x ∷ [])) f (ap (λ v. is_symbol (v ∷ [])) (sym (same_first b x m k e)) ∙ h)
no_symbol_text b m (x ∷ y ∷ []) k h g e f l =
    both_ways (is_symbol (x ∷ y ∷ [])) f
    (ap (λ v. is_symbol (v ∷ y ∷ [])) (sym (same_first b x m (y ∷ k) e)) ∙ g y k (same_rest b x m (y ∷ k) e))
no_symbol_text b m (x ∷ y ∷ z ∷ r) k h g e f l = omega (arith, l)

no_text : (b : ℕ) (m : List ℕ) → begins_name b ≡ false → is_digit_or_point b ≡ false → is_symbol (b ∷ []) ≡ false →
    ((c : ℕ) (r : List ℕ) → m ≡ c ∷ r → is_symbol (b ∷ c ∷ []) ≡ false) → (text k : List ℕ) → b ∷ m ≡ text ++ k → ¬ IsTokenText text
no_text b m n d h g text k e (inl f) =
    let s = word_starts text f in
    both_ways (begins_name s.first) s.is
    (ap begins_name (sym (same_first b s.first m (s.others ++ k) (e ∙ ap (λ v. v ++ k) s.split))) ∙ n)
no_text b m n d h g text k e (inr (inl f)) =
    let s = number_starts text f in
    both_ways (is_digit_or_point s.first) s.is
    (ap is_digit_or_point (sym (same_first b s.first m (s.others ++ k) (e ∙ ap (λ v. v ++ k) s.split))) ∙ d)
no_text b m n d h g text k e (inr (inr f)) = no_symbol_text b m text k h g e f (symbol_short text f).1

-- no token begins with a byte that is none of their first bytes
pub has_no_token : (bytes : List ℕ) (b : ℕ) (m : List ℕ) → bytes ≡ b ∷ m → ¬ IsTrue (is_blank b) → begins_name b ≡ false
    → is_digit_or_point b ≡ false → is_symbol (b ∷ []) ≡ false →
    ((c : ℕ) (r : List ℕ) → m ≡ c ∷ r → is_symbol (b ∷ c ∷ []) ≡ false) → HasNoToken bytes
has_no_token bytes b m e q n d h g = record {
  first = b;
  others = m;
  stands = e;
  not_blank = q;
  none = λ text k f. no_text b m n d h g text k (sym e ∙ f);
}

-- a symbol of two bytes
pub pair_before : (bytes : List ℕ) (b c : ℕ) (m : List ℕ) → bytes ≡ b ∷ c ∷ m → is_symbol (b ∷ c ∷ []) ≡ true
    → IsTokenBefore bytes (b ∷ c ∷ []) m
pair_before bytes b c m e h =
    symbol_before bytes (b ∷ c ∷ []) m e h (λ d r f. too_many (is_symbol (b ∷ c ∷ d ∷ [])) (λ k. too_long b c d k))
  where
    too_many : (x : Bool) → (x ≡ true → ⊥) → x ≡ false
    too_many true k = absurd (k refl)
    too_many false k = refl

    too_long : (b c d : ℕ) → is_symbol (b ∷ c ∷ d ∷ []) ≡ true → ⊥
    too_long b c d k = let l : 3 ≤ 2 = (symbol_short (b ∷ c ∷ d ∷ []) k).1 in omega (arith, l)

-- a symbol of one byte
pub single_before : (bytes : List ℕ) (b : ℕ) (m : List ℕ) → bytes ≡ b ∷ m → is_symbol (b ∷ []) ≡ true
    → ((c : ℕ) (r : List ℕ) → m ≡ c ∷ r → is_symbol (b ∷ c ∷ []) ≡ false) →
    IsTokenBefore bytes (b ∷ []) m
single_before bytes b m e h g = symbol_before bytes (b ∷ []) m e h g

module _ (labels : List (List ℕ)) where
  -- the bytes begin with a token, with a number that is none, or with nothing
  abbrev pub Front : List ℕ → Type 0
  Front bytes = HasNoToken bytes ⊎ (HasFaultyNumber bytes ⊎ ((t : Token) × (more : List ℕ) × BeginsWithToken labels bytes t more))

  written : (bytes w a : List ℕ) → IsTokenBefore bytes w a → WritesSome labels w → Front bytes
  written bytes w a h (t, g) = inr (inr (t, a, record { text = w; longest = h; writes = g }))

  word_front : (b : ℕ) (s : List ℕ) → begins_name b ≡ true → Front (b ∷ s)
  word_front b s e =
      let h = split continues_name s in
      let word : is_word (b ∷ h.run) ≡ true = and_both (begins_name b) (list_all continues_name h.run) e h.splits.all in
      written (b ∷ s) (b ∷ h.run) h.rest (word_before (b ∷ s) (b ∷ h.run) h.rest (ap (λ v. b ∷ v) h.splits.split) word h.splits.ends)
      (word_writes labels (b ∷ h.run) word)

  number_case : (bytes w a : List ℕ) (c : WordCase) → IsTokenBefore bytes w a → IsNumberText w → IsWordCase w c → Front bytes
  number_case bytes w a (IsWritten v) h n g = inr (inr (Number v, a, record { text = w; longest = h; writes = g }))
  number_case bytes w a (Lacks f) h n g = inr (inl (record { text = w; more = a; longest = h; number = n; fault = f; has = g }))

  number_text : (bytes w a : List ℕ) → IsTokenBefore bytes w a → IsNumberText w → Front bytes
  number_text bytes w a h n = let c = some_word_case w in number_case bytes w a c.0 h n c.1

  number_front : (b : ℕ) (s : List ℕ) → is_digit_or_point b ≡ true → Split is_digit_or_point s → Front (b ∷ s)
  number_front b s e h = number_ends b s h.run h.rest e h.splits (exponent_front h.rest)
    where
      append_nil : (s : List ℕ) → s ++ [] ≡ s
      append_nil [] = refl
      append_nil (t ∷ s) = ap (λ v. t ∷ v) (append_nil s)

      number_ends : (b : ℕ) (s run rest : List ℕ) → is_digit_or_point b ≡ true → SplitsRun is_digit_or_point s run rest
          → ExponentFront rest → Front (b ∷ s)
      number_ends b s run rest e h (inl (k, x)) =
          let some : 0 < suc (length run) = omega arith in
          let n : IsNumberText (b ∷ (run ++ exponent_text (Some x.exponent))) = record {
            run = b ∷ run;
            exponent = Some x.exponent;
            spelled = refl;
            some = some;
            digits_and_points = and_both (is_digit_or_point b) (list_all is_digit_or_point run) e h.all;
            written = x.written;
          } in
          let stands : b ∷ s ≡ b ∷ (run ++ exponent_text (Some x.exponent)) ++ k =
          ap (λ v. b ∷ v) (h.split ∙ ap (λ v. run ++ v) x.split ∙ sym (append_assoc run (exponent_text (Some x.exponent)) k)) in
          number_text (b ∷ s) (b ∷ (run ++ exponent_text (Some x.exponent))) k
          (number_before (b ∷ s) (b ∷ (run ++ exponent_text (Some x.exponent))) k n stands x.ends) n
      number_ends b s run rest e h (inr x) =
          let some : 0 < suc (length run) = omega arith in
          let n : IsNumberText (b ∷ run) = record {
            run = b ∷ run;
            exponent = None;
            spelled = sym (append_nil (b ∷ run));
            some = some;
            digits_and_points = and_both (is_digit_or_point b) (list_all is_digit_or_point run) e h.all;
            written = tt;
          } in
          number_text (b ∷ s) (b ∷ run) rest (number_before (b ∷ s) (b ∷ run) rest n (ap (λ v. b ∷ v) h.split) (h.ends, x)) n

  single_front : (b : ℕ) (s : List ℕ) (r : Bool) → is_symbol (b ∷ []) ≡ r → is_blank b ≡ false → begins_name b ≡ false
      → is_digit_or_point b ≡ false →
      ((c : ℕ) (m : List ℕ) → s ≡ c ∷ m → is_symbol (b ∷ c ∷ []) ≡ false) → Front (b ∷ s)
  single_front b s true h q n d g = written (b ∷ s) (b ∷ []) s (single_before (b ∷ s) b s refl h g) (symbol_writes labels (b ∷ []) h)
  single_front b s false h q n d g = inl (has_no_token (b ∷ s) b s refl (λ k. both_ways (is_blank b) k q) n d h g)

  pair_front : (b c : ℕ) (s : List ℕ) (r : Bool) → is_symbol (b ∷ c ∷ []) ≡ r → is_blank b ≡ false → begins_name b ≡ false
      → is_digit_or_point b ≡ false → Front (b ∷ c ∷ s)
  pair_front b c s true h q n d =
      written (b ∷ c ∷ s) (b ∷ c ∷ []) s (pair_before (b ∷ c ∷ s) b c s refl h) (symbol_writes labels (b ∷ c ∷ []) h)
  pair_front b c s false h q n d =
      single_front b (c ∷ s) (is_symbol (b ∷ [])) refl q n d (λ e m f. ap (λ v. is_symbol (b ∷ v ∷ [])) (sym (same_first c e s m f)) ∙ h)

  symbol_front : (b : ℕ) (s : List ℕ) → is_blank b ≡ false → begins_name b ≡ false → is_digit_or_point b ≡ false → Front (b ∷ s)
  symbol_front b [] q n d = single_front b [] (is_symbol (b ∷ [])) refl q n d (λ c m e. absurd (nothing_first c m e))
  symbol_front b (c ∷ s) q n d = pair_front b c s (is_symbol (b ∷ c ∷ [])) refl q n d

  other_front : (b : ℕ) (s : List ℕ) (r : Bool) → is_digit_or_point b ≡ r → is_blank b ≡ false → begins_name b ≡ false → Front (b ∷ s)
  other_front b s true d q n = number_front b s d (split is_digit_or_point s)
  other_front b s false d q n = symbol_front b s q n d

  front_by : (b : ℕ) (s : List ℕ) (r : Bool) → begins_name b ≡ r → is_blank b ≡ false → Front (b ∷ s)
  front_by b s true n q = word_front b s n
  front_by b s false n q = other_front b s (is_digit_or_point b) refl q n

  -- where the first byte is no blank
  pub front : (b : ℕ) (s : List ℕ) → is_blank b ≡ false → Front (b ∷ s)
  front b s q = front_by b s (begins_name b) refl q
