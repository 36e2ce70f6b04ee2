-- What the scanner's functions rest on.
use Rattle.std.proofs.Common.{◌≡◌, ◌≢◌, ℕ, zero, suc, ◌-◌, ◌<◌, ◌≤◌, inl, inr, Bool, true, false, not, cond, nat_lt, Option, Some, None}
use Rattle.std.proofs.Common.{List, [], ◌∷◌, ◌++◌, length, take, drop, refl, sym, ◌∙◌, ap, subst, arith, append_assoc, length-append}
use Rattle.std.specs.Prelude.{IsTrue, All, slice_index, unwrap_or, position, MatchOption}
use Rattle.std.specs.Char.{is_ascii_digit}
use Rattle.std.specs.List.{list_all, position_or_len}
use Rattle.std.proofs.lemmas.Bool.{ltb-false}
use Rattle.std.proofs.lemmas.List.Sums.{list_all-from_AllPass, prefix_len-le-length}
use Rattle.std.proofs.lemmas.List.{take-append-drop}
use Rattle.decimal_text.specs.Reading.{BeginsWithNoLetter, BeginsWithLetter}
use Rattle.decimal_text.specs.Spelling.{exponent_text}
use Rattle.text_lines.specs.Name.{begins_name, continues_name}
use Rattle.text_lines.specs.Words.{is_blank}
use Rattle.csl_syntax.specs.FormulaFault.{HasNoToken}
use Rattle.csl_syntax.specs.Scanner.{EndsRun, SplitsRun, BeginsWithDigits, BeginsWithExponent, HasNoExponent, BeginsWithNoSign}
use Rattle.csl_syntax.specs.Scanner.{BeginsWithSign, SplitsNumber, HasNoSymbol, IsSymbolOf, SkipsBlanks}
use Rattle.csl_syntax.specs.TokenText.{is_word, is_digit_or_point, is_symbol, IsNumberText, IsTokenBefore}
use Rattle.csl_syntax.specs.Tokens.{BeginsWithToken}
use Rattle.csl_syntax.specs.declared.token.Token.{Token}
use Rattle.csl_syntax.proofs.Runs.{true_is_false, both_ways, and_right, and_both, same_first, nothing_first, begins_continues}
use Rattle.csl_syntax.proofs.LongestTokens.{word_before, number_before}
use Rattle.csl_syntax.proofs.Exponents.{IsLetter, IsSignByte, plain_exponent, signed_exponent, no_signed_exponent, no_plain_exponent}
use Rattle.csl_syntax.proofs.Exponents.{no_letter}
use Rattle.csl_syntax.proofs.Fronts.{has_no_token, pair_before, single_before}

pub not_so : (b : Bool) → IsTrue (not b) → b ≡ false
not_so true h = absurd (true_is_false (sym h))
not_so false h = refl

-- the first byte of some bytes, and the others
pub first_split : (s : List ℕ) → 0 < length s → s ≡ slice_index s 0 ∷ drop 1 s
first_split [] h = let l : 0 < 0 = h in absurd (nothing_below l)
  where
    nothing_below : 0 < 0 → ⊥
    nothing_below h = omega (arith, h)
first_split (b ∷ s) h = refl

-- a longest run
pub splits_run : (p : ℕ → Bool) (bytes run rest : List ℕ) → bytes ≡ run ++ rest → All (λ b. IsTrue (p b)) run
    → ((b : ℕ) (more : List ℕ) → rest ≡ b ∷ more → IsTrue (not (p b))) →
    SplitsRun p bytes run rest
splits_run p bytes run rest e h g = record { split = e; all = list_all-from_AllPass p run h; ends = λ b m f. not_so (p b) (g b m f) }

-- a word, from its first byte
word_by : (b : ℕ) (s text rest : List ℕ) → begins_name b ≡ true → b ∷ s ≡ text ++ rest → list_all continues_name text ≡ true
    → EndsRun continues_name rest → is_word text ≡ true
word_by b s [] rest h e a n = absurd (both_ways (continues_name b) (begins_continues b h) (n b s (sym e)))
word_by b s (c ∷ text) rest h e a n =
    and_both (begins_name c) (list_all continues_name text) (ap begins_name (sym (same_first b c s (text ++ rest) e)) ∙ h)
    (and_right (continues_name c) (list_all continues_name text) a)

pub word_is : (bytes text rest : List ℕ) → 0 < length bytes → begins_name (slice_index bytes 0) ≡ true
    → SplitsRun continues_name bytes text rest → is_word text ≡ true
word_is bytes text rest l h s =
    word_by (slice_index bytes 0) (drop 1 bytes) text rest h (sym (first_split bytes l) ∙ s.split) s.all s.ends

pub word_stands : (bytes text rest : List ℕ) → 0 < length bytes → begins_name (slice_index bytes 0) ≡ true
    → SplitsRun continues_name bytes text rest → IsTokenBefore bytes text rest
word_stands bytes text rest l h s = word_before bytes text rest s.split (word_is bytes text rest l h s) s.ends

-- a place, or the length
place_by : (k n : ℕ) (b : Bool) → k ≤ n → nat_lt k n ≡ b → unwrap_or (cond b (Some k) None) n ≡ k
place_by k n true l e = refl
place_by k n false l e = let m : n ≤ k = ltb-false k n e in omega (arith, l, m)

pub place_number : {X : Type 0} (p : X → Bool) (xs : List X) → unwrap_or (position p xs) (length xs) ≡ position_or_len p xs
place_number p xs =
    place_by (position_or_len p xs) (length xs) (nat_lt (position_or_len p xs) (length xs)) (prefix_len-le-length (λ x. not (p x)) xs)
    refl

-- digits or none
zero_length : (s : List ℕ) → length s ≡ 0 → s ≡ []
zero_length [] e = refl
zero_length (b ∷ s) e = absurd (no_successor (length s) e)
  where
    no_successor : (n : ℕ) → suc n ≡ 0 → ⊥
    no_successor n e = omega (arith, e)

pub no_digits_here : (bytes run rest : List ℕ) → SplitsRun is_ascii_digit bytes run rest → length run ≡ 0 → EndsRun is_ascii_digit bytes
no_digits_here bytes run rest h e =
    let same : bytes ≡ rest = h.split ∙ ap (λ v. v ++ rest) (zero_length run e) in
    subst (EndsRun is_ascii_digit) (sym same) h.ends

pub digits_here : (bytes run rest : List ℕ) → SplitsRun is_ascii_digit bytes run rest → 0 < length run → BeginsWithDigits bytes rest
digits_here bytes run rest h l = record { digits = run; some = l; splits = h }

-- what holds of an answer holds so too
pub answer_with : {A : Type 0} (r : Option A) {P Q : Type 0} {R S : A → Type 0} → (P → Q) → ((a : A) → R a → S a) → MatchOption r P R
    → MatchOption r Q S
answer_with None f g h = f h
answer_with (Some a) f g h = g a h

-- a letter
letter_of : (bytes rest : List ℕ) → BeginsWithLetter bytes rest → (l : ℕ) × IsLetter l × (bytes ≡ l ∷ rest)
letter_of bytes rest (inl e) = (101, inl refl, e)
letter_of bytes rest (inr e) = (69, inr refl, e)

sign_of : (bytes rest : List ℕ) → BeginsWithSign bytes rest → (s : ℕ) × IsSignByte s × (bytes ≡ s ∷ rest)
sign_of bytes rest (inl e) = (43, inl refl, e)
sign_of bytes rest (inr e) = (45, inr refl, e)

pub no_letter_here : (bytes : List ℕ) → BeginsWithNoLetter bytes → HasNoExponent bytes
no_letter_here [] h = no_letter [] (λ l c e k. nothing_first l c e)
no_letter_here (b ∷ s) h = no_letter (b ∷ s) (λ l c e k. neither h (subst IsLetter (sym (same_first b l s c e)) k))
  where
    neither : {b : ℕ} → (b ≢ 101) × (b ≢ 69) → IsLetter b → ⊥
    neither (h, g) (inl e) = h e
    neither (h, g) (inr e) = g e

no_sign_here : (s : List ℕ) → BeginsWithNoSign s → (b : ℕ) (m : List ℕ) → s ≡ b ∷ m → ¬ IsSignByte b
no_sign_here [] h b m e k = nothing_first b m e
no_sign_here (c ∷ s) h b m e k = neither h (subst IsSignByte (sym (same_first c b s m e)) k)
  where
    neither : {b : ℕ} → (b ≢ 43) × (b ≢ 45) → IsSignByte b → ⊥
    neither (h, g) (inl e) = h e
    neither (h, g) (inr e) = g e

module _ (bytes signed : List ℕ) (letter : BeginsWithLetter bytes signed) where
  pub with_sign : (digits rest : List ℕ) → BeginsWithSign signed digits → BeginsWithDigits digits rest → BeginsWithExponent bytes rest
  with_sign digits rest h d =
      let l = letter_of bytes signed letter in
      let s = sign_of signed digits h in
      signed_exponent bytes digits rest l.0 s.0 l.1 s.1 (l.2 ∙ ap (λ v. l.0 ∷ v) s.2) d

  pub no_digits_after_sign : (digits : List ℕ) → BeginsWithSign signed digits → EndsRun is_ascii_digit digits → HasNoExponent bytes
  no_digits_after_sign digits h d =
      let l = letter_of bytes signed letter in
      let s = sign_of signed digits h in
      no_signed_exponent bytes digits l.0 s.0 (l.2 ∙ ap (λ v. l.0 ∷ v) s.2) s.1 d

  pub without_sign : (rest : List ℕ) → BeginsWithDigits signed rest → BeginsWithExponent bytes rest
  without_sign rest d = let l = letter_of bytes signed letter in plain_exponent bytes signed rest l.0 l.1 l.2 d

  pub no_digits_after_letter : BeginsWithNoSign signed → EndsRun is_ascii_digit signed → HasNoExponent bytes
  no_digits_after_letter h d = let l = letter_of bytes signed letter in no_plain_exponent bytes signed l.0 l.2 (no_sign_here signed h) d

-- the mantissa isn't empty
some_run : (b : ℕ) (s run rest : List ℕ) → is_digit_or_point b ≡ true → b ∷ s ≡ run ++ rest → EndsRun is_digit_or_point rest
    → 0 < length run
some_run b s [] rest h e n = absurd (both_ways (is_digit_or_point b) h (n b s (sym e)))
some_run b s (c ∷ run) rest h e n = omega arith

append_nil : (s : List ℕ) → s ++ [] ≡ s
append_nil [] = refl
append_nil (t ∷ s) = ap (λ v. t ∷ v) (append_nil s)

take_front : (w a : List ℕ) (n : ℕ) → n ≡ length w → take n (w ++ a) ≡ w
take_front [] a n e = rw e refl
take_front (b ∷ w) a n e = rw e (ap (λ v. b ∷ v) (take_front w a (length w) refl))

drop_front : (w a : List ℕ) (n : ℕ) → n ≡ length w → drop n (w ++ a) ≡ a
drop_front [] a n e = rw e refl
drop_front (b ∷ w) a n e = rw e (drop_front w a (length w) refl)

module _ (bytes run after : List ℕ) (some : 0 < length bytes) (starts : is_digit_or_point (slice_index bytes 0) ≡ true)
    (splits : SplitsRun is_digit_or_point bytes run after) where
  run_length : 0 < length run
  run_length = some_run (slice_index bytes 0) (drop 1 bytes) run after starts (sym (first_split bytes some) ∙ splits.split) splits.ends

  pub number_alone : HasNoExponent after → SplitsNumber bytes run after
  number_alone h =
      let n : IsNumberText run = record {
        run = run;
        exponent = None;
        spelled = sym (append_nil run);
        some = run_length;
        digits_and_points = splits.all;
        written = tt;
      } in
      record { longest = number_before bytes run after n splits.split (splits.ends, h); number = n }

  pub number_with : (text rest tail : List ℕ) → BeginsWithExponent after rest → text ≡ take (length bytes - length rest) bytes
      → tail ≡ drop (length bytes - length rest) bytes →
      SplitsNumber bytes text tail
  number_with text rest tail h e f =
      let whole : bytes ≡ (run ++ exponent_text (Some h.exponent)) ++ rest =
      splits.split ∙ ap (λ v. run ++ v) h.split ∙ sym (append_assoc run (exponent_text (Some h.exponent)) rest) in
      let count : length bytes - length rest ≡ length (run ++ exponent_text (Some h.exponent)) =
      omega (arith, ap length whole, length-append (run ++ exponent_text (Some h.exponent)) rest) in
      let same : text ≡ run ++ exponent_text (Some h.exponent) =
      e ∙ ap (take (length bytes - length rest)) whole
      ∙ take_front (run ++ exponent_text (Some h.exponent)) rest (length bytes - length rest) count in
      let n : IsNumberText text = record {
        run = run;
        exponent = Some h.exponent;
        spelled = same;
        some = run_length;
        digits_and_points = splits.all;
        written = h.written;
      } in
      let end : tail ≡ rest =
      f ∙ ap (drop (length bytes - length rest)) whole
      ∙ drop_front (run ++ exponent_text (Some h.exponent)) rest (length bytes - length rest) count in
      let stands : bytes ≡ text ++ tail = whole ∙ ap (λ v. v ++ rest) (sym same) ∙ ap (λ v. text ++ v) (sym end) in
      record { longest = number_before bytes text tail n stands (subst (EndsRun is_ascii_digit) (sym end) h.ends); number = n }

-- no token
pub nothing_here : (bytes : List ℕ) → 0 < length bytes → is_blank (slice_index bytes 0) ≡ false
    → begins_name (slice_index bytes 0) ≡ false →
    is_digit_or_point (slice_index bytes 0) ≡ false → HasNoSymbol bytes → HasNoToken bytes
nothing_here bytes l q n d h =
    let e = first_split bytes l in
    has_no_token bytes (slice_index bytes 0) (drop 1 bytes) e (λ k. both_ways (is_blank (slice_index bytes 0)) k q) n d
    (h.single (slice_index bytes 0) (drop 1 bytes) e)
    (λ c m f. h.pair (slice_index bytes 0) c m (e ∙ ap (λ v. slice_index bytes 0 ∷ v) f))

take_all : (s : List ℕ) (n : ℕ) → n ≡ length s → take n s ≡ s
take_all [] n e = rw e refl
take_all (b ∷ s) n e = rw e (ap (λ v. b ∷ v) (take_all s (length s) refl))

-- the first byte, or the first two, and the others
pub one_and_others : (s : List ℕ) → 1 ≤ length s → s ≡ slice_index s 0 ∷ take (length s - 1) (drop 1 s)
one_and_others [] h = absurd (none h)
  where
    none : 1 ≤ 0 → ⊥
    none h = omega (arith, h)
one_and_others (b ∷ s) h =
    let n : suc (length s) - 1 ≡ length s = omega arith in ap (λ v. b ∷ v) (sym (take_all s (suc (length s) - 1) n))

pub two_and_others : (s : List ℕ) → 2 ≤ length s → s ≡ slice_index s 0 ∷ slice_index s 1 ∷ take (length s - 2) (drop 2 s)
two_and_others [] h = absurd (none h)
  where
    none : 2 ≤ 0 → ⊥
    none h = omega (arith, h)
two_and_others (b ∷ []) h = absurd (none h)
  where
    none : 2 ≤ 1 → ⊥
    none h = omega (arith, h)
two_and_others (b ∷ c ∷ s) h =
    let n : suc (suc (length s)) - 2 ≡ length s = omega arith in ap (λ v. b ∷ c ∷ v) (sym (take_all s (suc (suc (length s)) - 2) n))

-- a symbol of two bytes at the head of bytes
pub pair_here : (labels : List (List ℕ)) (bytes : List ℕ) (b c : ℕ) (rest : List ℕ) (t : Token) → bytes ≡ b ∷ c ∷ rest
    → IsSymbolOf (b ∷ c ∷ []) t → BeginsWithToken labels bytes t rest
pair_here labels bytes b c rest t e h =
    record { text = b ∷ c ∷ []; longest = pair_before bytes b c rest e h.symbol; writes = h.writes labels }

-- a symbol of one byte, where the first two are none
pub single_here : (labels : List (List ℕ)) (bytes : List ℕ) (b : ℕ) (rest : List ℕ) (t : Token) → bytes ≡ b ∷ rest
    → IsSymbolOf (b ∷ []) t →
    ((c d : ℕ) (more : List ℕ) → bytes ≡ c ∷ d ∷ more → is_symbol (c ∷ d ∷ []) ≡ false) → BeginsWithToken labels bytes t rest
single_here labels bytes b rest t e h g = record {
  text = b ∷ [];
  longest = single_before bytes b rest e h.symbol (λ c r f. g b c r (e ∙ ap (λ v. b ∷ v) f));
  writes = h.writes labels;
}

-- all bytes are blanks
pub all_blank : (bytes : List ℕ) → All (λ b. IsTrue (is_blank b)) bytes → SkipsBlanks bytes []
all_blank bytes h = record { blanks = bytes; split = sym (append_nil bytes); all = h; ends = λ b m e. absurd (nothing_first b m e) }

first_at : (s : List ℕ) (n : ℕ) → n < length s → (m : List ℕ) × (drop n s ≡ slice_index s n ∷ m)
first_at [] n h = absurd (none n h)
  where
    none : (n : ℕ) → n < 0 → ⊥
    none n h = omega (arith, h)
first_at (b ∷ s) zero h = (s, refl)
first_at (b ∷ s) (suc n) h = first_at s n (omega (arith, h))

-- so many bytes are blanks, and the next is none
pub blanks_before : (bytes : List ℕ) (n : ℕ) → n < length bytes → All (λ b. IsTrue (is_blank b)) (take n bytes)
    → IsTrue (not (is_blank (slice_index bytes n))) →
    SkipsBlanks bytes (drop n bytes)
blanks_before bytes n l h q =
    let e = first_at bytes n l in
    record {
      blanks = take n bytes;
      split = sym (take-append-drop n bytes);
      all = h;
      ends = λ b m f. subst (λ v. IsTrue (not (is_blank v))) (same_first (slice_index bytes n) b e.0 m (sym e.1 ∙ f)) q;
    }
