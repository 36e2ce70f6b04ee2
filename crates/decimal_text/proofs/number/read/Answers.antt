use Rattle.std.proofs.Common.{◌≡◌, ◌↔◌, ℕ, ◌+◌, ◌^◌, ◌<◌, ◌≤◌, Result, Ok, Err, IfOk, List, ◌++◌, length, refl, ap, sym, subst, ◌∙◌, arith}
use Rattle.decimal_text.specs.declared.number_fault.NumberFault.{NumberFault}
use Rattle.decimal_text.specs.declared.number_fault.NumberFault.TheVariants.{NotNumber, TooFine, TooBig}
use Rattle.decimal_text.specs.declared.significand.Significand.{Significand}
use Rattle.decimal_text.specs.declared.exponent.Exponent.{Exponent}
use Rattle.decimal_text.specs.DecimalNumber.{DecimalNumber, IsShortDecimal}
use Rattle.decimal_text.specs.Spelling.{Spelling, mantissa_text, exponent_text, decimals_of, IsSpelledAs, IsNumber}
use Rattle.decimal_text.specs.NumberValue.{StandsFor, IsValueOf, IsTooFine, IsTooBig, mantissa_number, tens_up, tens_down}
use Rattle.decimal_text.specs.Reading.{BeginsWithMantissa, IsExponentText, IsExponentOf, IsSignificand, IsScale, IsAnswerFor}
use Rattle.decimal_text.proofs.Grammar.{mantissa_unique, exponent_after_digits, exponent_after_point}
use Rattle.decimal_text.proofs.Values.{one_value}
use Rattle.decimal_text.proofs.number.read.Goals as goal

-- a mantissa that no exponent follows
no_number : (word rest : List ℕ) (s : Significand) (f : ℕ) → BeginsWithMantissa word rest s f → ¬ IsExponentText rest → ¬ IsNumber word
no_number word rest s f m none = λ n.
    let t = n.0 in
    let parts = n.1.parts in
    let digit = exponent_after_digits t.exponent parts.exponent in
    let point = exponent_after_point t.exponent parts.exponent in
    let same =
    mantissa_unique m.spelling t.mantissa rest (exponent_text t.exponent) m.mantissa parts.mantissa m.digit m.point digit point
    (sym m.spelled ∙ n.1.text)
    in
    none (t.exponent, parts.exponent, same.1)

-- the spelling of a word, and what is answered for it
record Answered (word : List ℕ) (r : Result DecimalNumber NumberFault) : Type 0 where
  spelling : Spelling
  spelled : IsSpelledAs word spelling
  answer : IsAnswerFor (mantissa_number spelling.mantissa) (tens_up spelling.exponent)
      (length (decimals_of spelling.mantissa) + tens_down spelling.exponent) r

stands : (word : List ℕ) (s : Spelling) → IsSpelledAs word s → (d : DecimalNumber) → IsValueOf s d → StandsFor word d
stands word s spelled d value = record { spelling = s; spelled = spelled; value = value }

value_of : (word : List ℕ) (r : Result DecimalNumber NumberFault) → Answered word r → IfOk r (λ d. StandsFor word d)
value_of word (Ok d) a = record { spelling = a.spelling; spelled = a.spelled; value = a.answer.1 }
value_of word (Err e) a = tt

-- one word doesn't stand for a number of more than 18 decimals and for one of fewer
not_both_fine : (word : List ℕ) (d e : DecimalNumber) → StandsFor word d → StandsFor word e → 18 < d.x → e.x ≤ 18 → ⊥
not_both_fine word d e a b more less = omega (arith, more, less, ap (λ n. n.x) (one_value word d e a b))

-- nor for a number of more than 18 digits and for one of fewer
not_both_big : (word : List ℕ) (d e : DecimalNumber) → StandsFor word d → StandsFor word e → 10 ^ 18 ≤ d.c → e.c < 10 ^ 18 → ⊥
not_both_big word d e a b more less = omega (arith, more, less, ap (λ n. n.c) (one_value word d e a b))

number_is : (word : List ℕ) (r : Result DecimalNumber NumberFault) → Answered word r → (d : DecimalNumber) → StandsFor word d
    → IsShortDecimal d → r ≡ Ok d
number_is word (Ok e) a d s short = ap Ok (one_value word e d (value_of word (Ok e) a) s)
number_is word (Err TooFine) a d s short =
    absurd (not_both_fine word a.answer.0 d (stands word a.spelling a.spelled a.answer.0 a.answer.1) s a.answer.2 short.decimals)
number_is word (Err TooBig) a d s short =
    absurd (not_both_big word a.answer.0 d (stands word a.spelling a.spelled a.answer.0 a.answer.1) s a.answer.3 short.below)
number_is word (Err NotNumber) a d s short = absurd a.answer

answered : (word rest : List ℕ) (s : Significand) (f : ℕ) (e : Exponent) (r : Result DecimalNumber NumberFault)
    → BeginsWithMantissa word rest s f → IsExponentOf rest e
    → ((m up down : ℕ) → IsSignificand s m → IsScale e up down → IsAnswerFor m up (f + down) r) → Answered word r
answered word rest s f e r m x h = record {
  spelling = record { mantissa = m.spelling; exponent = x.spelling };
  spelled = record {
    text = m.spelled ∙ ap (λ t. mantissa_text m.spelling ++ t) x.spelled;
    parts = record { mantissa = m.mantissa; exponent = x.written };
  };
  answer =
      subst (λ k. IsAnswerFor (mantissa_number m.spelling) (tens_up x.spelling) (k + tens_down x.spelling) r) (sym m.count)
      (h _ _ _ m.number x.scale);
}

is_no_number : (word : List ℕ) (r : Result DecimalNumber NumberFault) → Answered word r → (r ≡ Err NotNumber) ↔ (¬ IsNumber word)
is_no_number word (Ok d) a = (λ e. cc, λ none. absurd (none (a.spelling, a.spelled)))
is_no_number word (Err TooFine) a = (λ e. cc, λ none. absurd (none (a.spelling, a.spelled)))
is_no_number word (Err TooBig) a = (λ e. cc, λ none. absurd (none (a.spelling, a.spelled)))
is_no_number word (Err NotNumber) a = absurd a.answer

is_too_fine : (word : List ℕ) (r : Result DecimalNumber NumberFault) → Answered word r → (r ≡ Err TooFine) ↔ IsTooFine word
is_too_fine word (Ok d) a =
    (λ e. cc, λ t. absurd (not_both_fine word t.number d t.stands (value_of word (Ok d) a) t.fine a.answer.0.decimals))
is_too_fine word (Err TooFine) a =
    let d = a.answer.0 in
    (λ _. record { number = d; stands = stands word a.spelling a.spelled d a.answer.1; fine = a.answer.2 }, λ _. refl)
is_too_fine word (Err TooBig) a =
    let d = a.answer.0 in
    (λ e. cc, λ t. absurd (not_both_fine word t.number d t.stands (stands word a.spelling a.spelled d a.answer.1) t.fine a.answer.2))
is_too_fine word (Err NotNumber) a = absurd a.answer

is_too_big : (word : List ℕ) (r : Result DecimalNumber NumberFault) → Answered word r → (r ≡ Err TooBig) ↔ IsTooBig word
is_too_big word (Ok d) a = (λ e. cc, λ t. absurd (not_both_big word t.number d t.stands (value_of word (Ok d) a) t.big a.answer.0.below))
is_too_big word (Err TooFine) a =
    let d = a.answer.0 in
    (λ e. cc, λ t. absurd (not_both_fine word d t.number (stands word a.spelling a.spelled d a.answer.1) t.stands a.answer.2 t.decimals))
is_too_big word (Err TooBig) a =
    let d = a.answer.0 in (
      λ _. record { number = d; stands = stands word a.spelling a.spelled d a.answer.1; decimals = a.answer.2; big = a.answer.3 },
      λ _. refl,
    )
is_too_big word (Err NotNumber) a = absurd a.answer

pub returns-clause-value : goal.returns-clause-value
returns-clause-value c =
    value_of _ _
    (answered c.args.word.now _ _ _ _ c.normal_form.result c.in-Some.ensures.mantissa c.in-Some-read_exponent.ensures c.normal_form.ensures)

pub returns-clause-number : goal.returns-clause-number
returns-clause-number c =
    number_is _ _
    (answered c.args.word.now _ _ _ _ c.normal_form.result c.in-Some.ensures.mantissa c.in-Some-read_exponent.ensures c.normal_form.ensures)

pub returns-clause-not_number : goal.returns-clause-not_number
returns-clause-not_number c =
    is_no_number _ _
    (answered c.args.word.now _ _ _ _ c.normal_form.result c.in-Some.ensures.mantissa c.in-Some-read_exponent.ensures c.normal_form.ensures)

pub returns-clause-too_fine : goal.returns-clause-too_fine
returns-clause-too_fine c =
    is_too_fine _ _
    (answered c.args.word.now _ _ _ _ c.normal_form.result c.in-Some.ensures.mantissa c.in-Some-read_exponent.ensures c.normal_form.ensures)

pub returns-clause-too_big : goal.returns-clause-too_big
returns-clause-too_big c =
    is_too_big _ _
    (answered c.args.word.now _ _ _ _ c.normal_form.result c.in-Some.ensures.mantissa c.in-Some-read_exponent.ensures c.normal_form.ensures)

pub returns-in_default-read_exponent-clause-not_number : goal.returns-in_default-read_exponent-clause-not_number
returns-in_default-read_exponent-clause-not_number c =
    (λ _. no_number _ _ _ _ c.in-Some.ensures.mantissa c.in_default-read_exponent.ensures, λ _. refl)

pub returns-in_default-read_exponent-clause-number : goal.returns-in_default-read_exponent-clause-number
returns-in_default-read_exponent-clause-number c d s short =
    absurd (no_number _ _ _ _ c.in-Some.ensures.mantissa c.in_default-read_exponent.ensures (s.spelling, s.spelled))

pub returns-in_default-read_exponent-clause-too_fine : goal.returns-in_default-read_exponent-clause-too_fine
returns-in_default-read_exponent-clause-too_fine c = (
  λ e. cc,
  λ t. absurd
      (no_number _ _ _ _ c.in-Some.ensures.mantissa c.in_default-read_exponent.ensures (t.stands.spelling, t.stands.spelled)),
)

pub returns-in_default-read_exponent-clause-too_big : goal.returns-in_default-read_exponent-clause-too_big
returns-in_default-read_exponent-clause-too_big c = (
  λ e. cc,
  λ t. absurd
      (no_number _ _ _ _ c.in-Some.ensures.mantissa c.in_default-read_exponent.ensures (t.stands.spelling, t.stands.spelled)),
)
