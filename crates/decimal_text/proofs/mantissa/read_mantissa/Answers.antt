use Rattle.std.proofs.Common.{◌≡◌, ◌≢◌, ℕ, ◌+◌, ◌-◌, Option, Some, None, List, [], ◌∷◌, ◌++◌, length, take, drop, refl, ap, sym, subst}
use Rattle.std.proofs.Common.{◌∙◌, arith, append-nil, append_assoc, length-take}
use Rattle.std.proofs.lemmas.List.{take-append-drop}
use Rattle.std.specs.Str.Parse.{digits_value_after}
use Rattle.decimal_text.specs.declared.significand.Significand.{Significand}
use Rattle.decimal_text.specs.Spelling.{MantissaSpelling, mantissa_text, decimals_text, IsMantissa}
use Rattle.decimal_text.specs.Reading.{BeginsWithNoDigit, BeginsWithNoPoint, IsDigitRun, IsSignificand, BeginsWithMantissa}
use Rattle.decimal_text.proofs.Grammar.{no_digit_starts}
use Rattle.decimal_text.proofs.DigitRuns.{digits_value_after-append, tail}
use Rattle.decimal_text.proofs.mantissa.read_mantissa.Goals as goal

abbrev mantissa : List ℕ → Option (List ℕ) → MantissaSpelling
mantissa whole decimals = record { whole = whole; decimals = decimals }

-- a text that begins with neither a digit nor a point
nothing : (text rest : List ℕ) (whole : List ℕ) (decimals : Option (List ℕ)) → BeginsWithNoDigit text → BeginsWithNoPoint text
    → IsMantissa (mantissa whole decimals) → text ≡ mantissa_text (mantissa whole decimals) ++ rest → ⊥
nothing text rest (c ∷ cs) decimals n p m e = no_digit_starts c (cs ++ decimals_text decimals ++ rest) text m.whole.0 n (sym e)
nothing text rest [] None n p m e = omega (arith, m.some)
nothing [] rest [] (Some ds) n p m e = cc
nothing (t ∷ ts) rest [] (Some ds) n p m e = p (let first : t ≡ 46 = cc in first)

-- a text that begins with a point, which no digit follows
lone_point : (text after rest : List ℕ) (whole : List ℕ) (decimals : Option (List ℕ)) → BeginsWithNoDigit text → text ≡ 46 ∷ after
    → BeginsWithNoDigit after → IsMantissa (mantissa whole decimals) → text ≡ mantissa_text (mantissa whole decimals) ++ rest → ⊥
lone_point text after rest (c ∷ cs) decimals n p a m e = no_digit_starts c (cs ++ decimals_text decimals ++ rest) text m.whole.0 n (sym e)
lone_point text after rest [] None n p a m e = omega (arith, m.some)
lone_point text after rest [] (Some []) n p a m e = omega (arith, m.some)
lone_point text after rest [] (Some (d ∷ ds)) n p a m e = no_digit_starts d (ds ++ rest) after m.decimals.0 a cc

-- digits, and no point after them
plain : (text rest : List ℕ) (k : ℕ) (s : Significand) → rest ≡ drop k text → IsDigitRun text k → k ≢ 0 → BeginsWithNoPoint rest
    → IsSignificand s (digits_value_after 10 0 (take k text)) → BeginsWithMantissa text rest s 0
plain text rest k s r run some p n = record {
  spelling = mantissa (take k text) None;
  mantissa = record { whole = run.digits; decimals = tt; some = omega (arith, run.within, length-take k text) };
  spelled =
      sym (take-append-drop k text)
      ∙ ap (λ z. z ++ drop k text) (sym (append-nil (take k text)))
      ∙ ap (λ z. take k text ++ [] ++ z) (sym r);
  digit = subst BeginsWithNoDigit (sym r) run.longest;
  point = λ _. p;
  number = subst (λ z. IsSignificand s (digits_value_after 10 0 z)) (sym (append-nil (take k text))) n;
  count = refl;
}

-- digits on both sides of a point
pointed : (text rest after end : List ℕ) (k j : ℕ) (s : Significand) → rest ≡ drop k text → rest ≡ 46 ∷ after → end ≡ drop j after
    → IsDigitRun text k → IsDigitRun after j → k + j ≢ 0
    → IsSignificand s (digits_value_after 10 (digits_value_after 10 0 (take k text)) (take j after)) → BeginsWithMantissa text end s j
pointed text rest after end k j s r p t run more some n = record {
  spelling = mantissa (take k text) (Some (take j after));
  mantissa =
      record {
        whole = run.digits;
        decimals = more.digits;
        some = omega
            (arith, run.within, more.within, length-take k text, length-take j after);
      };
  spelled =
      sym (take-append-drop k text)
      ∙ ap (λ z. take k text ++ z) (sym r ∙ p ∙ ap (λ z. 46 ∷ z) (sym (take-append-drop j after) ∙ ap (λ z. take j after ++ z) (sym t)))
      ∙ sym (append_assoc (take k text) (46 ∷ take j after) end);
  digit = subst BeginsWithNoDigit (sym t) more.longest;
  point = λ none. cc;
  number = subst (IsSignificand s) (sym (digits_value_after-append 0 (take k text) (take j after))) n;
  count = omega (arith, more.within, length-take j after);
}

pub returns-then-whole-eq0-clause-mantissa : goal.returns-then-whole-eq0-clause-mantissa
returns-then-whole-eq0-clause-mantissa c has =
    let text = c.args.text.now in
    let whole = c.read_digits-whole.result.length in
    let digit : BeginsWithNoDigit (drop 0 text) =
    subst (λ k. BeginsWithNoDigit (drop k text)) c.if-whole-eq0.true c.read_digits-whole.ensures.run.longest
    in
    let point : BeginsWithNoPoint (drop 0 text) =
    subst (λ k. BeginsWithNoPoint (drop k text)) c.if-whole-eq0.true (subst BeginsWithNoPoint (tail whole text) c.in_default.ensures)
    in
    nothing text has.1 has.0.whole has.0.decimals digit point has.2 has.3

pub returns-in_default-clause-mantissa : goal.returns-in_default-clause-mantissa
returns-in_default-clause-mantissa c =
    let whole = c.read_digits-whole.result.length in
    plain c.args.text.now _ whole c.read_digits-whole.result.significand
    (tail whole c.args.text.now) c.read_digits-whole.ensures.run c.if-whole-eq0.false c.in_default.ensures
    (c.read_digits-whole.ensures.number 0 c.new.ensures.number)

pub returns-then-digits-eq0-clause-mantissa : goal.returns-then-digits-eq0-clause-mantissa
returns-then-digits-eq0-clause-mantissa c has =
    let text = c.args.text.now in
    let after = c.in-Some.after.now in
    let whole = c.read_digits-whole.result.length in
    let decimals = c.read_digits-decimals.result.length in
    let no_whole : whole ≡ 0 = omega arith in
    let no_decimals : decimals ≡ 0 = omega arith in
    let digit : BeginsWithNoDigit (drop 0 text) =
    subst (λ k. BeginsWithNoDigit (drop k text)) no_whole c.read_digits-whole.ensures.run.longest
    in
    let more : BeginsWithNoDigit (drop 0 after) =
    subst (λ k. BeginsWithNoDigit (drop k after)) no_decimals c.read_digits-decimals.ensures.run.longest
    in
    let point : drop 0 text ≡ 46 ∷ after = subst (λ k. drop k text ≡ 46 ∷ after) no_whole (sym (tail whole text) ∙ c.in-Some.ensures) in
    lone_point text after has.1 has.0.whole has.0.decimals digit point more has.2 has.3

pub returns-clause-mantissa : goal.returns-clause-mantissa
returns-clause-mantissa c =
    let text = c.args.text.now in
    let after = c.in-Some.after.now in
    let whole = c.read_digits-whole.result.length in
    let decimals = c.read_digits-decimals.result.length in
    pointed text (take (length text - whole) (drop whole text)) after _ whole decimals c.read_digits-decimals.result.significand
    (tail whole text) c.in-Some.ensures
    (tail decimals after) c.read_digits-whole.ensures.run c.read_digits-decimals.ensures.run c.if-digits-eq0.false
    (c.read_digits-decimals.ensures.number _ (c.read_digits-whole.ensures.number 0 c.new.ensures.number))
