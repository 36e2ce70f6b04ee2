-- Brackets of words that were taken one after another are so as they are printed.
use Rattle.std.proofs.Common.{◌≡◌, ℕ, suc, ◌*◌, ◌/◌, ◌^◌, ◌<◌, ◌≤◌, List, [], ◌∷◌, length, map, take, get_or, Some, sym, ap, ◌∙◌, subst, subst₂, arith, length-append}
use Rattle.std.specs.Int.{div_ceil}
use Rattle.std.specs.Prelude.{slice_get}
use Rattle.std.proofs.Math.Nat.{div-mul-le_self, lt_of_mul-lt-mul_right, mul-le-mul_left}
use Rattle.std.proofs.Math.Seq.{get_or-append_seam}
use Rattle.std.proofs.lemmas.Grind.{div_ceil_times}
use Rattle.std.proofs.lemmas.Nat.{le-div}
use Rattle.std.proofs.lemmas.List.{get_or-map, length-map}
use Rattle.ctmc_semantics.specs.Bracket.{Encloses}
use Rattle.ctmc_semantics.specs.Fraction.{Fraction}
use Rattle.ctmc_semantics.specs.Threshold.{Comparison}
use Rattle.ctmc_semantics.specs.WordBracket.{WordBracket, word_bracket}
use Rattle.command_words.specs.declared.command.Options.{Options}
use Rattle.mix_columns.specs.Mixed.{words_of}
use Rattle.mix_columns.specs.MixLaws.{EnclosesWords}
use Rattle.nested_verdict.specs.BracketAnswer.{printed_units}
use Rattle.nested_verdict.specs.UntilAnswer.{words_answer, listed_words, bracket_answers, printed_brackets}
use Rattle.nested_verdict.specs.UntilBrackets.{AreTakenOfState}
use Rattle.nested_verdict.specs.WatchedBrackets.{bracket_of, AreTaken, AreTakenOf}
use Rattle.report.specs.declared.answer.Printed.{Printed}
use Rattle.step_core.specs.declared.bracket.Bracket.{Bracket}
use Rattle.nested_verdict.specs.declared.state_answer.StateAnswer.{StateAnswer}
use Rattle.nested_verdict.proofs.Places.{part_found}
use Rattle.nested_verdict.proofs.WatchedLemmas.{last_front}

-- ---- rounding keeps the order
module _ (unit den a b : ℕ) (positive : 0 < den) (le : a ≤ b) where
  down_rises : a * unit / den ≤ b * unit / den
  down_rises = le-div (a * unit / den) (b * unit) den positive (omega (arith, div-mul-le_self (a * unit) den, mul-le-mul_left unit le))

  up_rises : div_ceil (a * unit) den ≤ div_ceil (b * unit) den
  up_rises =
      let below : div_ceil (a * unit) den < suc (div_ceil (b * unit) den) =
      lt_of_mul-lt-mul_right den (omega (
        arith,
        (div_ceil_times (a * unit) den positive).1,
        (div_ceil_times (b * unit) den positive).0,
        mul-le-mul_left unit le,
      )) in
      omega (arith, below)

abbrev pub printed_of : WordBracket → Printed
printed_of w = printed_units (word_bracket w)

pub printed_encloses : (outer inner : WordBracket) → EnclosesWords outer inner
    → Encloses (bracket_of (printed_of outer)) (bracket_of (printed_of inner))
printed_encloses outer inner h = record {
  below = omega (arith, down_rises (10 ^ 12) (2 ^ 62) outer.lower inner.lower (omega arith) h.lower);
  above = omega (arith, up_rises (10 ^ 12) (2 ^ 62) inner.upper outer.upper (omega arith) h.upper);
}

-- ---- the bracket of a state as it is printed
pub printed_here : (brackets : List Bracket) (by : Comparison) (q : Fraction) (states : List StateAnswer) (s : ℕ)
    → states ≡ bracket_answers brackets by q
    → (printed : Printed) → slice_get (map (λ (a : StateAnswer). a.bracket) states) s ≡ Some printed
    → printed ≡ printed_of (listed_words brackets s)
printed_here brackets by q states s are printed e =
    let answer : ℕ → StateAnswer = λ t. words_answer by (listed_words brackets t) q in
    let found =
    part_found answer (length brackets) (λ (a : StateAnswer). a.bracket) s printed
    (subst (λ xs. slice_get (map (λ (a : StateAnswer). a.bracket) xs) s ≡ Some printed) are e) in
    found.1

-- ---- what was taken, as it is printed
abbrev no_words : Bracket
no_words = record { lower = 0; upper = 0 }

module _ (wanted : ℕ) (words : WordBracket) (watched : List Bracket) (are : AreTakenOfState wanted words watched) where
  abbrev print : Bracket → Printed
  print w = printed_of (words_of w)

  counted : length (printed_brackets watched) ≡ length watched
  counted = length-map watched print

  print_at : (i : ℕ) (d : Printed) → i < length (printed_brackets watched)
      → get_or (printed_brackets watched) i d ≡ print (get_or watched i no_words)
  print_at i d l = get_or-map print watched i no_words d (omega (arith, l, counted))

  taken_printed : AreTaken (printed_of words) (printed_brackets watched)
  taken_printed = record {
    nested = λ i j d l m.
        subst₂ (λ a b. Encloses (bracket_of a) (bracket_of b)) (sym (print_at i d (omega (arith, l, m)))) (sym (print_at j d m))
        (printed_encloses (words_of (get_or watched i no_words)) (words_of (get_or watched j no_words))
        (are.nested i j no_words l (omega (arith, m, counted))));
    printed_last = λ earlier w e.
        let m : ℕ = length earlier in
        let size : suc m ≡ length watched = omega (arith, ap length e, counted, length-append {A = Printed} earlier (w ∷ [])) in
        sym (get_or-append_seam earlier w [] w)
        ∙ ap (λ l. get_or l m w) (sym e)
        ∙ print_at m w (omega (arith, size, counted))
        ∙ ap printed_of (are.last (take m watched) (get_or watched m no_words) (last_front watched m no_words size));
  }

  -- so they are those of the watched state, where these are the words of its bracket
  pub taken_of : (options : Options) (states : List Printed) → options.watch ≡ wanted
      → ((printed : Printed) → slice_get states options.state ≡ Some printed → printed ≡ printed_of words)
      → AreTakenOf options states (printed_brackets watched)
  taken_of options states many here = record {
    counted = length-map watched print ∙ are.counted ∙ sym many;
    taken = λ printed e. subst (λ p. AreTaken p (printed_brackets watched)) (sym (here printed e)) taken_printed;
  }
