-- What is known of the brackets of the watched state of an answer.
use Rattle.std.proofs.Common.{◌≡◌, ℕ, suc, ◌+◌, ◌-◌, inl, inr, List, [], ◌∷◌, ◌++◌, length, take, drop, get_or, Option, Some, None, option_map, All, refl, sym, ap, ◌∙◌, subst, arith}
use Rattle.std.proofs.lemmas.Bool.{cases_lt}
use Rattle.std.proofs.lemmas.List.{take-append-drop, drop_more, length-drop}
use Rattle.ctmc_semantics.specs.Bracket.{Bracket, HasEnds}
use Rattle.command_words.specs.declared.command.Options.{Options}
use Rattle.report.specs.Answer.{AnswerLists, ShownLists}
use Rattle.nested_verdict.specs.UnwatchedAnswer.{unwatched_shown, unwatched_answer}
use Rattle.nested_verdict.proofs.Widening.{Widens}
use Rattle.nested_verdict.specs.WatchedBrackets.{bracket_of, AreTaken, AreWatchedBy, IsWatched}
use Rattle.report.specs.declared.answer.Printed.{Printed}
use Rattle.report.specs.declared.answer.Verdict.{Verdict}

-- ---- brackets one in the other, of which the last contains an until, contain it all
printed_ends : (p : Printed) → HasEnds (bracket_of p)
printed_ends p = record { low = omega arith; high = omega arith }

nothing_left : {X : Type 0} (xs : List X) → length xs ≡ 0 → xs ≡ []
nothing_left [] e = refl
nothing_left (x ∷ xs) e = absurd (omega (arith, e))

-- a list is all but its last item, and that
pub last_front : {X : Type 0} (xs : List X) (m : ℕ) (d : X) → suc m ≡ length xs → xs ≡ take m xs ++ get_or xs m d ∷ []
last_front xs m d e =
    let more : drop m xs ≡ get_or xs m d ∷ drop (m + 1) xs = drop_more xs m d (omega (arith, e)) in
    let none : drop (m + 1) xs ≡ [] = nothing_left (drop (m + 1) xs) (omega (arith, e, length-drop (m + 1) xs)) in
    sym (take-append-drop m xs) ∙ ap (λ l. take m xs ++ l) (more ∙ ap (λ l. get_or xs m d ∷ l) none)

module _ (printed : Printed) (watched : List Printed) (taken : AreTaken printed watched) where
  last_is : (m : ℕ) (d : Printed) → suc m ≡ length watched → get_or watched m d ≡ printed
  last_is m d e = taken.printed_last (take m watched) (get_or watched m d) (last_front watched m d e)

  pub all_contain : (Contains : Bracket → Type 0) → Widens Contains → Contains (bracket_of printed)
      → All (λ w. Contains (bracket_of w)) watched
  all_contain Contains widens contains i d l =
      let m : ℕ = length watched - 1 in
      let end : get_or watched m d ≡ printed = last_is m d (omega (arith, l)) in
      elim (cases_lt i m) [
        | inl before ↦
            let inner = taken.nested i m d before (omega (arith, l)) in
            widens _ (bracket_of (get_or watched m d)) (printed_ends (get_or watched m d)) inner
            (subst (λ w. Contains (bracket_of w)) (sym end) contains)
        | inr after ↦
            let here : i ≡ m = omega (arith, l, after) in
            subst (λ w. Contains (bracket_of w)) (sym (ap (λ j. get_or watched j d) here ∙ end)) contains
      ]

-- ---- an answer is what was computed, and the brackets of the watched state
some_same : {X : Type 0} (x y : X) → Some x ≡ Some y → x ≡ y
some_same x y e = cc

none_not_some : {X : Type 0} (x : X) → None ≡ Some x → ⊥
none_not_some x e = cc

abbrev pub answer_with : List Verdict → Option ShownLists → AnswerLists
answer_with verdicts shown = record { verdicts = verdicts; shown = shown }

-- without an operator there are none
whole_by : (verdicts due : List Verdict) (shown : Option ShownLists)
    → answer_with verdicts (option_map unwatched_shown shown) ≡ answer_with due None
    → answer_with verdicts shown ≡ answer_with due None
whole_by verdicts due None e = e
whole_by verdicts due (Some shown) e =
    absurd (none_not_some (unwatched_shown shown) (sym (ap (λ (a : AnswerLists). a.shown) e)))

pub whole_verdicts : (answer : AnswerLists) (due : List Verdict) → unwatched_answer answer ≡ answer_with due None
    → answer ≡ answer_with due None
whole_verdicts answer due e = whole_by answer.verdicts due answer.shown e

-- an answer that shows brackets, with those of the watched state
pub record IsFilled (answer : AnswerLists) (due : List Verdict) (horizon : Option ℕ) (states : List Printed) : Type 0 where
  pub watched : List Printed
  pub is : answer ≡ answer_with due (Some (record { horizon = horizon; watched = watched; states = states }))

filled_from : (verdicts due : List Verdict) (shown : Option ShownLists) (horizon : Option ℕ) (states : List Printed)
    → answer_with verdicts (option_map unwatched_shown shown)
    ≡ answer_with due (Some (record { horizon = horizon; watched = []; states = states }))
    → IsFilled (answer_with verdicts shown) due horizon states
filled_from verdicts due None horizon states e =
    absurd (none_not_some _ (ap (λ (a : AnswerLists). a.shown) e))
filled_from verdicts due (Some shown) horizon states e =
    let same : unwatched_shown shown ≡ record { horizon = horizon; watched = []; states = states } =
    some_same _ _ (ap (λ (a : AnswerLists). a.shown) e) in
    record {
      watched = shown.watched;
      is =
          ap (λ (vs : List Verdict). answer_with vs (Some shown)) (ap (λ (a : AnswerLists). a.verdicts) e)
          ∙ ap (λ (s : ShownLists). answer_with due (Some (record { horizon = s.horizon; watched = shown.watched; states = s.states }))) same;
    }

pub filled : (answer : AnswerLists) (due : List Verdict) (horizon : Option ℕ) (states : List Printed)
    → unwatched_answer answer ≡ answer_with due (Some (record { horizon = horizon; watched = []; states = states }))
    → IsFilled answer due horizon states
filled answer due horizon states e = filled_from answer.verdicts due answer.shown horizon states e

-- what is so of them
pub filled_are : (options : Options) (answer : AnswerLists) (due : List Verdict) (horizon : Option ℕ) (states : List Printed)
    → IsWatched options answer → (f : IsFilled answer due horizon states) → AreWatchedBy options horizon states f.watched
filled_are options answer due horizon states h f =
    h (record { horizon = horizon; watched = f.watched; states = states }) (ap (λ (a : AnswerLists). a.shown) f.is)
