-- How the brackets that a reader takes lie in one another.
use Rattle.std.proofs.Common.{◌≡◌, ℕ, ◌≤◌, List, [], ◌∷◌, ◌++◌, length, sym, ap, ◌∙◌, arith}
use Rattle.std.specs.List.{All}
use Rattle.std.proofs.lemmas.List.{length_push, same_from_push}
use Rattle.std.proofs.lemmas.List.Elements.{All-nil, All-push}
use Rattle.std.proofs.lemmas.List.Quantifiers.{all_pairs_push}
use Rattle.ctmc_semantics.specs.RoundedTables.{one_word}
use Rattle.ctmc_semantics.specs.WordBracket.{WordBracket}
use Rattle.mix_columns.specs.Mixed.{words_of}
use Rattle.mix_columns.specs.MixLaws.{EnclosesWords}
use Rattle.mix_columns.specs.PlanUntil.{ContainsUntil}
use Rattle.step_core.specs.PlanLists.{PlanLists}
use Rattle.step_core.specs.declared.bracket.Bracket.{Bracket}
use Rattle.column_workers.specs.Hands.{AreTakenSoFar}
use Rattle.column_workers.specs.Watched.{AreTaken, AreWatched}

pub encloses_itself : (w : WordBracket) → EnclosesWords w w
encloses_itself w = record { lower = omega arith; upper = omega arith }

pub encloses_then : (a b c : WordBracket) → EnclosesWords a b → EnclosesWords b c → EnclosesWords a c
encloses_then a b c one two = record {
  lower = omega (arith, one.lower, two.lower);
  upper = omega (arith, one.upper, two.upper);
}

module _ (plan : PlanLists) (s : ℕ) (outer : WordBracket) where
  -- none was taken, and all that is known is the first bracket
  pub taken_none : AreTakenSoFar plan s outer outer []
  taken_none = record {
    taken = record {
      inside = All-nil (λ w. EnclosesWords outer (words_of w));
      nested = λ i j d lt within. absurd (omega (arith, within));
      contain = All-nil (λ w. ContainsUntil plan s (words_of w));
      lower_words = All-nil (λ w. w.lower ≤ one_word);
      upper_words = All-nil (λ w. w.upper ≤ one_word);
    };
    now_inside = encloses_itself outer;
    now_last = All-nil (λ w. EnclosesWords (words_of w) outer);
  }

  -- more is known now
  pub taken_more : (now more : WordBracket) (watched : List Bracket) → EnclosesWords now more → AreTakenSoFar plan s outer now watched
      → AreTakenSoFar plan s outer more watched
  taken_more now more watched lies was = record {
    taken = was.taken;
    now_inside = encloses_then outer now more was.now_inside lies;
    now_last = λ k d lt. encloses_then _ now more (was.now_last k d lt) lies;
  }

  module _ (now : WordBracket) (watched : List Bracket) (x : Bracket) (lies : EnclosesWords now (words_of x))
      (contains : ContainsUntil plan s (words_of x)) (lower_word : x.lower ≤ one_word) (upper_word : x.upper ≤ one_word)
      (was : AreTakenSoFar plan s outer now watched) where
    abbrev inside : EnclosesWords outer (words_of x)
    inside = encloses_then outer now (words_of x) was.now_inside lies

    abbrev in_each : All (λ w. EnclosesWords (words_of w) (words_of x)) watched
    in_each = λ k d lt. encloses_then _ now (words_of x) (was.now_last k d lt) lies

    -- one bracket more
    pub more_taken : AreTaken plan s outer (watched ++ x ∷ [])
    more_taken = record {
      inside = All-push (λ w. EnclosesWords outer (words_of w)) watched x was.taken.inside inside;
      nested = all_pairs_push (λ earlier later. EnclosesWords (words_of earlier) (words_of later)) watched x was.taken.nested in_each;
      contain = All-push (λ w. ContainsUntil plan s (words_of w)) watched x was.taken.contain contains;
      lower_words = All-push (λ w. w.lower ≤ one_word) watched x was.taken.lower_words lower_word;
      upper_words = All-push (λ w. w.upper ≤ one_word) watched x was.taken.upper_words upper_word;
    }

    pub taken_push : AreTakenSoFar plan s outer (words_of x) (watched ++ x ∷ [])
    taken_push = record {
      taken = more_taken;
      now_inside = inside;
      now_last = All-push (λ w. EnclosesWords (words_of w) (words_of x)) watched x in_each (encloses_itself (words_of x));
    }

    -- the last one
    pub watched_push : (count : ℕ) → length (watched ++ x ∷ []) ≡ count → AreWatched plan s count outer (words_of x) (watched ++ x ∷ [])
    watched_push count are = record {
      count = are;
      taken = more_taken;
      last = λ earlier w e. ap words_of (sym (same_from_push watched earlier x w e).1);
    }

  -- no bracket was wanted
  pub watched_none : (now final : WordBracket) (watched : List Bracket) → length watched ≡ 0 → AreTakenSoFar plan s outer now watched
      → AreWatched plan s 0 outer final watched
  watched_none now final watched none was = record {
    count = none;
    taken = was.taken;
    last = λ earlier w e. absurd (let more = ap length e ∙ length_push earlier w in omega (arith, none, more));
  }
