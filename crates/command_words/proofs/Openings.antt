-- What a word does before `--`, where no option waits for its value.
use Rattle.std.proofs.Common.{◌≡◌, ◌∙◌, ◌+◌, ◌||◌, Bool, cond, true, false, refl, sym, ap, subst, arith, suc, List, [], ◌∷◌, ◌++◌, Option, Some, None}
use Rattle.std.proofs.Common.{codes, true≢false}
use Rattle.std.specs.Prelude.{if◌then◌else◌}
use Rattle.std.specs.Str.{bytes_eq}
use Rattle.std.specs.List.{find, list_any, before_first, after_first, position_or_len}
use Rattle.std.proofs.lemmas.Slice.Eq.{bytes_eq-Decides}
use Rattle.std.proofs.lemmas.Bool.{eqb-true}
use Rattle.command_words.specs.declared.place.Place.TheVariants.{Closed, Open, Value}
use Rattle.command_words.specs.declared.setting.Setting.{Setting}
use Rattle.command_words.specs.declared.setting.TheConstants.{SETTINGS}
use Rattle.command_words.specs.OneWord.{Step, assignment_step, ends, goes_to, is_equals, named_by, open_step, option_step}
use Rattle.command_words.specs.Parts.{flag, given, is_plain, plain}
use Rattle.command_words.specs.Setting.{Text, assignment_of, flag_word, word_of}

-- the word has this step
pub data Opens : Text → Step → Type 0 where
  divider : Opens (codes "--") (goes_to Closed)
  plain_one : (word : Text) → is_plain word ≡ true → Opens word (ends (plain word) Open)
  flag_one : Opens flag_word (ends flag Open)
  assignment : (s : Setting) (value : Text) → Opens (assignment_of s value) (ends (given s value) Open)
  option_name : (s : Setting) → Opens (word_of s) (goes_to (Value s))

find_passes : {X : Type 0} (p : X → Bool) (xs : List X) (x : X) → find p xs ≡ Some x → p x ≡ true
find_passes p [] x e = cc
find_passes p (y ∷ ys) x e = go (p y) refl e (find_passes p ys x)
  where
    go : (b : Bool) → p y ≡ b → cond b (Some y) (find p ys) ≡ Some x → (find p ys ≡ Some x → p x ≡ true) → p x ≡ true
    go true h f rest = let same : y ≡ x = cc in subst (λ z. p z ≡ true) same h
    go false h f rest = rest f

named_word : (word : Text) (s : Setting) → named_by word ≡ Some s → word_of s ≡ word
named_word word s e = (bytes_eq-Decides (word_of s) word).0 (find_passes (λ t. bytes_eq (word_of t) word) SETTINGS s e)

-- a word is cut at its first `=`
cut_at_equals : (word : Text) → list_any is_equals word ≡ true → before_first is_equals word ++ 61 ∷ after_first is_equals word ≡ word
cut_at_equals [] e = absurd (true≢false (sym e))
cut_at_equals (c ∷ cs) e = go (is_equals c) refl e (cut_at_equals cs)
  where
    go : (b : Bool) → is_equals c ≡ b → (b || list_any is_equals cs) ≡ true
        → (list_any is_equals cs ≡ true → before_first is_equals cs ++ 61 ∷ after_first is_equals cs ≡ cs)
        → before_first is_equals (c ∷ cs) ++ 61 ∷ after_first is_equals (c ∷ cs) ≡ c ∷ cs
    go true h f rest = rw h (ap (λ z. z ∷ cs) (sym (eqb-true c 61 h)))
    go false h f rest =
        let n = position_or_len is_equals cs in
        let next : 1 + position_or_len is_equals cs ≡ suc (position_or_len is_equals cs) = omega arith in
        let later : suc (position_or_len is_equals cs) + 1 ≡ suc (position_or_len is_equals cs + 1) = omega arith in
        rw (h, next, later) (ap (λ z. c ∷ z) (rest f))

-- the word has the step, if there is one
abbrev IsOpening : Text → Option Step → Type 0
IsOpening word None = Unit {0}
IsOpening word (Some step) = Opens word step

module _ (word : Text) where
  by_name : (found : Option Setting) → named_by word ≡ found → IsOpening word (option_step found)
  by_name None n = tt
  by_name (Some s) n = subst (λ w. Opens w (goes_to (Value s))) (named_word word s n) (option_name s)

  by_assignment : (found : Option Setting) → named_by (before_first is_equals word) ≡ found → list_any is_equals word ≡ true
      → IsOpening word (assignment_step found (after_first is_equals word))
  by_assignment None n q = tt
  by_assignment (Some s) n q =
      let value = after_first is_equals word in
      let whole : assignment_of s (after_first is_equals word) ≡ word =
      ap (λ z. z ++ 61 ∷ after_first is_equals word) (named_word (before_first is_equals word) s n) ∙ cut_at_equals word q in
      subst (λ w. Opens w (ends (given s value) Open)) whole (assignment s value)

  by_equals : (b : Bool) → list_any is_equals word ≡ b
      → IsOpening word
      (if b then assignment_step (named_by (before_first is_equals word)) (after_first is_equals word) else option_step (named_by word))
  by_equals true q = by_assignment (named_by (before_first is_equals word)) refl q
  by_equals false q = by_name (named_by word) refl

  by_flag : (b : Bool) → bytes_eq word flag_word ≡ b
      → IsOpening word
      (if b then Some (ends flag Open)
      else if list_any is_equals word then assignment_step (named_by (before_first is_equals word)) (after_first is_equals word)
      else option_step (named_by word))
  by_flag true q = subst (λ w. Opens w (ends flag Open)) (sym ((bytes_eq-Decides word flag_word).0 q)) flag_one
  by_flag false q = by_equals (list_any is_equals word) refl

  by_hyphen : (b : Bool) → is_plain word ≡ b
      → IsOpening word
      (if b then Some (ends (plain word) Open)
      else if bytes_eq word flag_word then Some (ends flag Open)
      else if list_any is_equals word then assignment_step (named_by (before_first is_equals word)) (after_first is_equals word)
      else option_step (named_by word))
  by_hyphen true q = plain_one word q
  by_hyphen false q = by_flag (bytes_eq word flag_word) refl

  by_divider : (b : Bool) → bytes_eq word (codes "--") ≡ b
      → IsOpening word
      (if b then Some (goes_to Closed)
      else if is_plain word then Some (ends (plain word) Open)
      else if bytes_eq word flag_word then Some (ends flag Open)
      else if list_any is_equals word then assignment_step (named_by (before_first is_equals word)) (after_first is_equals word)
      else option_step (named_by word))
  by_divider true q = subst (λ w. Opens w (goes_to Closed)) (sym ((bytes_eq-Decides word (codes "--")).0 q)) divider
  by_divider false q = by_hyphen (is_plain word) refl

pub opens : (word : Text) (step : Step) → open_step word ≡ Some step → Opens word step
opens word step e = subst (IsOpening word) e (by_divider word (bytes_eq word (codes "--")) refl)
