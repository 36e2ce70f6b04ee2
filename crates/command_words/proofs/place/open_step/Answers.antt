use Rattle.std.proofs.Common.{rules, ◌≡◌, ◌+◌, ◌||◌, Bool, true, false, refl, sym, ap, ◌∙◌, arith, [], ◌∷◌, length, Some, None, codes}
use Rattle.std.specs.List.{list_any, position_or_len}
use Rattle.std.specs.Str.{bytes_eq}
use Rattle.command_words.specs.declared.place.Place.TheVariants.{Value}
use Rattle.command_words.specs.declared.setting.Setting.{Setting}
use Rattle.command_words.specs.OneWord.{is_equals, named_by, open_step}
use Rattle.command_words.specs.Parts.{is_plain}
use Rattle.command_words.specs.Setting.{Text, flag_word}
use Rattle.command_words.proofs.place.open_step.Goals as goal

-- no `=` is in a word that has none before its end
lacks_equals : (word : Text) → position_or_len is_equals word ≡ length word → list_any is_equals word ≡ false
lacks_equals [] e = refl
lacks_equals (c ∷ cs) e = go (is_equals c) refl (lacks_equals cs)
  where
    go : (b : Bool) → is_equals c ≡ b → (position_or_len is_equals cs ≡ length cs → list_any is_equals cs ≡ false)
        → (b || list_any is_equals cs) ≡ false
    go true h more =
        let none : position_or_len is_equals (c ∷ cs) ≡ 0 = rw h refl in
        absurd (omega (arith, e, none))
    go false h more =
        let next : position_or_len is_equals (c ∷ cs) ≡ 1 + position_or_len is_equals cs = rw h refl in
        more (omega (arith, e, next))

-- an option's word waits for its value
option_opens : (word : Text) (s : Setting) → bytes_eq word (codes "--") ≡ false → is_plain word ≡ false
    → bytes_eq word flag_word ≡ false → list_any is_equals word ≡ false → named_by word ≡ Some s
    → open_step word ≡ Some (record { place = Value s; part = None })
option_opens word s d p f l n = rw (d, p, f, l, n) refl

pub returns-in_ok-setting-in-None : goal.returns-in_ok-setting-in-None
returns-in_ok-setting-in-None c =
    let lacks : list_any is_equals c.args.word.now ≡ false =
    lacks_equals c.args.word.now (c.in-None.ensures.byte (omega arith) (λ w o h. h)) in
    let divides : bytes_eq c.args.word.now (codes "--") ≡ false = search rules in
    let plain : is_plain c.args.word.now ≡ false = search rules in
    let flag : bytes_eq c.args.word.now flag_word ≡ false = search rules in
    let named : named_by c.args.word.now ≡ Some c.in_ok-setting-in-None.setting = search rules in
    let going = c.going_to-in-None.ensures in
    ap (λ s. Some s) going ∙ sym (option_opens c.args.word.now c.in_ok-setting-in-None.setting divides plain flag lacks named)
