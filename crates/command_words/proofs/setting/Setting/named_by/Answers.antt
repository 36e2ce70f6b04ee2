use Rattle.std.proofs.Common.{rules, ◌≡◌, ◌∷◌, ◌∙◌, ap, sym}
use borrow.Author.Tests.{tests}
use Rattle.std.specs.Str.{bytes_eq}
use Rattle.std.proofs.lemmas.Iterator.{YieldsList-from_slice}
use Rattle.std.proofs.lemmas.Iterator.Search.{find_from_yields_List}
use Rattle.command_words.specs.declared.setting.TheConstants.{SETTINGS}
use Rattle.command_words.specs.OneWord.{named_by}
use Rattle.command_words.specs.Setting.{name_of}
use Rattle.command_words.proofs.setting.Setting.named_by.Goals as goal

pub returns : goal.returns
returns c =
    let found =
    find_from_yields_List (λ s. bytes_eq (name_of s) c.in_ok-name.name.now) _ _ c.find.result c.find.ensures.ran
    (YieldsList-from_slice SETTINGS cc) (λ x b q k. search (rules, tests)) in
    let whole : c.args.word.now ≡ 45 ∷ 45 ∷ c.in_ok-name.name.now = search rules in
    c.copied.ensures ∙ found ∙ sym (ap named_by whole)
