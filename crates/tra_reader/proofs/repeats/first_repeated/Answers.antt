use Rattle.std.proofs.Common.{◌≤◌, ℕ, map, length, arith, subst, refl}
use Rattle.std.proofs.lemmas.List.{length-map}
use Rattle.model_core.specs.declared.limits.TheConstants.{MOST_TRANSITIONS}
use Rattle.tra_reader.specs.Repeats.{number_of, IsFirstRepeat, IsLeastMark}
use Rattle.tra_reader.proofs.RepeatLemmas.{none-repeats, first-repeats}
use Rattle.tra_reader.proofs.repeats.first_repeated.Goals as goal

pub returns-then-is_ascending : goal.returns-then-is_ascending
returns-then-is_ascending c =
    let numbers = map number_of c.args.entries.now in
    let At : ℕ → Type 0 = IsFirstRepeat numbers in
    subst At (length-map c.args.entries.now number_of) (none-repeats numbers (c.if-is_ascending.ensures refl))

pub returns : goal.returns
returns c =
    let sorted = c.sort_unstable.new.self.items in
    let numbers = map number_of c.args.entries.now in
    let few : length numbers ≤ MOST_TRANSITIONS = omega (arith, length-map c.args.entries.now number_of) in
    let least : IsLeastMark sorted c.least_mark.result = rw c.deref.ensures.value at c.least_mark.ensures in
    first-repeats numbers c.in_ok-keys.keys.items sorted few c.in_ok-keys.ensures c.sort_unstable.ensures.permutation
    c.sort_unstable.ensures.sorted c.least_mark.result least
