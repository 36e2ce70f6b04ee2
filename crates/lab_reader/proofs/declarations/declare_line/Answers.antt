use Rattle.std.proofs.Common.{◌≡◌, [], ◌∷◌, ap, refl, subst, ◌∙◌}
use Rattle.text_lines.specs.Items.{line_text}
use Rattle.text_lines.specs.WordLines.{word_line}
use Rattle.lab_reader.specs.LabFault.{NameFailsBy}
use Rattle.lab_reader.specs.Reading.{bytes_of, IsFreshName}
use Rattle.lab_reader.proofs.Declared.{HasTaken, taken_none, taken_more, taken_all, taken_fails}
use Rattle.lab_reader.proofs.declarations.declare_line.Goals as goal

pub loop-word-init : goal.loop-word-init
loop-word-init c =
    let all : bytes_of c.into_iter-word-iterator.result ≡ (word_line (line_text c.args.line.now)).words =
    ap bytes_of (c.into_iter-word-iterator.ensures.into_iter_gives ∙ c.words-word-items.ensures.computed)
    in
    rw all (taken_none c.args.names.now.items (word_line (line_text c.args.line.now)).words c.requires)

pub loop-word-preserved : goal.loop-word-preserved
loop-word-preserved c =
    let now = c.loop-word.names.items in
    let word = c.in-Some.word.bytes.now in
    let words = (word_line (line_text c.args.line.now)).words in
    let left = bytes_of c.next.new.self in
    let h : HasTaken c.args.names.now.items words now (word ∷ left) =
    subst (HasTaken c.args.names.now.items words now) (ap bytes_of c.in-Some.ensures.steps) c.loop-word.invariant
    in
    let fresh : IsFreshName now word = subst (λ z. IsFreshName z word) c.deref.ensures.value c.in_default.ensures in
    rw c.in_ok-push_name.ensures (taken_more c.args.names.now.items words now left word h fresh)

pub returns : goal.returns
returns c =
    let words = (word_line (line_text c.args.line.now)).words in
    let h : HasTaken c.args.names.now.items words c.loop-word.names.items [] =
    subst (HasTaken c.args.names.now.items words c.loop-word.names.items) (ap bytes_of c.in-None.ensures.steps.0) c.loop-word.invariant
    in
    (taken_all c.args.names.now.items words c.loop-word.names.items h, h.right)

pub returns-in-Some-name_fault : goal.returns-in-Some-name_fault
returns-in-Some-name_fault c =
    let now = c.loop-word.names.items in
    let word = c.in-Some.word.bytes.now in
    let words = (word_line (line_text c.args.line.now)).words in
    let left = bytes_of c.next.new.self in
    let h : HasTaken c.args.names.now.items words now (word ∷ left) =
    subst (HasTaken c.args.names.now.items words now) (ap bytes_of c.in-Some.ensures.steps) c.loop-word.invariant
    in
    let fails : NameFailsBy now word c.in-Some-name_fault.what =
    subst (λ z. NameFailsBy z word c.in-Some-name_fault.what) c.deref.ensures.value c.in-Some-name_fault.ensures
    in
    rw c.at.ensures (refl, taken_fails c.args.names.now.items words now left word c.in-Some-name_fault.what h fails)
