use Rattle.std.proofs.Common.{◌∷◌, ap, subst}
use Rattle.lab_reader.specs.Reading.{bytes_of}
use Rattle.lab_reader.proofs.Masks.{HasMasked, masked_none, masked_more, masked_all, masked_fails}
use Rattle.lab_reader.proofs.label_line.mask_of.Goals as goal

pub loop-label-init : goal.loop-label-init
loop-label-init c = rw c.into_iter-label-iterator.ensures.into_iter_gives (masked_none c.args.names.now (bytes_of c.args.labels))

pub loop-label-preserved : goal.loop-label-preserved
loop-label-preserved c =
    masked_more c.args.names.now (bytes_of c.args.labels)
    (bytes_of c.next.new.self) c.in-Some.label.bytes.now c.loop-label.mask c.in_ok-place.place c.requires
    (subst (HasMasked c.args.names.now (bytes_of c.args.labels) c.loop-label.mask) (ap bytes_of c.in-Some.ensures.steps)
    c.loop-label.invariant)
    c.in_ok-place.ensures.0 c.in_ok-place.ensures.1

pub returns : goal.returns
returns c =
    let Masked = HasMasked c.args.names.now (bytes_of c.args.labels) c.loop-label.mask in
    masked_all c.args.names.now (bytes_of c.args.labels) c.loop-label.mask
    (subst Masked (ap bytes_of c.in-None.ensures.steps.0) c.loop-label.invariant)

pub returns-in_err-place : goal.returns-in_err-place
returns-in_err-place c =
    let Masked = HasMasked c.args.names.now (bytes_of c.args.labels) c.loop-label.mask in
    rw c.from_residual.ensures
    (masked_fails c.args.names.now (bytes_of c.args.labels) (bytes_of c.next.new.self) c.in-Some.label.bytes.now c.loop-label.mask
    (subst Masked (ap bytes_of c.in-Some.ensures.steps) c.loop-label.invariant) c.in_err-place.ensures)
