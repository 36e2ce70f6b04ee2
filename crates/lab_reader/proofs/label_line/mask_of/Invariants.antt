use Rattle.lab_reader.specs.Reading.{bytes_of}
use Rattle.lab_reader.proofs.Masks.{HasMasked}
use Rattle.lab_reader.proofs.label_line.mask_of.Given as goal

abbrev pub invariant-loop-label : goal.invariant-loop-label
invariant-loop-label l = HasMasked l.names (bytes_of l.fn.labels) l.mask (bytes_of l.label-iterator)
