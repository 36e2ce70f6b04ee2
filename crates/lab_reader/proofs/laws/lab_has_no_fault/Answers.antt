use Rattle.text_lines.proofs.FileReadings.{not_both}
use Rattle.lab_reader.specs.LabFault.{LabFaultAt}
use Rattle.lab_reader.specs.LabText.{LabSays}
use Rattle.lab_reader.proofs.Readings.{lab_reading}
use Rattle.lab_reader.proofs.laws.lab_has_no_fault.Goals as goal

pub returns : goal.returns
returns c = λ n text. not_both (LabSays text n) (LabFaultAt text n) (lab_reading text n)
