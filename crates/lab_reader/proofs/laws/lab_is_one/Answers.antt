use Rattle.text_lines.proofs.FileReadings.{one_value}
use Rattle.lab_reader.specs.LabFault.{LabFaultAt}
use Rattle.lab_reader.specs.LabText.{LabSays}
use Rattle.lab_reader.proofs.Readings.{lab_reading}
use Rattle.lab_reader.proofs.laws.lab_is_one.Goals as goal

pub returns : goal.returns
returns c = λ n text. one_value (LabSays text n) (LabFaultAt text n) (lab_reading text n)
