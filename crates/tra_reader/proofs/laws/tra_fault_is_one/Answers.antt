use Rattle.text_lines.proofs.FileReadings.{one_fault}
use Rattle.tra_reader.specs.TraFault.{TraFaultAt}
use Rattle.tra_reader.specs.TraText.{TraSays}
use Rattle.tra_reader.proofs.Readings.{tra_reading}
use Rattle.tra_reader.proofs.laws.tra_fault_is_one.Goals as goal

pub returns : goal.returns
returns c = λ text. one_fault (TraSays text) (TraFaultAt text) (tra_reading text)
