use Rattle.text_lines.proofs.FileReadings.{value_or_fault}
use Rattle.tra_reader.specs.TraFault.{TraFaultAt}
use Rattle.tra_reader.specs.TraText.{TraSays}
use Rattle.tra_reader.proofs.Readings.{tra_reading}
use Rattle.tra_reader.proofs.laws.tra_or_fault.Goals as goal

pub returns : goal.returns
returns c = λ text. value_or_fault (TraSays text) (TraFaultAt text) (tra_reading text)
