use Rattle.text_lines.proofs.FileReadings.{not_both}
use Rattle.tra_reader.specs.TraFault.{TraFaultAt}
use Rattle.tra_reader.specs.TraText.{TraSays}
use Rattle.tra_reader.proofs.Readings.{tra_reading}
use Rattle.tra_reader.proofs.laws.tra_has_no_fault.Goals as goal

pub returns : goal.returns
returns c = λ text. not_both (TraSays text) (TraFaultAt text) (tra_reading text)
