use Rattle.text_lines.proofs.FileReadings.{not_both}
use Rattle.rew_reader.specs.RewFault.{RewFaultAt}
use Rattle.rew_reader.specs.RewText.{RewSays}
use Rattle.rew_reader.proofs.Readings.{rew_reading}
use Rattle.rew_reader.proofs.laws.rew_has_no_fault.Goals as goal

pub returns : goal.returns
returns c = λ n text. not_both (RewSays text n) (RewFaultAt text n) (rew_reading text n)
