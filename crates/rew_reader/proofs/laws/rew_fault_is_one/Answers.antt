use Rattle.text_lines.proofs.FileReadings.{one_fault}
use Rattle.rew_reader.specs.RewFault.{RewFaultAt}
use Rattle.rew_reader.specs.RewText.{RewSays}
use Rattle.rew_reader.proofs.Readings.{rew_reading}
use Rattle.rew_reader.proofs.laws.rew_fault_is_one.Goals as goal

pub returns : goal.returns
returns c = λ n text. one_fault (RewSays text n) (RewFaultAt text n) (rew_reading text n)
