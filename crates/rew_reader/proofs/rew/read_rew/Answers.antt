use Rattle.text_lines.proofs.FileReadings.{says_exactly, faulty_exactly}
use Rattle.text_lines.proofs.Telling.{told_at}
use Rattle.rew_reader.specs.RewFault.{RewFaultAt}
use Rattle.rew_reader.specs.RewText.{RewSays}
use Rattle.rew_reader.proofs.Readings.{rew_reading}
use Rattle.rew_reader.proofs.rew.read_rew.Goals as goal

pub returns-clause-fault : goal.returns-clause-fault
returns-clause-fault c = told_at (RewFaultAt c.args.bytes.now c.args.n) c.read_lines.result c.read_lines.ensures.fault

pub returns-clause-says : goal.returns-clause-says
returns-clause-says c =
    let text = c.args.bytes.now in
    let n = c.args.n in
    says_exactly (RewSays text n) (RewFaultAt text n) (rew_reading text n) c.read_lines.result c.read_lines.ensures.value
    (returns-clause-fault c)

pub returns-clause-faulty : goal.returns-clause-faulty
returns-clause-faulty c =
    let text = c.args.bytes.now in
    let n = c.args.n in
    faulty_exactly (RewSays text n) (RewFaultAt text n) (rew_reading text n) c.read_lines.result c.read_lines.ensures.value
    (returns-clause-fault c)
