use Rattle.text_lines.proofs.FileReadings.{says_exactly, faulty_exactly}
use Rattle.text_lines.proofs.Telling.{told_at}
use Rattle.lab_reader.specs.LabFault.{LabFaultAt}
use Rattle.lab_reader.specs.LabText.{LabSays}
use Rattle.lab_reader.proofs.Readings.{lab_reading}
use Rattle.lab_reader.proofs.reader.read_lab.Goals as goal

pub returns-clause-fault : goal.returns-clause-fault
returns-clause-fault c = told_at (LabFaultAt c.args.bytes.now c.args.n) c.read_lines.result c.read_lines.ensures.fault

pub returns-clause-says : goal.returns-clause-says
returns-clause-says c =
    let text = c.args.bytes.now in
    let n = c.args.n in
    says_exactly (LabSays text n) (LabFaultAt text n) (lab_reading text n) c.read_lines.result c.read_lines.ensures.value
    (returns-clause-fault c)

pub returns-clause-faulty : goal.returns-clause-faulty
returns-clause-faulty c =
    let text = c.args.bytes.now in
    let n = c.args.n in
    faulty_exactly (LabSays text n) (LabFaultAt text n) (lab_reading text n) c.read_lines.result c.read_lines.ensures.value
    (returns-clause-fault c)
