use Rattle.text_lines.proofs.FileReadings.{says_exactly, faulty_exactly}
use Rattle.text_lines.proofs.Telling.{told_at}
use Rattle.tra_reader.specs.TraFault.{TraFaultAt}
use Rattle.tra_reader.specs.TraText.{TraSays}
use Rattle.tra_reader.proofs.Readings.{tra_reading}
use Rattle.tra_reader.proofs.tra.read_tra.Goals as goal

pub returns-clause-fault : goal.returns-clause-fault
returns-clause-fault c = told_at (TraFaultAt c.args.bytes.now) c.read_lines.result c.read_lines.ensures.fault

pub returns-clause-says : goal.returns-clause-says
returns-clause-says c =
    let text = c.args.bytes.now in
    says_exactly (TraSays text) (TraFaultAt text) (tra_reading text) c.read_lines.result c.read_lines.ensures.value
    (returns-clause-fault c)

pub returns-clause-faulty : goal.returns-clause-faulty
returns-clause-faulty c =
    let text = c.args.bytes.now in
    faulty_exactly (TraSays text) (TraFaultAt text) (tra_reading text) c.read_lines.result c.read_lines.ensures.value
    (returns-clause-fault c)
