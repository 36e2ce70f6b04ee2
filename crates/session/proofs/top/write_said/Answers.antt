use Rattle.std.proofs.Common.{refl, sym, ap, if◌then◌else◌}
use Rattle.session.specs.Outcome.{Faulty, FormulasLong}
use Rattle.session.specs.declared.reading.Prepared.TheVariants.{Faulty as FaultyFile, FormulasLong as LongInput}
use Rattle.session.specs.declared.status.Status.TheVariants as status
use Rattle.session.proofs.Served.{writes, writes_front, writes_lines, writes_front_of_lines}
use Rattle.session.proofs.top.write_said.Goals as goal

pub returns-in_err-write_fault-in-Faulty-clause-front : goal.returns-in_err-write_fault-in-Faulty-clause-front
returns-in_err-write_fault-in-Faulty-clause-front g c =
    writes_front c.args.prepared.now (FaultyFile c.in-Faulty.fault) c.in-Faulty.is _ _ (Faulty c.in-Faulty.fault) refl
    c.in_err-write_fault-in-Faulty.ensures.front

pub returns-in_err-all_answered-in-Lines-clause-front : goal.returns-in_err-all_answered-in-Lines-clause-front
returns-in_err-all_answered-in-Lines-clause-front g c =
    writes_front_of_lines c.args.prepared.now c.in-Lines.input c.in-Lines.is _ _ c.in_err-all_answered-in-Lines.ensures.front

pub returns-in_ok-write_fault-in-Faulty-clause-written : goal.returns-in_ok-write_fault-in-Faulty-clause-written
returns-in_ok-write_fault-in-Faulty-clause-written g c =
    writes c.args.prepared.now (FaultyFile c.in-Faulty.fault) c.in-Faulty.is _ _ (Faulty c.in-Faulty.fault) refl
    (status.Model c.in-Faulty.fault) refl c.in_ok-write_fault-in-Faulty.ensures.ok

pub returns-in_ok-write_fault-in-Faulty-clause-front : goal.returns-in_ok-write_fault-in-Faulty-clause-front
returns-in_ok-write_fault-in-Faulty-clause-front g c =
    writes_front c.args.prepared.now (FaultyFile c.in-Faulty.fault) c.in-Faulty.is _ _ (Faulty c.in-Faulty.fault) refl
    c.in_ok-write_fault-in-Faulty.ensures.front

pub returns-in_ok-write_refusal-in-FormulasLong-clause-written : goal.returns-in_ok-write_refusal-in-FormulasLong-clause-written
returns-in_ok-write_refusal-in-FormulasLong-clause-written g c =
    writes c.args.prepared.now LongInput c.in-FormulasLong.is _ _ FormulasLong refl status.Refused refl
    c.in_ok-write_refusal-in-FormulasLong.ensures.ok

pub returns-then-all_answered-clause-written : goal.returns-then-all_answered-clause-written
returns-then-all_answered-clause-written g c =
    writes_lines c.args.prepared.now c.in-Lines.input c.in-Lines.is _ _ c.in_ok-all_answered-in-Lines.all_answered status.Done
    c.in_ok-all_answered-in-Lines.ensures.written (sym (ap (λ a. if a then status.Done else status.Refused) c.if-all_answered.true))

pub returns-then-all_answered-clause-front : goal.returns-then-all_answered-clause-front
returns-then-all_answered-clause-front g c =
    writes_front_of_lines c.args.prepared.now c.in-Lines.input c.in-Lines.is _ _ c.in_ok-all_answered-in-Lines.ensures.front

pub returns-else-all_answered-clause-written : goal.returns-else-all_answered-clause-written
returns-else-all_answered-clause-written g c =
    writes_lines c.args.prepared.now c.in-Lines.input c.in-Lines.is _ _ c.in_ok-all_answered-in-Lines.all_answered status.Refused
    c.in_ok-all_answered-in-Lines.ensures.written (sym (ap (λ a. if a then status.Done else status.Refused) c.if-all_answered.false))

pub returns-else-all_answered-clause-front : goal.returns-else-all_answered-clause-front
returns-else-all_answered-clause-front g c =
    writes_front_of_lines c.args.prepared.now c.in-Lines.input c.in-Lines.is _ _ c.in_ok-all_answered-in-Lines.ensures.front
