use Rattle.std.proofs.Common.{◌<◌, length, arith}
use Rattle.csl_syntax.proofs.Parses.{read_on, read_nothing, read_more, told_is, skip_length, advance_length}
use Rattle.csl_syntax.proofs.parser.read_tokens.Goals as goal

pub loop-rest-init : goal.loop-rest-init
loop-rest-init c =
    let line = c.args.line.now in
    let skip = c.skip_blanks-rest in
    let machine = c.new-machine in
    record {
      reads = read_on c.args.labels.now line line skip.result.now machine.result
          (read_nothing c.args.labels.now line machine.result machine.ensures.state machine.ensures.counted) skip.ensures;
      within = skip_length line skip.result.now skip.ensures;
      solid = skip.ensures.ends;
    }

pub loop-rest-smaller : goal.loop-rest-smaller
loop-rest-smaller c =
    let skip = c.skip_blanks-rest-in-Ok in
    let advanced = c.in-Ok.advanced in
    let shorter =
    advance_length c.args.labels.now c.loop-rest.machine c.loop-rest.rest.now advanced.machine advanced.rest.now c.in-Ok.ensures in
    let e : length skip.result.now < length c.loop-rest.rest.now =
    omega (arith, skip_length advanced.rest.now skip.result.now skip.ensures, shorter) in
    e

pub loop-rest-preserved : goal.loop-rest-preserved
loop-rest-preserved c =
    let line = c.args.line.now in
    let labels = c.args.labels.now in
    let skip = c.skip_blanks-rest-in-Ok in
    let advanced = c.in-Ok.advanced in
    let shorter = advance_length labels c.loop-rest.machine c.loop-rest.rest.now advanced.machine advanced.rest.now c.in-Ok.ensures in
    record {
      reads = read_on labels line advanced.rest.now skip.result.now advanced.machine
          (read_more labels line c.loop-rest.rest.now advanced.rest.now c.loop-rest.machine advanced.machine c.loop-rest.invariant.reads
          c.in-Ok.ensures) skip.ensures;
      within = omega (arith, skip_length advanced.rest.now skip.result.now skip.ensures, shorter, c.loop-rest.invariant.within);
      solid = skip.ensures.ends;
    }

pub returns-in-Err : goal.returns-in-Err
returns-in-Err c =
    told_is c.args.labels.now c.args.line.now c.loop-rest.rest.now c.loop-rest.machine c.in-Err.stop c.told.result
    c.loop-rest.invariant.reads c.requires.short
    c.loop-rest.invariant.within c.in-Err.ensures c.told.ensures
