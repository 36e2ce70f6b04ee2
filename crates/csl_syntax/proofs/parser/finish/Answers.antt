use Rattle.std.proofs.Common.{◌<◌, refl, length, vec_len, sym, ◌∙◌, subst, arith}
use Rattle.std.specs.Prelude.{Err}
use Rattle.std.proofs.lemmas.Bool.Decides.{nat_tests}
use Rattle.csl_syntax.specs.declared.fault.ParseFault.{ParseFault}
use Rattle.csl_syntax.specs.Machine.{whole}
use Rattle.csl_syntax.specs.Parsing.{EndsAs}
use Rattle.csl_syntax.specs.View.{state_of}
use Rattle.csl_syntax.proofs.Parses.{not_whole}
use Rattle.csl_syntax.proofs.parser.finish.Goals as goal

pub returns-else-is_empty : goal.returns-else-is_empty
returns-else-is_empty c =
    let outer = c.args.machine.context.outer in
    let e = sym c.is_empty.ensures ∙ c.if-is_empty.false in
    let some : 0 < vec_len outer = grind (arith, nat_tests, e) in
    let items : 0 < length outer.items = omega (arith, some, outer.ok.0) in
    let P : ParseFault → Type 0 = λ fault. EndsAs (length c.args.line.now) (Err fault) (whole (state_of c.args.machine)) in
    subst P (sym c.ends_early.ensures) (not_whole c.args.machine c.in-After.formula c.in-After.is items, refl)
