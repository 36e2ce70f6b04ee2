use Rattle.std.proofs.Common.{refl}
use Rattle.csl_syntax.proofs.Views.{outer_with, nested_with}
use Rattle.csl_syntax.proofs.machine.Context.with_another.Goals as goal

pub returns : goal.returns
returns c = record {
  room = refl;
  layers = outer_with c.args.self.outer.items c.push.new.self.items _ c.in_ok-push.ensures.items;
  count = nested_with c.args.self.outer.items c.push.new.self.items _ c.in_ok-push.ensures.items;
  either = refl;
  both = refl;
}
