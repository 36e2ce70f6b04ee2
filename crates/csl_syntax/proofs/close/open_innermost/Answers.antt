use Rattle.std.proofs.Common.{refl}
use Rattle.csl_syntax.proofs.Views.{outer_with, nested_with}
use Rattle.csl_syntax.proofs.close.open_innermost.Goals as goal

pub returns : goal.returns
returns c =
    let pending = c.in-Some in (
      record {
        layers = outer_with c.pop.new.self.items c.args.outer.items pending.pending pending.ensures.items;
        count = nested_with c.pop.new.self.items c.args.outer.items pending.pending pending.ensures.items;
      },
      refl,
    )
