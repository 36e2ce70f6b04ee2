use Rattle.tighten_step.proofs.TightState.{words_all, are_tight, are_equal}
use Rattle.tighten_step.proofs.state.tighten.Goals as goal

pub returns-clause-knows : goal.returns-clause-knows
returns-clause-knows c =
    let b = c.args.board.now in
    let p = c.args.pass.now in
    let q = c.row_values-low.new.pass in
    let r = c.raise_to.new.pass in
    let w = c.cut_to.new.pass in
    (words_all b p q r w c.args.k c.args.s c.requires.above c.requires.layer c.requires.state c.row_values-low.ensures.knows
    c.raise_to.ensures.knows c.raise_to.ensures.notes c.cut_to.ensures.knows c.cut_to.ensures.notes).knows

pub returns-clause-tight : goal.returns-clause-tight
returns-clause-tight c =
    let b = c.args.board.now in
    let p = c.args.pass.now in
    let q = c.row_values-low.new.pass in
    let r = c.raise_to.new.pass in
    let w = c.cut_to.new.pass in
    are_tight b p q r w c.args.k c.args.s c.requires.above c.requires.layer c.requires.state c.row_values-low.ensures.knows
    c.raise_to.ensures.knows c.raise_to.ensures.notes c.cut_to.ensures.knows c.cut_to.ensures.notes c.row_values-low.result.0
    c.row_values-low.result.1 c.raise_to.ensures.raised
    c.cut_to.ensures.cut
    c.row_values-low.ensures.values

pub returns-clause-exact : goal.returns-clause-exact
returns-clause-exact c = λ seals.
    let b = c.args.board.now in
    let p = c.args.pass.now in
    let q = c.row_values-low.new.pass in
    let r = c.raise_to.new.pass in
    let w = c.cut_to.new.pass in
    are_equal b p q r w c.args.k c.args.s c.requires.above c.requires.layer c.requires.state c.row_values-low.ensures.knows
    c.raise_to.ensures.knows c.raise_to.ensures.notes c.cut_to.ensures.knows c.cut_to.ensures.notes c.row_values-low.result.0
    c.row_values-low.result.1 c.raise_to.ensures.raised
    c.cut_to.ensures.cut
    (c.row_values-low.ensures.exact seals)

pub returns-clause-seals : goal.returns-clause-seals
returns-clause-seals c = λ j d le lt.
    let b = c.args.board.now in
    let p = c.args.pass.now in
    let q = c.row_values-low.new.pass in
    let r = c.raise_to.new.pass in
    let w = c.cut_to.new.pass in
    (words_all b p q r w c.args.k c.args.s c.requires.above c.requires.layer c.requires.state c.row_values-low.ensures.knows
    c.raise_to.ensures.knows c.raise_to.ensures.notes c.cut_to.ensures.knows c.cut_to.ensures.notes).seals j d
