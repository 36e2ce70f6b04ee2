use Rattle.std.proofs.Common.{◌+◌, ◌≤◌, length, get_or, sym, ◌∙◌, rules, arith}
use Rattle.model_core.specs.declared.rate.Rate.{Rate}
use Rattle.model_core.proofs.Rows.{below-mono, below-le-length, filter-slice_range, slice_range-at}
use Rattle.model_core.proofs.model.row_of.Goals as goal

pub slice_bounds-result-count : goal.slice_bounds-result-count
slice_bounds-result-count c =
    omega (
      arith,
      c.requires.begins c.args.s (omega arith),
      c.requires.begins (c.args.s + 1) c.requires.within,
      below-mono (λ (r : Rate). r.from)
          c.args.s c.args.rates.now,
    )

pub slice_bounds-result-start : goal.slice_bounds-result-start
slice_bounds-result-start c =
    let start : get_or c.args.starts.now c.args.s 0 ≤ get_or c.args.starts.now (c.args.s + 1) 0 =
    omega (
      arith,
      c.requires.begins c.args.s (omega arith),
      c.requires.begins (c.args.s + 1) c.requires.within,
      below-mono (λ (r : Rate). r.from)
          c.args.s c.args.rates.now,
    )
    in
    search rules

pub slice_bounds-result-end : goal.slice_bounds-result-end
slice_bounds-result-end c =
    let end : get_or c.args.starts.now (c.args.s + 1) 0 ≤ length c.args.rates.now =
    omega
    (arith, c.requires.begins (c.args.s + 1) c.requires.within, below-le-length (λ (r : Rate). r.from) (c.args.s + 1) c.args.rates.now)
    in
    search rules

pub returns : goal.returns
returns c =
    slice_range-at _ _ _ _ _ (c.requires.begins c.args.s (omega arith)) (c.requires.begins (c.args.s + 1) c.requires.within)
    ∙ sym (filter-slice_range (λ (r : Rate). r.from) c.args.s c.args.rates.now c.requires.order)
