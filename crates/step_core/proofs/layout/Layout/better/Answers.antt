use Rattle.std.proofs.Common.{◌≡◌, ◌+◌, ◌*◌, ◌<◌, ◌≤◌, Bool, false, sym, ap, ◌∙◌, subst, arith}
use Rattle.step_core.specs.BoardRule.{better_of}
use Rattle.step_core.specs.Places.{Sizes, cells, falls}
use Rattle.step_core.proofs.PlaceLemmas.{rises_low, falls_mid, rises_high}
use Rattle.step_core.proofs.layout.Layout.better.Goals as goal
use Rattle.step_core.proofs.layout.Layout.better.Goals.{else-cells-place-via-then-cells-place+else-place-cells, else-cells-place-via-else-cells-place}

pub returns-then-place-cells : goal.returns-then-place-cells
returns-then-place-cells c =
    let above = subst (λ (z : Sizes). cells z < c.args.place) c.self.view_is c.if-cells-place.true in
    let under = subst (λ (z : Sizes). c.args.place < 1 + 2 * cells z) c.self.view_is c.if-place-cells.true in
    let is = falls_mid c.args.self c.args.place above under in
    c.min.ensures ∙ ap (λ (f : Bool). better_of f c.args.a c.args.b) (sym is)

pub returns-else-cells-place : goal.returns-else-cells-place
returns-else-cells-place c = c.max.ensures ∙ ap (λ (f : Bool). better_of f c.args.a c.args.b) (sym rises)
  where
    rises : falls c.args.self c.args.place ≡ false
    rises =
        elim c.else-cells-place.branch [
          | else-cells-place-via-then-cells-place+else-place-cells w ↦
              rises_high c.args.self c.args.place
              (subst (λ (z : Sizes). 2 * cells z < c.args.place) c.self.view_is (let h = w.if-place-cells.false in omega arith))
          | else-cells-place-via-else-cells-place w ↦
              rises_low c.args.self c.args.place
              (subst (λ (z : Sizes). c.args.place ≤ cells z) c.self.view_is (let h = w.if-cells-place.false in omega arith))
        ]
