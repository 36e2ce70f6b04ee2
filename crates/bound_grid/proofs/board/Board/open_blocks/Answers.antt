use Rattle.std.proofs.Common.{rules, ◌≡◌, ℕ, ◌+◌, ◌*◌, ◌/◌, ◌≤◌, length, arith}
use Rattle.std.proofs.Math.Nat.{mul-le-mul_left}
use Rattle.step_core.specs.Limits.{sizes_of}
use Rattle.step_core.specs.Places.{blocks}
use Rattle.bound_grid.proofs.board.Board.open_blocks.Goals as goal

-- there are no more blocks than states
few_blocks : (layers n : ℕ) → (layers + 1) * n ≤ 8388608 → layers * ((n + 63) / 64) ≤ 8388608
few_blocks layers n few =
    let g : ℕ = (n + 63) / 64 in
    let le : g ≤ n = omega arith in
    let m : layers * g ≤ layers * n = mul-le-mul_left layers le in
    omega (arith, m, few)

pub returns-clause-few : goal.returns-clause-few
returns-clause-few c =
    let b = c.args.self.now in
    let count : c.from.result * c.from-2.result ≡ b.plan.layers * blocks (sizes_of b.plan) = search rules in
    let few = few_blocks b.plan.layers (length b.plan.frame.rows) b.few in
    omega (arith, count, few)
