use Rattle.std.proofs.Common.{◌≡◌, ℕ, ◌+◌, ◌*◌, ◌/◌, ◌^◌, ◌<◌, ◌≤◌, ap, sym, ◌∙◌, arith, add-one}
use Rattle.std.proofs.Math.Nat.{pow-suc, lt-div-mul-add, div-mul-le_self, lt_of_mul-lt-mul_right}
use Rattle.std.proofs.Math.Pow.{pow_mono}
use Rattle.ctmc_semantics.specs.Fraction.{Fraction}
use Rattle.poisson_tail.proofs.load.Load.fine_load.Goals as goal
use Rattle.poisson_tail.proofs.load.Load.fine_load.Goals.{then-rest-self, else-rest-self}

-- one doubling
kept : (den num p whole rest more whole' rest' : ℕ) → whole * den + rest ≡ num * p → whole' ≡ whole * 2 + more
    → rest' + more * den ≡ rest * 2
    → whole' * den + rest' ≡ num * (p * 2)
kept den num p whole rest more whole' rest' h e f = rw e (omega (arith, h, f))

-- before the last doubling there is room for one more
room : (whole k : ℕ) → k < 50 → whole < 2 ^ 77 * 2 ^ k → whole < 2 ^ 126
room whole k l h =
    let power : 2 ^ k ≤ 2 ^ 49 = pow_mono {i = k} {j = 49} (omega arith) in
    omega (arith, h, power)

pub overflow_mul-whole : goal.overflow_mul-whole
overflow_mul-whole c =
    let small : c.loop.whole < 2 ^ 126 = room c.loop.whole c.loop.counter (omega arith) c.loop.invariant.small in
    omega (arith, small)

pub overflow_add-whole : goal.overflow_add-whole
overflow_add-whole c =
    let small : c.loop.whole < 2 ^ 126 = room c.loop.whole c.loop.counter (omega arith) c.loop.invariant.small in
    omega (arith, small)

pub loop-preserved : goal.loop-preserved
loop-preserved c =
    let power : 2 ^ (c.loop.counter + 1) ≡ 2 ^ c.loop.counter * 2 = ap (λ z. 2 ^ z) (add-one c.loop.counter) ∙ pow-suc 2 c.loop.counter in
    let same : c.args.self.now.den ≡ c.self.inside.den = sym (ap (λ (f : Fraction). f.den) c.self.view_is) in
    elim c.if-rest-self.branch [
      | then-rest-self w ↦ record {
        value =
            rw power
            (kept _ _ _ _ _ 1 _ _ c.loop.invariant.value w.whole-is (omega arith));
        less = omega arith;
        small = rw power (omega arith);
      }
      | else-rest-self w ↦ record {
        value =
            rw power
            (kept _ _ _ _ _ 0 _ _ c.loop.invariant.value (omega arith) (omega arith));
        less = omega arith;
        small = rw power (omega arith);
      }
    ]

-- the last quotient lies between the mode and the next number of jumps
between : (num den whole rest counter : ℕ) → 0 < den → counter ≡ 50 → rest < den → whole * den + rest ≡ num * 2 ^ counter
    → (num / den * 2 ^ 50 ≤ whole) × (whole < 2 ^ 50 * (num / den + 1))
between num den whole rest counter pos e less h =
    let last : whole * den + rest ≡ num * 2 ^ 50 = h ∙ ap (λ z. num * 2 ^ z) e in
    let next : num < num / den * den + den = lt-div-mul-add pos in
    let before : num / den * den ≤ num = div-mul-le_self num den in
    let low : num / den * 2 ^ 50 < whole + 1 = lt_of_mul-lt-mul_right den (omega (arith, last, before, less)) in
    (omega (arith, low), lt_of_mul-lt-mul_right den (omega (arith, last, next)))

pub returns-clause-at_least_mode : goal.returns-clause-at_least_mode
returns-clause-at_least_mode c =
    let same : c.args.self.now.den ≡ c.self.inside.den = sym (ap (λ (f : Fraction). f.den) c.self.view_is) in
    let pos : 0 < c.args.self.now.den = omega (arith, same, c.self.invariant) in
    (between _ _ _ _ _ pos (omega arith) c.loop.invariant.less c.loop.invariant.value).0

pub returns-clause-below_next : goal.returns-clause-below_next
returns-clause-below_next c =
    let same : c.args.self.now.den ≡ c.self.inside.den = sym (ap (λ (f : Fraction). f.den) c.self.view_is) in
    let pos : 0 < c.args.self.now.den = omega (arith, same, c.self.invariant) in
    (between _ _ _ _ _ pos (omega arith) c.loop.invariant.less c.loop.invariant.value).1
