-- Numbers with finitely many decimals.
use Rattle.std.specs.Prelude.{◌≡◌, ℕ, ◌*◌, ◌%◌, ◌^◌, ◌<◌, ◌≤◌, ◌≢◌}

-- the number `c / 10^x`
pub record DecimalNumber : Type 0 where
  pub c : ℕ
  pub x : ℕ

-- in normal form x is 0, or 10 doesn't divide c
abbrev pub IsNormal : DecimalNumber → Type 0
IsNormal d = 0 < d.x → d.c % 10 ≢ 0

-- the numbers that a `Decimal` can be: c below `10^18`, at most 18 decimals, and in normal form
pub record IsShortDecimal (d : DecimalNumber) : Type 0 where
  pub below : d.c < 10 ^ 18
  pub decimals : d.x ≤ 18
  pub normal : IsNormal d

-- `d.c / 10^d.x` and `e.c / 10^e.x` are the same number
abbrev pub IsSameNumber : DecimalNumber → DecimalNumber → Type 0
IsSameNumber d e = d.c * 10 ^ e.x ≡ e.c * 10 ^ d.x

-- a number has one normal form at most
abbrev pub NormalFormIsUnique : Type 0
NormalFormIsUnique = (d e : DecimalNumber) → IsNormal d → IsNormal e → IsSameNumber d e → d ≡ e

-- d is the normal form of `m * 10^up / 10^down`
pub record IsNormalFormOf (m up down : ℕ) (d : DecimalNumber) : Type 0 where
  pub normal : IsNormal d
  pub same : m * 10 ^ up * 10 ^ d.x ≡ d.c * 10 ^ down
