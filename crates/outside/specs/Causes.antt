-- Why a call of the outside may answer a fault, and how faults are counted.
use Rattle.std.specs.Prelude.{◌≡◌, ℕ, ◌+◌, ◌-◌, ◌^◌, ◌≤◌, min}
use Rattle.outside.specs.declared.fault.TakeFault.{TakeFault}
use Rattle.outside.specs.declared.fault.PutFault.{PutFault}
use Rattle.outside.specs.declared.fault.TakeFault.TheVariants as take_fault
use Rattle.outside.specs.declared.fault.PutFault.TheVariants as put_fault

-- a counter one step later: it stops at its last value
abbrev pub one_more : ℕ → ℕ
one_more count = min (count + 1) (2 ^ 64 - 1)

-- the count rose by one, or stands at its last value: one call failed, and no other did
abbrev pub Rose : ℕ → ℕ → Type 0
Rose before now = now ≡ one_more before

-- a fault is answered where one call failed, and nowhere else: the count rises by one then, and else it stays
pub record HasCause (before now : ℕ) (faulted : Type 0) : Type 0 where
  pub later : before ≤ now
  pub risen : faulted → Rose before now
  pub still : ¬ faulted → now ≡ before

-- the count of faults after a file wasn't taken: it counts the outside's faults alone
abbrev pub faults_after_take : TakeFault → ℕ → ℕ
faults_after_take take_fault.Failed faults = one_more faults
faults_after_take take_fault.TooBig faults = faults
faults_after_take take_fault.Memory faults = faults

-- the count of faults after a piece wasn't written: it counts the outside's faults alone
abbrev pub faults_after_put : PutFault → ℕ → ℕ
faults_after_put put_fault.Failed faults = one_more faults
faults_after_put put_fault.Memory faults = faults
