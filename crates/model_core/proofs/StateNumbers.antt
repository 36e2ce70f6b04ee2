-- Which numbers are states.
use Rattle.std.proofs.Common.{ℕ, suc, ◌&&◌, Bool, Decides, nat_lt, arith}
use Rattle.std.proofs.lemmas.Bool.{lt-ltb, ltb-true, and_from, and_parts}
use Rattle.model_core.specs.StateNumber.{IsState}

abbrev pub is_state : ℕ → ℕ → Bool
is_state n s = nat_lt 0 s && nat_lt s (suc n)

pub state_decides : (n s : ℕ) → Decides (is_state n s) (IsState n s)
state_decides n s = (
  λ t. let h = and_parts (nat_lt 0 s) (nat_lt s (suc n)) t in (omega (arith, ltb-true 0 s h.0), omega (arith, ltb-true s (suc n) h.1)),
  λ h. and_from (nat_lt 0 s) (nat_lt s (suc n)) (lt-ltb 0 s (omega (arith, h.0))) (lt-ltb s (suc n) (omega (arith, h.1))),
)
