-- Faults that are told.
use Rattle.std.proofs.Common.{◌≡◌, ℕ, Result, Err, IfErr, subst}
use Rattle.text_lines.specs.Told.{IsToldBy}
use Rattle.text_lines.specs.declared.fault.FileFault.{FileFault}
use Rattle.text_lines.specs.declared.fault.FileWhat.{FileWhat}
use Rattle.text_lines.specs.declared.fault.ReadFault.{ReadFault}
use Rattle.text_lines.specs.declared.fault.ReadFault.TheVariants.{At, Memory}

-- a fault that was told holds
pub told_at : {A : Type 0} (Holds : ℕ → FileWhat → Type 0) (answer : Result A ReadFault) → IfErr answer (IsToldBy Holds)
    → (at : FileFault) → answer ≡ Err (At at) → Holds at.line at.what
told_at Holds answer h at e = subst (λ r. IfErr r (IsToldBy Holds)) e h

-- one that holds in one way holds in a weaker way
pub told_weaker : (Holds Follows : ℕ → FileWhat → Type 0) → ((line : ℕ) (what : FileWhat) → Holds line what → Follows line what)
    → (fault : ReadFault) → IsToldBy Holds fault → IsToldBy Follows fault
told_weaker Holds Follows weaker (At fault) h = weaker fault.line fault.what h
told_weaker Holds Follows weaker Memory h = tt
