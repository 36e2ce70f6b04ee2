-- What is so unless memory ran out.
use Rattle.std.proofs.Common.{◌≡◌, subst}
use Rattle.session.specs.Serve.{IsMemoryOr}
use Rattle.session.specs.declared.status.Status.{Status}
use Rattle.session.specs.declared.status.Status.TheVariants.{Done, Refused, Usage, Model, Outside, Memory}

pub memory_or_then : (s : Status) (P Q : Type 0) → (P → Q) → IsMemoryOr s P → IsMemoryOr s Q
memory_or_then Memory P Q f h = h
memory_or_then (Outside fault) P Q f h = h
memory_or_then Done P Q f h = f h
memory_or_then Refused P Q f h = f h
memory_or_then Usage P Q f h = f h
memory_or_then (Model fault) P Q f h = f h

pub where_refused : (s : Status) (P : Type 0) → s ≡ Refused → IsMemoryOr s P → P
where_refused s P e h = subst (λ t. IsMemoryOr t P) e h
