-- Objects that never fail, and hold the named files, raise no count of faults.
use Rattle.std.proofs.Common.{◌≡◌, ℕ, zero, suc, ◌-◌, ◌^◌, List, [], ◌∷◌, ◌++◌, Option, Some, None, IfSome, IsSome, take, min, inl, inr, arith, subst, sym, refl}
use Rattle.std.proofs.lemmas.Grind.{common_steps}
use Rattle.outside.specs.Causes.{Rose}
use Rattle.outside.specs.Shelf.{Pair, file_named, missing_count}
use Rattle.command_words.specs.Command.{Spoken, text_in}
use Rattle.session.specs.Command.{IsCommandOf, Say, names_of}
use Rattle.session.specs.Laws.{AreNamed}
use Rattle.session.specs.ReadCause.{HasReadCause}
use Rattle.session.proofs.Commands.{same_command}
use Rattle.session.specs.Serve.{AreThere, AsksFor, AsksBy, IsLostOr, IsMemoryOr}
use Rattle.session.specs.declared.status.Fault.TheVariants.{Read, Write}
use Rattle.session.specs.declared.status.Status.{Status}
use Rattle.session.specs.declared.status.Status.TheVariants.{Done, Refused, Usage, Model, Outside, Memory}

-- none of the names that are there is missing
none_missing : (pairs : List Pair) (tra lab : List ℕ) (rew : Option (List ℕ)) (count : ℕ) → IsSome (file_named tra pairs)
    → IsSome (file_named lab pairs)
    → IfSome rew (λ name. IsSome (file_named name pairs)) → missing_count pairs (take count (tra ∷ lab ∷ text_in rew)) ≡ 0
none_missing pairs tra lab rew zero t l r = refl
none_missing pairs tra lab rew (suc zero) t l r = grind (arith, common_steps)
none_missing pairs tra lab rew (suc (suc zero)) t l r = grind (arith, common_steps)
none_missing pairs tra lab None (suc (suc (suc count))) t l r = grind (arith, common_steps)
none_missing pairs tra lab (Some name) (suc (suc (suc zero))) t l r = grind (arith, common_steps)
none_missing pairs tra lab (Some name) (suc (suc (suc (suc count)))) t l r = grind (arith, common_steps)

command_missing : (command : Option Spoken) (pairs : List Pair) (count : ℕ) → IfSome command (λ c. AreThere c pairs)
    → missing_count pairs (take count (names_of command)) ≡ 0
command_missing None pairs zero there = refl
command_missing None pairs (suc count) there = refl
command_missing (Some names) pairs count there = none_missing pairs names.tra names.lab names.rew count there.tra there.lab there.rew

-- the count of faults of the files: how many of the names asked for are no file's
abbrev faults : List Pair → List (List ℕ) → ℕ
faults pairs asked = min (missing_count pairs asked) (2 ^ 64 - 1)

module _ (command : Option Spoken) (pairs pairs' : List Pair) (old new : List (List ℕ))
    (there : IfSome command (λ c. AreThere c pairs))
    (same : pairs' ≡ pairs) (fresh : old ≡ []) where
  no_rise : AsksFor (names_of command) old new → Rose (faults pairs old) (faults pairs' new) → ⊥
  no_rise asks rose =
      let empty : new ≡ take asks.count (names_of command) =
      subst (λ l. new ≡ l ++ take asks.count (names_of command)) fresh asks.appended in
      let before : missing_count pairs old ≡ 0 = subst (λ l. missing_count pairs l ≡ 0) (sym fresh) refl in
      let now : missing_count pairs' new ≡ 0 =
      subst (λ l. missing_count pairs' l ≡ 0) (sym empty) (subst (λ p. missing_count p (take asks.count (names_of command)) ≡ 0) (sym same)
      (command_missing command pairs asks.count there)) in
      omega (arith, before, now, rose)

  pub no_read_of : (s : Status) → AsksBy s command old new
      → HasReadCause command (Some pairs) (faults pairs old) (faults pairs' new) 0 0 (s ≡ Outside Read) → s ≡ Outside Read → ⊥
  no_read_of s asks cause e =
      elim (cause.risen e) [
        | inl rose ↦ no_rise (subst (λ z. AsksBy z command old new) e asks) rose.0
        | inr rose ↦ omega (arith, rose.0)
      ]

-- the same of the command that the words say
there_of : (words : List (List ℕ)) (pairs : List Pair) (command : Option Spoken) → AreNamed words pairs → IsCommandOf words command
    → IfSome command (λ c. AreThere c pairs)
there_of words pairs None named said = tt
there_of words pairs (Some command) named said = named command said

module _ (words : List (List ℕ)) (pairs pairs' : List Pair) (old new : List (List ℕ)) (named : AreNamed words pairs) (same : pairs' ≡ pairs)
    (fresh : old ≡ []) where
  pub no_read : (s : Status) → Say words (λ command. AsksBy s command old new)
      → Say words (λ command. HasReadCause command (Some pairs) (faults pairs old) (faults pairs' new) 0 0 (s ≡ Outside Read))
      → s ≡ Outside Read → ⊥
  no_read s asks cause e =
      no_read_of cause.command pairs pairs' old new (there_of words pairs cause.command named cause.said) same fresh s
      (subst (λ c. AsksBy s c old new) (same_command words asks.command cause.command asks.said cause.said) asks.holds) cause.holds e

pub memory_or : (s : Status) (P Q : Type 0) → (s ≡ Outside Read → ⊥) → (s ≡ Outside Write → ⊥) → (P → Q) → IsLostOr s P → IsMemoryOr s Q
memory_or Done P Q r w f p = f p
memory_or Refused P Q r w f p = f p
memory_or Usage P Q r w f p = f p
memory_or (Model fault) P Q r w f p = f p
memory_or (Outside Read) P Q r w f p = r refl
memory_or (Outside Write) P Q r w f p = w refl
memory_or Memory P Q r w f p = tt
