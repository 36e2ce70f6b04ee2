-- A file has one reading: it stands for one value or has one fault.
use Rattle.std.proofs.Common.{◌≡◌, ℕ, ◌<◌, ◌≤◌, ◌⊎◌, List, length, Some, IsSomeAnd, inl, inr, refl, sym, ◌∙◌, subst, arith}
use Rattle.std.proofs.lemmas.Bool.{cases_lt}
use Rattle.outside.specs.Shelf.{Pair, IsFile, IsTooBig}
use Rattle.outside.specs.declared.files.TheConstants.{FILE_LIMIT}
use Rattle.text_lines.specs.declared.fault.FileWhat.{FileWhat}
use Rattle.text_lines.specs.declared.fault.FileWhat.TheVariants.{TooBig}
use Rattle.text_lines.proofs.FileReadings as reading
use Rattle.text_lines.proofs.FileReadings.{HasReading}
use Rattle.session.specs.ModelFiles.{TakesText, IsFaulty}

some_same : (a b : List ℕ) → Some a ≡ Some b → a ≡ b
some_same a b e = cc

module _ (pairs : List Pair) (name : List ℕ) where
  same_bytes : (a b : List ℕ) → IsFile name (Some pairs) a → IsFile name (Some pairs) b → b ≡ a
  same_bytes a b p q = some_same b a (sym q ∙ p)

  not_too_big : (a : List ℕ) → IsFile name (Some pairs) a → length a ≤ FILE_LIMIT → IsTooBig name (Some pairs) → ⊥
  not_too_big a p w big =
      let long : FILE_LIMIT < length a = subst (λ o. IsSomeAnd o (λ bytes. FILE_LIMIT < length bytes)) p big in
      omega (arith, w, long)

  module _ {A : Type 0} (Says : List ℕ → A → Type 0) (FaultAt : List ℕ → ℕ → FileWhat → Type 0)
      (is : (text : List ℕ) → HasReading (Says text) (FaultAt text)) where
    pub one_value : (a b : A) → TakesText name (Some pairs) (λ bytes. Says bytes a) → TakesText name (Some pairs) (λ bytes. Says bytes b)
        → a ≡ b
    one_value a b p q =
        reading.one_value (Says p.bytes) (FaultAt p.bytes) (is p.bytes) a b p.is_so
        (subst (λ t. Says t b) (same_bytes p.bytes q.bytes p.is_file q.is_file) q.is_so)

    pub no_fault : (a : A) (line : ℕ) (what : FileWhat) → TakesText name (Some pairs) (λ bytes. Says bytes a)
        → IsFaulty name (Some pairs) FaultAt line what → ⊥
    no_fault a line what p (inl long) = not_too_big p.bytes p.is_file p.within long.too_big
    no_fault a line what p (inr q) =
        reading.not_both (Says p.bytes) (FaultAt p.bytes) (is p.bytes) a line what p.is_so
        (subst (λ t. FaultAt t line what) (same_bytes p.bytes q.bytes p.is_file q.is_file) q.is_so)

    -- the file that is there, by what is read of its bytes
    of_bytes : (bytes : List ℕ) → IsFile name (Some pairs) bytes → length bytes ≤ FILE_LIMIT
        → ((a : A) × Says bytes a) ⊎ ((k : ℕ) × (v : FileWhat) × FaultAt bytes k v)
        → ((a : A) × TakesText name (Some pairs) (λ b. Says b a)) ⊎ ((k : ℕ) × (v : FileWhat) × IsFaulty name (Some pairs) FaultAt k v)
    of_bytes bytes here within (inl a) = inl (a.0, record { bytes = bytes; is_file = here; within = within; is_so = a.1 })
    of_bytes bytes here within (inr f) = inr (f.0, f.1, inr (record { bytes = bytes; is_file = here; within = within; is_so = f.2 }))

    pub file_reading : (bytes : List ℕ) → IsFile name (Some pairs) bytes
        → ((a : A) × TakesText name (Some pairs) (λ b. Says b a)) ⊎ ((k : ℕ) × (v : FileWhat) × IsFaulty name (Some pairs) FaultAt k v)
    file_reading bytes here =
        elim (cases_lt FILE_LIMIT (length bytes)) [
          | inl long ↦ inr (
            0,
            TooBig,
            inl (record {
              too_big = subst (λ o. IsSomeAnd o (λ b. FILE_LIMIT < length b)) (sym here) long;
              at_no_line = refl;
              told = refl;
            }),
          )
          | inr within ↦ of_bytes bytes here within (reading.value_or_fault (Says bytes) (FaultAt bytes) (is bytes))
        ]

    pub one_fault : (k l : ℕ) (v w : FileWhat) → IsFaulty name (Some pairs) FaultAt k v → IsFaulty name (Some pairs) FaultAt l w
        → (k ≡ l) × (v ≡ w)
    one_fault k l v w (inl p) (inl q) = (p.at_no_line ∙ sym q.at_no_line, p.told ∙ sym q.told)
    one_fault k l v w (inl p) (inr q) = absurd (not_too_big q.bytes q.is_file q.within p.too_big)
    one_fault k l v w (inr p) (inl q) = absurd (not_too_big p.bytes p.is_file p.within q.too_big)
    one_fault k l v w (inr p) (inr q) =
        reading.one_fault (Says p.bytes) (FaultAt p.bytes) (is p.bytes) k l v w p.is_so
        (subst (λ t. FaultAt t l w) (same_bytes p.bytes q.bytes p.is_file q.is_file) q.is_so)
