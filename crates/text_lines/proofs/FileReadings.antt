-- A text has one reading: it says one value, or it has one fault.
use Rattle.std.proofs.Common.{◌≡◌, ℕ, ◌⊎◌, inl, inr, Result, Ok, Err, IfOk, ap, refl, ◌∙◌}
use Rattle.text_lines.specs.declared.fault.FileFault.{FileFault}
use Rattle.text_lines.specs.declared.fault.FileWhat.{FileWhat}
use Rattle.text_lines.specs.declared.fault.ReadFault.{ReadFault}
use Rattle.text_lines.specs.declared.fault.ReadFault.TheVariants.{At, Memory}

-- what a text is
pub data Reading (A : Type 0) : Type 0 where
  Says : A → Reading A
  Faults : ℕ → FileWhat → Reading A

abbrev pub IsReading : {A : Type 0} → (A → Type 0) → (ℕ → FileWhat → Type 0) → Reading A → Type 0
IsReading IsSaid IsFault (Says a) = IsSaid a
IsReading IsSaid IsFault (Faults k v) = IsFault k v

-- this is what the text is, and nothing else holds of it
pub record HasReading {A : Type 0} (IsSaid : A → Type 0) (IsFault : ℕ → FileWhat → Type 0) : Type 0 where
  pub reading : Reading A
  pub holds : IsReading IsSaid IsFault reading
  pub says : (a : A) → IsSaid a → reading ≡ Says a
  pub faults : (k : ℕ) (v : FileWhat) → IsFault k v → reading ≡ Faults k v

same_value : {A : Type 0} (r : Reading A) (a b : A) → r ≡ Says a → r ≡ Says b → a ≡ b
same_value r a b e f = cc

same_line : {A : Type 0} (r : Reading A) (k l : ℕ) (v w : FileWhat) → r ≡ Faults k v → r ≡ Faults l w → k ≡ l
same_line r k l v w e f = cc

same_what : {A : Type 0} (r : Reading A) (k l : ℕ) (v w : FileWhat) → r ≡ Faults k v → r ≡ Faults l w → v ≡ w
same_what r k l v w e f = cc

says_not_faults : {A : Type 0} (r : Reading A) (a : A) (k : ℕ) (v : FileWhat) → r ≡ Says a → r ≡ Faults k v → ⊥
says_not_faults r a k v e f = cc

abbrev fault_at : ℕ → FileWhat → FileFault
fault_at line what = record { line = line; what = what }

same_fault : (a b : FileFault) → a.line ≡ b.line → a.what ≡ b.what → a ≡ b
same_fault a b p q = ap (λ k. fault_at k a.what) p ∙ ap (fault_at b.line) q

module _ {A : Type 0} (IsSaid : A → Type 0) (IsFault : ℕ → FileWhat → Type 0) (is : HasReading IsSaid IsFault) where
  pub one_value : (a b : A) → IsSaid a → IsSaid b → a ≡ b
  one_value a b h k = same_value is.reading a b (is.says a h) (is.says b k)

  pub one_fault : (k l : ℕ) (v w : FileWhat) → IsFault k v → IsFault l w → (k ≡ l) × (v ≡ w)
  one_fault k l v w h i =
      let e = is.faults k v h in
      let f = is.faults l w i in
      (same_line is.reading k l v w e f, same_what is.reading k l v w e f)

  pub not_both : (a : A) (k : ℕ) (v : FileWhat) → IsSaid a → IsFault k v → ⊥
  not_both a k v h i = says_not_faults is.reading a k v (is.says a h) (is.faults k v i)

  pub value_or_fault : ((a : A) × IsSaid a) ⊎ ((k : ℕ) × (v : FileWhat) × IsFault k v)
  value_or_fault = either is.reading is.holds where
    either : (r : Reading A) → IsReading IsSaid IsFault r → ((a : A) × IsSaid a) ⊎ ((k : ℕ) × (v : FileWhat) × IsFault k v)
    either (Says a) h = inl (a, h)
    either (Faults k v) h = inr (k, v, h)

  -- what a reader answers, whose answers hold, is what is due, unless memory ran out
  module _ (answer : Result A ReadFault) (value : IfOk answer IsSaid)
      (fault : (at : FileFault) → answer ≡ Err (At at) → IsFault at.line at.what) where
    pub says_exactly : (a : A) → IsSaid a → (answer ≡ Ok a) ⊎ (answer ≡ Err Memory)
    says_exactly a h = by_answer answer refl value where
      by_answer : (r : Result A ReadFault) → answer ≡ r → IfOk r IsSaid → (r ≡ Ok a) ⊎ (r ≡ Err Memory)
      by_answer (Ok found) e said = inl (ap Ok (one_value found a said h))
      by_answer (Err (At at)) e said = absurd (not_both a at.line at.what h (fault at e))
      by_answer (Err Memory) e said = inr refl

    pub faulty_exactly : (at : FileFault) → IsFault at.line at.what → (answer ≡ Err (At at)) ⊎ (answer ≡ Err Memory)
    faulty_exactly at h = by_answer answer refl value where
      by_answer : (r : Result A ReadFault) → answer ≡ r → IfOk r IsSaid → (r ≡ Err (At at)) ⊎ (r ≡ Err Memory)
      by_answer (Ok found) e said = absurd (not_both found at.line at.what said h)
      by_answer (Err (At found)) e said =
          let same = one_fault found.line at.line found.what at.what (fault found e) h in
          inl (ap (λ f. Err (At f)) (same_fault found at same.0 same.1))
      by_answer (Err Memory) e said = inr refl
