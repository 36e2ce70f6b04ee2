-- What the laws of a kind of files say: which value a text says, and which fault a text has at which line.
use Rattle.std.specs.Prelude.{◌≡◌, ℕ, ◌⊎◌, List}
use Rattle.text_lines.specs.declared.fault.FileWhat.{FileWhat}

-- a text says one value at most
abbrev pub OneValue : {A : Type 0} → (List ℕ → A → Type 0) → Type 0
OneValue {A} Says = (text : List ℕ) (a b : A) → Says text a → Says text b → a ≡ b

-- a text has one fault at most, at one line
abbrev pub OneFault : (List ℕ → ℕ → FileWhat → Type 0) → Type 0
OneFault FaultAt = (text : List ℕ) (k l : ℕ) (v w : FileWhat) → FaultAt text k v → FaultAt text l w → (k ≡ l) × (v ≡ w)

-- a text that says a value has no fault
abbrev pub NotBoth : {A : Type 0} → (List ℕ → A → Type 0) → (List ℕ → ℕ → FileWhat → Type 0) → Type 0
NotBoth {A} Says FaultAt = (text : List ℕ) (a : A) (k : ℕ) (v : FileWhat) → Says text a → ¬ FaultAt text k v

-- some value, or some fault at some line
abbrev pub SaysSome : {A : Type 0} → (List ℕ → A → Type 0) → List ℕ → Type 0
SaysSome {A} Says text = (a : A) × Says text a

abbrev pub HasSomeFault : (List ℕ → ℕ → FileWhat → Type 0) → List ℕ → Type 0
HasSomeFault FaultAt text = (k : ℕ) × (v : FileWhat) × FaultAt text k v

-- each text says a value or has a fault
abbrev pub ValueOrFault : {A : Type 0} → (List ℕ → A → Type 0) → (List ℕ → ℕ → FileWhat → Type 0) → Type 0
ValueOrFault Says FaultAt = (text : List ℕ) → SaysSome Says text ⊎ HasSomeFault FaultAt text
