-- What the parser's loop rests on.
use Rattle.std.proofs.Common.{◌≡◌, ℕ, suc, ◌+◌, ◌<◌, ◌≤◌, ◌⊎◌, inl, inr, true, Option, None, List, [], ◌∷◌, ◌++◌, length, refl, sym, ◌∙◌}
use Rattle.std.proofs.Common.{ap, subst, arith, length-append}
use Rattle.std.specs.Prelude.{slice_index_or, Result, Ok, Err, MatchResult}
use Rattle.std.specs.Prelude.{Box}
use Rattle.std.specs.declared.alloc.Global.{Global}
use Rattle.text_lines.specs.Words.{is_blank}
use Rattle.csl_syntax.specs.declared.fault.FormulaFault.{FormulaFault}
use Rattle.csl_syntax.specs.declared.fault.FormulaWhat.{FormulaWhat}
use Rattle.csl_syntax.specs.declared.fault.FormulaWhat.TheVariants as what
use Rattle.csl_syntax.specs.declared.fault.ParseFault.{ParseFault}
use Rattle.csl_syntax.specs.declared.fault.ParseFault.TheVariants as faults
use Rattle.csl_syntax.specs.declared.formula.Formula.{Formula}
use Rattle.csl_syntax.specs.declared.limits.TheConstants.{MOST_BYTES, MOST_NESTED}
use Rattle.csl_syntax.specs.declared.machine.Machine.{Machine}
use Rattle.csl_syntax.specs.declared.machine.Pending.{Pending}
use Rattle.csl_syntax.specs.declared.machine.Place.{Place}
use Rattle.csl_syntax.specs.declared.machine.Place.TheVariants.{Before, After, Within}
use Rattle.csl_syntax.specs.declared.stop.Stop.{Stop}
use Rattle.csl_syntax.specs.declared.stop.Stop.TheVariants as stops
use Rattle.csl_syntax.specs.declared.token.Token.{Token}
use Rattle.csl_syntax.specs.FormulaFault.{FailsBy, FormulaFaultAt}
use Rattle.csl_syntax.specs.FormulaText.{FormulaSays}
use Rattle.csl_syntax.specs.Machine.{Layer, start, step, whole_of, whole, with_either, with_both}
use Rattle.csl_syntax.specs.Parsing.{IsReadUpTo, IsFaultOf, Advances, StopsAtToken, StopsAtHead, IsToldAs, EndsAs}
use Rattle.csl_syntax.specs.Scanner.{FailsAtHead, SkipsBlanks}
use Rattle.csl_syntax.specs.Tokens.{HasTokens, no_more}
use Rattle.csl_syntax.specs.Tree.{Tree, tree_of}
use Rattle.csl_syntax.specs.View.{outer_from, layer_of, tree_in, in_context, state_at, state_of, IsCounted}
use Rattle.csl_syntax.proofs.Endings.{IsGoing, run-one}
use Rattle.csl_syntax.proofs.Outcomes.{fails_at, Reads, fails_here, ends_early, token_shortens}
use Rattle.csl_syntax.proofs.Scanning.{has-token, has-blank, formula_is_one, fault_is_one, formula_has_no_fault}
use Rattle.csl_syntax.proofs.Sound.{read_is_spelled}
use Rattle.csl_syntax.proofs.TokenFaults.{token_fails}

going_at : (p : Place) (d : ℕ) (ls : List Layer) (o a : Option Tree) → IsGoing (state_at p d ls o a)
going_at (Before n) d ls o a = tt
going_at (After f) d ls o a = tt
going_at (Within p n) d ls o a = tt

going_of : (m : Machine) → IsGoing (state_of m)
going_of m = going_at m.place m.context.room (outer_from [] m.context.outer.items) (tree_in m.context.either) (tree_in m.context.both)

-- blanks are skipped
module _ (labels : List (List ℕ)) where
  skips : {line rest : List ℕ} {ts : List Token} (blanks : List ℕ) {bytes : List ℕ} → HasTokens labels line ts bytes
      → bytes ≡ blanks ++ rest →
      ((k d : ℕ) → k < length blanks → is_blank (slice_index_or blanks k d) ≡ true) → HasTokens labels line ts rest
  skips {line} {rest} {ts} [] h e f = subst (HasTokens labels line ts) e h
  skips {line} {rest} {ts} (b ∷ blanks) h e f =
      let first : 0 < suc (length blanks) = omega arith in
      skips blanks (has-blank labels h e (f 0 0 first)) refl
      (λ k d l. let m : suc k < suc (length blanks) = omega (arith, l) in f (suc k) d m)

  pub read_on : (line bytes rest : List ℕ) (m : Machine) → IsReadUpTo line labels m bytes → SkipsBlanks bytes rest
      → IsReadUpTo line labels m rest
  read_on line bytes rest m h s =
      record { tokens = h.tokens; has = skips s.blanks h.has s.split s.all; state = h.state; counted = h.counted }

  pub read_nothing : (line : List ℕ) (m : Machine) → state_of m ≡ start MOST_NESTED → IsCounted m → IsReadUpTo line labels m line
  read_nothing line m e c = record { tokens = []; has = no_more; state = e; counted = c }

  pub read_more : (line bytes rest : List ℕ) (m next : Machine) → IsReadUpTo line labels m bytes → Advances labels m bytes next rest
      → IsReadUpTo line labels next rest
  read_more line bytes rest m next h a = record {
    tokens = h.tokens ++ a.token ∷ [];
    has = has-token labels h.has a.begins;
    state =
        a.state ∙ ap (λ q. step (length labels) 1 q a.token) h.state
        ∙ sym (run-one (length labels) 1 (start MOST_NESTED) h.tokens a.token);
    counted = a.counted;
  }

  reads : (line bytes : List ℕ) (m : Machine) (h : IsReadUpTo line labels m bytes) → length line ≤ MOST_BYTES → length bytes ≤ length line
      → Reads labels line h.tokens bytes
  reads line bytes m h l k = record { short = l; has = h.has; going = subst IsGoing h.state (going_of m); within = k }

  head_fails : (ts : List Token) (bytes : List ℕ) (w : FormulaWhat) → FailsAtHead bytes w → FailsBy labels ts bytes w
  head_fails ts bytes what.Token h = h
  head_fails ts bytes what.Number h = h
  head_fails ts bytes what.Expected h = absurd h
  head_fails ts bytes what.UnknownLabel h = absurd h
  head_fails ts bytes what.Threshold h = absurd h
  head_fails ts bytes what.Depth h = absurd h
  head_fails ts bytes what.Length h = absurd h

  stop_fails : (line bytes : List ℕ) (m : Machine) (h : IsReadUpTo line labels m bytes) (w : FormulaWhat)
      → FailsAtHead bytes w ⊎ StopsAtToken labels m bytes w → FailsBy labels h.tokens bytes w
  stop_fails line bytes m h w (inl f) = head_fails h.tokens bytes w f
  stop_fails line bytes m h w (inr f) =
      fails_at labels h.tokens bytes f.rest f.token w f.begins
      (token_fails (length labels) h.tokens f.token w (subst IsGoing h.state (going_of m))
      (sym (ap (λ q. step (length labels) 1 q f.token) h.state) ∙ f.state))

  -- what is told is a fault of the line
  pub told_is : (line bytes : List ℕ) (m : Machine) (stop : Stop) (fault : ParseFault) → IsReadUpTo line labels m bytes
      → length line ≤ MOST_BYTES → length bytes ≤ length line →
      StopsAtHead labels m bytes stop → IsToldAs stop (length line) (length bytes) fault → IsFaultOf line labels fault
  told_is line bytes m (stops.Fails w) (faults.At at) h l k s (e, f) =
      fails_here labels line h.tokens bytes at.column at.what (reads line bytes m h l k) e
      (subst (FailsBy labels h.tokens bytes) (sym f) (stop_fails line bytes m h w s))
  told_is line bytes m (stops.Fails w) faults.Memory h l k s e = absurd e
  told_is line bytes m stops.Memory (faults.At at) h l k s e = let none : faults.At at ≡ faults.Memory = e in cc
  told_is line bytes m stops.Memory faults.Memory h l k s e = tt

  -- how a line ends
  abbrev pub Answers : List ℕ → Result Formula ParseFault → Type 0
  Answers line r = MatchResult r (λ f. FormulaSays line labels (tree_of f)) (IsFaultOf line labels)

  ended_fault : (line : List ℕ) (m : Machine) (fault : ParseFault) → IsReadUpTo line labels m [] → length line ≤ MOST_BYTES
      → EndsAs (length line) (Err fault) (whole (state_of m)) →
      IsFaultOf line labels fault
  ended_fault line m (faults.At at) h l (e, f) =
      let none : 0 ≤ length line = omega arith in
      let column : at.column ≡ length line + 1 = ap (λ v. v.column) f in
      let here : at.column + 0 ≡ length line + 1 = omega (arith, column) in
      let kind : at.what ≡ what.Expected = ap (λ v. v.what) f in
      fails_here labels line h.tokens [] at.column at.what (reads line [] m h l none) here
      (subst (FailsBy labels h.tokens []) (sym kind)
      (ends_early labels h.tokens (subst IsGoing h.state (going_of m)) (sym (ap whole h.state) ∙ e)))
  ended_fault line m faults.Memory h l e = tt

  pub ended : (line : List ℕ) (m : Machine) (r : Result Formula ParseFault) → IsReadUpTo line labels m [] → length line ≤ MOST_BYTES
      → EndsAs (length line) r (whole (state_of m)) →
      Answers line r
  ended line m (Ok f) h l e =
      record {
        short = l;
        tokens = h.tokens;
        has = h.has;
        spells = read_is_spelled (length labels) 1 MOST_NESTED h.tokens
            (sym (ap whole h.state) ∙ e);
      }
  ended line m (Err fault) h l e = ended_fault line m fault h l e

pub skip_length : (bytes rest : List ℕ) → SkipsBlanks bytes rest → length rest ≤ length bytes
skip_length bytes rest s = omega (arith, ap length s.split, length-append s.blanks rest)

pub advance_length : (labels : List (List ℕ)) (m : Machine) (bytes : List ℕ) (next : Machine) (rest : List ℕ)
    → Advances labels m bytes next rest → length rest < length bytes
advance_length labels m bytes next rest a = token_shortens labels bytes rest a.token a.begins

-- where a formula is not at its end, none is whole
length_outer : (ls : List Layer) (xs : List Pending) → length (outer_from ls xs) ≡ length ls + length xs
length_outer ls [] = omega arith
length_outer ls (x ∷ xs) = omega (arith, length_outer (layer_of x ∷ ls) xs)

nothing_below : 0 < 0 → ⊥
nothing_below h = omega (arith, h)

none_of : (ls : List Layer) (g : Tree) → 0 < length ls → whole_of ls g ≡ None
none_of [] g h = absurd (nothing_below h)
none_of (l ∷ ls) g h = refl

pub not_whole : (m : Machine) (f : Box Formula Global) → m.place ≡ After f → 0 < length m.context.outer.items → whole (state_of m) ≡ None
not_whole m f e h =
    ap (λ p. whole (in_context m.context (state_at p))) e
    ∙ none_of (outer_from [] m.context.outer.items)
    (with_either (tree_in m.context.either) (with_both (tree_in m.context.both) (tree_of f.value)))
    (omega (arith, length_outer [] m.context.outer.items, h))

-- the answer is exact
module _ (line : List ℕ) (labels : List (List ℕ)) where
  pub fault_of : (r : Result Formula ParseFault) → Answers labels line r → (at : FormulaFault) → r ≡ Err (faults.At at)
      → FormulaFaultAt line labels at.column at.what
  fault_of r h at e = subst (Answers labels line) e h

  says_case : (tree : Tree) → FormulaSays line labels tree → (fault : ParseFault) → IsFaultOf line labels fault → fault ≡ faults.Memory
  says_case tree s (faults.At at) h = absurd (formula_has_no_fault line labels tree at.column at.what s h)
  says_case tree s faults.Memory h = refl

  pub says_exactly : (r : Result Formula ParseFault) → Answers labels line r → (tree : Tree) → FormulaSays line labels tree
      → MatchResult r (λ f. tree_of f ≡ tree) (λ e. e ≡ faults.Memory)
  says_exactly (Ok f) h tree s = formula_is_one line labels (tree_of f) tree h s
  says_exactly (Err fault) h tree s = says_case tree s fault h

  same_fault : (a b : FormulaFault) → a.column ≡ b.column → a.what ≡ b.what → a ≡ b
  same_fault a b e f = ap (λ k. make k a.what) e ∙ ap (make b.column) f
    where
      make : ℕ → FormulaWhat → FormulaFault
      make k w = record { column = k; what = w }

  abbrev failed : ParseFault → Result Formula ParseFault
  failed fault = Err fault

  faulty_case : (at : FormulaFault) → FormulaFaultAt line labels at.column at.what → (fault : ParseFault) → IsFaultOf line labels fault →
      (failed fault ≡ failed (faults.At at)) ⊎ (failed fault ≡ failed faults.Memory)
  faulty_case at h (faults.At found) f =
      let same = fault_is_one line labels found.column at.column found.what at.what f h in
      inl (ap (λ x. failed (faults.At x)) (same_fault found at same.0 same.1))
  faulty_case at h faults.Memory f = inr refl

  pub faulty_exactly : (r : Result Formula ParseFault) → Answers labels line r → (at : FormulaFault)
      → FormulaFaultAt line labels at.column at.what →
      (r ≡ Err (faults.At at)) ⊎ (r ≡ Err faults.Memory)
  faulty_exactly (Ok f) h at g = absurd (formula_has_no_fault line labels (tree_of f) at.column at.what h g)
  faulty_exactly (Err fault) h at g = faulty_case at g fault h

-- a line that is too long
pub too_long : (line : List ℕ) (labels : List (List ℕ)) → MOST_BYTES < length line
    → IsFaultOf line labels (faults.At (record { column = MOST_BYTES + 1; what = what.Length }))
too_long line labels h = (h, refl)
