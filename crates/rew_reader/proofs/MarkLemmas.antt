-- Which states have an entry.
use Rattle.std.proofs.Common.{◌≡◌, ◌≢◌, ℕ, ◌+◌, ◌<◌, inl, inr, Bool, true, false, List, [], ◌∷◌, ◌++◌, length, set, replicate, get_or, sym}
use Rattle.std.proofs.Common.{ap, subst, ◌∙◌, arith}
use Rattle.std.specs.List.{AllPairs, Contains}
use Rattle.std.proofs.lemmas.Bool.{cases_eq, cases_lt, both_ways}
use Rattle.std.proofs.lemmas.List.{map-append, get_or-set_same, get_or-set_other, length-set, length-replicate, get_or-replicate}
use Rattle.std.proofs.lemmas.List.{get_or_past}
use Rattle.std.proofs.lemmas.List.Elements.{Contains-append_left, Contains-append_right, Contains-push_cases}
use Rattle.model_core.specs.StateNumber.{state_number}
use Rattle.text_lines.proofs.EntryRuns.{distinct_push}
use Rattle.text_lines.specs.Entries.{keys_of}
use Rattle.text_lines.specs.EntryLines.{entry_of, entries_of}
use Rattle.text_lines.specs.declared.entry_line.EntryLine.{EntryLine}

-- the numbers of the states that have an entry
abbrev pub states : List (EntryLine ℕ) → List ℕ
states entries = keys_of (entries_of state_number entries)

-- for each of n states, whether one of the entries is of it
pub record AreMarked (n : ℕ) (entries : List (EntryLine ℕ)) (marks : List Bool) : Type 0 where
  pub long : length marks ≡ n
  pub marked : (s : ℕ) → get_or marks s false ≡ true → Contains (states entries) (s + 1)
  pub unmarked : (s : ℕ) → s < n → get_or marks s false ≡ false → ¬ Contains (states entries) (s + 1)

-- a list of entries with one more
pushed : (entries : List (EntryLine ℕ)) (e : EntryLine ℕ) → states (entries ++ e ∷ []) ≡ states entries ++ (e.key + 1) ∷ []
pushed entries e =
    ap keys_of (map-append (entry_of state_number) entries (e ∷ []))
    ∙ map-append (λ e. e.key) (entries_of state_number entries) (entry_of state_number e ∷ [])

-- no state has two entries
pub once-none : AllPairs ◌≢◌ (states [])
once-none i j d l k = absurd (omega arith)

pub once-more : (entries : List (EntryLine ℕ)) (e : EntryLine ℕ) → AllPairs ◌≢◌ (states entries) → ¬ Contains (states entries) (e.key + 1)
    → AllPairs ◌≢◌ (states (entries ++ e ∷ []))
once-more entries e once new = subst (AllPairs ◌≢◌) (sym (pushed entries e)) (distinct_push (states entries) (e.key + 1) once new)

pub marks-none : (n : ℕ) (marks : List Bool) → marks ≡ replicate n false → AreMarked n [] marks
marks-none n marks is = record {
  long = ap length is ∙ length-replicate n false;
  marked = λ s e. absurd (none_marked s (ap (λ z. get_or z s false) (sym is) ∙ e));
  unmarked = λ s l e there. omega (arith, there.1);
}
  where
    none_marked : (s : ℕ) → get_or (replicate n false) s false ≡ true → ⊥
    none_marked s e =
        elim (cases_lt s n) [
          | inl l ↦ let f = get_or-replicate n s false false l in cc
          | inr past ↦ let f = get_or_past (replicate n false) s false (omega (arith, length-replicate n false)) in cc
        ]

pub marks-more : (n : ℕ) (entries : List (EntryLine ℕ)) (marks : List Bool) (e : EntryLine ℕ) → e.key < n → AreMarked n entries marks
    → AreMarked n (entries ++ e ∷ []) (set marks e.key true)
marks-more n entries marks e within h =
    let state = e.key in
    record {
      long = length-set marks state true ∙ h.long;
      marked = λ s m. subst (λ z. Contains z (s + 1)) (sym (pushed entries e)) (elim (cases_eq s state) [
        | inl same ↦ Contains-append_right (states entries) ((e.key + 1) ∷ []) (s + 1) (0, omega arith, omega (arith, same))
        | inr other ↦
            Contains-append_left (states entries) ((e.key + 1) ∷ []) (s + 1)
            (h.marked s (sym (get_or-set_other marks state s true false other) ∙ m))
      ]);
      unmarked = λ s l u. subst (λ z. ¬ Contains z (s + 1)) (sym (pushed entries e)) (elim (cases_eq s state) [
        | inl same ↦
            let here : get_or (set marks state true) s false ≡ true =
            subst (λ z. get_or (set marks state true) z false ≡ true) (sym same)
            (get_or-set_same marks state true false (omega (arith, h.long)))
            in
            absurd (both_ways (get_or (set marks state true) s false) u here)
        | inr other ↦
            not_pushed (states entries) (e.key + 1) (s + 1) (h.unmarked s l (sym (get_or-set_other marks state s true false other) ∙ u))
            (λ same. other (omega (arith, same)))
      ]);
    }
  where
    not_pushed : (xs : List ℕ) (x y : ℕ) → ¬ Contains xs y → (y ≡ x → ⊥) → ¬ Contains (xs ++ x ∷ []) y
    not_pushed xs x y none other there =
        elim (Contains-push_cases xs x y there) [
          | inl before ↦ none before
          | inr last ↦ other (sym last)
        ]
