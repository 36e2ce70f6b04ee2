-- How much of a text is written, a piece after the other.
use Rattle.std.proofs.Common.{◌≡◌, ℕ, ◌+◌, List, [], ◌++◌, length, take, Option, refl, sym, ap, ◌∙◌, subst, append_assoc, append-nil, length-append, arith}
use Rattle.std.proofs.Math.Seq.{take-append-add, take-length}
use Rattle.std.proofs.lemmas.List.{take-append-le}
use Rattle.std.proofs.KnownBytes.{Appends-nil, Appends-trans}
use Rattle.std.specs.Io.KnownBytes.{Appends}
use Rattle.outside.specs.Whole.{WritesFront}

-- of the text all but the rest is written
pub record IsWrittenBefore (text rest : List ℕ) (before now : Option (List ℕ)) : Type 0 where
  pub done : List ℕ
  pub splits : text ≡ done ++ rest
  pub written : Appends before now done

module _ (text : List ℕ) (a b : Option (List ℕ)) where
  -- the next piece is written too
  pub piece_written : (c : Option (List ℕ)) (piece rest : List ℕ) → IsWrittenBefore text (piece ++ rest) a b → Appends b c piece
      → IsWrittenBefore text rest a c
  piece_written c piece rest w p = record {
    done = w.done ++ piece;
    splits = w.splits ∙ sym (append_assoc w.done piece rest);
    written = Appends-trans a b c w.done piece w.written p;
  }

  -- a front of the next piece is written
  pub front_of_piece : (c : Option (List ℕ)) (piece rest : List ℕ) → IsWrittenBefore text (piece ++ rest) a b → WritesFront piece b c
      → WritesFront text a c
  front_of_piece c piece rest w p = record {
    count = length w.done + p.count;
    within = omega (arith, ap length w.splits, length-append w.done (piece ++ rest), length-append piece rest, p.within);
    written =
        subst (Appends a c)
        (sym (ap (take (length w.done + p.count)) w.splits ∙ take-append-add w.done (piece ++ rest) p.count ∙ ap (λ l. w.done ++ l)
        (take-append-le p.count piece rest p.within)))
        (Appends-trans a b c w.done (take p.count piece) w.written p.written);
  }

  -- what is written so far is a front
  pub front_so_far : (rest : List ℕ) → IsWrittenBefore text rest a b → WritesFront text a b
  front_so_far rest w = record {
    count = length w.done;
    within = omega (arith, ap length w.splits, length-append w.done rest);
    written =
        subst (Appends a b)
        (sym (ap (take (length w.done)) w.splits ∙ take-append-le (length w.done) w.done rest (omega arith) ∙ take-length w.done))
        w.written;
  }

-- ---- a piece that was put into an empty buffer
module _ (text rest piece left : List ℕ) (a b c : Option (List ℕ)) (next : rest ≡ piece ++ left) (line items start : List ℕ)
    (is : line ≡ items) (put : items ≡ start ++ piece) (empty : start ≡ []) (so_far : IsWrittenBefore text rest a b) where
  here : IsWrittenBefore text (piece ++ left) a b
  here = subst (λ r. IsWrittenBefore text r a b) next so_far

  line_is : line ≡ piece
  line_is = is ∙ put ∙ ap (λ l. l ++ piece) empty

  pub front_of_line : WritesFront line b c → WritesFront text a c
  front_of_line p = front_of_piece text a b c piece left here (subst (λ l. WritesFront l b c) line_is p)

  pub line_written : Appends b c line → IsWrittenBefore text left a c
  line_written p = piece_written text a b c piece left here (subst (λ l. Appends b c l) line_is p)

-- ---- pieces that were written one after another
module _ (first second : List ℕ) (a b : Option (List ℕ)) where
  -- a front of the first is a front of both
  pub front_of_first : WritesFront first a b → WritesFront (first ++ second) a b
  front_of_first p =
      front_of_piece (first ++ second) a a b first second (record { done = []; splits = refl; written = Appends-nil a }) p

  -- after the first, a front of the second
  pub front_of_second : (c : Option (List ℕ)) → Appends a b first → WritesFront second b c → WritesFront (first ++ second) a c
  front_of_second c p q =
      front_of_piece (first ++ second) a b c second []
      (record { done = first; splits = ap (λ l. first ++ l) (sym (append-nil second)); written = p }) q

-- ---- equal things have equal texts
module _ {X : Type 0} (text : X → List ℕ) (x y : X) (same : x ≡ y) (a b : Option (List ℕ)) where
  pub front_same : WritesFront (text x) a b → WritesFront (text y) a b
  front_same p = subst (λ z. WritesFront (text z) a b) same p

  pub appends_same : Appends a b (text x) → Appends a b (text y)
  appends_same p = subst (λ z. Appends a b (text z)) same p

-- before anything is written
pub nothing_written : (text : List ℕ) (a : Option (List ℕ)) → WritesFront text a a
nothing_written text a = record { count = 0; within = omega arith; written = Appends-nil a }
