-- One piece more is pending.
use Rattle.std.proofs.Common.{◌≡◌, ℕ, ◌+◌, List, [], ◌∷◌, ◌++◌, refl, sym, ◌∙◌, ap, arith, append_assoc, append-nil}
use Rattle.std.specs.Prelude.{codes}
use Rattle.decimal_text.specs.DecimalNumber.{DecimalNumber}
use Rattle.decimal_text.specs.Text.{canonical_text}
use Rattle.csl_syntax.specs.declared.formula.Op.{Op}
use Rattle.csl_syntax.specs.declared.formula.Bound.{Bound}
use Rattle.csl_syntax.specs.Tokens.{op_text}
use Rattle.csl_syntax.specs.Tree.{Tree, until}
use Rattle.csl_syntax.specs.CanonicalText.{bound_text, formula_text}
use Rattle.csl_syntax.specs.declared.text.Piece.{Piece}
use Rattle.csl_syntax.specs.Printer.{piece_text, pending_text, piece_size, pending_size, PieceIsOver, PendingIsOver}

pub pending_text-append : (labels : List (List ℕ)) (ps : List Piece) (p : Piece) →
    pending_text labels (ps ++ p ∷ []) ≡ piece_text labels p ++ pending_text labels ps
pending_text-append labels [] p = sym (append-nil (piece_text labels p))
pending_text-append labels (q ∷ ps) p =
    ap (λ s. s ++ piece_text labels q) (pending_text-append labels ps p)
    ∙ append_assoc (piece_text labels p) (pending_text labels ps) (piece_text labels q)

pub pending_size-append : (ps : List Piece) (p : Piece) → pending_size (ps ++ p ∷ []) ≡ pending_size ps + piece_size p
pending_size-append [] p = refl
pending_size-append (q ∷ ps) p = omega (arith, pending_size-append ps p)

pub over_more : (n : ℕ) (ps : List Piece) (p : Piece) → PieceIsOver n p → PendingIsOver n ps → PendingIsOver n (ps ++ p ∷ [])
over_more n [] p h g = (h, tt)
over_more n (q ∷ ps) p h (g, gs) = (g, over_more n ps p h gs)

pub over_front : (n : ℕ) (ps : List Piece) (p : Piece) → PendingIsOver n (ps ++ p ∷ []) → PendingIsOver n ps
over_front n [] p h = tt
over_front n (q ∷ ps) p (h, hs) = (h, over_front n ps p hs)

pub over_last : (n : ℕ) (ps : List Piece) (p : Piece) → PendingIsOver n (ps ++ p ∷ []) → PieceIsOver n p
over_last n [] p (h, hs) = h
over_last n (q ∷ ps) p (h, hs) = over_last n ps p hs

parts : (old p op threshold q left space bound right r rest : List ℕ) →
    (old ++ (p ++ op ++ threshold ++ q)) ++ (left ++ ((space ++ bound ++ space) ++ (right ++ (r ++ rest))))
    ≡ old ++ ((p ++ op ++ threshold ++ q ++ (left ++ space ++ bound ++ space ++ right) ++ r) ++ rest)
parts old p op threshold q left space bound right r rest = simp append_assoc

-- what is written of an until, and then its parts that are pending
pub until_parts : (labels : List (List ℕ)) (op : Op) (threshold : DecimalNumber) (f g : Tree) (bound : Bound)
    (old new first word second close rest : List ℕ) →
    new ≡ old ++ (codes "P{" ++ op_text op ++ canonical_text threshold ++ codes "}[") → first ≡ formula_text labels f ++ word →
    word ≡ (codes " " ++ bound_text bound ++ codes " ") ++ second → second ≡ formula_text labels g ++ close → close ≡ codes "]" ++ rest →
    new ++ first ≡ old ++ (formula_text labels (until op threshold f bound g) ++ rest)
until_parts labels op threshold f g bound old new first word second close rest n l w s e =
    rw (n, l, w, s, e)
    (parts old (codes "P{") (op_text op) (canonical_text threshold) (codes "}[") (formula_text labels f) (codes " ") (bound_text bound)
    (formula_text labels g) (codes "]") rest)
