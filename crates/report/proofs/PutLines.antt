-- A text that was put into a buffer in pieces.
use Rattle.std.proofs.Common.{◌≡◌, ℕ, List, [], ◌∷◌, ◌++◌, ap, ◌∙◌, append_assoc}

-- what begins so, then digits, a byte and a text
pub put_in_pieces : (start head digits text a b c d : List ℕ) (x : ℕ) → a ≡ start ++ head → b ≡ a ++ digits → c ≡ b ++ x ∷ [] → d ≡ c ++ text
    → d ≡ start ++ ((head ++ digits) ++ (x ∷ text))
put_in_pieces start head digits text a b c d x p q r s =
    s ∙ ap (λ l. l ++ text) (r ∙ ap (λ l. l ++ x ∷ []) (q ∙ ap (λ l. l ++ digits) p))
    ∙ append_assoc ((start ++ head) ++ digits) (x ∷ []) text
    ∙ ap (λ l. l ++ (x ∷ text)) (append_assoc start head digits)
    ∙ append_assoc start (head ++ digits) (x ∷ text)
