-- What the machine reads, the grammar derives.
use Rattle.std.proofs.Common.{◌≡◌, ℕ, zero, suc, ◌<◌, ◌*◌, ◌^◌, Bool, true, false, List, [], ◌∷◌, Option, Some, None, refl, sym, subst}
use Rattle.std.proofs.Common.{nat_lt, nat_le}
use Rattle.std.proofs.lemmas.Bool.{ltb-true, leb-true}
use Rattle.decimal_text.specs.DecimalNumber.{DecimalNumber}
use Rattle.csl_syntax.specs.declared.token.Token.{Token}
use Rattle.csl_syntax.specs.declared.token.Token.TheVariants.{Truth, Falsehood, Name, ProbabilityWord, NextWord, UntilWord, Bang, AndAnd}
use Rattle.csl_syntax.specs.declared.token.Token.TheVariants.{OrOr, OpenParen, CloseParen, OpenBrace, CloseBrace, OpenBracket}
use Rattle.csl_syntax.specs.declared.token.Token.TheVariants.{CloseBracket, Comma, Tilde, Compare, Number}
use Rattle.csl_syntax.specs.declared.formula.Op.{Op}
use Rattle.csl_syntax.specs.declared.formula.Bound.TheVariants.{Unbounded, Time, Reward}
use Rattle.csl_syntax.specs.Tree.{Tree, next, until, IsUpTo}
use Rattle.csl_syntax.specs.Grammar.{formula, conj, unary, atom, Derives, a_truth, a_falsehood, a_name, in_parens, a_not, an_atom, an_and}
use Rattle.csl_syntax.specs.Grammar.{a_unary, an_or, a_conj, a_next, an_until, operator, IsZero, IsBound, no_bound, any_time, in_time}
use Rattle.csl_syntax.specs.Grammar.{in_reward}
use Rattle.csl_syntax.specs.Machine.{Layer, Kind, parens, of_next, until_left, until_right, Phase, p_brace, p_op, p_number, p_close}
use Rattle.csl_syntax.specs.Machine.{p_bracket, p_path, u_start, u_zero, u_comma, u_limit, u_close, u_any, u_again, v_zero, v_comma}
use Rattle.csl_syntax.specs.Machine.{v_limit, v_close, layer, headed, more, named, judged, in_more, in_want, zero_then, closed_as}
use Rattle.csl_syntax.specs.Machine.{boxed_as, turned_as, boxed, turned, operand, State, want, have, stopped, start, negated, back}
use Rattle.csl_syntax.specs.Machine.{with_both, with_either, closed, bang, opened, step, run, whole_of, whole}

none_is_some : {f : Tree} → None ≡ Some f → ⊥
none_is_some e = cc

some_injective : {f g : Tree} → Some f ≡ Some g → f ≡ g
some_injective e = cc

module _ (N T : ℕ) where
  abbrev Either : ℕ → Option Tree → List Token → List Token → Type 0
  Either d None s r = s ≡ r
  Either d (Some f) s r = Derives N T d formula f s (OrOr ∷ r)

  abbrev Both : ℕ → Option Tree → List Token → List Token → Type 0
  Both d None s r = s ≡ r
  Both d (Some f) s r = Derives N T d conj f s (AndAnd ∷ r)

  abbrev Bangs : ℕ → List Token → List Token → Type 0
  Bangs zero s r = s ≡ r
  Bangs (suc n) s r = Bangs n s (Bang ∷ r)

  -- From s to r an unfinished formula was read, and room d is left.
  abbrev Within : ℕ → Option Tree → Option Tree → ℕ → List Token → List Token → Type 0
  Within d o a n s r = (m k : List Token) × Either (back n d) o s m × Both (back n d) a m k × Bangs n k r

  -- From k to r stand `P`, the braces and the bracket, with a threshold that is small enough.
  abbrev Heads : Op → DecimalNumber → List Token → List Token → Type 0
  Heads op q k r = (k ≡ operator op q r) × IsUpTo T q

  -- From k to r a layer of the kind began.
  abbrev Opens : Kind → ℕ → List Token → List Token → Type 0
  Opens parens d k r = k ≡ OpenParen ∷ r
  Opens (of_next op q) d k r = Heads op q k (NextWord ∷ r)
  Opens (until_left op q) d k r = Heads op q k r
  Opens (until_right op q f b) d k r = (x m : List Token) × Heads op q k x × Derives N T d formula f x (UntilWord ∷ m) × IsBound b m r

  -- The left operand and `U`, from head on.
  abbrev Left : Op → DecimalNumber → Tree → ℕ → List Token → List Token → Type 0
  Left op q f d k m = (x : List Token) × Heads op q k x × Derives N T d formula f x (UntilWord ∷ m)

  abbrev InZero : List Token → List Token → Type 0
  InZero m r = (z : DecimalNumber) × IsZero z × (m ≡ OpenBracket ∷ Number z ∷ r)

  abbrev Leads : Phase → ℕ → List Token → List Token → Type 0
  Leads p_brace d k r = k ≡ ProbabilityWord ∷ r
  Leads p_op d k r = k ≡ ProbabilityWord ∷ OpenBrace ∷ r
  Leads (p_number op) d k r = k ≡ ProbabilityWord ∷ OpenBrace ∷ Compare op ∷ r
  Leads (p_close op q) d k r = (k ≡ ProbabilityWord ∷ OpenBrace ∷ Compare op ∷ Number q ∷ r) × IsUpTo T q
  Leads (p_bracket op q) d k r = (k ≡ ProbabilityWord ∷ OpenBrace ∷ Compare op ∷ Number q ∷ CloseBrace ∷ r) × IsUpTo T q
  Leads (p_path op q) d k r = Heads op q k r
  Leads (u_start op q f) d k r = Left op q f d k r
  Leads (u_zero op q f) d k r = Left op q f d k (OpenBracket ∷ r)
  Leads (u_comma op q f) d k r = (z : DecimalNumber) × IsZero z × Left op q f d k (OpenBracket ∷ Number z ∷ r)
  Leads (u_limit op q f) d k r = (z : DecimalNumber) × IsZero z × Left op q f d k (OpenBracket ∷ Number z ∷ Comma ∷ r)
  Leads (u_close op q f t) d k r = (z : DecimalNumber) × IsZero z × Left op q f d k (OpenBracket ∷ Number z ∷ Comma ∷ Number t ∷ r)
  Leads (u_any op q f) d k r = (z : DecimalNumber) × IsZero z × Left op q f d k (OpenBracket ∷ Number z ∷ Comma ∷ Tilde ∷ r)
  Leads (u_again op q f) d k r =
      (z : DecimalNumber) × IsZero z × Left op q f d k (OpenBracket ∷ Number z ∷ Comma ∷ Tilde ∷ CloseBracket ∷ r)
  Leads (v_zero op q f) d k r =
      (z : DecimalNumber) × IsZero z × Left op q f d k (OpenBracket ∷ Number z ∷ Comma ∷ Tilde ∷ CloseBracket ∷ OpenBracket ∷ r)
  Leads (v_comma op q f) d k r =
      (z y : DecimalNumber) × IsZero z × IsZero y
      × Left op q f d k (OpenBracket ∷ Number z ∷ Comma ∷ Tilde ∷ CloseBracket ∷ OpenBracket ∷ Number y ∷ r)
  Leads (v_limit op q f) d k r =
      (z y : DecimalNumber) × IsZero z × IsZero y
      × Left op q f d k (OpenBracket ∷ Number z ∷ Comma ∷ Tilde ∷ CloseBracket ∷ OpenBracket ∷ Number y ∷ Comma ∷ r)
  Leads (v_close op q f t) d k r =
      (z y : DecimalNumber) × IsZero z × IsZero y
      × Left op q f d k (OpenBracket ∷ Number z ∷ Comma ∷ Tilde ∷ CloseBracket ∷ OpenBracket ∷ Number y ∷ Comma ∷ Number t ∷ r)

  module _ (room : ℕ) (s : List Token) where
    abbrev Outer : ℕ → List Layer → List Token → Type 0
    Outer d [] r = (d ≡ room) × (s ≡ r)
    Outer d (l ∷ ls) r =
        (m k : List Token) × Outer (back l.bangs (suc d)) ls m × Within (suc d) l.either l.both l.bangs m k × Opens l.kind d k r

    abbrev Stands : State → List Token → Type 0
    Stands (want d ls o a n) r = (m : List Token) × Outer (back n d) ls m × Within d o a n m r
    Stands (have d ls o a f) r = (m k : List Token) × Outer d ls m × Within d o a 0 m k × Derives N T d unary f k r
    Stands (more p d ls o a n) r = (m k : List Token) × Outer (back n (suc d)) ls m × Within (suc d) o a n m k × Leads p d k r
    Stands (stopped w) r = Unit {0}

  negated_derives : {d : ℕ} (n : ℕ) {f : Tree} {k m r : List Token} → Bangs n k m → Derives N T d unary f m r
      → Derives N T (back n d) unary (negated n f) k r
  negated_derives {d} zero {f} {k} {m} {r} e x = subst (λ v. Derives N T d unary f v r) (sym e) x
  negated_derives (suc n) b x = negated_derives n b (a_not x)

  both_derives : {d : ℕ} (a : Option Tree) {f : Tree} {s m r : List Token} → Both d a s m → Derives N T d unary f m r
      → Derives N T d conj (with_both a f) s r
  both_derives {d} None {f} {s} {m} {r} e x = subst (λ v. Derives N T d conj f v r) (sym e) (a_unary x)
  both_derives (Some g) b x = an_and b x

  either_derives : {d : ℕ} (o : Option Tree) {f : Tree} {s m r : List Token} → Either d o s m → Derives N T d conj f m r
      → Derives N T d formula (with_either o f) s r
  either_derives {d} None {f} {s} {m} {r} e x = subst (λ v. Derives N T d formula f v r) (sym e) (a_conj x)
  either_derives (Some g) b x = an_or b x

  whole_derives : {d : ℕ} (o a : Option Tree) {f : Tree} {m k r : List Token} → Within d o a 0 m k → Derives N T d unary f k r
      → Derives N T d formula (with_either o (with_both a f)) m r
  whole_derives {d} o a {f} {m} {k} {r} (x, y, e, b, z) w =
      either_derives o e (both_derives a b (subst (λ v. Derives N T d unary f v r) (sym z) w))

  module _ (room : ℕ) (s : List Token) where
    operand_stands : (d : ℕ) (ls : List Layer) (o a : Option Tree) (n : ℕ) {f : Tree} {x r : List Token}
        → Stands room s (want d ls o a n) x → Derives N T d atom f x r → Stands room s (have (back n d) ls o a (negated n f)) r
    operand_stands d ls o a n (m, out, (y, k, e, b, z)) w = (m, k, out, (y, k, e, b, refl), negated_derives n z (an_atom w))

    bang_stands : (d : ℕ) (ls : List Layer) (o a : Option Tree) (n : ℕ) (r : List Token) → Stands room s (want d ls o a n) (Bang ∷ r)
        → Stands room s (bang d ls o a n) r
    bang_stands zero ls o a n r h = tt
    bang_stands (suc d) ls o a n r h = h

    opened_stands : (d : ℕ) (ls : List Layer) (o a : Option Tree) (n : ℕ) (r : List Token)
        → Stands room s (want d ls o a n) (OpenParen ∷ r) → Stands room s (opened d ls o a n) r
    opened_stands zero ls o a n r h = tt
    opened_stands (suc d) ls o a n r (m, out, w) = (r, (m, OpenParen ∷ r, out, w, refl), (r, r, refl, refl, refl))

    headed_stands : (d : ℕ) (ls : List Layer) (o a : Option Tree) (n : ℕ) (r : List Token)
        → Stands room s (want d ls o a n) (ProbabilityWord ∷ r) → Stands room s (headed d ls o a n) r
    headed_stands zero ls o a n r h = tt
    headed_stands (suc d) ls o a n r (m, out, w) = (m, ProbabilityWord ∷ r, out, w, refl)

    named_stands : (b : Bool) (d : ℕ) (ls : List Layer) (o a : Option Tree) (n : ℕ) (j : ℕ) (r : List Token) → (b ≡ true → j < N)
        → Stands room s (want d ls o a n) (Name j ∷ r) →
        Stands room s (named b d ls o a n j) r
    named_stands true d ls o a n j r k h = operand_stands d ls o a n h (a_name (k refl))
    named_stands false d ls o a n j r k h = tt

    steps_want : (t : Token) (d : ℕ) (ls : List Layer) (o a : Option Tree) (n : ℕ) (r : List Token)
        → Stands room s (want d ls o a n) (t ∷ r) → Stands room s (step N T (want d ls o a n) t) r
    steps_want Truth d ls o a n r h = operand_stands d ls o a n h a_truth
    steps_want Falsehood d ls o a n r h = operand_stands d ls o a n h a_falsehood
    steps_want (Name j) d ls o a n r h = named_stands (nat_lt j N) d ls o a n j r (ltb-true j N) h
    steps_want Bang d ls o a n r h = bang_stands d ls o a n r h
    steps_want OpenParen d ls o a n r h = opened_stands d ls o a n r h
    steps_want ProbabilityWord d ls o a n r h = headed_stands d ls o a n r h
    steps_want t d ls o a n r h = tt

    -- an operand that ends here, from the token k that began it
    ends_one : (d : ℕ) (ls : List Layer) (o a : Option Tree) (n : ℕ) (m k : List Token) {f : Tree} {r : List Token}
        → Outer room s (back n d) ls m → Within d o a n m k → Derives N T d atom f k r → Stands room s (operand d ls o a n f) r
    ends_one d ls o a n m k {f} {r} out w x = operand_stands d ls o a n {f = f} {x = k} {r = r} (m, out, w) x

    closes_as : (kd : Kind) (d : ℕ) (ls : List Layer) (o a : Option Tree) (n : ℕ) (m k : List Token) {g : Tree} {x r : List Token}
        → Outer room s (back n (suc d)) ls m → Within (suc d) o a n m k → Opens kd d k x → Derives N T d formula g x (CloseParen ∷ r)
        → Stands room s (closed_as kd d ls o a n g) r
    closes_as parens d ls o a n m k {g} {x} {r} out w e y =
        ends_one (suc d) ls o a n m k out w (subst (λ v. Derives N T (suc d) atom g v r) (sym e) (in_parens y))
    closes_as (of_next op q) d ls o a n m k out w e y = tt
    closes_as (until_left op q) d ls o a n m k out w e y = tt
    closes_as (until_right op q f b) d ls o a n m k out w e y = tt

    closes_one : (d : ℕ) (ls : List Layer) {g : Tree} {m r : List Token} → Outer room s d ls m
        → Derives N T d formula g m (CloseParen ∷ r) → Stands room s (closed d ls g) r
    closes_one d [] out x = tt
    closes_one d (l ∷ ls) (m, k, out, w, e) x = closes_as l.kind d ls l.either l.both l.bangs m k out w e x

    boxes_as : (kd : Kind) (d : ℕ) (ls : List Layer) (o a : Option Tree) (n : ℕ) (m k : List Token) {g : Tree} {x r : List Token}
        → Outer room s (back n (suc d)) ls m → Within (suc d) o a n m k → Opens kd d k x → Derives N T d formula g x (CloseBracket ∷ r)
        → Stands room s (boxed_as kd d ls o a n g) r
    boxes_as parens d ls o a n m k out w e y = tt
    boxes_as (of_next op q) d ls o a n m k {g} {x} {r} out w e y =
        ends_one (suc d) ls o a n m k out w (subst (λ v. Derives N T (suc d) atom (next op q g) v r) (sym e.0) (a_next e.1 y))
    boxes_as (until_left op q) d ls o a n m k out w e y = tt
    boxes_as (until_right op q f b) d ls o a n m k {g} {x} {r} out w (x2, m2, e, z, i) y =
        ends_one (suc d) ls o a n m k out w (subst (λ v. Derives N T (suc d) atom (until op q f b g) v r) (sym e.0) (an_until e.1 z i y))

    boxes_one : (d : ℕ) (ls : List Layer) {g : Tree} {m r : List Token} → Outer room s d ls m
        → Derives N T d formula g m (CloseBracket ∷ r) → Stands room s (boxed d ls g) r
    boxes_one d [] out x = tt
    boxes_one d (l ∷ ls) (m, k, out, w, e) x = boxes_as l.kind d ls l.either l.both l.bangs m k out w e x

    turns_as : (kd : Kind) (d : ℕ) (ls : List Layer) (o a : Option Tree) (n : ℕ) (m k : List Token) {g : Tree} {x r : List Token}
        → Outer room s (back n (suc d)) ls m → Within (suc d) o a n m k → Opens kd d k x → Derives N T d formula g x (UntilWord ∷ r)
        → Stands room s (turned_as kd d ls o a n g) r
    turns_as parens d ls o a n m k out w e y = tt
    turns_as (of_next op q) d ls o a n m k out w e y = tt
    turns_as (until_left op q) d ls o a n m k {g} {x} {r} out w e y = (m, k, out, w, (x, e, y))
    turns_as (until_right op q f b) d ls o a n m k out w e y = tt

    turns_one : (d : ℕ) (ls : List Layer) {g : Tree} {m r : List Token} → Outer room s d ls m → Derives N T d formula g m (UntilWord ∷ r)
        → Stands room s (turned d ls g) r
    turns_one d [] out x = tt
    turns_one d (l ∷ ls) (m, k, out, w, e) x = turns_as l.kind d ls l.either l.both l.bangs m k out w e x

    begins : (kd : Kind) (t : Token) (d : ℕ) (ls : List Layer) (o a : Option Tree) (n : ℕ) (r m k : List Token)
        → Outer room s (back n (suc d)) ls m → Within (suc d) o a n m k → Opens kd d k (t ∷ r)
        → Stands room s (in_want N T t d (layer kd o a n ∷ ls) None None 0) r
    begins kd t d ls o a n r m k out w e =
        steps_want t d (layer kd o a n ∷ ls) None None 0 r (t ∷ r, (m, k, out, w, e), (t ∷ r, t ∷ r, refl, refl, refl))

    wants : (kd : Kind) (d : ℕ) (ls : List Layer) (o a : Option Tree) (n : ℕ) (r m k : List Token) → Outer room s (back n (suc d)) ls m
        → Within (suc d) o a n m k → Opens kd d k r → Stands room s (want d (layer kd o a n ∷ ls) None None 0) r
    wants kd d ls o a n r m k out w e = (r, (m, k, out, w, e), (r, r, refl, refl, refl))

    zeros : (z : ℕ) (p : Phase) (d : ℕ) (ls : List Layer) (o a : Option Tree) (n : ℕ) (r : List Token)
        → (z ≡ 0 → Stands room s (more p d ls o a n) r) →
        Stands room s (zero_then z p d ls o a n) r
    zeros zero p d ls o a n r h = h refl
    zeros (suc z) p d ls o a n r h = tt

    judged_stands : (b : Bool) (op : Op) (q : DecimalNumber) (d : ℕ) (ls : List Layer) (o a : Option Tree) (n : ℕ) (r : List Token)
        → (b ≡ true → IsUpTo T q) →
        Stands room s (more (p_number op) d ls o a n) (Number q ∷ r) → Stands room s (judged b op q d ls o a n) r
    judged_stands true op q d ls o a n r k (m, x, out, w, e) = (m, x, out, w, (e, k refl))
    judged_stands false op q d ls o a n r k h = tt

    steps_more : (p : Phase) (t : Token) (d : ℕ) (ls : List Layer) (o a : Option Tree) (n : ℕ) (r : List Token)
        → Stands room s (more p d ls o a n) (t ∷ r) → Stands room s (in_more N T p t d ls o a n) r
    steps_more p_brace OpenBrace d ls o a n r h = h
    steps_more p_op (Compare op) d ls o a n r h = h
    steps_more (p_number op) (Number q) d ls o a n r h =
        judged_stands (nat_le q.c (T * 10 ^ q.x)) op q d ls o a n r (leb-true q.c (T * 10 ^ q.x)) h
    steps_more (p_close op q) CloseBrace d ls o a n r h = h
    steps_more (p_bracket op q) OpenBracket d ls o a n r h = h
    steps_more (p_path op q) NextWord d ls o a n r (m, k, out, w, e) = wants (of_next op q) d ls o a n r m k out w e
    steps_more (p_path op q) t d ls o a n r (m, k, out, w, e) = begins (until_left op q) t d ls o a n r m k out w e
    steps_more (u_start op q f) OpenBracket d ls o a n r h = h
    steps_more (u_start op q f) t d ls o a n r (m, k, out, w, (x, e, y)) =
        begins (until_right op q f Unbounded) t d ls o a n r m k out w (x, t ∷ r, e, y, no_bound)
    steps_more (u_zero op q f) (Number z) d ls o a n r (m, k, out, w, x) =
        zeros z.c (u_comma op q f) d ls o a n r (λ e. (m, k, out, w, (z, e, x)))
    steps_more (u_comma op q f) Comma d ls o a n r h = h
    steps_more (u_limit op q f) (Number t) d ls o a n r h = h
    steps_more (u_limit op q f) Tilde d ls o a n r h = h
    steps_more (u_close op q f t) CloseBracket d ls o a n r (m, k, out, w, (z, z0, (x, e, y))) =
        wants (until_right op q f (Time t)) d ls o a n r m k out w (x, _, e, y, in_time z0)
    steps_more (u_any op q f) CloseBracket d ls o a n r h = h
    steps_more (u_again op q f) OpenBracket d ls o a n r h = h
    steps_more (u_again op q f) t d ls o a n r (m, k, out, w, (z, z0, (x, e, y))) =
        begins (until_right op q f Unbounded) t d ls o a n r m k out w (x, _, e, y, any_time z0)
    steps_more (v_zero op q f) (Number z) d ls o a n r (m, k, out, w, (y, y0, x)) =
        zeros z.c (v_comma op q f) d ls o a n r (λ e. (m, k, out, w, (y, z, y0, e, x)))
    steps_more (v_comma op q f) Comma d ls o a n r h = h
    steps_more (v_limit op q f) (Number t) d ls o a n r h = h
    steps_more (v_close op q f t) CloseBracket d ls o a n r (m, k, out, w, (z, y, z0, y0, (x, e, u))) =
        wants (until_right op q f (Reward t)) d ls o a n r m k out w (x, _, e, u, in_reward z0 y0)
    steps_more p t d ls o a n r h = tt

    steps_have : (t : Token) (d : ℕ) (ls : List Layer) (o a : Option Tree) (f : Tree) (r : List Token)
        → Stands room s (have d ls o a f) (t ∷ r) → Stands room s (step N T (have d ls o a f) t) r
    steps_have AndAnd d ls o a f r (m, k, out, (x, y, e, b, z), w) =
        (m, out, (x, r, e, both_derives a b (subst (λ v. Derives N T d unary f v (AndAnd ∷ r)) (sym z) w), refl))
    steps_have OrOr d ls o a f r (m, k, out, w, x) = (m, out, (r, r, whole_derives o a w x, refl, refl))
    steps_have CloseParen d ls o a f r (m, k, out, w, x) = closes_one d ls out (whole_derives o a w x)
    steps_have CloseBracket d ls o a f r (m, k, out, w, x) = boxes_one d ls out (whole_derives o a w x)
    steps_have UntilWord d ls o a f r (m, k, out, w, x) = turns_one d ls out (whole_derives o a w x)
    steps_have t d ls o a f r h = tt

    steps : (q : State) (t : Token) (r : List Token) → Stands room s q (t ∷ r) → Stands room s (step N T q t) r
    steps (want d ls o a n) t r h = steps_want t d ls o a n r h
    steps (have d ls o a f) t r h = steps_have t d ls o a f r h
    steps (more p d ls o a n) t r h = steps_more p t d ls o a n r h
    steps (stopped w) t r h = tt

    runs : (q : State) (r : List Token) → Stands room s q r → Stands room s (run N T q r) []
    runs q [] h = h
    runs q (t ∷ r) h = runs (step N T q t) r (steps q t r h)

    whole_spells_of : (d : ℕ) (ls : List Layer) (g : Tree) {f : Tree} {m : List Token} → Outer room s d ls m
        → Derives N T d formula g m [] → whole_of ls g ≡ Some f → Derives N T room formula f s []
    whole_spells_of d [] g {f} {m} (e0, out) x e =
        let e2 : g ≡ f = some_injective e in
        subst (λ v. Derives N T room formula v s []) e2
        (subst (λ v. Derives N T v formula g s []) e0 (subst (λ v. Derives N T d formula g v []) (sym out) x))
    whole_spells_of d (l ∷ ls) g out x e = absurd (none_is_some e)

    whole_spells : (q : State) {f : Tree} → Stands room s q [] → whole q ≡ Some f → Derives N T room formula f s []
    whole_spells (want d ls o a n) h e = absurd (none_is_some e)
    whole_spells (have d ls o a g) (m, k, out, w, x) e =
        whole_spells_of d ls (with_either o (with_both a g)) out (whole_derives o a w x) e
    whole_spells (more p d ls o a n) h e = absurd (none_is_some e)
    whole_spells (stopped w) h e = absurd (none_is_some e)

  pub read_is_spelled : {f : Tree} (d : ℕ) (s : List Token) → whole (run N T (start d) s) ≡ Some f → Derives N T d formula f s []
  read_is_spelled d s e = whole_spells d s (run N T (start d) s) (runs d s (start d) s (s, (refl, refl), (s, s, refl, refl, refl))) e
