-- The numbers of a formula that was read are short decimals.
use Rattle.std.proofs.Common.{ℕ, List, [], ◌∷◌}
use Rattle.std.specs.Prelude.{⊤}
use Rattle.decimal_text.specs.DecimalNumber.{IsShortDecimal}
use Rattle.csl_syntax.specs.declared.formula.Bound.{Bound}
use Rattle.csl_syntax.specs.declared.formula.Bound.TheVariants.{Unbounded, Time, Reward}
use Rattle.csl_syntax.specs.declared.token.Token.{Token}
use Rattle.csl_syntax.specs.declared.token.Token.TheVariants.{Number}
use Rattle.csl_syntax.specs.Tree.{Tree, truth, falsehood, label, negation, conjunction, disjunction, next, until}
use Rattle.csl_syntax.specs.Tokens.{Writes, HasTokens, no_more, skip, take_token}
use Rattle.csl_syntax.specs.Grammar.{Level, IsBound, no_bound, any_time, in_time, in_reward, Derives, a_truth, a_falsehood, a_name}
use Rattle.csl_syntax.specs.Grammar.{in_parens, a_next, an_until, a_not, an_atom, an_and, a_unary, an_or, a_conj}

abbrev pub IsShortToken : Token → Type 0
IsShortToken (Number d) = IsShortDecimal d
IsShortToken other = ⊤

abbrev pub AreShort : List Token → Type 0
AreShort [] = ⊤
AreShort (t ∷ ts) = IsShortToken t × AreShort ts

abbrev pub HasShortLimit : Bound → Type 0
HasShortLimit Unbounded = ⊤
HasShortLimit (Time t) = IsShortDecimal t
HasShortLimit (Reward r) = IsShortDecimal r

-- each number in the formula is a short decimal
abbrev pub HasShortNumbers : Tree → Type 0
HasShortNumbers truth = ⊤
HasShortNumbers falsehood = ⊤
HasShortNumbers (label j) = ⊤
HasShortNumbers (negation f) = HasShortNumbers f
HasShortNumbers (conjunction f g) = HasShortNumbers f × HasShortNumbers g
HasShortNumbers (disjunction f g) = HasShortNumbers f × HasShortNumbers g
HasShortNumbers (next op q f) = IsShortDecimal q × HasShortNumbers f
HasShortNumbers (until op q f b g) = IsShortDecimal q × HasShortNumbers f × HasShortLimit b × HasShortNumbers g

short_token : (labels : List (List ℕ)) (w : List ℕ) (t : Token) → Writes labels w t → IsShortToken t
short_token labels w (Number d) h = h.short
short_token labels w other h = tt

pub short_tokens : {labels : List (List ℕ)} {s rest : List ℕ} {ts : List Token} → HasTokens labels s ts rest → AreShort ts
short_tokens no_more = tt
short_tokens (skip e b h) = short_tokens h
short_tokens {labels} (take_token {t = t} b h) = (short_token labels b.text t b.writes, short_tokens h)

short_limit : {b : Bound} {s r : List Token} → IsBound b s r → AreShort s → HasShortLimit b × AreShort r
short_limit no_bound h = (tt, h)
short_limit (any_time z) h = (tt, h.1.1.1.1.1)
short_limit (in_time z) h = (h.1.1.1.0, h.1.1.1.1.1)
short_limit (in_reward z y) h = (h.1.1.1.1.1.1.1.1.0, h.1.1.1.1.1.1.1.1.1.1)

pub short_numbers : {N T d : ℕ} {lv : Level} {f : Tree} {s r : List Token} → Derives N T d lv f s r → AreShort s →
    HasShortNumbers f × AreShort r
short_numbers a_truth h = (tt, h.1)
short_numbers a_falsehood h = (tt, h.1)
short_numbers (a_name k) h = (tt, h.1)
short_numbers (in_parens x) h = let e = short_numbers x h.1 in (e.0, e.1.1)
short_numbers (a_next k x) h = let e = short_numbers x h.1.1.1.1.1.1.1 in ((h.1.1.1.0, e.0), e.1.1)
short_numbers (an_until k x w y) h =
    let e = short_numbers x h.1.1.1.1.1.1 in
    let l = short_limit w e.1.1 in
    let e2 = short_numbers y l.1 in
    ((h.1.1.1.0, e.0, l.0, e2.0), e2.1.1)
short_numbers (a_not x) h = short_numbers x h.1
short_numbers (an_atom x) h = short_numbers x h
short_numbers (an_and x y) h =
    let e = short_numbers x h in
    let e2 = short_numbers y e.1.1 in
    ((e.0, e2.0), e2.1)
short_numbers (a_unary x) h = short_numbers x h
short_numbers (an_or x y) h =
    let e = short_numbers x h in
    let e2 = short_numbers y e.1.1 in
    ((e.0, e2.0), e2.1)
short_numbers (a_conj x) h = short_numbers x h
