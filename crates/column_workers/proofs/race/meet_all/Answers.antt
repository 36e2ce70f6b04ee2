use Rattle.std.proofs.Common.{rules, ◌≡◌, ℕ, ◌+◌, ◌*◌, ◌≤◌, List, sym, ap, subst, Some, arith}
use Rattle.std.specs.Prelude.{All, vec_len}
use Rattle.std.proofs.lemmas.List.Elements.{All-pop, All-take}
use Rattle.bound_grid.specs.Passes.{IsPassOf, draws_of}
use Rattle.bound_grid.proofs.KnownLemmas.{at_least, knows_itself, least_then}
use Rattle.column_workers.specs.declared.hand.Hand.{Hand}
use Rattle.column_workers.proofs.race.meet_all.Goals as goal

pub loop-hand-init : goal.loop-hand-init
loop-hand-init c = record {
  knows = at_least c.args.board.now _ _ (knows_itself c.args.board.now c.args.pass.now c.requires.pass);
  passes = c.requires.passes;
  draws = λ least all. (omega arith, all);
}

-- one hand less is left
less_left : (n m least had other before now : ℕ) → n ≡ m + 1 → least ≤ other → now ≡ before + other → had ≤ before + n * least
    → had ≤ now + m * least
less_left n m least had other before now e enough is was =
    let times : n * least ≡ (m + 1) * least = ap (λ (j : ℕ). j * least) e in
    omega (arith, times, enough, is, was)

pub loop-hand-preserved : goal.loop-hand-preserved
loop-hand-preserved c =
    let b = c.args.board.now in
    let known = c.loop-hand.invariant in
    let one_less : vec_len c.loop-hand.hands ≡ vec_len c.pop.new.self + 1 = search rules in
    record {
      knows = least_then b _ _ _ known.knows c.meet.ensures.knows;
      passes = subst (λ (hs : List Hand). All (λ (h : Hand). IsPassOf b h.pass) hs) (sym c.in-Some.ensures.rest)
          (All-take (λ (h : Hand). IsPassOf b h.pass) _ c.loop-hand.hands.items known.passes);
      draws = λ least all.
          let was = known.draws least all in (
            less_left (vec_len c.loop-hand.hands) (vec_len c.pop.new.self) least
                (draws_of c.args.pass.now + vec_len c.args.hands * least) (draws_of c.in-Some.hand.pass) (draws_of c.loop-hand.pass)
                (draws_of c.meet.new.pass) one_less
                (All-pop (λ (h : Hand). least ≤ draws_of h.pass) c.loop-hand.hands.items c.pop.new.self.items (Some c.in-Some.hand)
                (c.in-Some.ensures.items) was.1).1
                c.meet.ensures.draws was.0,
            subst (λ (hs : List Hand). All (λ (h : Hand). least ≤ draws_of h.pass) hs) (sym c.in-Some.ensures.rest)
                (All-take (λ (h : Hand). least ≤ draws_of h.pass) _ c.loop-hand.hands.items was.1),
          );
    }

pub returns-clause-draws : goal.returns-clause-draws
returns-clause-draws c = λ least all.
    let none : vec_len c.loop-hand.hands ≡ 0 = search rules in
    let times : vec_len c.loop-hand.hands * least ≡ 0 * least = ap (λ (j : ℕ). j * least) none in
    omega (arith, times, (c.loop-hand.invariant.draws least all).0)
