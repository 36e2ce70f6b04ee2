use Rattle.std.proofs.Common.{rules, ◌≡◌, ℕ, ◌+◌, ◌*◌, ◌≤◌, ap, refl, sym, ◌∙◌, subst, arith}
use Rattle.std.proofs.Math.Nat.{mul-le-mul_right}
use Rattle.std.proofs.lemmas.List.Elements.{All-push}
use Rattle.std.specs.Prelude.{vec_len}
use Rattle.bound_grid.specs.Passes.{draws_of}
use Rattle.column_workers.specs.DrawnBlocks.{IsFresh}
use Rattle.column_workers.specs.Hands.{AreReady, IsReady, numbers}
use Rattle.column_workers.specs.declared.hand.Hand.{Hand}
use Rattle.column_workers.proofs.BlockTickets.{few_tickets}
use Rattle.column_workers.proofs.Numbered.{numbers_more}
use Rattle.step_core.specs.declared.draws.TheConstants.{SPLIT_DRAWS}
use Rattle.column_workers.proofs.race.hands_of.Goals as goal

pub loop-number-preserved : goal.loop-number-preserved
loop-number-preserved c =
    let b = c.args.board.now in
    let n : ℕ = c.loop-number.number in
    let known = c.loop-number.invariant in
    let did = c.split-pass.ensures in
    let hand : Hand = record { number = n; pass = c.split-pass.result } in
    -- the pass had draws enough
    let one_more : (n + 1) * SPLIT_DRAWS ≤ c.args.workers * SPLIT_DRAWS = mul-le-mul_right SPLIT_DRAWS (omega (arith, c.loop-number-test.true)) in
    let given : draws_of c.split-pass.result ≡ SPLIT_DRAWS =
    omega (arith, did.given, known.draws, c.requires.draws, one_more) in
    let few = few_tickets b in
    let fresh : IsFresh b c.split-pass.result = record {
      is_pass = did.second;
      tickets = did.no_tickets;
      draws = omega (arith, given, few);
    } in
    let len : vec_len c.push.new.self ≡ vec_len c.loop-number.hands + 1 = search rules in
    record {
      pass = did.pass;
      kept = did.kept ∙ known.kept;
      draws = omega (arith, did.draws, given, known.draws);
      count = omega (arith, len, known.count);
      ready = subst (AreReady b) (sym c.in_ok-push.ensures.items)
          (All-push (IsReady b) c.loop-number.hands.items hand known.ready (record { fresh = fresh; draws = omega (arith, given) }));
      numbers = ap numbers c.in_ok-push.ensures.items ∙ numbers_more c.loop-number.hands.items hand n known.numbers refl;
    }
