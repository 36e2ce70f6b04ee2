use Rattle.std.proofs.Common.{◌≡◌, ℕ, ◌+◌, ◌≤◌, ◌<◌, List, [], ◌∷◌, ◌++◌, set, sym, ap, ◌∙◌, subst, arith}
use Rattle.step_core.specs.CoreLists.{lower_at, upper_at}
use Rattle.step_core.specs.Limits.{sizes_of}
use Rattle.step_core.specs.Places.{Sizes, upper_place, blocks, block_of}
use Rattle.step_core.specs.PlanLists.{PlanLists}
use Rattle.step_core.proofs.PlaceLemmas.{block_in}
use Rattle.step_core.proofs.RowLemmas.{low_le_one}
use Rattle.bound_grid.specs.Passes.{KnowsMore, notes_of, seal_note}
use Rattle.bound_grid.specs.declared.board.Board.{Board}
use Rattle.bound_grid.proofs.KnownLemmas.{knows_itself, knows_then, seal_stays}
use Rattle.mix_columns.specs.MixNumbers.{StandsFor}
use Rattle.reader_pass.specs.NotedWords.{lower_notes, upper_notes}
use Rattle.reader_pass.proofs.ColumnLemmas.{length-firsts, both_noted, lower_here, upper_here, stands_next}
use Rattle.reader_pass.proofs.NotedLemmas.{next_at_tables}
use Rattle.reader_pass.proofs.column.column.Goals as goal

pub loop-k-init : goal.loop-k-init
loop-k-init c = record {
  knows = knows_itself c.args.board.now c.args.pass.now c.requires.pass;
  stands = subst (λ p. StandsFor p c.start-mixer.result [] []) c.plan-plan.ensures c.start-mixer.ensures;
  sealed = λ _ j l. absurd (omega (arith, l));
}

pub add-requires-clause-room : goal.add-requires-clause-room
add-requires-clause-room c =
    let plan : PlanLists = c.args.board.now.plan in
    let here = ap (λ (p : PlanLists). p.layers) c.plan-plan.ensures in
    let count = c.loop-k.invariant.stands.low_count in
    let taken = length-firsts (λ k. lower_at (sizes_of plan) (notes_of c.loop-k.pass) k c.args.s) c.loop-k.k in
    omega (arith, here, count, taken, c.loop-k-test.true, c.requires.layers)

pub add-requires-clause-low : goal.add-requires-clause-low
add-requires-clause-low c =
    let plan : PlanLists = c.args.board.now.plan in
    let capped = low_le_one plan c.requires.sound c.loop-k.k c.args.s c.requires.state in
    omega (arith, c.load_lower-low.ensures.limit, capped)

pub loop-k-preserved : goal.loop-k-preserved
loop-k-preserved c =
    let b : Board = c.args.board.now in
    let plan : PlanLists = b.plan in
    let z : Sizes = sizes_of plan in
    let s : ℕ = c.args.s in
    let k : ℕ = c.loop-k.k in
    let x : ℕ = c.load_lower-low.result in
    let y : ℕ = c.load_upper-high.result in
    let ns : List ℕ = notes_of c.loop-k.pass in
    let ms : List ℕ = notes_of c.load_upper-high.new.pass in
    let inv = c.loop-k.invariant in
    let inside = c.requires.state in
    let le : k ≤ plan.layers = omega (arith, c.loop-k-test.true, c.requires.layers) in
    let size = inv.knows.pass.notes.size in
    let went : KnowsMore b c.loop-k.pass c.load_upper-high.new.pass =
    knows_then b _ _ _ c.load_lower-low.ensures.knows c.load_upper-high.ensures.knows in
    let is : ms ≡ both_noted plan s ns k x y =
    c.load_upper-high.ensures.notes ∙ ap (λ m. set m (upper_place z k s) y) c.load_lower-low.ensures.notes in
    let took =
    subst (λ p. StandsFor p c.add.new.self (lower_notes plan s ns k ++ x ∷ []) (upper_notes plan s ns k ++ y ∷ [])) c.plan-plan.ensures
    (c.add.ensures (lower_notes plan s ns k) (upper_notes plan s ns k)
    (subst (λ p. StandsFor p c.loop-k.mixer (lower_notes plan s ns k) (upper_notes plan s ns k)) (sym c.plan-plan.ensures) inv.stands)) in
    let block : block_of s < blocks z = block_in z k s le inside in
    record {
      knows = knows_then b _ _ _ inv.knows went;
      stands =
          subst (λ m. StandsFor plan c.add.new.self (lower_notes plan s m (k + 1)) (upper_notes plan s m (k + 1))) (sym is)
          (stands_next plan s ns k x y le inside size c.add.new.self took);
      sealed = λ noted.
          let was : seal_note b c.loop-k.pass k (block_of s) ≡ 1 =
          seal_stays b _ _ inv.knows k (block_of s) le block (noted.at k le) in
          let still : seal_note b c.load_lower-low.new.pass k (block_of s) ≡ 1 =
          seal_stays b _ _ c.load_lower-low.ensures.knows k (block_of s) le block was in
          next_at_tables plan s inside ns ms went.more went.pass.notes.end k le (inv.sealed noted) record {
            lower =
                ap (λ m. lower_at z m k s) is ∙ (lower_here plan s ns k x y le inside size ∙ c.load_lower-low.ensures.sealed was);
            upper =
                ap (λ m. upper_at z m k s) is ∙ (upper_here plan s ns k x y le inside size ∙ c.load_upper-high.ensures.sealed still);
          };
    }

pub returns-clause-stands : goal.returns-clause-stands
returns-clause-stands c =
    let plan : PlanLists = c.args.board.now.plan in
    let ns : List ℕ = notes_of c.loop-k.pass in
    let all : c.loop-k.k ≡ c.args.layers = omega (arith, c.loop-k-test.false, c.loop-k.auto.k-end) in
    subst (λ n. StandsFor plan c.loop-k.mixer (lower_notes plan c.args.s ns n) (upper_notes plan c.args.s ns n)) all
    c.loop-k.invariant.stands

pub returns-clause-sealed : goal.returns-clause-sealed
returns-clause-sealed c = λ noted j lt.
    let all : c.loop-k.k ≡ c.args.layers = omega (arith, c.loop-k-test.false, c.loop-k.auto.k-end) in
    c.loop-k.invariant.sealed noted j (omega (arith, lt, all))
