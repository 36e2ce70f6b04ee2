use Rattle.std.proofs.Common.{rules, ◌≡◌, ℕ, ◌+◌, ◌-◌, ◌*◌, ◌≤◌, List, [], length, drop, sym, ◌∙◌, ap, subst, arith}
use Rattle.std.proofs.lemmas.List.Elements.{All-weaker}
use Rattle.bound_grid.specs.Passes.{IsPassOf, draws_of, notes_of}
use Rattle.bound_grid.proofs.NoteLemmas.{no_worse_trans}
use Rattle.ctmc_semantics.specs.WordBracket.{WordBracket}
use Rattle.reader_pass.proofs.NotedLemmas.{narrower}
use Rattle.reader_pass.specs.NotedWords.{noted_words}
use Rattle.step_core.specs.BoardRule.{NoWorse}
use Rattle.step_core.specs.Limits.{sizes_of}
use Rattle.step_core.specs.PlanLists.{PlanLists}
use Rattle.step_core.specs.declared.bracket.Bracket.{Bracket}
use Rattle.step_core.specs.declared.draws.TheConstants.{SPLIT_DRAWS}
use Rattle.column_workers.specs.DrawnBlocks.{block_tickets}
use Rattle.column_workers.specs.Hands.{AreTakenSoFar, IsDone}
use Rattle.column_workers.specs.declared.hand.Hand.{Hand}
use Rattle.column_workers.proofs.BlockTickets.{few_tickets}
use Rattle.column_workers.proofs.HandLemmas.{all_lent}
use Rattle.column_workers.proofs.TakenLemmas.{taken_none, taken_more}
use Rattle.column_workers.proofs.race.race.Goals as goal

pub meet_all-requires-clause-passes : goal.meet_all-requires-clause-passes
meet_all-requires-clause-passes g c =
    let b = c.args.board.now in
    all_lent (λ (h : Hand). IsPassOf b h.pass) c.in_ok-hands.hands.len c.run_beside.new.hands
    (drop (length c.run_beside.new.hands) c.in_ok-hands.hands.items) (search rules)
    (All-weaker (IsDone b c.args.early) (λ (h : Hand). IsPassOf b h.pass) (λ h done. done.is_pass) c.run_beside.new.hands
    c.run_beside.ensures.done)

pub returns-clause-knows : goal.returns-clause-knows
returns-clause-knows g c =
    let z = sizes_of c.args.board.now.plan in
    let kept : notes_of c.split-reader.new.pass ≡ notes_of c.args.pass = c.split-reader.ensures.kept ∙ c.hands_of.ensures.kept in
    record {
      pass = c.meet_all.ensures.knows.pass;
      more = subst (λ (ns : List ℕ). NoWorse z ns (notes_of c.meet_all.new.pass)) kept
          (no_worse_trans z _ _ _ c.meet.ensures.knows.more c.meet_all.ensures.knows.more);
    }

-- what the pass has back at the end: all draws, but for those that workers took
draws_back : (workers split tickets least given after_hands after_reader reader after_meet back : ℕ)
    → after_hands + workers * split ≡ given → after_reader + reader ≡ after_hands → after_meet ≡ after_reader + reader
    → split ≡ least + (tickets + 1) → after_meet + workers * least ≤ back → given ≤ back + workers * (tickets + 1)
draws_back workers split tickets least given after_hands after_reader reader after_meet back hands reads meets parts gets =
    let times : workers * split ≡ workers * (least + (tickets + 1)) = ap (λ (n : ℕ). workers * n) parts in
    omega (arith, hands, reads, meets, gets, times)

pub returns-clause-draws : goal.returns-clause-draws
returns-clause-draws g c =
    let b = c.args.board.now in
    let tickets : ℕ = block_tickets b.plan in
    let least : ℕ = SPLIT_DRAWS - (tickets + 1) in
    let parts : SPLIT_DRAWS ≡ least + (tickets + 1) = omega (arith, few_tickets b) in
    let each =
    all_lent (λ (h : Hand). least ≤ draws_of h.pass) c.in_ok-hands.hands.len c.run_beside.new.hands
    (drop (length c.run_beside.new.hands) c.in_ok-hands.hands.items) (search rules)
    (All-weaker (IsDone b c.args.early) (λ (h : Hand). least ≤ draws_of h.pass) (λ h done. omega (arith, done.draws, parts))
    c.run_beside.new.hands c.run_beside.ensures.done) in
    let gets =
    subst (λ (n : ℕ). draws_of c.meet.new.pass + n * least ≤ draws_of c.meet_all.new.pass) c.in_ok-hands.ensures.count
    (c.meet_all.ensures.draws least each) in
    let meets =
    c.meet.ensures.draws ∙ ap (λ (n : ℕ). draws_of c.split-reader.new.pass + n) c.run_beside.ensures.knows.draws in
    draws_back c.args.workers SPLIT_DRAWS tickets least (draws_of c.args.pass) (draws_of c.hands_of.new.pass)
    (draws_of c.split-reader.new.pass) (draws_of c.split-reader.result) (draws_of c.meet.new.pass) (draws_of c.meet_all.new.pass)
    c.in_ok-hands.ensures.draws c.split-reader.ensures.draws meets parts gets

pub returns-clause-taken : goal.returns-clause-taken
returns-clause-taken g c =
    let p : PlanLists = c.args.board.now.plan in
    let s : ℕ = c.args.watch.state in
    let outer : WordBracket = noted_words p (notes_of c.args.pass) s in
    let given : notes_of c.split-reader.result ≡ notes_of c.args.pass = c.split-reader.ensures.notes ∙ c.hands_of.ensures.kept in
    let none : c.in_ok-watched.watched.items ≡ [] = c.in_ok-watched.ensures.items in
    -- nothing was taken when the workers began
    let begun : AreTakenSoFar p s outer (noted_words p (notes_of c.split-reader.result) s) c.in_ok-watched.watched.items =
    subst (λ (xs : List Bracket). AreTakenSoFar p s outer (noted_words p (notes_of c.split-reader.result) s) xs) (sym none)
    (subst (λ (w : WordBracket). AreTakenSoFar p s outer w []) (ap (λ ns. noted_words p ns s) (sym given)) (taken_none p s outer)) in
    let raced = c.run_beside.ensures.taken.within outer begun in
    -- the pass that is left knows what the reader knew
    let met : NoWorse (sizes_of p) (notes_of c.run_beside.new.reader) (notes_of c.meet_all.new.pass) =
    no_worse_trans (sizes_of p) _ _ _ c.meet.ensures.other c.meet_all.ensures.knows.more in
    taken_more p s outer _ _ c.run_beside.new.watched.items
    (narrower p s c.requires.state c.requires.sound (notes_of c.run_beside.new.reader) (notes_of c.meet_all.new.pass) met) raced
