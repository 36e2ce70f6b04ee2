use Rattle.std.proofs.Common.{rules, ◌≡◌, ℕ, List, ◌∷◌, [], ◌++◌, ◌<◌, ◌≤◌, length, ap, ◌∙◌, sym, subst, arith, length-append}
use Rattle.std.specs.Prelude.{vec_len}
use Rattle.std.proofs.lemmas.List.Elements.{All-push}
use Rattle.bound_grid.specs.Passes.{notes_of}
use Rattle.bound_grid.specs.SealNotes.{NotesColumn}
use Rattle.bound_grid.proofs.KnownLemmas.{knows_itself, knows_then}
use Rattle.ctmc_semantics.specs.RoundedTables.{one_word}
use Rattle.mix_columns.specs.Mixed.{one_thread_words}
use Rattle.mix_columns.specs.MixLaws.{EnclosesWords}
use Rattle.reader_pass.specs.NotedWords.{noted_words}
use Rattle.reader_pass.specs.StateBrackets.{IsRead}
use Rattle.step_core.specs.FrameLists.{FrameLists}
use Rattle.step_core.specs.Limits.{sizes_of}
use Rattle.step_core.specs.Places.{block_of}
use Rattle.step_core.specs.PlanLists.{PlanLists}
use Rattle.step_core.specs.declared.bracket.Bracket.{Bracket}
use Rattle.step_core.proofs.PlaceLemmas.{block_in}
use Rattle.tighten_step.proofs.SeenSeals.{layer_stays}
use Rattle.reader_pass.proofs.ListedBrackets.{brackets_more}
use Rattle.reader_pass.proofs.NotedLemmas.{narrower, noted_settled}
use Rattle.reader_pass.proofs.states.read_states.Goals as goal

pub read-bracket-requires-clause-pass : goal.read-bracket-requires-clause-pass
read-bracket-requires-clause-pass c = c.loop-s.invariant.knows.pass

pub loop-s-init : goal.loop-s-init
loop-s-init c =
    let size : length c.args.brackets.now.items ≡ vec_len c.args.brackets.now = search rules in
    let none : length c.args.brackets.now.items ≡ 0 = size ∙ c.requires.empty in
    record {
      knows = knows_itself c.args.board.now c.args.pass.now c.requires.pass;
      count = none;
      room = c.requires.room;
      read = λ t l. absurd (omega (arith, l));
      exact = λ _ t l. absurd (omega (arith, l));
      lower = λ k d l. absurd (omega (arith, l, none));
      upper = λ k d l. absurd (omega (arith, l, none));
    }

pub loop-s-preserved : goal.loop-s-preserved
loop-s-preserved c =
    let b = c.args.board.now in
    let p : PlanLists = b.plan in
    let s : ℕ = c.loop-s.s in
    let before = notes_of c.args.pass.now in
    let known = c.loop-s.invariant in
    let did = c.read-bracket.ensures in
    let x : Bracket = c.read-bracket.result in
    let pushed : c.push.new.self.items ≡ c.loop-s.brackets.items ++ x ∷ [] = search rules in
    let inside : s < length p.frame.rows =
    omega (
      arith,
      c.loop-s-test.true,
      c.len-s-end.ensures,
      ap (λ (f : FrameLists). length f.rows) c.frame.view_is,
      ap (λ (q : PlanLists). length q.frame.rows) c.plan.view_is,
      ap (λ (q : PlanLists). length q.frame.rows) c.plan-plan.ensures,
    ) in
    let went = knows_then b _ _ _ known.knows did.knows in
    let lies : EnclosesWords (noted_words p before s) (noted_words p (notes_of c.read-bracket.new.pass) s) =
    narrower p s inside c.requires.sound before (notes_of c.read-bracket.new.pass) went.more in
    record {
      knows = went;
      count =
          omega (
            arith,
            ap (λ (bs : List Bracket). length bs) pushed,
            known.count,
            length-append {A = Bracket} c.loop-s.brackets.items (x ∷ []),
          );
      room = omega (arith, known.room, c.push.ensures.capacity);
      read =
          rw pushed
          (brackets_more (IsRead p before) s c.loop-s.brackets.items x known.count known.read (record {
            contains = did.contains;
            encloses = did.encloses;
            settled = noted_settled p (notes_of c.read-bracket.new.pass) s _ did.answer;
            inside = subst (EnclosesWords (noted_words p before s)) (sym did.answer) lies;
          }));
      exact = λ all.
          let column : NotesColumn p (notes_of c.loop-s.pass) s =
          record {
            at = λ k le.
                (layer_stays b _ _ k known.knows le (all.at k le)).at (block_of s) (block_in (sizes_of p) k s le inside);
          } in
          rw pushed
          (brackets_more (λ t w. w ≡ one_thread_words p t) s c.loop-s.brackets.items x known.count (known.exact all) (did.sealed column));
      lower = rw pushed (All-push (λ (w : Bracket). w.lower ≤ one_word) _ _ known.lower did.lower_word);
      upper = rw pushed (All-push (λ (w : Bracket). w.upper ≤ one_word) _ _ known.upper did.upper_word);
    }

pub returns-clause-read : goal.returns-clause-read
returns-clause-read c =
    let p : PlanLists = c.args.board.now.plan in
    let known = c.loop-s.invariant in
    let size : c.loop-s.s ≡ length p.frame.rows =
    omega (
      arith,
      c.loop-s-test.false,
      c.loop-s.auto.s-end,
      c.len-s-end.ensures,
      ap (λ (f : FrameLists). length f.rows) c.frame.view_is,
      ap (λ (q : PlanLists). length q.frame.rows) c.plan.view_is,
      ap (λ (q : PlanLists). length q.frame.rows) c.plan-plan.ensures,
    ) in
    record {
      each_state = known.count ∙ size;
      words = λ t l. known.read t (omega (arith, l, size));
      lower_words = known.lower;
      upper_words = known.upper;
    }

pub returns-clause-sealed : goal.returns-clause-sealed
returns-clause-sealed c = λ all.
    let p : PlanLists = c.args.board.now.plan in
    let known = c.loop-s.invariant in
    let size : c.loop-s.s ≡ length p.frame.rows =
    omega (
      arith,
      c.loop-s-test.false,
      c.loop-s.auto.s-end,
      c.len-s-end.ensures,
      ap (λ (f : FrameLists). length f.rows) c.frame.view_is,
      ap (λ (q : PlanLists). length q.frame.rows) c.plan.view_is,
      ap (λ (q : PlanLists). length q.frame.rows) c.plan-plan.ensures,
    ) in
    record {
      each_state = known.count ∙ size;
      words = λ t l. known.exact all t (omega (arith, l, size));
      lower_words = known.lower;
      upper_words = known.upper;
    }
