use Rattle.std.proofs.Common.{rules, ◌≡◌, ℕ, ◌+◌, List, [], ◌∷◌, ◌++◌, sym, subst, arith}
use Rattle.std.specs.Prelude.{vec_len}
use Rattle.bound_grid.specs.Passes.{notes_of}
use Rattle.bound_grid.proofs.KnownLemmas.{knows_itself, knows_then}
use Rattle.ctmc_semantics.specs.WordBracket.{WordBracket}
use Rattle.mix_columns.specs.MixLaws.{EnclosesWords}
use Rattle.mix_columns.specs.Mixed.{words_of}
use Rattle.reader_pass.proofs.NotedLemmas.{narrower}
use Rattle.reader_pass.specs.NotedWords.{noted_words}
use Rattle.step_core.specs.PlanLists.{PlanLists}
use Rattle.step_core.specs.declared.bracket.Bracket.{Bracket}
use Rattle.column_workers.specs.Hands.{AreTakenSoFar}
use Rattle.column_workers.proofs.TakenLemmas.{taken_push}
use Rattle.column_workers.proofs.watching.take_brackets.Goals as goal

pub loop-i-init : goal.loop-i-init
loop-i-init g c = record {
  knows = knows_itself c.args.board.now c.args.pass.now c.requires.pass;
  count = omega arith;
  room = omega arith;
  taken = record { within = λ outer was. was };
}

pub loop-i-preserved : goal.loop-i-preserved
loop-i-preserved g c =
    let p : PlanLists = c.args.board.now.plan in
    let s : ℕ = c.args.watch.state in
    let inv = c.loop-i.invariant in
    let did = c.read-bracket.ensures in
    let x : Bracket = c.read-bracket.result in
    let items : c.push.new.self.items ≡ c.loop-i.watched.items ++ x ∷ [] = search rules in
    let len : vec_len c.push.new.self ≡ vec_len c.loop-i.watched + 1 = search rules in
    let old : List Bracket = c.loop-i.watched.items in
    let before : WordBracket = noted_words p (notes_of c.loop-i.pass) s in
    let lies : EnclosesWords before (words_of x) =
    subst (EnclosesWords before) (sym did.answer)
    (narrower p s c.requires.state c.requires.sound (notes_of c.loop-i.pass) (notes_of c.read-bracket.new.pass) did.knows.more) in
    record {
      knows = knows_then c.args.board.now _ _ _ inv.knows did.knows;
      count = omega (arith, inv.count, len);
      room = omega (arith, inv.room, c.push.ensures.capacity);
      taken = record {
        within = λ outer was.
            subst (λ (xs : List Bracket). AreTakenSoFar p s outer (noted_words p (notes_of c.read-bracket.new.pass) s) xs) (sym items)
            (subst (λ (w : WordBracket). AreTakenSoFar p s outer w (old ++ x ∷ [])) did.answer
            (taken_push p s outer before old x lies did.contains did.lower_word did.upper_word (inv.taken.within outer was)));
      };
    }
