use Rattle.std.proofs.Common.{length, ◌∙◌, sym, subst, arith}
use Rattle.flat_rows.specs.NextWords.{IsNextPart}
use Rattle.flat_rows.specs.RowsOf.{AreRowsOf}
use Rattle.window_engine.proofs.LayerSteps.{next_layer, can_step}
use Rattle.window_engine.proofs.Taken.{some_stand, count_is, two_more}
use Rattle.window_engine.proofs.run.take_two.Goals as goal

pub add_two_layers-requires-clause-stand : goal.add_two_layers-requires-clause-stand
add_two_layers-requires-clause-stand c = some_stand c.args.plan.now _ _ c.requires.layer.1.took

pub add_two_layers-requires-clause-room : goal.add_two_layers-requires-clause-room
add_two_layers-requires-clause-room c = λ s l.
    let at = c.requires.layer.1 in
    omega (arith, count_is c.args.plan.now _ _ at.took s l, at.before_last)

pub returns : goal.returns
returns c =
    let plan = c.args.plan.now in
    let words = c.args.words.now in
    let new = c.next_words.new.next in
    let req = c.requires in
    let states = c.next_words.ensures.same_places ∙ req.next_states in
    let rows : AreRowsOf plan.frame.rows plan.frame.sets plan.reach 0 (length c.args.next.now) c.args.flat.now =
    subst (λ m. AreRowsOf plan.frame.rows plan.frame.sets plan.reach 0 m c.args.flat.now) (sym req.next_states) req.rows in
    let can = can_step plan req.sound words c.args.next.now req.layer.1.words.states req.next_states req.fixed req.next_fixed in
    let part : IsNextPart plan.frame.rows plan.frame.sets 0 words new = c.next_words.ensures.next plan.frame plan.reach 0 rows can in
    record {
      next = λ k is. next_layer plan k words new is states part;
      took = λ k is took.
          two_more plan k _ took c.add_two_layers.new.self c.add_two_layers.ensures.states words is new
          (next_layer plan k words new is states part) c.add_two_layers.ensures.stand;
      next_fixed = c.next_words.ensures.fixed plan.frame plan.reach 0 rows can;
      next_pairs = c.next_words.ensures.pairs;
    }
