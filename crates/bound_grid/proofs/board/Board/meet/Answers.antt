use Rattle.std.proofs.Common.{ℕ, ◌<◌, List, length, Bool, ap, ◌∙◌, sym, subst, arith}
use Rattle.atomic_table.specs.Table.{Me}
use Rattle.step_core.specs.BoardRule.{NoWorse, better_of, better_notes}
use Rattle.step_core.specs.CoreLists.{stop_at}
use Rattle.step_core.specs.Limits.{sizes_of}
use Rattle.step_core.specs.Places.{Sizes, stop_place}
use Rattle.step_core.proofs.BetterLemmas.{better_notes_at}
use Rattle.step_core.proofs.PlaceLemmas.{stop_in, stop_rises}
use Rattle.bound_grid.specs.Notes.{AreNotes}
use Rattle.bound_grid.specs.PassView.{PassView}
use Rattle.bound_grid.proofs.CallLemmas.{some_word}
use Rattle.bound_grid.proofs.KeptLemmas.{joins}
use Rattle.bound_grid.proofs.NoteLemmas.{no_worse_left, no_worse_right, notes_both}
use Rattle.bound_grid.proofs.board.Board.meet.Goals as goal

pub join_seat-requires : goal.join_seat-requires
join_seat-requires c = (
  c.requires.pass.table,
  c.requires.other.table,
  c.args.other.bare,
  some_word c.args.self.now,
  joins c.args.self.now.table.shared.key _ _ _ _ c.requires.pass.live c.requires.other.live,
)

pub returns-clause-tickets : goal.returns-clause-tickets
returns-clause-tickets c = ap (λ (m : Me ℕ PassView). m.0.tickets) c.join_seat.ensures.2

pub returns-clause-draws : goal.returns-clause-draws
returns-clause-draws c = ap (λ (m : Me ℕ PassView). m.0.draws) c.join_seat.ensures.2

pub returns-clause-stop : goal.returns-clause-stop
returns-clause-stop c =
    let z : Sizes = sizes_of c.args.self.now.plan in
    let is = c.requires.pass in
    let xs : List ℕ = c.args.pass.now.seat.me.0.notes in
    let ys : List ℕ = c.args.other.seat.me.0.notes in
    let e = ap (λ (m : Me ℕ PassView). m.0.notes) c.join_seat.ensures.2 ∙ ap (λ (y : Sizes). better_notes y xs ys) is.sizes in
    let inside : stop_place z < length xs = (let n = is.notes.size in omega (arith, n, stop_in z)) in
    ap (λ (ns : List ℕ). stop_at z ns) e
    ∙ (better_notes_at z xs ys (stop_place z) inside
    ∙ ap (λ (f : Bool). better_of f (stop_at z xs) (stop_at z ys)) (stop_rises z))

pub returns-clause-notes : goal.returns-clause-notes
returns-clause-notes c =
    ap (λ (m : Me ℕ PassView). m.0.notes) c.join_seat.ensures.2
    ∙ ap (λ (y : Sizes). better_notes y c.args.pass.now.seat.me.0.notes c.args.other.seat.me.0.notes) c.requires.pass.sizes

pub returns-clause-knows : goal.returns-clause-knows
returns-clause-knows c =
    let z : Sizes = sizes_of c.args.self.now.plan in
    let is = c.requires.pass in
    let xs : List ℕ = c.args.pass.now.seat.me.0.notes in
    let ys : List ℕ = c.args.other.seat.me.0.notes in
    let w = c.join_seat.ensures.2 in
    let e = ap (λ (m : Me ℕ PassView). m.0.notes) w ∙ ap (λ (y : Sizes). better_notes y xs ys) is.sizes in
    record {
      pass = record {
        table = c.join_seat.ensures.0 ∙ is.table;
        live = ap (λ (m : Me ℕ PassView). m.0.live) w ∙ is.live;
        sizes = ap (λ (m : Me ℕ PassView). m.0.sizes) w ∙ is.sizes;
        limits = ap (λ (m : Me ℕ PassView). m.0.limits) w ∙ is.limits;
        notes = subst (AreNotes c.args.self.now.plan) (sym e) (notes_both c.args.self.now.plan xs ys is.notes c.requires.other.notes);
      };
      more = subst (NoWorse z xs) (sym e) (no_worse_left z xs ys);
    }

pub returns-clause-other : goal.returns-clause-other
returns-clause-other c =
    let z : Sizes = sizes_of c.args.self.now.plan in
    let is = c.requires.pass in
    let xs : List ℕ = c.args.pass.now.seat.me.0.notes in
    let ys : List ℕ = c.args.other.seat.me.0.notes in
    let e = ap (λ (m : Me ℕ PassView). m.0.notes) c.join_seat.ensures.2 ∙ ap (λ (y : Sizes). better_notes y xs ys) is.sizes in
    subst (NoWorse z ys) (sym e) (no_worse_right z xs ys (c.requires.other.notes.size ∙ sym is.notes.size))
