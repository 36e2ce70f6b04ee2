use Rattle.std.proofs.Common.{◌≡◌, ℕ, ◌<◌, ◌≤◌, All, length}
use Rattle.std.specs.Prelude.{vec_capacity}
use Rattle.bound_grid.specs.Passes.{KnowsMore, notes_of}
use Rattle.bound_grid.specs.SealNotes.{NotesAll}
use Rattle.ctmc_semantics.specs.RoundedTables.{one_word}
use Rattle.mix_columns.specs.Mixed.{one_thread_words, words_of}
use Rattle.mix_columns.specs.SideBySide.{bracket_at}
use Rattle.reader_pass.specs.StateBrackets.{IsRead}
use Rattle.reader_pass.proofs.states.read_states.Given as goal

-- the brackets so far are those of the first states
abbrev pub invariant-loop-s : goal.invariant-loop-s
invariant-loop-s l = record {
  knows : KnowsMore l.board l.fn.pass l.pass;
  count : length l.brackets.items ≡ l.s;
  room : length l.board.plan.frame.rows ≤ vec_capacity l.brackets;
  read : (t : ℕ) → t < l.s → IsRead l.board.plan (notes_of l.fn.pass) t (words_of (bracket_at l.brackets.items t));
  exact : NotesAll l.board.plan (notes_of l.fn.pass) → (t : ℕ) → t < l.s
      → words_of (bracket_at l.brackets.items t) ≡ one_thread_words l.board.plan t;
  lower : All (λ w. w.lower ≤ one_word) l.brackets.items;
  upper : All (λ w. w.upper ≤ one_word) l.brackets.items;
}
