use Rattle.std.proofs.Common.{◌≡◌, ℕ, suc, ◌+◌, List, sym, ap, ◌∙◌, subst, arith}
use Rattle.step_core.specs.CoreLists.{lower_at}
use Rattle.step_core.specs.Limits.{sizes_of}
use Rattle.step_core.specs.PlanLists.{PlanLists}
use Rattle.bound_grid.specs.Passes.{notes_of}
use Rattle.mix_columns.specs.MixLaws.{EnclosesWords}
use Rattle.mix_columns.specs.MixNumbers.{StandsFor}
use Rattle.mix_columns.specs.Mixed.{whole_mix, plan_settle, one_thread_words, words_of}
use Rattle.mix_columns.proofs.PlanUntilLemmas.{encloses_until, tables_contain}
use Rattle.reader_pass.specs.NotedWords.{lower_notes, noted_words, upper_notes}
use Rattle.reader_pass.proofs.ColumnLemmas.{length-firsts, mix_of_notes}
use Rattle.reader_pass.proofs.NotedLemmas.{noted_tables, encloses_tables}
use Rattle.reader_pass.proofs.column.read.Goals as goal

-- all layers were looked at
pub finish-requires-clause-whole : goal.finish-requires-clause-whole
finish-requires-clause-whole c =
    let plan : PlanLists = c.args.board.now.plan in
    let here = ap (λ (p : PlanLists). p.layers) c.plan.view_is in
    let count = c.column-mixer.ensures.stands.low_count in
    let taken = length-firsts (λ k. lower_at (sizes_of plan) (notes_of c.column-mixer.new.pass) k c.args.s) (c.plan.inside.layers + 1) in
    omega (arith, here, count, taken)

-- the answer is the bracket of the notes
is_noted : (c : goal.After-settle) → words_of c.settle.result ≡ noted_words c.args.board.now.plan (notes_of c.column-mixer.new.pass) c.args.s
is_noted c =
    let plan : PlanLists = c.args.board.now.plan in
    let s : ℕ = c.args.s in
    let ns : List ℕ = notes_of c.column-mixer.new.pass in
    let all : c.plan.inside.layers + 1 ≡ suc plan.layers =
    omega (arith, ap (λ (p : PlanLists). p.layers) c.plan.view_is, ap (λ (p : PlanLists). p.layers) c.plan-plan.ensures) in
    let xs : List ℕ = lower_notes plan s ns (c.plan.inside.layers + 1) in
    let ys : List ℕ = upper_notes plan s ns (c.plan.inside.layers + 1) in
    let stands = subst (λ p. StandsFor p c.column-mixer.result xs ys) (sym c.plan-plan.ensures) c.column-mixer.ensures.stands in
    c.settle.ensures.words
    ∙ (ap (plan_settle c.plan-plan.result.now s) (c.finish.ensures.mix xs ys stands)
    ∙ (ap (λ p. plan_settle p s (whole_mix p xs ys)) c.plan-plan.ensures
    ∙ ap (plan_settle plan s) (mix_of_notes plan s ns (c.plan.inside.layers + 1) all)))

-- it encloses the one of the tables
encloses : (c : goal.After-settle) → EnclosesWords (words_of c.settle.result) (one_thread_words c.args.board.now.plan c.args.s)
encloses c =
    let plan : PlanLists = c.args.board.now.plan in
    subst (λ w. EnclosesWords w (one_thread_words plan c.args.s)) (sym (is_noted c))
    (encloses_tables plan c.args.s c.requires.state c.requires.sound (notes_of c.column-mixer.new.pass) c.column-mixer.ensures.knows.pass.notes)

pub returns-clause-answer : goal.returns-clause-answer
returns-clause-answer c = is_noted c

pub returns-clause-encloses : goal.returns-clause-encloses
returns-clause-encloses c = encloses c

pub returns-clause-contains : goal.returns-clause-contains
returns-clause-contains c =
    let plan : PlanLists = c.args.board.now.plan in
    encloses_until plan c.args.s (words_of c.settle.result) (one_thread_words plan c.args.s) (encloses c)
    (tables_contain plan c.requires.sound c.args.s c.requires.state)

pub returns-clause-sealed : goal.returns-clause-sealed
returns-clause-sealed c = λ noted.
    let plan : PlanLists = c.args.board.now.plan in
    let all : c.plan.inside.layers + 1 ≡ suc plan.layers =
    omega (arith, ap (λ (p : PlanLists). p.layers) c.plan.view_is, ap (λ (p : PlanLists). p.layers) c.plan-plan.ensures) in
    is_noted c
    ∙ noted_tables plan c.args.s c.requires.state (notes_of c.column-mixer.new.pass)
    (λ k le. c.column-mixer.ensures.sealed noted k (omega (arith, all, le)))
