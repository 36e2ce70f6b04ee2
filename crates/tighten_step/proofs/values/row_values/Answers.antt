use Rattle.std.proofs.Common.{◌≡◌, ℕ, Bool, List, sym, subst, ◌∙◌, inl, inr}
use Rattle.ctmc_semantics.specs.RoundedTables.{set_words}
use Rattle.ctmc_semantics.specs.Sets.{holds_at}
use Rattle.step_core.specs.PlanLists.{PlanLists}
use Rattle.flat_rows.specs.StateRows.{StateRowLists}
use Rattle.tighten_step.specs.Quotients.{lists_of}
use Rattle.tighten_step.proofs.RowAims.{fixed_low, fixed_high, low_alone, high_alone, values, low_is_row, low_is_final, high_is_row, high_is_final}
use Rattle.tighten_step.proofs.values.row_values.Goals as goal

-- the words of a set of the plan
fixed_of : {q plan : PlanLists} {word : ℕ} (s : ℕ) → q ≡ plan → (set : PlanLists → List Bool) → word ≡ set_words (holds_at (set q)) s
    → word ≡ set_words (holds_at (set plan)) s
fixed_of {q} {plan} {word} s same set e = subst (λ x. word ≡ set_words (holds_at (set x)) s) same e

pub returns-in-true-true-clause-values : goal.returns-in-true-true-clause-values
returns-in-true-true-clause-values c =
    let b = c.args.board.now in
    let k = c.args.k in
    let s = c.args.s in
    let p = c.args.pass.now in
    let made = c.row-row.ensures in
    let sound = c.requires.sound in
    let above = c.requires.above in
    let le = c.requires.layer in
    let lt = c.requires.state in
    let r = c.both_quotients.new.pass in
    let is = c.both_quotients.ensures.knows.knows.pass in
    let needs_low = sym made.low ∙ c.in-true-true.is-0 in
    let needs_high = sym made.high ∙ c.in-true-true.is-1 in
    let ready : StateRowLists = record { low = c.row-row.result.low; high = c.row-row.result.high; row = lists_of c.row-row.result } in
    values b p r sound is k s above le lt c.both_quotients.result.0 c.both_quotients.result.1
    (inl (low_is_row b p r sound is k s above le lt ready made needs_low c.both_quotients.result.0 c.both_quotients.ensures.low))
    (inl (high_is_row b p r sound is k s above le lt ready made needs_high c.both_quotients.result.1 c.both_quotients.ensures.high))

pub returns-in-true-true-clause-exact : goal.returns-in-true-true-clause-exact
returns-in-true-true-clause-exact c = λ seals.
    let b = c.args.board.now in
    let k = c.args.k in
    let s = c.args.s in
    let p = c.args.pass.now in
    let made = c.row-row.ensures in
    let sound = c.requires.sound in
    let above = c.requires.above in
    let le = c.requires.layer in
    let lt = c.requires.state in
    let r = c.both_quotients.new.pass in
    let is = c.both_quotients.ensures.knows.knows.pass in
    let needs_low = sym made.low ∙ c.in-true-true.is-0 in
    let needs_high = sym made.high ∙ c.in-true-true.is-1 in
    let ready : StateRowLists = record { low = c.row-row.result.low; high = c.row-row.result.high; row = lists_of c.row-row.result } in
    record {
      lower = low_is_final b p r sound is k s above le lt ready made needs_low c.both_quotients.result.0 c.both_quotients.ensures.low seals;
      upper = high_is_final b p r sound is k s above le lt ready made needs_high c.both_quotients.result.1 c.both_quotients.ensures.high
          seals;
    }

pub returns-in-true-false-clause-values : goal.returns-in-true-false-clause-values
returns-in-true-false-clause-values c =
    let b = c.args.board.now in
    let k = c.args.k in
    let s = c.args.s in
    let p = c.args.pass.now in
    let made = c.row-row.ensures in
    let sound = c.requires.sound in
    let above = c.requires.above in
    let le = c.requires.layer in
    let lt = c.requires.state in
    let r = c.low_quotient.new.pass in
    let is = c.low_quotient.ensures.knows.knows.pass in
    let needs_low = sym made.low ∙ c.in-true-false.is-0 in
    let needs_high = sym made.high ∙ c.in-true-false.is-1 in
    let ready : StateRowLists = record { low = c.row-row.result.low; high = c.row-row.result.high; row = lists_of c.row-row.result } in
    values b p r sound is k s above le lt c.low_quotient.result 4611686018427387904
    (inl (low_is_row b p r sound is k s above le lt ready made needs_low c.low_quotient.result c.low_quotient.ensures.quotient))
    (inr (sym (fixed_high b.plan sound k s above lt needs_high ∙ low_alone b.plan sound k s above lt needs_low needs_high)))

pub returns-in-true-false-clause-exact : goal.returns-in-true-false-clause-exact
returns-in-true-false-clause-exact c = λ seals.
    let b = c.args.board.now in
    let k = c.args.k in
    let s = c.args.s in
    let p = c.args.pass.now in
    let made = c.row-row.ensures in
    let sound = c.requires.sound in
    let above = c.requires.above in
    let le = c.requires.layer in
    let lt = c.requires.state in
    let r = c.low_quotient.new.pass in
    let is = c.low_quotient.ensures.knows.knows.pass in
    let needs_low = sym made.low ∙ c.in-true-false.is-0 in
    let needs_high = sym made.high ∙ c.in-true-false.is-1 in
    let ready : StateRowLists = record { low = c.row-row.result.low; high = c.row-row.result.high; row = lists_of c.row-row.result } in
    record {
      lower = low_is_final b p r sound is k s above le lt ready made needs_low c.low_quotient.result c.low_quotient.ensures.quotient seals;
      upper = sym (fixed_high b.plan sound k s above lt needs_high ∙ low_alone b.plan sound k s above lt needs_low needs_high);
    }

pub returns-in-false-true-clause-values : goal.returns-in-false-true-clause-values
returns-in-false-true-clause-values c =
    let b = c.args.board.now in
    let k = c.args.k in
    let s = c.args.s in
    let p = c.args.pass.now in
    let made = c.row-row.ensures in
    let sound = c.requires.sound in
    let above = c.requires.above in
    let le = c.requires.layer in
    let lt = c.requires.state in
    let r = c.high_quotient.new.pass in
    let is = c.high_quotient.ensures.knows.knows.pass in
    let needs_low = sym made.low ∙ c.in-false-true.is-0 in
    let needs_high = sym made.high ∙ c.in-false-true.is-1 in
    let ready : StateRowLists = record { low = c.row-row.result.low; high = c.row-row.result.high; row = lists_of c.row-row.result } in
    values b p r sound is k s above le lt 0 c.high_quotient.result
    (inr (sym (fixed_low b.plan sound k s above lt needs_low ∙ high_alone b.plan sound k s above lt needs_high)))
    (inl (high_is_row b p r sound is k s above le lt ready made needs_high c.high_quotient.result c.high_quotient.ensures.quotient))

pub returns-in-false-true-clause-exact : goal.returns-in-false-true-clause-exact
returns-in-false-true-clause-exact c = λ seals.
    let b = c.args.board.now in
    let k = c.args.k in
    let s = c.args.s in
    let p = c.args.pass.now in
    let made = c.row-row.ensures in
    let sound = c.requires.sound in
    let above = c.requires.above in
    let le = c.requires.layer in
    let lt = c.requires.state in
    let r = c.high_quotient.new.pass in
    let is = c.high_quotient.ensures.knows.knows.pass in
    let needs_low = sym made.low ∙ c.in-false-true.is-0 in
    let needs_high = sym made.high ∙ c.in-false-true.is-1 in
    let ready : StateRowLists = record { low = c.row-row.result.low; high = c.row-row.result.high; row = lists_of c.row-row.result } in
    record {
      lower = sym (fixed_low b.plan sound k s above lt needs_low ∙ high_alone b.plan sound k s above lt needs_high);
      upper = high_is_final b p r sound is k s above le lt ready made needs_high c.high_quotient.result c.high_quotient.ensures.quotient
          seals;
    }

pub returns-in-false-false-clause-values : goal.returns-in-false-false-clause-values
returns-in-false-false-clause-values c =
    let b = c.args.board.now in
    let k = c.args.k in
    let s = c.args.s in
    let p = c.args.pass.now in
    let made = c.row-row.ensures in
    let sound = c.requires.sound in
    let above = c.requires.above in
    let le = c.requires.layer in
    let lt = c.requires.state in
    let r = p in
    let is = c.requires.pass in
    let needs_low = sym made.low ∙ c.in-false-false.is-0 in
    let needs_high = sym made.high ∙ c.in-false-false.is-1 in
    let ready : StateRowLists = record { low = c.row-row.result.low; high = c.row-row.result.high; row = lists_of c.row-row.result } in
    values b p r sound is k s above le lt c.fixed_words.result.0 c.fixed_words.result.1
    (inr (fixed_of s c.plan.ensures (λ x. x.frame.sets.goal_must) c.fixed_words.ensures.low
    ∙ sym (fixed_low b.plan sound k s above lt needs_low)))
    (inr (fixed_of s c.plan.ensures (λ x. x.frame.sets.goal_may) c.fixed_words.ensures.high
    ∙ sym (fixed_high b.plan sound k s above lt needs_high)))

pub returns-in-false-false-clause-exact : goal.returns-in-false-false-clause-exact
returns-in-false-false-clause-exact c = λ seals.
    let b = c.args.board.now in
    let k = c.args.k in
    let s = c.args.s in
    let p = c.args.pass.now in
    let made = c.row-row.ensures in
    let sound = c.requires.sound in
    let above = c.requires.above in
    let le = c.requires.layer in
    let lt = c.requires.state in
    let r = p in
    let is = c.requires.pass in
    let needs_low = sym made.low ∙ c.in-false-false.is-0 in
    let needs_high = sym made.high ∙ c.in-false-false.is-1 in
    let ready : StateRowLists = record { low = c.row-row.result.low; high = c.row-row.result.high; row = lists_of c.row-row.result } in
    record {
      lower = fixed_of s c.plan.ensures (λ x. x.frame.sets.goal_must) c.fixed_words.ensures.low
          ∙ sym (fixed_low b.plan sound k s above lt needs_low);
      upper = fixed_of s c.plan.ensures (λ x. x.frame.sets.goal_may) c.fixed_words.ensures.high
          ∙ sym (fixed_high b.plan sound k s above lt needs_high);
    }
