use Rattle.std.proofs.Common.{◌≡◌, ◌<◌, ◌≤◌, ◌++◌, ◌∷◌, [], ℕ, get_or, sym, ◌∙◌, ap, arith}
use Rattle.std.proofs.lemmas.Bool.{lt-ltb, le-ltb}
use Rattle.model_core.specs.declared.rate.Rate.{Rate}
use Rattle.tra_reader.proofs.RateLemmas.{no_entry, rate_at, kept_rate, chain-kept, chain-dropped}
use Rattle.text_lines.specs.declared.entry_line.EntryLine.{EntryLine}
use Rattle.tra_reader.specs.declared.entry.Pair.{Pair}
use Rattle.tra_reader.proofs.rates.rates_of.Goals as goal
use Rattle.tra_reader.proofs.rates.rates_of.Goals.{then-rate-gt0+in_ok-push, else-rate-gt0}

-- the transition that the code writes is the one that is kept
written : (scale from to rate : ℕ) (e : EntryLine Pair) → from ≡ e.key.from → to ≡ e.key.to → rate ≡ rate_at scale e
    → ◌≡◌ {A = Rate} (record { from = from; to = to; rate = rate }) (kept_rate scale e)
written scale from to rate e f t r =
    let with_from : ℕ → Rate = λ z. record { from = z; to = to; rate = rate } in
    let with_to : ℕ → Rate = λ z. record { from = e.key.from; to = z; rate = rate } in
    let with_rate : ℕ → Rate = λ z. record { from = e.key.from; to = e.key.to; rate = z } in
    ap with_from f ∙ (ap with_to t ∙ ap with_rate r)

pub loop-entry-preserved : goal.loop-entry-preserved
loop-entry-preserved c =
    let entries = c.args.entries.now in
    let i = c.loop-entry.entry-index in
    let scale = c.args.scale in
    let e = get_or entries i no_entry in
    let within = c.loop-entry-test.true in
    let rate : c.value_at-rate.result ≡ rate_at scale e = c.value_at-rate.ensures.value in
    elim c.if-rate-gt0.branch [
      | then-rate-gt0+in_ok-push w ↦
          let some : 0 < rate_at scale e = omega (arith, w.if-rate-gt0.true) in
          let pushed =
          written scale w.from.result w.from-then-rate-gt0.result c.value_at-rate.result e w.from.ensures w.from-then-rate-gt0.ensures rate
          in
          ap (λ v. v.items) w.rates-is
          ∙ (w.in_ok-push.ensures.items
          ∙ (ap (λ z. c.loop-entry.rates.items ++ z ∷ []) pushed
          ∙
          (ap (λ z. z ++ kept_rate scale e ∷ []) c.loop-entry.invariant ∙ sym
          (chain-kept scale entries i no_entry within (lt-ltb 0 (rate_at scale e) some)))))
      | else-rate-gt0 w ↦
          let none : rate_at scale e ≤ 0 = omega (arith, w.if-rate-gt0.false) in
          ap (λ v. v.items) w.rates-is
          ∙ (c.loop-entry.invariant ∙ sym (chain-dropped scale entries i no_entry within (le-ltb 0 (rate_at scale e) none)))
    ]
