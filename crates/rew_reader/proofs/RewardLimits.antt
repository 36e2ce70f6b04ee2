-- The limit of the rewards, one entry after another.
use Rattle.std.proofs.Common.{◌≡◌, ℕ, ◌+◌, ◌<◌, ◌≤◌, inl, inr, true, nat_lt, List, [], ◌∷◌, ◌++◌, length, get_or, sym, subst, ap, ◌∙◌}
use Rattle.std.proofs.Common.{length-append, arith}
use Rattle.std.proofs.Math.Seq.{get_or-append_seam}
use Rattle.std.proofs.lemmas.Bool.{cases_lt, lt-ltb, le-ltb, ltb-true, ltb-false}
use Rattle.std.proofs.lemmas.List.{get_or_append_left}
use Rattle.std.proofs.lemmas.List.Elements.{All-nil, All-push}
use Rattle.std.proofs.lemmas.List.Quantifiers.{Any-push}
use Rattle.decimal_text.specs.Scale.{scaled}
use Rattle.model_core.specs.declared.limits.TheConstants.{AMOUNT_LIMIT}
use Rattle.text_lines.proofs.PastCases.{IsLimit}
use Rattle.rew_reader.specs.RewardLines.{StateReward}
use Rattle.rew_reader.specs.RewText.{AreWithin, HasTooLarge}

module _ (scale : ℕ) where
  abbrev reward_at : StateReward → ℕ
  reward_at e = scaled scale e.value

  front_fits : (es : List StateReward) (e : StateReward) (fs : List StateReward) → AreWithin scale (es ++ e ∷ fs)
      → nat_lt (reward_at e) AMOUNT_LIMIT ≡ true
  front_fits es e fs h =
      let long : length es < length (es ++ e ∷ fs) = simp length-append (omega arith) in
      lt-ltb (reward_at e) AMOUNT_LIMIT (subst (λ z. reward_at z < AMOUNT_LIMIT) (get_or-append_seam es e fs e) (h (length es) e long))

  -- a reward that is too large is the last where those before it are not
  last_large : (es : List StateReward) (e : StateReward) → AreWithin scale es → HasTooLarge scale (es ++ e ∷ [])
      → AMOUNT_LIMIT ≤ reward_at e
  last_large es e h large =
      let k = large.0 in
      let x = large.1 in
      let long : length (es ++ e ∷ []) ≡ length es + 1 = length-append es (e ∷ []) in
      elim (cases_lt k (length es)) [
        | inl l ↦
            let here : get_or es k x ≡ x = sym (get_or_append_left es (e ∷ []) x k l) ∙ large.3 in
            let small : reward_at x < AMOUNT_LIMIT = subst (λ z. reward_at z < AMOUNT_LIMIT) here (h k x l) in
            absurd (omega (arith, small, large.4))
        | inr p ↦
            let last : k ≡ length es = omega (arith, p, large.2, long) in
            let here : x ≡ e = sym large.3 ∙ ap (λ z. get_or (es ++ e ∷ []) z x) last ∙ get_or-append_seam es e [] x in
            subst (λ z. AMOUNT_LIMIT ≤ reward_at z) here large.4
      ]

  pub reward_limit : IsLimit (AreWithin scale) (HasTooLarge scale)
  reward_limit = record {
    none = All-nil (λ (e : StateReward). reward_at e < AMOUNT_LIMIT);
    fits = λ es e. nat_lt (reward_at e) AMOUNT_LIMIT;
    more = λ es e h t. All-push (λ (e : StateReward). reward_at e < AMOUNT_LIMIT) es e h (ltb-true (reward_at e) AMOUNT_LIMIT t);
    over = λ es e f. Any-push (λ (e : StateReward). AMOUNT_LIMIT ≤ reward_at e) es e (ltb-false (reward_at e) AMOUNT_LIMIT f);
    front = front_fits;
    past = λ es e h large. le-ltb (reward_at e) AMOUNT_LIMIT (last_large es e h large);
  }
