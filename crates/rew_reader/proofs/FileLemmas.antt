-- What the entries of a file say of its rewards.
use Rattle.std.proofs.Common.{◌≡◌, ℕ, ap, ◌<◌, ◌≤◌, List, map, take, get_or, sym, subst, ◌∙◌, arith}
use Rattle.std.specs.List.{All, range_with_len}
use Rattle.std.proofs.lemmas.List.Elements.{All-map}
use Rattle.std.proofs.lemmas.List.Quantifiers.{Any-push}
use Rattle.decimal_text.specs.Scale.{greatest_decimals, scaled}
use Rattle.model_core.specs.Files.{IsRew}
use Rattle.model_core.specs.StateNumber.{state_number}
use Rattle.model_core.specs.declared.limits.TheConstants.{AMOUNT_LIMIT}
use Rattle.text_lines.proofs.EntryReads.{same_scale, small_scale, are_entries, line_past, zip_right}
use Rattle.text_lines.proofs.EntryScales.{map-more}
use Rattle.text_lines.specs.Entries.{scale_of}
use Rattle.text_lines.specs.EntryFault.{HasLinePast}
use Rattle.text_lines.specs.EntryLines.{value_of, entry_of, entries_of, IsEntryLine, AreRead, IsFirstPast}
use Rattle.text_lines.specs.WordLines.{WordLine}
use Rattle.text_lines.specs.declared.entry_line.EntryLine.{EntryLine}
use Rattle.rew_reader.specs.Reading.{IsInRange, IsFirstLarge}
use Rattle.rew_reader.specs.RewardLines.{reward_lines}
use Rattle.rew_reader.specs.RewText.{AreWithin, HasTooLarge, reward_of, LinesSayRew}
use Rattle.rew_reader.proofs.RewardSums.{reward_of-below}

-- the states of the entries are below n, from 0
pub states_below : (n : ℕ) (lines : List WordLine) (es : List (EntryLine ℕ)) → AreRead (reward_lines n) state_number lines es
    → All (λ e. e.key < n) es
states_below n lines es h =
    zip_right (IsEntryLine (reward_lines n) state_number) (λ e. e.key < n)
    (λ line e is. omega (arith, is.is.key.in_range.1)) lines es h.each

module _ (n scale : ℕ) (lines : List WordLine) (es : List (EntryLine ℕ)) (rewards : List ℕ) where
  -- the rewards of entries that were read, at their scale
  pub record AreRewardsOf : Type 0 where
    pub read : AreRead (reward_lines n) state_number lines es
    pub scale_is : scale ≡ greatest_decimals (map value_of es)
    pub within : All (IsInRange scale) es
    pub are : rewards ≡ map (reward_of scale (entries_of state_number es)) (range_with_len 0 n)

  all_within : AreRewardsOf → AreWithin scale (entries_of state_number es)
  all_within h = All-map (λ e. scaled scale e.value < AMOUNT_LIMIT) (entry_of state_number) es h.within

  own_scale : AreRewardsOf → scale ≡ scale_of (entries_of state_number es)
  own_scale h = h.scale_is ∙ same_scale (reward_lines n) state_number es

  -- they are rewards
  pub is_rew : AreRewardsOf → IsRew (record { scale = scale; rewards = rewards })
  is_rew h = record {
    decimals = omega (arith, h.scale_is, small_scale (reward_lines n) state_number lines es h.read);
    within = subst (All (λ r. r < AMOUNT_LIMIT)) (sym h.are)
        (All-map (λ r. r < AMOUNT_LIMIT) (reward_of scale (entries_of state_number es)) (range_with_len 0 n)
        (λ k d l. reward_of-below scale (entries_of state_number es) (get_or (range_with_len 0 n) k d) h.read.once (all_within h)));
  }

  -- and the lines stand for them
  pub says_rew : AreRewardsOf → LinesSayRew n lines (record { scale = scale; rewards = rewards })
  says_rew h = record {
    entries = entries_of state_number es;
    are = are_entries (reward_lines n) state_number lines es h.read;
    scale = own_scale h;
    within = all_within h;
    rewards = h.are;
  }

-- where the lists that the steps saw are the one that was read
pub made : (n scale : ℕ) (lines : List WordLine) (es a b d : List (EntryLine ℕ)) (rewards : List ℕ)
    → AreRead (reward_lines n) state_number lines es
    → a ≡ es → b ≡ es → d ≡ es → scale ≡ greatest_decimals (map value_of a) → All (IsInRange scale) b
    → rewards ≡ map (reward_of scale (entries_of state_number d)) (range_with_len 0 n) → AreRewardsOf n scale lines es rewards
made n scale lines es a b d rewards read p q r scale_is within are = record {
  read = read;
  scale_is = scale_is ∙ ap (λ z. greatest_decimals (map value_of z)) p;
  within = subst (All (IsInRange scale)) q within;
  are = are ∙ ap (λ z. map (reward_of scale (entries_of state_number z)) (range_with_len 0 n)) r;
}

-- how the code writes the element past a list's end
abbrev pub no_entry : EntryLine ℕ
no_entry = record { line = 0; digits = 0; decimals = 0; key = 0 }

-- the first entry whose reward is too large is the first that goes past the limit
pub first_past : (scale place : ℕ) (es : List (EntryLine ℕ)) → IsFirstLarge scale es place
    → IsFirstPast state_number (AreWithin scale) (HasTooLarge scale) es place
first_past scale place es h = record {
  there = h.there;
  within = All-map (λ e. scaled scale e.value < AMOUNT_LIMIT) (entry_of state_number) (take place es) h.before;
  past = subst (HasTooLarge scale) (sym (map-more (entry_of state_number) es place no_entry h.there))
      (Any-push (λ e. AMOUNT_LIMIT ≤ scaled scale e.value) (entries_of state_number (take place es))
      (entry_of state_number (get_or es place no_entry)) (h.large no_entry));
}

-- so it is on the line that does
pub line_large : (n scale place : ℕ) (lines : List WordLine) (es : List (EntryLine ℕ)) (d : EntryLine ℕ)
    → AreRead (reward_lines n) state_number lines es
    → scale ≡ greatest_decimals (map value_of es) → IsFirstLarge scale es place
    → HasLinePast (reward_lines n) AreWithin HasTooLarge lines (get_or es place d).line
line_large n scale place lines es d read is h =
    line_past (reward_lines n) state_number AreWithin HasTooLarge lines es place d read
    (subst (λ z. IsFirstPast state_number (AreWithin z) (HasTooLarge z) es place) (is ∙ same_scale (reward_lines n) state_number es)
    (first_past scale place es h))
